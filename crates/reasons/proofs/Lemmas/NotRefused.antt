-- What is known where no line of the refusals applies.
use Rattle.std.specs.Prelude.{ℕ, ◌≡◌, Bool, true, false, cond, Option, None, Some, Ok, Err}
use Rattle.std.proofs.Common.{arith, refl}
use borrow.Author.Tests.{leb-true, le-leb}
use Rattle.machine.specs.declared.State.{State}
use Rattle.machine.specs.Parts.{free_at}
use Rattle.entries.specs.Sizes.{within}
use Rattle.machine.specs.Soundness.{sound}
use Rattle.basics.specs.Rows.{first_of}
use Rattle.basics.specs.Tests.{ands}
use Rattle.reasons.specs.declared.NotKept.{NotKept}
use Rattle.reasons.specs.declared.NotKept.TheVariants.{Unsound, NoSuchObject, Free}
use Rattle.reasons.specs.Reasons.{refusals, refusal_of, unless}
use Rattle.reasons.specs.Applies.{Stays}

none_applies :
    (a b c : Bool) → ◌≡◌ {A = Option NotKept} (cond a (Some Unsound) (cond b (Some NoSuchObject) (cond c (Some Free) None))) None
    → (a ≡ false) × (b ≡ false) × (c ≡ false)
none_applies true b c h = cc
none_applies false true c h = cc
none_applies false false true h = cc
none_applies false false false h = (refl, refl, refl)

-- a refusal is answered, and nothing else is
pub unless_err : {A : Type 0} (by : Option NotKept) (answer : A) (k : NotKept) → unless by answer ≡ Err k → by ≡ Some k
unless_err None answer k e = cc
unless_err (Some refusal) answer k e = cc

pub unless_ok : {A : Type 0} (by : Option NotKept) (answer a : A) → unless by answer ≡ Ok a → by ≡ None
unless_ok None answer a e = refl
unless_ok (Some refusal) answer a e = cc

module _ (s : State) (o : ℕ) where
  pub stays : refusal_of s o ≡ None → Stays s o
  unfolding refusal_of refusals first_of
  stays h =
      let fine : sound s ≡ true = grind (arith, h) in
      let inside : within 1 s.sizes.objects o ≡ true = grind (arith, h) in
      let kept : free_at s o ≡ false = grind (arith, h) in
      record {
        sound = fine;
        some = leb-true 1 o (search ands);
        most = leb-true o s.sizes.objects (search ands);
        kept = kept;
      }

  pub not_refused : Stays s o → refusal_of s o ≡ None
  unfolding refusal_of refusals first_of
  not_refused h = rw (h.sound, le-leb 1 o h.some, le-leb o s.sizes.objects h.most, h.kept)
