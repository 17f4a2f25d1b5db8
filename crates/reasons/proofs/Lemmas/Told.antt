-- What is told of an object: refused by the table, or by its reason and its first hazard.
use Rattle.std.specs.Prelude.{ℕ, ◌<◌, ◌≤◌, ◌≡◌, refl, true, cond, eqb, ◌↔◌, Option, Some, Ok, Err}
use Rattle.std.proofs.Common.{arith, sym, ap, ◌∙◌}
use Rattle.std.proofs.lemmas.Bool.{false≢true}
use Rattle.machine.specs.declared.State.{State}
use Rattle.machine.specs.Parts.{free_at}
use Rattle.machine.specs.Soundness.{sound}
use Rattle.basics.specs.Rows.{FirstIs}
use Rattle.basics.proofs.Rows.{first_is, first_some}
use Rattle.machine.specs.Sound.{Sound, to_sound}
use Rattle.laws.specs.OnePlace.{link_not_free, hand_not_free, carried_not_free, handover_not_free}
use Rattle.reasons.specs.declared.Reason.{Reason}
use Rattle.reasons.specs.declared.Reason.TheVariants.{Link, Hand, Carried, Handover}
use Rattle.reasons.specs.declared.NotKept.{NotKept}
use Rattle.reasons.specs.declared.NotKept.TheVariants.{Unsound, NoSuchObject, Free}
use Rattle.reasons.specs.Reasons.{reason_of, hazard_of, refusals, refusal_of, why_of}
use Rattle.reasons.specs.Numbers.{number_of, numbers_of}
use Rattle.reasons.specs.Applies.{Stays, Applies, FirstHazard}
use Rattle.reasons.proofs.Lemmas.NotRefused.{not_refused, unless_err}
use Rattle.reasons.proofs.Lemmas.Named.{only_one}
use Rattle.reasons.proofs.Lemmas.Hazards.{only_hazard}

pub free_has_none : (s : State) → sound s ≡ true → (o : ℕ) → 0 < o → o ≤ s.sizes.objects → free_at s o ≡ true
    → (r : Reason) → Applies s o r → ⊥
free_has_none s fine o some most free r a = by_case (to_sound s fine) r a
  where
    by_case : (h : Sound s) (r : Reason) → Applies s o r → ⊥
    by_case h (Link i) a = false≢true (sym (link_not_free s h o some most i a.0 a.1) ∙ free)
    by_case h (Hand t) a = false≢true (sym (hand_not_free s h o some most t a.0 a.1) ∙ free)
    by_case h (Carried t p) a = false≢true (sym (carried_not_free s h o some most t a.0 a.1.0) ∙ free)
    by_case h (Handover p g) a = false≢true (sym (handover_not_free s h o some most p a.0 a.1.0) ∙ free)

pub explained : (s : State) (o : ℕ) → Stays s o → why_of s o ≡ Ok (record { reason = reason_of s o; hazard = hazard_of s o })
unfolding why_of
explained s o stays = rw (not_refused s o stays)

pub told_as : (s : State) (o : ℕ) → Stays s o → (r : Reason) (h : Option ℕ) → Applies s o r → FirstHazard s o h
    → numbers_of (why_of s o) ≡ numbers_of (Ok (record { reason = r; hazard = h }))
told_as s o stays r h applies first =
    rw (explained s o stays, ← only_one s o stays r applies, ← only_hazard s o h first)

with_number : ℕ → NotKept
with_number n = cond (eqb n 19) Unsound (cond (eqb n 60) NoSuchObject Free)

told : (k : NotKept) → with_number (number_of k) ≡ k
unfolding with_number number_of
told Unsound = refl
told NoSuchObject = refl
told Free = refl

pub one_number : (k k' : NotKept) → number_of k ≡ number_of k' → k ≡ k'
one_number k k' e = sym (told k) ∙ ap with_number e ∙ told k'

some_number : (k : NotKept) → number_of k ≡ 0 → ⊥
unfolding number_of
some_number Unsound e = omega arith
some_number NoSuchObject e = omega arith
some_number Free e = omega arith

module _ (s : State) (o : ℕ) (k : NotKept) where
  is_refused_lem : why_of s o ≡ Err k → refusal_of s o ≡ Some k
  unfolding why_of
  is_refused_lem = unless_err _ _ k

  first_of : refusal_of s o ≡ Some k → FirstIs (refusals s o) k
  unfolding refusal_of
  first_of = first_some

  -- no line has the number 0
  number_some : FirstIs (refusals s o) k → number_of k ≡ 0 → ⊥
  number_some first e = some_number k e

  gives : FirstIs (refusals s o) k → why_of s o ≡ Err k
  unfolding why_of refusal_of
  gives first = rw (first_is first)

  pub refused_exactly : why_of s o ≡ Err k ↔ FirstIs (refusals s o) k
  refused_exactly = ((λ e. first_of (is_refused_lem e)), gives)
