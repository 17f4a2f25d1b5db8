-- The runs of specs/Starving, computed: one object fewer is not enough.
use Rattle.std.specs.Prelude.{ℕ, suc, ◌≤◌, ◌≡◌, refl, true}
use Rattle.std.proofs.Common.{arith, sym, ap, ◌∙◌, eqb-true}
use Rattle.machine.specs.declared.Outcome.{Outcome}
use Rattle.machine.specs.declared.Answer.{Answer}
use Rattle.machine.specs.declared.Answer.TheVariants.{Refused, Taken, Begun, Working, Protected, Nothing, Swapped, Moved, Tag, Finished, Left, Freed}
use Rattle.machine.specs.declared.refusal.Refusal.TheVariants.{NoneFree}
use Rattle.machine.specs.Answers.{number_of, numbers_of}
use Rattle.machine.specs.Told.{one_number}
use Rattle.machine.specs.Computing.{machine_computes}
use Rattle.entries.specs.Sizes.{in_range}
use Rattle.basics.specs.Tests.{and_l, and_r}
use Rattle.basics.specs.Under.{all_under, from_one}
use Rattle.promise.specs.History.{state_by}
use Rattle.witness.specs.Unchecked.{unchecked, same_next}
use Rattle.witness.specs.Reached.{each}
use Rattle.witness.specs.Starving.{NotEnough, Starves, answer_on, sizes_for, starves, starving, take}

one_link : all_under 8 (λ k. all_under 4 (λ i. starves (suc k) (suc i) 1)) ≡ true
unfolding machine_computes unchecked each starving state_by
one_link = refl

more_links : all_under 16 (λ j. starves 2 1 (suc j)) ≡ true
unfolding machine_computes unchecked each starving state_by
more_links = refl

most : starves 8 4 16 ≡ true
unfolding machine_computes unchecked each starving state_by
most = refl

-- only a refusal has a number above 11
refused : (answer : Answer) → (numbers_of answer).number ≡ number_of NoneFree → answer ≡ Refused NoneFree
unfolding numbers_of number_of
refused (Refused refusal) e = ap Refused (one_number refusal NoneFree e)
refused (Taken object) e = absurd (omega arith)
refused (Begun object) e = absurd (omega arith)
refused (Working work) e = absurd (omega arith)
refused (Protected object tag) e = absurd (omega arith)
refused Nothing e = absurd (omega arith)
refused (Swapped object) e = absurd (omega arith)
refused Moved e = absurd (omega arith)
refused (Tag tag) e = absurd (omega arith)
refused Finished e = absurd (omega arith)
refused (Left object position) e = absurd (omega arith)
refused (Freed object) e = absurd (omega arith)

-- and so does the machine itself
itself : (t h l : ℕ) → starves t h l ≡ true → Starves t h l
unfolding number_of
itself t h l e =
    let z = sizes_for t h l in
    let good = and_l (in_range z) _ e in
    let thirty = refused (answer_on t h l) (eqb-true _ 30 (and_r (in_range z) _ e)) in
    (good, sym (ap (λ (o : Outcome). o.answer) (same_next z good (starving t h l) take)) ∙ thirty)

pub one_fewer_is_not_enough : NotEnough
one_fewer_is_not_enough =
    record {
      one_link = λ t h low high low' high'. itself t h 1 (with_one t h low high low' high');
      more_links = λ l low high. itself 2 1 l (with_more l low high);
      most = itself 8 4 16 most;
    }
  where
    with_one : (t h : ℕ) → 1 ≤ t → t ≤ 8 → 1 ≤ h → h ≤ 4 → starves t h 1 ≡ true
    with_one t h low high low' high' = from_one 4 (λ i. starves t i 1) (from_one 8 (λ k. all_under 4 (λ i. starves k (suc i) 1)) one_link t low high) h low' high'

    with_more : (l : ℕ) → 1 ≤ l → l ≤ 16 → starves 2 1 l ≡ true
    with_more = from_one 16 (starves 2 1) more_links
