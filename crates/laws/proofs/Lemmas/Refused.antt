-- A refusal's number is the first line of the table that applies, and a refused call hands the state back.
use Rattle.std.specs.Prelude.{◌≡◌, true, ◌↔◌}
use native.Mathlib.Omega.{arith}
use Rattle.std.proofs.Math.Path.{refl}
use Rattle.std.proofs.Common.{sym, ap, ◌∙◌, subst}
use Rattle.std.proofs.Math.Bool.{not, false≢true}
use Rattle.machine.specs.declared.State.{State}
use Rattle.machine.specs.declared.Call.{Call}
use Rattle.machine.specs.declared.Outcome.{Outcome}
use Rattle.machine.specs.declared.Answer.TheVariants.{Refused}
use Rattle.machine.specs.declared.refusal.Refusal.{Refusal}
use Rattle.machine.specs.declared.refusal.Refusal.TheVariants.{Unsound}
use Rattle.basics.specs.Tests.{clash}
use Rattle.basics.specs.Rows.{all_from, NoneApplies, FirstIs, here, later}
use Rattle.basics.proofs.Rows.{first_is, none_is, first_from_lem}
use Rattle.machine.specs.Answers.{number_of, numbers_of}
use Rattle.machine.specs.Soundness.{sound}
use Rattle.machine.specs.Refusals.{state_rows, field_rows, thread_rows, object_rows, call_rows, refusals, refusal_of}
use Rattle.machine.specs.Step.{step_of, refused_or, done_of}
use Rattle.laws.specs.Promise.{KeepsState}
use Rattle.laws.specs.Ways.{Way, refused, takes, begins, swaps, moves, reads, retires, clears, publishes, protects, finds_nothing, loads_again, finishes, sweeps, drains, meets, passes, frees, leaves, displaces}
use Rattle.laws.proofs.Lemmas.Inversion.{way}

module _ (s : State) (c : Call) where
  pub refused_way : {o : Outcome} → Way s c o → (refusal : Refusal) → o.answer ≡ Refused refusal → (o.state ≡ s) × FirstIs (refusals s c) refusal
  refused_way (refused {refusal = refusal} first) n e = let same : refusal ≡ n = cc in (refl, subst (FirstIs (refusals s c)) same first)
  refused_way (takes d empty next free) n e = clash (cc)
  refused_way (begins d idle slot link read) n e = clash (cc)
  refused_way (swaps d link protected read same) n e = clash (cc)
  refused_way (moves d link protected other) n e = clash (cc)
  refused_way (reads d inside marked) n e = clash (cc)
  refused_way (retires d idle full some) n e = clash (cc)
  refused_way (clears d idle slot) n e = clash (cc)
  refused_way (publishes d was inside inside' most) n e = clash (cc)
  refused_way (protects d was inside inside' read same some) n e = clash (cc)
  refused_way (finds_nothing d was inside inside' read none) n e = clash (cc)
  refused_way (loads_again d was inside inside' read other) n e = clash (cc)
  refused_way (finishes p d was inside empty) n e = clash (cc)
  refused_way (sweeps p d was inside empty inside' inside'') n e = clash (cc)
  refused_way (drains p next d was inside full scans) n e = clash (cc)
  refused_way (meets next d was inside match scans) n e = clash (cc)
  refused_way (passes next d was inside other scans) n e = clash (cc)
  refused_way (frees next d was past ended fine) n e = clash (cc)
  refused_way (leaves next d was inside empty ended fine) n e = clash (cc)
  refused_way (displaces next d was inside full scans) n e = clash (cc)

  gives : (refusal : Refusal) → FirstIs (refusals s c) refusal → (step_of s c).answer ≡ Refused refusal
  unfolding step_of refused_or refusal_of
  gives refusal first = rw (first_is first)

  pub exactly : (refusal : Refusal) → (step_of s c).answer ≡ Refused refusal ↔ FirstIs (refusals s c) refusal
  exactly refusal = ((λ e. (refused_way (way s c) refusal e).1), gives refusal)

  pub keeps_state_lem : (refusal : Refusal) → (step_of s c).answer ≡ Refused refusal → KeepsState s c refusal
  unfolding numbers_of
  keeps_state_lem refusal e = ((refused_way (way s c) refusal e).0, rw e)

  pub otherwise_done : NoneApplies (refusals s c) → step_of s c ≡ done_of s c
  unfolding step_of refused_or refusal_of
  otherwise_done all = rw (none_is all)

  -- of a sound state the table's first line does not apply, and the others have higher numbers

  later_high : all_from number_of 20 (call_rows s c) ≡ true
  unfolding call_rows field_rows thread_rows object_rows all_from number_of
  later_high = refl

  not_nineteen : sound s ≡ true → (refusal : Refusal) → FirstIs (refusals s c) refusal → number_of refusal ≡ 19 → ⊥
  unfolding refusals state_rows
  not_nineteen h refusal (here on) e = false≢true (sym (ap not h) ∙ on)
  not_nineteen h refusal (later off rest) e = let high = first_from_lem number_of later_high rest in omega arith

  pub sound_not_19 : sound s ≡ true → (step_of s c).answer ≡ Refused Unsound → ⊥
  unfolding number_of
  sound_not_19 h e = not_nineteen h Unsound (refused_way (way s c) Unsound e).1 refl
