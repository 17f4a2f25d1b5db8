-- What is promised of `why`, beside its contract that it answers `why_of`. These are the statements to read; their proofs are names.
use Rattle.std.specs.Prelude.{ℕ, ◌<◌, ◌≤◌, ◌≡◌, true, ◌↔◌, Option, None, Result, Ok, Err}
use Rattle.machine.specs.declared.State.{State}
use Rattle.entries.specs.Sizes.{positions}
use Rattle.machine.specs.Parts.{free_at}
use Rattle.machine.specs.Soundness.{sound}
use Rattle.basics.specs.Rows.{FirstIs}
use Rattle.basics.specs.Functions.{allowed_once}
use Rattle.reasons.specs.declared.Reason.{Reason}
use Rattle.reasons.specs.declared.Kept.{Kept}
use Rattle.reasons.specs.declared.NotKept.{NotKept}
use Rattle.reasons.specs.Reasons.{reason_of, hazard_of, refusals, why_of}
use Rattle.reasons.specs.Numbers.{number_of, numbers_of}
use Rattle.reasons.specs.Applies.{Stays, Applies, NoHazard, FirstHazard}
use Rattle.reasons.proofs.Lemmas.Named as named
use Rattle.reasons.proofs.Lemmas.Hazards as hazards
use Rattle.reasons.proofs.Lemmas.Told as told

-- "Exactly one reason applies to an object that is not free": the one that is named does, and any that does is that one.
pub one_reason : (s : State) (o : ℕ) → Stays s o
    → Applies s o (reason_of s o) × ((r : Reason) → Applies s o r → r ≡ reason_of s o)
one_reason s o stays = (named.named_applies s o stays, named.only_one s o stays)

-- and to a free one none does
pub free_has_none : (s : State) → sound s ≡ true → (o : ℕ) → 0 < o → o ≤ s.sizes.objects → free_at s o ≡ true
    → (r : Reason) → Applies s o r → ⊥
free_has_none = told.free_has_none

-- "the first position in scan order that holds it as a hazard, or none", on any state
pub one_hazard : (s : State) (o : ℕ) → FirstHazard s o (hazard_of s o) × ((h : Option ℕ) → FirstHazard s o h → h ≡ hazard_of s o)
one_hazard s o = (hazards.first_hazard s o, hazards.only_hazard s o)

-- none is said exactly when no slot holds it as a hazard
pub nowhere_exactly : (s : State) (o : ℕ) → hazard_of s o ≡ None ↔ NoHazard s o (positions s.sizes)
nowhere_exactly = hazards.nowhere_exactly

-- "Refusals: 19, then 60 object not 1 to N, then 61 object is free": the first that applies, and never otherwise
pub refused_exactly : (s : State) (o : ℕ) (k : NotKept) → why_of s o ≡ Err k ↔ FirstIs (refusals s o) k
refused_exactly = told.refused_exactly

-- and a number is one refusal's
pub one_number : (k k' : NotKept) → number_of k ≡ number_of k' → k ≡ k'
one_number = told.one_number

-- An object that is not free is told by the numbers of whatever reason applies to it and whatever hazard is the first.
pub told_as : (s : State) (o : ℕ) → Stays s o → (r : Reason) (h : Option ℕ) → Applies s o r → FirstHazard s o h
    → numbers_of (why_of s o) ≡ numbers_of (Ok (record { reason = r; hazard = h }))
told_as = told.told_as

-- "Any two results allowed by it are proved the same."
pub why_once : (s : State) (o : ℕ) (r r' : Result Kept NotKept) → r ≡ why_of s o → r' ≡ why_of s o → r ≡ r'
why_once s = allowed_once (why_of s)
