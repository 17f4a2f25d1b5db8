-- Two statements that have a name, so that an edit can turn them. Their theorems, and every other law, stand in proofs/Promise.
use Rattle.std.specs.Prelude.{◌+◌, ◌≡◌, true}
use Rattle.machine.specs.declared.State.{State}
use Rattle.machine.specs.declared.Call.{Call}
use Rattle.machine.specs.declared.Answer.TheVariants.{Refused}
use Rattle.machine.specs.declared.refusal.Refusal.{Refusal}
use Rattle.machine.specs.Soundness.{sound}
use Rattle.machine.specs.Answers.{number_of, numbers_of, numbers}
use Rattle.machine.specs.Step.{step_of}
use Rattle.machine.specs.Count.{five_places}

-- the same state, and the refusal's number with a = b = 0
abbrev pub KeepsState : State → Call → Refusal → Type 0
KeepsState s c refusal = ((step_of s c).state ≡ s) × (numbers_of (step_of s c).answer ≡ numbers (number_of refusal) 0 0)

-- "Refusals of a call return a = b = 0 and the same state."
abbrev pub RefusedKeepsState : Type 0
RefusedKeepsState = (s : State) (c : Call) (refusal : Refusal) → (step_of s c).answer ≡ Refused refusal → KeepsState s c refusal

-- the five places of a state sum to N
abbrev pub PlacesSum : State → Type 0
PlacesSum s = let p = five_places s in p.free + p.links + p.hands + p.handovers + p.carried ≡ s.sizes.objects

-- "The five places always sum to N."
abbrev pub FivePlacesSum : Type 0
FivePlacesSum = (s : State) → sound s ≡ true → PlacesSum s
