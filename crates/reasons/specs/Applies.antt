-- What each reason and each hazard says of a state, apart from how it is found.
use Rattle.std.specs.Prelude.{ℕ, ◌<◌, ◌≤◌, ◌≡◌, true, false, Option, None, Some}
use Rattle.machine.specs.declared.State.{State}
use Rattle.entries.specs.declared.Slot.{Slot}
use Rattle.entries.specs.declared.Phase.{Phase}
use Rattle.entries.specs.Phases.{carried_by, scans_at}
use Rattle.entries.specs.Sizes.{positions}
use Rattle.machine.specs.Parts.{link_at, hand_of, phase_of, slot_at, free_at}
use Rattle.machine.specs.Soundness.{sound}
use Rattle.reasons.specs.declared.Guard.{Guard}
use Rattle.reasons.specs.declared.Guard.TheVariants as guard
use Rattle.reasons.specs.declared.Reason.{Reason}
use Rattle.reasons.specs.declared.Reason.TheVariants.{Link, Hand, Carried, Handover}

-- an object 1 to N of a sound state that is not free
pub record Stays (s : State) (o : ℕ) : Type 0 where
  pub sound : sound s ≡ true
  pub some : 0 < o
  pub most : o ≤ s.sizes.objects
  pub kept : free_at s o ≡ false

-- "carried by a thread with its position"
abbrev pub Carries : ℕ → ℕ → Phase → Type 0
Carries o p phase = (carried_by phase ≡ o) × (scans_at phase ≡ p)

-- "that slot's hazard is the object and protected, is the object and only published, or is something else"
abbrev pub Guards : Slot → ℕ → Guard → Type 0
Guards slot o guard.Protected = (slot.hazard ≡ o) × (slot.mark ≡ true)
Guards slot o guard.Published = (slot.hazard ≡ o) × (slot.mark ≡ false)
Guards slot o guard.Otherwise = slot.hazard ≡ o → ⊥

abbrev pub Applies : State → ℕ → Reason → Type 0
Applies s o (Link i) = (i < s.sizes.links) × (link_at s i ≡ o)
Applies s o (Hand t) = (t < s.sizes.threads) × (hand_of s t ≡ o)
Applies s o (Carried t p) = (t < s.sizes.threads) × Carries o p (phase_of s t)
Applies s o (Handover p g) =
    (p < positions s.sizes) × (((slot_at s p).handover ≡ o) × Guards (slot_at s p) o g)

-- no position under n holds the object as its hazard
abbrev pub NoHazard : State → ℕ → ℕ → Type 0
NoHazard s o n = (q : ℕ) → q < n → (slot_at s q).hazard ≡ o → ⊥

-- "the first position in scan order that holds it as a hazard, or none"
abbrev pub FirstHazard : State → ℕ → Option ℕ → Type 0
FirstHazard s o (Some p) =
    (p < positions s.sizes) × (((slot_at s p).hazard ≡ o) × NoHazard s o p)
FirstHazard s o None = NoHazard s o (positions s.sizes)
