-- "names its reason for being kept: in a link, in a hand, carried by a thread with its position, or left in a handover. For a handover it
-- says whether that slot's hazard is the object and protected, is the object and only published, or is something else. It also names the
-- first position in scan order that holds it as a hazard, or none."
use Rattle.std.specs.Prelude.{ℕ, Bool, cond, not, List, [], ◌∷◌, ltb, eqb, Option, None, Some, Result, Ok, Err, ⊤}
use Rattle.machine.specs.declared.State.{State}
use Rattle.entries.specs.declared.Slot.{Slot}
use Rattle.entries.specs.Sizes.{within, positions}
use Rattle.machine.specs.Parts.{link_at, hand_of, phase_of, slot_at, free_at}
use Rattle.entries.specs.Phases.{carried_by, scans_at}
use Rattle.machine.specs.Soundness.{sound}
use Rattle.basics.specs.Rows.{Row, ◌when◌, first_of}
use Rattle.reasons.specs.declared.Guard.{Guard}
use Rattle.reasons.specs.declared.Guard.TheVariants as guard
use Rattle.reasons.specs.declared.Reason.{Reason}
use Rattle.reasons.specs.declared.Reason.TheVariants.{Link, Hand, Carried, Handover}
use Rattle.reasons.specs.declared.Kept.{Kept}
use Rattle.reasons.specs.declared.NotKept.{NotKept}
use Rattle.reasons.specs.declared.NotKept.TheVariants.{Unsound, NoSuchObject, Free}
use Rattle.basics.specs.First.{first}

-- "whether that slot's hazard is the object and protected, is the object and only published, or is something else"
unfoldable pub guard_of : Slot → ℕ → Guard
guard_of slot o =
    cond (eqb slot.hazard o) (cond slot.mark guard.Protected guard.Published) guard.Otherwise

-- of the numbers under n, the first that passes
abbrev pub found : ℕ → (ℕ → Bool) → Option ℕ
found n test = let at = first n test in cond (ltb at n) (Some at) None

-- what is answered where nothing is refused, or the refusal
abbrev pub unless : {A : Type 0} → Option NotKept → A → Result A NotKept
unless None answer = Ok answer
unless (Some refusal) answer = Err refusal

module _ (s : State) (o : ℕ) where
  -- the first link, hand, carrying thread and handover that has the object; the number of them where none has

  unfoldable pub link_with : ℕ
  link_with = first s.sizes.links (λ i. eqb (link_at s i) o)

  unfoldable pub hand_with : ℕ
  hand_with = first s.sizes.threads (λ t. eqb (hand_of s t) o)

  unfoldable pub carrier_of : ℕ
  carrier_of = first s.sizes.threads (λ t. eqb (carried_by (phase_of s t)) o)

  unfoldable pub handover_with : ℕ
  handover_with = first (positions s.sizes) (λ p. eqb (slot_at s p).handover o)

  -- The reason of an object that is not free. It is in one of the four, so where it is in none of the first three it is in the last.
  unfoldable pub reason_of : Reason
  reason_of =
      cond (ltb link_with s.sizes.links) (Link link_with)
      (cond (ltb hand_with s.sizes.threads) (Hand hand_with)
      (cond (ltb carrier_of s.sizes.threads) (Carried carrier_of (scans_at (phase_of s carrier_of)))
      (Handover handover_with (guard_of (slot_at s handover_with) o))))

  -- "the first position in scan order that holds it as a hazard, or none"
  unfoldable pub hazard_at : ℕ
  hazard_at = first (positions s.sizes) (λ p. eqb (slot_at s p).hazard o)

  unfoldable pub hazard_of : Option ℕ
  hazard_of = cond (ltb hazard_at (positions s.sizes)) (Some hazard_at) None

  -- "Refusals: 19, then 60 object not 1 to N, then 61 object is free."
  unfoldable pub refusals : List (Row NotKept)
  refusals =
      (Unsound when not (sound s)) ∷
      (NoSuchObject when not (within 1 s.sizes.objects o)) ∷
      (Free when free_at s o) ∷
      []

  unfoldable pub refusal_of : Option NotKept
  refusal_of = first_of refusals

  unfoldable pub checked_of : Result ⊤ NotKept
  checked_of = unless refusal_of tt

  unfoldable pub why_of : Result Kept NotKept
  why_of = unless refusal_of (record { reason = reason_of; hazard = hazard_of })
