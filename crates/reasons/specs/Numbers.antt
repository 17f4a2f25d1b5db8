-- "Where an answer is an enum, a definition gives this paper's number and values for every one of its cases." The reasons have the numbers
-- 1 to 4 in the order of the request, a refusal has its own.
use Rattle.std.specs.Prelude.{ℕ, ◌<◌, ◌≤◌, ◌≡◌, Option, None, Some, Result, Ok, Err}
use Rattle.reasons.specs.declared.Guard.{Guard}
use Rattle.reasons.specs.declared.Guard.TheVariants.{Protected, Published, Otherwise}
use Rattle.reasons.specs.declared.Reason.{Reason}
use Rattle.reasons.specs.declared.Reason.TheVariants.{Link, Hand, Carried, Handover}
use Rattle.reasons.specs.declared.Kept.{Kept}
use Rattle.reasons.specs.declared.NotKept.{NotKept}
use Rattle.reasons.specs.declared.NotKept.TheVariants.{Unsound, NoSuchObject, Free}

-- the reason or refusal, what it names, and the hazard: 1 and its first position, or 0 and 0 for none
pub record Numbers : Type 0 where
  pub number : ℕ
  pub a : ℕ
  pub b : ℕ
  pub hazard : ℕ
  pub first : ℕ

unfoldable pub guard_number : Guard → ℕ
guard_number Protected = 1
guard_number Published = 2
guard_number Otherwise = 3

unfoldable pub reason_number : Reason → ℕ
reason_number (Link link) = 1
reason_number (Hand thread) = 2
reason_number (Carried thread position) = 3
reason_number (Handover position guard) = 4

unfoldable pub reason_a : Reason → ℕ
reason_a (Link link) = link
reason_a (Hand thread) = thread
reason_a (Carried thread position) = thread
reason_a (Handover position guard) = position

unfoldable pub reason_b : Reason → ℕ
reason_b (Link link) = 0
reason_b (Hand thread) = 0
reason_b (Carried thread position) = position
reason_b (Handover position guard) = guard_number guard

unfoldable pub hazard_number : Option ℕ → ℕ
hazard_number (Some position) = 1
hazard_number None = 0

unfoldable pub hazard_position : Option ℕ → ℕ
hazard_position (Some position) = position
hazard_position None = 0

unfoldable pub number_of : NotKept → ℕ
number_of Unsound = 19
number_of NoSuchObject = 60
number_of Free = 61

unfoldable pub numbers_of : Result Kept NotKept → Numbers
numbers_of (Ok kept) =
    record {
      number = reason_number kept.reason;
      a = reason_a kept.reason;
      b = reason_b kept.reason;
      hazard = hazard_number kept.hazard;
      first = hazard_position kept.hazard;
    }
numbers_of (Err refusal) = record { number = number_of refusal; a = 0; b = 0; hazard = 0; first = 0 }

-- the numbers of an object that the slot at p protects
pub record Sheltered (told : Numbers) (p : ℕ) : Type 0 where
  -- it has one of the four reasons: it is never free, nor refused in another way
  pub kept : (0 < told.number) × (told.number ≤ 4)
  -- left in a handover, it lies at or below the slot
  pub handover : told.number ≡ 4 → told.a ≤ p
  -- carried, its scan has not passed the slot
  pub carried : told.number ≡ 3 → told.b ≤ p
  -- and the first hazard is there or below
  pub hazard : (told.hazard ≡ 1) × (told.first ≤ p)
