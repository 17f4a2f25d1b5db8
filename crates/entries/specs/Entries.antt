-- An entry of a state by itself: what is asked of each, by its number and the sizes.
-- "all numbers above are in range for them; entries beyond the sizes are 0, idle or unmarked; a protected mark stands only on a hazard that is
-- not 0"
use Rattle.std.specs.Prelude.{ℕ, Bool, false, cond, not, ◌&&◌, ◌||◌, leb, ltb, eqb}
use Rattle.entries.specs.declared.Sizes.{Sizes}
use Rattle.entries.specs.declared.Thread.{Thread}
use Rattle.entries.specs.declared.Slot.{Slot}
use Rattle.entries.specs.declared.Phase.{Phase}
use Rattle.entries.specs.declared.Phase.TheVariants.{Idle}
use Rattle.entries.specs.Sizes.{in_range, all_zero, positions}
use Rattle.entries.specs.Phases.{is_idle, phase_in_range}

-- "0 means no object"
abbrev pub is_object : ℕ → Bool
is_object object = not (eqb object 0)

abbrev pub thread : ℕ → Phase → Thread
thread hand phase = record { hand = hand; phase = phase }

abbrev pub idle_thread : Thread
idle_thread = thread 0 Idle

abbrev pub empty_slot : Slot
empty_slot = record { hazard = 0; mark = false; handover = 0 }

-- a slot with another hazard and mark, its handover kept
abbrev pub with_hazard : Slot → ℕ → Bool → Slot
with_hazard slot hazard mark = record { hazard = hazard; mark = mark; handover = slot.handover }

-- a slot with another handover, its hazard and mark kept
abbrev pub with_handover : Slot → ℕ → Slot
with_handover slot object = record { hazard = slot.hazard; mark = slot.mark; handover = object }

-- Where the sizes are all 0, every entry is beyond them, so what is asked below makes the state the blank one.
unfoldable pub sizes_good : Sizes → Bool
sizes_good z = in_range z || all_zero z

-- Each entry, by its number: within the sizes its numbers are in range, beyond them it is 0, idle or unmarked.

unfoldable pub link_good : Sizes → ℕ → ℕ → Bool
link_good z i object = cond (ltb i z.links) (leb object z.objects) (eqb object 0)

unfoldable pub thread_in_range : Sizes → Thread → Bool
thread_in_range z thread = leb thread.hand z.objects && phase_in_range z thread.phase

unfoldable pub thread_empty : Thread → Bool
thread_empty thread = eqb thread.hand 0 && is_idle thread.phase

unfoldable pub thread_good : Sizes → ℕ → Thread → Bool
thread_good z t thread = cond (ltb t z.threads) (thread_in_range z thread) (thread_empty thread)

-- "a protected mark stands only on a hazard that is not 0"; n is how many objects there are
unfoldable pub slot_in_range : ℕ → Slot → Bool
slot_in_range n slot =
    leb slot.hazard n && leb slot.handover n && (not slot.mark || not (eqb slot.hazard 0))

unfoldable pub slot_empty : Slot → Bool
slot_empty slot = eqb slot.hazard 0 && not slot.mark && eqb slot.handover 0

unfoldable pub slot_good : Sizes → ℕ → Slot → Bool
slot_good z p slot = cond (ltb p (positions z)) (slot_in_range z.objects slot) (slot_empty slot)

-- k is the object's number less 1; a free object may have any tag
unfoldable pub tag_good : Sizes → ℕ → ℕ → Bool
tag_good z k tag = ltb k z.objects || eqb tag 0
