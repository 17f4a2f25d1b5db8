-- "The first that applies is given, in this order, and never otherwise." The lines stand in groups: the state's own, then those of the call,
-- which look at its fields, at its thread and at its objects.
use Rattle.std.specs.Prelude.{ℕ, Bool, not, ◌&&◌, ◌||◌, List, [], ◌∷◌, ◌++◌, ltb, eqb, Option}
use Rattle.machine.specs.declared.State.{State}
use Rattle.machine.specs.declared.Call.{Call}
use Rattle.machine.specs.declared.refusal.Refusal.{Refusal}
use Rattle.machine.specs.declared.refusal.Refusal.TheVariants.{Unsound, NoSuchThread, NoSuchOperation, UnusedNotZero, NoSuchSlot, NoSuchLink, Busy, Idle, HandFull, HandEmpty, NoneFree, NotProtected}
use Rattle.entries.specs.declared.Sizes.{Sizes}
use Rattle.entries.specs.declared.Thread.{Thread}
use Rattle.entries.specs.declared.Slot.{Slot}
use Rattle.pool.specs.declared.Pool.{Pool}
use Rattle.basics.specs.Rows.{Row, ◌when◌, first_of}
use Rattle.entries.specs.Sizes.{within}
use Rattle.entries.specs.Phases.{is_idle}
use Rattle.pool.specs.Pool.{next_of}
use Rattle.machine.specs.Parts.{thread_at, slot_at, position_of}
use Rattle.machine.specs.Soundness.{sound}

-- the column "Uses"

unfoldable pub uses_slot : ℕ → Bool
uses_slot operation = eqb operation 2 || eqb operation 3 || eqb operation 4 || eqb operation 6

unfoldable pub uses_link : ℕ → Bool
uses_link operation = eqb operation 2 || eqb operation 3

unfoldable pub uses_tag : ℕ → Bool
uses_tag operation = eqb operation 1

-- "Fields that the operation does not use must be 0."
unfoldable pub unused_not_zero : Call → Bool
unused_not_zero c =
    not (uses_slot c.operation || eqb c.slot 0) ||
    not (uses_link c.operation || eqb c.link 0) ||
    not (uses_tag c.operation || eqb c.tag 0)

-- the slot field names no slot: "255 is good in swap only"
unfoldable pub without_slot : Call → Bool
without_slot c = eqb c.operation 3 && eqb c.slot 255

-- the call goes by the object of its slot: "swap with a slot, or read"
unfoldable pub reads_slot : Call → Bool
reads_slot c = (eqb c.operation 3 && not (without_slot c)) || eqb c.operation 4

-- 19: the state
unfoldable pub state_rows : State → List (Row Refusal)
state_rows s = (Unsound when not (sound s)) ∷ []

-- 21 to 25: the call's fields, by the sizes
unfoldable pub field_rows : Sizes → Call → List (Row Refusal)
field_rows z c =
    (NoSuchThread when not (ltb c.thread z.threads)) ∷
    (NoSuchOperation when not (within 1 7 c.operation)) ∷
    (UnusedNotZero when unused_not_zero c) ∷
    (NoSuchSlot when uses_slot c.operation && not (ltb c.slot z.slots) && not (without_slot c)) ∷
    (NoSuchLink when uses_link c.operation && not (ltb c.link z.links)) ∷
    []

-- 26 to 29: what the thread is in the middle of, and its hand
unfoldable pub thread_rows : Thread → ℕ → List (Row Refusal)
thread_rows thread operation =
    (Busy when within 1 6 operation && not (is_idle thread.phase)) ∷
    (Idle when eqb operation 7 && is_idle thread.phase) ∷
    (HandFull when eqb operation 1 && not (eqb thread.hand 0)) ∷
    (HandEmpty when eqb operation 5 && eqb thread.hand 0) ∷
    []

-- 31 and 30, in this order: the slot that the call names, and what is free
unfoldable pub object_rows : Slot → Pool → Call → List (Row Refusal)
object_rows slot pool c =
    (NotProtected when reads_slot c && not slot.mark) ∷
    (NoneFree when eqb c.operation 1 && eqb (next_of pool) 0) ∷
    []

-- the call's own lines
unfoldable pub call_rows : State → Call → List (Row Refusal)
call_rows s c =
    field_rows s.sizes c ++
    (thread_rows (thread_at s c.thread) c.operation ++
    object_rows (slot_at s (position_of s c.thread c.slot)) s.pool c)

unfoldable pub refusals : State → Call → List (Row Refusal)
refusals s c = state_rows s ++ call_rows s c

unfoldable pub refusal_of : State → Call → Option Refusal
refusal_of s c = first_of (refusals s c)
