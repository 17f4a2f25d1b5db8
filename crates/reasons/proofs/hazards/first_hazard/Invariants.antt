-- No position before the loops' one holds the object as its hazard.
use Prim.Native.Nat.{ℕ, ◌+◌, ◌*◌, ◌<◌}
use mathlib.Core.Path.{◌≡◌}
use mathlib.Core.Bool.{false}
use lib.ListN.{get_or}
use lib.Dec.{eqb}
use Rattle.entries.specs.Entries.{empty_slot}
use Rattle.reasons.proofs.hazards.first_hazard.Given as goal

abbrev pub invariant-loop-slot : goal.invariant-loop-slot
invariant-loop-slot l =
    (j : ℕ) → j < l.thread * l.sizes.slots + l.slot → eqb (get_or l.slots j empty_slot).hazard l.object ≡ false

abbrev pub invariant-loop-thread : goal.invariant-loop-thread
invariant-loop-thread l =
    (j : ℕ) → j < l.thread * l.sizes.slots → eqb (get_or l.slots j empty_slot).hazard l.object ≡ false
