use Prim.Native.Nat.{◌-◌}
use mathlib.Core.Path.{◌≡◌}
use lib.ListN.{length}
use Rattle.script.proofs.Going.{Going}
use Rattle.script.proofs.packing.pack.Given as goal

abbrev pub invariant-loop-at : goal.invariant-loop-at
invariant-loop-at l =
    (l.buffer.out.ghost_name ≡ l.initial.buffer.out.ghost_name) ×
    Going l.text l.initial.buffer.out.now l.at l.line l.buffer.full l.buffer.out.now

abbrev pub decreases-loop-at : goal.decreases-loop-at
decreases-loop-at l = length l.text - l.at
