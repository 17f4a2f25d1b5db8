-- The loop's invariant: the marks passed are counted.
use Rattle.std.specs.Prelude.{◌≡◌, ◌≤◌, Bool, take}
use Rattle.basics.specs.Counts.{how_many}
use Rattle.pool.proofs.marks.are_on.Given as goal

abbrev pub invariant-loop-mark : goal.invariant-loop-mark
invariant-loop-mark l = (l.mark-index ≤ 240) × (l.n ≡ how_many (λ (mark : Bool). mark) (take l.mark-index l.marks))
