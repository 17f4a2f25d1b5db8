-- the marks passed are off, or one is not
use Rattle.std.specs.Prelude.{◌≡◌, not, take}
use Rattle.std.specs.List.{list_all}
use Rattle.pool.proofs.marks.off_from.Given as goal

abbrev pub invariant-loop-mark : goal.invariant-loop-mark
invariant-loop-mark l = l.off ≡ list_all not (take l.mark-index l.mark-items)
