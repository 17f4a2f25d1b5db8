use Rattle.std.specs.Prelude.{◌≡◌, ◌+◌, ◌≤◌, get_or, eqb}
use Rattle.basics.specs.Counts.{bit, count_under}
use Rattle.basics.proofs.walk.in_one_place.Given as goal

-- the free mark and the numbers passed are counted
abbrev pub invariant-loop-x : goal.invariant-loop-x
invariant-loop-x l = (l.x-index ≤ 64) × (l.n ≡ bit l.free + count_under l.x-index (λ i. eqb (get_or l.row i 0) l.object))
