-- the objects passed are in one place each
use Rattle.std.specs.Prelude.{suc, ◌+◌, ◌≡◌, true, false, get_or, eqb}
use Rattle.basics.specs.Under.{all_under}
use Rattle.basics.specs.Counts.{bit, count_under}
use Rattle.pool.proofs.marks.each_once.Given as goal

abbrev pub invariant-loop-k : goal.invariant-loop-k
invariant-loop-k l = all_under l.k (λ k. eqb (bit (get_or l.marks k false) + count_under 64 (λ i. eqb (get_or l.row i 0) (suc k))) 1) ≡ true
