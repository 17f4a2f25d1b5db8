-- `count` meets its contract: it counts the marks that are on.
use Rattle.std.proofs.Common.{rules}
use Rattle.pool.specs.Pool.{free_count}
use Rattle.pool.proofs.Pool.count.Goals as goal

pub returns : goal.returns
unfolding free_count
returns c = search rules
