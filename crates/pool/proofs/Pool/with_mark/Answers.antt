-- `with_mark` meets its contract: 0 and what is past the marks change nothing, and of any other the mark is stored.
use Rattle.std.proofs.Common.{rules}
use Rattle.pool.specs.Pool.{marked_at}
use Rattle.pool.specs.Lemmas.Marks.{marked_out}
use Rattle.pool.proofs.Pool.with_mark.Goals as goal

pub returns-in-Some : goal.returns-in-Some
unfolding marked_at
returns-in-Some c = rw c.in-Some.ensures.1

pub returns-in_default : goal.returns-in_default
returns-in_default c = marked_out c.args.self (search rules) c.args.object c.args.mark c.in_default.ensures
