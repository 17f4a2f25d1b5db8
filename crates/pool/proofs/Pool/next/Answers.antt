-- `next` meets its contract: the first mark that is on is the object's.
use Rattle.std.proofs.Common.{◌≡◌, arith, rules, add-one, length}
use Rattle.pool.specs.Pool.{next_of}
use Rattle.pool.proofs.Firsts.{none_on, on_at, on_within}
use Rattle.pool.proofs.Pool.next.Goals as goal

pub returns-in_err-first : goal.returns-in_err-first
unfolding next_of
returns-in_err-first c =
    rw (none_on c.args.self.marks (search rules))
    (record { value = search rules; cases = search rules; within = omega arith })

pub returns : goal.returns
unfolding next_of
returns c =
    let a = c.args in
    let long : length a.self.marks ≡ 240 = search rules in
    let less = on_within a.self.marks c.in_ok-first.first (search rules) in
    rw (on_at a.self.marks c.in_ok-first.first (search rules), add-one)
    (record { value = search rules; cases = search rules; within = omega arith })
