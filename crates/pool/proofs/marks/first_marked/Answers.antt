-- `first_marked` meets its contract.
use Rattle.std.proofs.Common.{◌≡◌, true, false, arith, replicate, take, length}
use Rattle.std.proofs.lemmas.List.{drop-replicate, length-take-le}
use Rattle.pool.specs.Pool.{marked}
use Rattle.pool.proofs.marks.first_marked.Goals as goal

pub returns : goal.returns
unfolding marked
returns c =
    let n = c.from.result in
    let filled : c.fill.new.self ≡ replicate (length (take n (replicate 240 false))) true = c.fill.ensures.after (λ y h. h) in
    let long : length (take n (replicate 240 false)) ≡ n = length-take-le n (replicate 240 false) (omega arith) in
    rw (filled, long, drop-replicate n 240 false, c.from.ensures)
