-- `each_once` meets its contract.
use Rattle.std.proofs.Common.{◌≡◌, ◌+◌, ◌<◌, ◌≤◌, ℕ, suc, refl, Bool, false, List, eqb, add-one, arith, sym, length, take, get_or}
use Rattle.std.proofs.lemmas.List.{get_or-take, length-take-le}
use Rattle.basics.specs.Under.{all_under, under_more, under_fails}
use Rattle.basics.specs.Counts.{bit, count_under}
use Rattle.pool.proofs.marks.each_once.Goals as goal

module _ (marks : List Bool) (row : List ℕ) (n k : ℕ) (room : n ≤ length marks) (inside : k < length (take n marks)) where
  less : k < n
  less = omega (arith, length-take-le n marks room)

  -- the walk for object k + 1, whose mark is read among the first n
  walked : {r : Bool} → r ≡ eqb (bit (get_or (take n marks) k false) + count_under 64 (λ i. eqb (get_or row i 0) (k + 1))) 1
      → r ≡ eqb (bit (get_or marks k false) + count_under 64 (λ i. eqb (get_or row i 0) (suc k))) 1
  walked e = rw (add-one, get_or-take n marks k false less) at e

pub loop-k-init : goal.loop-k-init
unfolding all_under
loop-k-init c = refl

pub returns-then-not-in_one_place : goal.returns-then-not-in_one_place
returns-then-not-in_one_place c =
    let a = c.args in
    let n = c.from.result in
    let k = c.loop-k.k in
    let room : n ≤ length a.marks.now = omega arith in
    let within = less a.marks.now a.row.now n k room c.loop-k-test.true in
    sym (under_fails k a.n _ (omega arith) (sym (walked a.marks.now a.row.now n k room c.loop-k-test.true c.if-not-in_one_place.ensures)))

pub loop-k-preserved : goal.loop-k-preserved
loop-k-preserved c =
    let a = c.args in
    let n = c.from.result in
    let k = c.loop-k.k in
    let room : n ≤ length a.marks.now = omega arith in
    under_more k _ c.loop-k.invariant (sym (walked a.marks.now a.row.now n k room c.loop-k-test.true c.if-not-in_one_place.ensures))

pub returns : goal.returns
returns c =
    let n = c.from.result in
    let long = length-take-le n c.args.marks.now (omega arith) in
    let all : c.args.n ≡ c.loop-k.k = omega arith in
    rw all (sym c.loop-k.invariant)
