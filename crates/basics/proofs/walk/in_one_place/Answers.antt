-- `in_one_place` meets its contract: the free mark and the numbers passed are counted.
use Rattle.std.proofs.Common.{◌≡◌, ℕ, refl, arith, get_or, eqb, ◌∙◌}
use Rattle.basics.specs.Counts.{count_under, bit_most, bit_byte, count_under_most, count_under_next}
use Rattle.basics.proofs.walk.in_one_place.Goals as goal

pub loop-x-init : goal.loop-x-init
unfolding count_under
loop-x-init c = (omega arith, omega (arith, c.from-n.ensures ∙ bit_byte c.args.free))

pub overflow_add-n : goal.overflow_add-n
overflow_add-n c =
    let a = c.args in
    let l = c.loop-x in
    let few = count_under_most l.x-index (λ i. eqb (get_or a.row.now i 0) a.object) in
    let free = bit_most a.free in
    let one = bit_most (eqb (get_or a.row.now l.x-index 0) a.object) in
    record { fits = omega (arith, c.from-n-in-loop-x.ensures ∙ bit_byte (eqb (get_or a.row.now l.x-index 0) a.object)) }

pub loop-x-preserved : goal.loop-x-preserved
loop-x-preserved c =
    let a = c.args in
    let l = c.loop-x in
    let test = (λ (i : ℕ). eqb (get_or a.row.now i 0) a.object) in
    let next = count_under_next l.x-index test refl (c.from-n-in-loop-x.ensures ∙ bit_byte (test l.x-index)) in
    (omega arith, omega arith)

pub returns : goal.returns
returns c =
    let all : c.loop-x.x-index ≡ 64 = omega arith in
    rw (← all, c.loop-x.invariant.1)
