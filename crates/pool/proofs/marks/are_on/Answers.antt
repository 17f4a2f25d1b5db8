-- `are_on` meets its contract: the marks passed are counted.
use Rattle.std.proofs.Common.{Bool, false, refl, arith, get_or, ◌∙◌}
use Rattle.basics.specs.Counts.{how_many, bit_byte, count_next, count_more, count_all}
use Rattle.pool.proofs.marks.are_on.Goals as goal

pub loop-mark-init : goal.loop-mark-init
unfolding how_many
loop-mark-init c = (omega arith, refl)

pub overflow_add-n : goal.overflow_add-n
overflow_add-n c =
    let l = c.loop-mark in
    let marks = c.args.marks.now in
    let more = c.from-n in
    record { fits = omega (arith, count_next (λ (mark : Bool). mark) marks l.mark-index l.n l.invariant.1 false more.result (more.ensures ∙ bit_byte (get_or marks l.mark-index false))) }

pub loop-mark-preserved : goal.loop-mark-preserved
loop-mark-preserved c =
    let l = c.loop-mark in
    let marks = c.args.marks.now in
    let more = c.from-n in
    (omega arith, count_more (λ (mark : Bool). mark) marks l.mark-index l.n l.invariant.1 false more.result (omega arith) (more.ensures ∙ bit_byte (get_or marks l.mark-index false)))

pub returns : goal.returns
returns c =
    let l = c.loop-mark in
    count_all (λ (mark : Bool). mark) c.args.marks.now l.mark-index l.n l.invariant.1 (omega arith)
