-- `text::size::counts_more` meets its contract. The invariant: what is left of the room is the room less the fields so far.
use Rattle.std.proofs.Common.{sym, arith, lt-ltb, le-ltb, map, length}
use Rattle.text.specs.Decimal.{decimal}
use Rattle.text.specs.Fields.{joined}
use Rattle.text.specs.Joining.{line_size, fields_more, fields_none}
use Rattle.text.proofs.size.counts_more.Goals as goal

pub returns-in_default : goal.returns-in_default
returns-in_default c =
    let ns = c.args.numbers.now in
    let size = line_size ns c.requires in
    let next = fields_more ns c.loop-number.number-index (omega arith) in
    sym (lt-ltb c.args.room (length (joined (map decimal ns))) (omega (arith, size, next, c.digits.ensures.1, c.in_default.ensures)))

pub loop-number-preserved : goal.loop-number-preserved
loop-number-preserved c =
    omega (arith, fields_more c.args.numbers.now c.loop-number.number-index (omega arith), c.digits.ensures.1, c.in-Some.ensures)

pub returns : goal.returns
returns c =
    let ns = c.args.numbers.now in
    let size = line_size ns c.requires in
    let none = fields_none ns c.loop-number.number-index (omega arith) in
    sym (le-ltb c.args.room (length (joined (map decimal ns))) (omega (arith, size, none)))
