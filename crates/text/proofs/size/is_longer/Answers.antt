-- `text::size::is_longer` meets its contract: eleven bytes a number are enough for every line.
use Rattle.std.proofs.Common.{◌/◌, sym, ◌∙◌, arith, le-ltb, map, length}
use Rattle.text.specs.Decimal.{decimal}
use Rattle.text.specs.Fields.{joined}
use Rattle.text.specs.Joining.{line_size, fields_short}
use Rattle.text.proofs.size.is_longer.Goals as goal

pub returns-else-room-numbers : goal.returns-else-room-numbers
returns-else-room-numbers c =
    let ns = c.args.numbers.now in
    let size = line_size ns c.requires in
    let short = fields_short ns (λ i. (c.type_inv.numbers i).fits) in
    le-ltb (c.args.room / 11) (length ns) (omega arith) ∙ sym (le-ltb c.args.room (length (joined (map decimal ns))) (omega (arith, size, short)))
