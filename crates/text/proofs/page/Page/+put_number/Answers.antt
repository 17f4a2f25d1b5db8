-- `text::page::Page::put_number` meets its contract. A number's digits are those of a tenth of it, which the call of itself puts, and the last one.
use Rattle.std.proofs.Common.{ap, length, length-append, arith}
use Rattle.text.specs.Digits.{decimal_many}
use Rattle.text.specs.Paging.{room_for_one, then_one}
use Rattle.text.proofs.page.Page.+put_number.Goals as goal

pub put_number-requires : goal.put_number-requires
put_number-requires t c =
    (omega arith, omega (arith, simp length-append at (ap length (decimal_many c.args.n (omega arith)))))

pub put_byte-requires-2 : goal.put_byte-requires-2
put_byte-requires-2 t c =
    room_for_one _ c.put_number.ensures (rw (decimal_many c.args.n (omega arith)) at c.requires)

pub returns : goal.returns
returns t c =
    let many = decimal_many c.args.n (omega arith) in
    rw many (then_one _ c.put_number.ensures (rw many at c.requires) c.put_byte-2.ensures)
