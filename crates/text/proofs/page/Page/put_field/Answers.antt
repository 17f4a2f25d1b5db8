-- `text::page::Page::put_field` meets its contract: what `put_number` puts, and then one byte.
use Rattle.std.proofs.Common.{[], ◌∷◌, arith, length-append}
use Rattle.text.specs.Decimal.{decimal}
use Rattle.text.specs.Paging.{room_for_one, then_one}
use Rattle.text.proofs.page.Page.put_field.Goals as goal

pub put_number-requires : goal.put_number-requires
put_number-requires c = omega (arith, length-append (decimal c.args.n) (c.args.after ∷ []))

pub put_byte-requires : goal.put_byte-requires
put_byte-requires c = room_for_one _ c.put_number.ensures c.requires

pub returns : goal.returns
returns c = then_one _ c.put_number.ensures c.requires c.put_byte.ensures
