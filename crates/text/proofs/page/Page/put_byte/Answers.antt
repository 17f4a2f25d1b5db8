-- `text::page::Page::put_byte` meets its contract: one byte stored.
use Rattle.std.proofs.Common.{refl, arith}
use Rattle.text.specs.Appending.{one}
use Rattle.text.proofs.page.Page.put_byte.Goals as goal

pub returns : goal.returns
returns c = record { same = refl; written = one _ _ _ (omega arith) }
