-- `text::page::Page::put_filled` meets its contract: the template where there is room for three bytes a byte, and nothing elsewhere.
use Rattle.std.proofs.Common.{arith}
use Rattle.text.specs.Paging.{put_there, put_nowhere}
use Rattle.text.proofs.page.Page.put_filled.Goals as goal

pub returns-in_default-clause-put : goal.returns-in_default-clause-put
returns-in_default-clause-put c = put_nowhere (omega (arith, c.in_default.ensures))

pub returns-then-template-room-clause-put : goal.returns-then-template-room-clause-put
returns-then-template-room-clause-put c = put_there (omega (arith, c.in-Some.ensures)) c.put_parts.ensures.wrote

pub returns-else-template-room-clause-put : goal.returns-else-template-room-clause-put
returns-else-template-room-clause-put c = put_nowhere (omega (arith, c.in-Some.ensures))
