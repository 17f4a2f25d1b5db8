-- `text::page::Page::put_line` meets its contract: the line where it fits, and nothing where it does not.
use Rattle.std.proofs.Common.{sym, ◌∙◌, arith, ltb-true, ltb-false}
use Rattle.text.specs.Joining.{no_fields}
use Rattle.text.specs.Paging.{put_there, put_nowhere}
use Rattle.text.proofs.page.Page.put_line.Goals as goal

pub returns-in_default : goal.returns-in_default
returns-in_default c = rw (no_fields c.args.numbers.now c.in_default.ensures.cases) c.put_bytes.ensures

pub returns-in_default-room : goal.returns-in_default-room
returns-in_default-room c = put_nowhere (omega (arith, c.in_default-room.ensures))

pub returns-then-not-is_longer : goal.returns-then-not-is_longer
returns-then-not-is_longer c =
    put_there (omega (arith, c.in-Some-room.ensures, ltb-false _ _ (sym c.is_longer.ensures ∙ c.if-not-is_longer.true)))
    (rw (← c.in-Some.ensures.cases.0) at c.put_numbers.ensures)

pub returns-else-not-is_longer : goal.returns-else-not-is_longer
returns-else-not-is_longer c =
    put_nowhere (omega (arith, c.in-Some-room.ensures, ltb-true _ _ (sym c.is_longer.ensures ∙ c.if-not-is_longer.false)))
