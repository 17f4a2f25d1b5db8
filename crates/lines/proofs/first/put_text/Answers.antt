-- `lines::first::put_text` meets its contract: the sizes' line and the steps' text after it, or the line that stops the run.
use Rattle.std.proofs.Common.{arith}
use Rattle.text.specs.Paging.{then, length_after}
use Rattle.lines.proofs.Runs.{good_text_lem, refused_text}
use Rattle.lines.proofs.first.put_text.Goals as goal

pub put_steps-requires : goal.put_steps-requires
put_steps-requires c =
    let sizes = c.put_sizes.ensures in
    (omega (arith, sizes.within, sizes.wrote.written.next), omega (arith, length_after sizes.wrote (omega (arith, sizes.within))))

pub returns-in-Ok : goal.returns-in-Ok
returns-in-Ok c = rw (good_text_lem _ _ c.open-opened.ensures c.in-Ok.is)
    (then c.put_sizes.ensures.wrote (omega (arith, c.put_sizes.ensures.within, c.requires)) c.put_steps.ensures)

pub returns-in-Err : goal.returns-in-Err
returns-in-Err c = rw (refused_text _ _ c.open-opened.ensures _ c.in-Err.is, ← c.number.ensures)
    c.put_stop.ensures.wrote
