-- `sentences::objects::put_lines` meets its contract: the lines of this object and those after it are still to come.
use Rattle.std.proofs.Common.{arith}
use Rattle.sentences.proofs.Each.{at_first, room_on, on_line, at_end}
use Rattle.sentences.proofs.objects.put_lines.Goals as goal

pub loop-object-init : goal.loop-object-init
loop-object-init c = at_first c.args.state _ c.requires.0

pub put_line-requires : goal.put_line-requires
put_line-requires c = room_on c.args.state c.loop-object.invariant c.requires.1 c.requires.0 (omega arith)

pub loop-object-preserved : goal.loop-object-preserved
loop-object-preserved c =
    on_line c.args.state c.loop-object.invariant c.requires.1 c.requires.0 c.loop-object-test.true (omega arith) c.put_line.ensures

pub returns : goal.returns
returns c = at_end c.args.state c.loop-object.invariant c.requires.1 c.requires.0 c.loop-object-test.false

pub returns-2 : goal.returns-2
returns-2 c =
    at_end c.args.state
    (on_line c.args.state c.loop-object.invariant c.requires.1 c.requires.0 c.loop-object-test.true (omega arith) c.put_line.ensures)
    c.requires.1 c.requires.0
    (omega arith)
