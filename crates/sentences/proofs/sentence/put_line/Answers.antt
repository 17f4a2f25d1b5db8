-- `sentences::sentence::put_line` meets its contract: the words of the reason and then those of the hazard.
use Rattle.text.specs.Paging.{none, room_after, then_within}
use Rattle.std.proofs.Common.{zero-le}
use Rattle.sentences.specs.Sentence.{line_of}
use Rattle.sentences.specs.Lent.{reason_room, hazard_room}
use Rattle.sentences.proofs.sentence.put_line.Goals as goal

pub put_hazard-requires : goal.put_hazard-requires
put_hazard-requires c = room_after reason_room hazard_room c.requires c.put_reason.ensures

pub returns-in-Ok : goal.returns-in-Ok
unfolding line_of
returns-in-Ok c = rw (← c.why.ensures, c.in-Ok.is) (then_within reason_room hazard_room c.requires c.put_reason.ensures c.put_hazard.ensures)

pub returns-in_default : goal.returns-in_default
unfolding line_of
returns-in_default c = rw (← c.why.ensures, c.in_default.is) (record { within = zero-le; wrote = none _ })
