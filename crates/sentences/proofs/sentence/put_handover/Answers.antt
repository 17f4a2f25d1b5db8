-- `sentences::sentence::put_handover` meets its contract: the words of the handover and then those of its guard.
use Rattle.std.proofs.Common.{arith}
use Rattle.basics.specs.Ascii.{ascii}
use Rattle.text.specs.Paging.{filled_within, room_after, then_within}
use Rattle.sentences.specs.Sentence.{reason_words}
use Rattle.sentences.specs.Lent.{guard_room}
use Rattle.sentences.proofs.sentence.put_handover.Goals as goal

pub put_guard-requires : goal.put_guard-requires
put_guard-requires c =
    room_after 210 guard_room c.requires (filled_within (omega arith) (omega arith) c.put_filled.ensures.within c.put_filled.ensures.put)

pub returns : goal.returns
unfolding reason_words ascii
returns c =
    rw (← c.thread_of-thread.ensures, ← c.slot_of-slot.ensures)
    (then_within 210 guard_room c.requires (filled_within (omega arith) (omega arith) c.put_filled.ensures.within c.put_filled.ensures.put) c.put_guard.ensures)
