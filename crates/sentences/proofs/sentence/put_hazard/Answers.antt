-- `sentences::sentence::put_hazard` meets its contract: each arm writes the words that `hazard_words` has for it.
use Rattle.std.proofs.Common.{arith}
use Rattle.basics.specs.Ascii.{ascii}
use Rattle.text.specs.Words.{filled}
use Rattle.text.specs.Paging.{put_within, filled_within}
use Rattle.sentences.specs.Sentence.{hazard_words}
use Rattle.sentences.proofs.sentence.put_hazard.Goals as goal

pub returns-in-Some : goal.returns-in-Some
unfolding hazard_words ascii
returns-in-Some c = rw (c.in-Some.is, ← c.thread_of-thread.ensures, ← c.slot_of-slot.ensures)
    (filled_within (omega arith) c.requires c.put_filled.ensures.within c.put_filled.ensures.put)

pub returns-in-None : goal.returns-in-None
unfolding hazard_words filled ascii
returns-in-None c = rw c.in-None.is (put_within (omega arith) c.requires c.put_bytes.ensures)
