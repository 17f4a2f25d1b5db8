-- `sentences::sentence::put_reason` meets its contract: each arm writes the words that `reason_words` has for it.
use Rattle.std.proofs.Common.{arith}
use Rattle.basics.specs.Ascii.{ascii}
use Rattle.text.specs.Paging.{filled_within}
use Rattle.sentences.specs.Sentence.{reason_words}
use Rattle.sentences.proofs.sentence.put_reason.Goals as goal

pub returns-in-Link : goal.returns-in-Link
unfolding reason_words ascii
returns-in-Link c = rw c.in-Link.is (filled_within (omega arith) c.requires c.put_filled.ensures.within c.put_filled.ensures.put)

pub returns-in-Hand : goal.returns-in-Hand
unfolding reason_words ascii
returns-in-Hand c = rw c.in-Hand.is (filled_within (omega arith) c.requires c.put_filled-in-Hand.ensures.within c.put_filled-in-Hand.ensures.put)

pub returns-in-Carried : goal.returns-in-Carried
unfolding reason_words ascii
returns-in-Carried c = rw c.in-Carried.is (filled_within (omega arith) c.requires c.put_filled-in-Carried.ensures.within c.put_filled-in-Carried.ensures.put)

pub returns-in-Handover : goal.returns-in-Handover
returns-in-Handover c = rw c.in-Handover.is c.put_handover.ensures
