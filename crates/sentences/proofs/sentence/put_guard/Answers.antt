-- `sentences::sentence::put_guard` meets its contract: each arm writes the words that `guard_words` has for it.
use Rattle.std.proofs.Common.{arith}
use Rattle.basics.specs.Ascii.{ascii}
use Rattle.text.specs.Words.{filled}
use Rattle.text.specs.Paging.{put_within}
use Rattle.sentences.specs.Sentence.{guard_words}
use Rattle.sentences.proofs.sentence.put_guard.Goals as goal

pub returns-in-Protected : goal.returns-in-Protected
unfolding guard_words filled ascii
returns-in-Protected c = rw c.in-Protected.is (put_within (omega arith) c.requires c.put_bytes.ensures)

pub returns-in-Published : goal.returns-in-Published
unfolding guard_words filled ascii
returns-in-Published c = rw c.in-Published.is (put_within (omega arith) c.requires c.put_bytes-in-Published.ensures)

pub returns-in-Otherwise : goal.returns-in-Otherwise
unfolding guard_words filled ascii
returns-in-Otherwise c = rw c.in-Otherwise.is (put_within (omega arith) c.requires c.put_bytes-in-Otherwise.ensures)
