-- The pulled card of specs/PulledCard, computed.
use Rattle.std.specs.Prelude.{◌≡◌, refl}
use Rattle.std.proofs.Common.{◌∙◌}
use Rattle.basics.specs.First as first
use Rattle.text.specs.Decimal.{digits, decimal}
use Rattle.reasons.specs.Reasons as reasons
use Rattle.basics.specs.Ascii.{ascii}
use Rattle.text.specs.Words.{filled}
use Rattle.sentences.specs.Sentence.{thread_of, slot_of, guard_words, reason_words, hazard_words, line_of}
use Rattle.sentences.specs.Told.{lines_from, lines_of, text_of}
use Rattle.schedule.specs.Input.{input_of}
use Rattle.worked.specs.Printing.{quick_sentences, sentences_quick, printing}
use Rattle.worked.specs.PulledCard.{said, schedule}

quickly : quick_sentences (input_of schedule) ≡ said
unfolding printing first.first_from digits decimal reasons.guard_of reasons.link_with reasons.hand_with reasons.carrier_of reasons.handover_with reasons.reason_of reasons.hazard_at reasons.hazard_of reasons.refusals reasons.refusal_of reasons.why_of ascii filled thread_of slot_of guard_words reason_words hazard_words line_of lines_from lines_of schedule said
quickly = refl

pub card_told : text_of schedule ≡ said
card_told = sentences_quick schedule ∙ quickly
