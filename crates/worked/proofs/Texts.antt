-- The texts of specs/Texts, packed.
use Rattle.std.specs.Prelude.{◌≡◌, refl, [], ◌∷◌, Ok, Err}
use Rattle.basics.specs.Ascii.{ascii}
use Rattle.records.specs.Bytes.{sizes_bytes, step_bytes, low_first}
use Rattle.words.specs.declared.Why.TheVariants.{NotOperation}
use Rattle.words.specs.Words.{kind_of, goes_on, run_of, word_at, bytes_of}
use Rattle.words.specs.Numbers.{is_digit, all_digits, worth_after, worth_of, fitting, spelled, number_of, byte_of}
use Rattle.words.specs.Names.{same_bytes, number_of_operation, if_named, named_of, no_slot}
use Rattle.words.specs.Fields.{named_or, operation_of, byte_or_zero, slot_of, tag_of}
use Rattle.script.specs.declared.Place.TheVariants.{Operation}
use Rattle.script.specs.Reading.{placed, after, byte_at, operation_at, slot_at, link_at, tag_at, without_more, ended_of}
use Rattle.script.specs.Lines.{sizes_line, step_line, lined, line_of}
use Rattle.script.specs.Packing.{next_line, added_by, took_of, finish, go_on, pack_from, pack_of}
use Rattle.worked.specs.Texts.{bad_text, good_text}

-- three records: the sizes, a swap with slot 255, and a step by number whose tag 70000 is 112 17 1 0, low byte first
pub good_text_packed : pack_of 40 good_text ≡ record { bytes = 84 ∷ 83 ∷ 2 ∷ 1 ∷ 1 ∷ 3 ∷ 0 ∷ 0 ∷ 0 ∷ 0 ∷ 84 ∷ 75 ∷ 0 ∷ 3 ∷ 255 ∷ 0 ∷ 0 ∷ 0 ∷ 0 ∷ 0 ∷ 84 ∷ 75 ∷ 1 ∷ 7 ∷ 0 ∷ 0 ∷ 112 ∷ 17 ∷ 1 ∷ 0 ∷ []; said = Ok 30 }
unfolding ascii sizes_bytes step_bytes low_first kind_of goes_on run_of word_at bytes_of is_digit all_digits worth_after worth_of fitting spelled number_of byte_of same_bytes number_of_operation if_named named_of no_slot named_or operation_of byte_or_zero slot_of tag_of placed after byte_at operation_at slot_at link_at tag_at without_more ended_of sizes_line step_line lined line_of next_line added_by took_of finish go_on pack_from pack_of
good_text_packed = refl

-- line 2 is wrong: its second word, the bytes 10 to 13 of the text, is no operation
pub bad_text_said : (pack_of 40 bad_text).said ≡ Err (record { line = 2; fault = record { why = NotOperation; place = Operation; word = record { from = 10; to = 13 } } })
unfolding ascii sizes_bytes step_bytes low_first kind_of goes_on run_of word_at bytes_of is_digit all_digits worth_after worth_of fitting spelled number_of byte_of same_bytes number_of_operation if_named named_of no_slot named_or operation_of byte_or_zero slot_of tag_of placed after byte_at operation_at slot_at link_at tag_at without_more ended_of sizes_line step_line lined line_of next_line added_by took_of finish go_on pack_from pack_of
bad_text_said = refl
