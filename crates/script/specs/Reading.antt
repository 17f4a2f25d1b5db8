-- The fields of a line, one after the other. The first that is wrong is the line's fault, and no field after it is read.
use Rattle.std.specs.Prelude.{ℕ, List, cond, ltb, Result, Ok, Err}
use Rattle.words.specs.declared.Word.{Word}
use Rattle.words.specs.declared.Why.{Why}
use Rattle.words.specs.declared.Why.TheVariants.{TooMany}
use Rattle.script.specs.declared.Place.{Place}
use Rattle.script.specs.declared.Place.TheVariants as place
use Rattle.script.specs.declared.Fault.{Fault}
use Rattle.words.specs.Words.{word_at, bytes_of}
use Rattle.words.specs.Numbers.{byte_of}
use Rattle.words.specs.Fields.{operation_of, byte_or_zero, slot_of, tag_of}

-- a line is read up to its first fault
infixl 10 ◌>>=◌
abbrev pub ◌>>=◌ : {A B : Type 0} → Result A Fault → (A → Result B Fault) → Result B Fault
Ok value >>= next = next value
Err first >>= next = Err first

abbrev pub fault : Why → Place → Word → Fault
fault why place word = record { why = why; place = place; word = word }

-- what a word says in its place
unfoldable pub placed : {A : Type 0} → Place → Word → Result A Why → Result A Fault
placed place word (Ok value) = Ok value
placed place word (Err why) = Err (fault why place word)

-- what is left of a line after its next word: all after it
unfoldable pub after : List ℕ → ℕ → ℕ
after text at = (word_at text at).to

-- each kind of field, in the next word from a place on

unfoldable pub byte_at : List ℕ → ℕ → Place → Result ℕ Fault
byte_at text at place = placed place (word_at text at) (byte_of (bytes_of text (word_at text at)))

unfoldable pub operation_at : List ℕ → ℕ → Result ℕ Fault
operation_at text at = placed place.Operation (word_at text at) (operation_of (bytes_of text (word_at text at)))

unfoldable pub slot_at : List ℕ → ℕ → ℕ → Result ℕ Fault
slot_at text at operation = placed place.Slot (word_at text at) (slot_of operation (bytes_of text (word_at text at)))

unfoldable pub link_at : List ℕ → ℕ → Result ℕ Fault
link_at text at = placed place.Link (word_at text at) (byte_or_zero (bytes_of text (word_at text at)))

unfoldable pub tag_at : List ℕ → ℕ → Result ℕ Fault
tag_at text at = placed place.Tag (word_at text at) (tag_of (bytes_of text (word_at text at)))

-- what a line says after its last field: a word more is one too many

unfoldable pub without_more : Place → Word → Result (Unit {0}) Fault
without_more place word = cond (ltb word.from word.to) (Err (fault TooMany place word)) (Ok tt)

unfoldable pub ended_of : List ℕ → ℕ → Place → Result (Unit {0}) Fault
ended_of text at place = without_more place (word_at text at)
