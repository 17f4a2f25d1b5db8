-- A whole text as records.
use Rattle.std.specs.Prelude.{ℕ, zero, suc, ◌+◌, ◌-◌, ◌≤◌, List, [], ◌++◌, cond, length, take, drop, eqb, ltb, Some, None, Result, Ok, Err}
use Rattle.records.specs.Bytes.{sizes_bytes, step_bytes}
use Rattle.records.specs.declared.Record.TheVariants.{Sizes, Step}
use Rattle.words.specs.declared.Why.{Why}
use Rattle.words.specs.declared.Why.TheVariants.{NoSizes, NoRoom}
use Rattle.script.specs.declared.Place.TheVariants.{Whole}
use Rattle.script.specs.declared.Fault.{Fault}
use Rattle.script.specs.declared.Wrong.{Wrong}
use Rattle.words.specs.declared.Run.TheVariants as run
use Rattle.words.specs.Words.{run_of}
use Rattle.script.specs.Lines.{Line, line_of}

-- the line after the one from this place on; the text's end is the end of the last
unfoldable pub next_line : List ℕ → ℕ → ℕ
next_line text at =
    let end = at + run_of run.Line (drop at text) in
    cond (ltb end (length text)) (end + 1) end

-- a fault of no word
abbrev pub fault_of : Why → Fault
fault_of why = record { why = why; place = Whole; word = record { from = 0; to = 0 } }

-- a record has no room in the buffer
abbrev pub no_room : Fault
no_room = fault_of NoRoom

-- a buffer after bytes were written over those from a place on
unfoldable pub put : ℕ → List ℕ → List ℕ → List ℕ
put at bytes buffer = take at buffer ++ (bytes ++ drop (at + length bytes) buffer)

-- how many bytes are full after one more line, or what is wrong with it
abbrev pub Took : Type 0
Took = Result ℕ Fault

-- the record that a line says, in a buffer of so much room of which so much is full

abbrev pub room_for : ℕ → ℕ → List ℕ → List ℕ
room_for room full bytes = cond (ltb (room - full) 10) [] bytes

unfoldable pub added_by : ℕ → ℕ → Line → List ℕ
added_by room full (Ok None) = []
added_by room full (Ok (Some (Sizes r))) = room_for room full (sizes_bytes r)
added_by room full (Ok (Some (Step r))) = room_for room full (step_bytes r)
added_by room full (Err fault) = []

abbrev pub full_after : ℕ → ℕ → Took
full_after room full = cond (ltb (room - full) 10) (Err no_room) (Ok (full + 10))

unfoldable pub took_of : ℕ → ℕ → Line → Took
took_of room full (Ok None) = Ok full
took_of room full (Ok (Some (Sizes r))) = full_after room full
took_of room full (Ok (Some (Step r))) = full_after room full
took_of room full (Err fault) = Err fault

-- how many bytes the records of a text fill, or its first wrong line
abbrev pub Packed : Type 0
Packed = Result ℕ Wrong

-- a fault in the line of this number
abbrev pub wrong : ℕ → Fault → Wrong
wrong line fault = record { line = line; fault = fault }

-- what a text gives: the records' bytes up to the end or the first line that is wrong, and what is said
pub record Outcome : Type 0 where
  pub bytes : List ℕ
  pub said : Packed

-- at the text's end there must have been sizes
unfoldable pub finish : ℕ → List ℕ → Outcome
finish line done =
    record { bytes = done; said = cond (eqb (length done) 0) (Err (wrong line (fault_of NoSizes))) (Ok (length done)) }

-- after a line was taken: on with the next, or the end at a fault
unfoldable pub go_on : ℕ → List ℕ → (List ℕ → Outcome) → Took → Outcome
go_on line done next (Ok n) = next done
go_on line done next (Err fault) = record { bytes = done; said = Err (wrong line fault) }

-- the lines from a place on, of at most so many, the first of this number, after the bytes of the records before
unfoldable pub pack_from : ℕ → ℕ → List ℕ → ℕ → ℕ → List ℕ → Outcome
pack_from zero room text at line done = finish line done
pack_from (suc lines) room text at line done =
    let full = length done in
    let said = line_of text at (eqb full 0) in
    cond (ltb at (length text))
    (go_on line (done ++ added_by room full said) (pack_from lines room text (next_line text at) (line + 1)) (took_of room full said))
    (finish line done)

-- a text has at most as many lines as bytes
unfoldable pub pack_of : ℕ → List ℕ → Outcome
pack_of room text = pack_from (length text) room text 0 1 []

-- the records fill no more than the buffer's room
abbrev pub Within : Packed → ℕ → Type 0
Within (Ok n) room = n ≤ room
Within (Err wrong) room = Unit {0}
