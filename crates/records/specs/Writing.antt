-- What writing answers, and what the buffer holds after it. "Writing into fewer than 10 bytes is refused 45 and changes nothing;
-- otherwise the first ten bytes are the record and the others are untouched."
use Rattle.std.specs.Prelude.{ℕ, List, ◌++◌, cond, length, drop, ltb, Result, Ok, Err}
use Rattle.records.specs.declared.NoRoom.{NoRoom}

-- done, or no room
abbrev pub Written : Type 0
Written = Result (Unit {0}) NoRoom

-- the answer, from the buffer as it was
unfoldable pub answer_of : List ℕ → Written
answer_of buffer = cond (ltb (length buffer) 10) (Err (record {})) (Ok tt)

-- the buffer after ten bytes of a record were written into it
unfoldable pub written_of : List ℕ → List ℕ → List ℕ
written_of ten buffer = cond (ltb (length buffer) 10) buffer (ten ++ drop 10 buffer)
