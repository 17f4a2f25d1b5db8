-- What the run answers, and what a lent buffer holds after it.
use Rattle.std.specs.Prelude.{ℕ, ◌*◌, cond, List, ◌++◌, length, drop, ltb}
use Rattle.lines.specs.Line.{line_room}
use Rattle.lines.specs.Run.{text_of}

-- room for every run, 240,080 bytes: 6,002 lines of at most 40
abbrev pub room_for_all : ℕ
room_for_all = 6002 * line_room

-- how many bytes were written: the text's length, which is never 0, or 0 where the buffer is smaller than that room
unfoldable pub answer_of : List ℕ → List ℕ → ℕ
answer_of input buffer = cond (ltb (length buffer) room_for_all) 0 (length (text_of input))

-- the text of the input, and then the buffer's other bytes untouched; a buffer that is smaller is untouched whole
unfoldable pub buffer_of : List ℕ → List ℕ → List ℕ
buffer_of input buffer =
    cond (ltb (length buffer) room_for_all) buffer (text_of input ++ drop (length (text_of input)) buffer)
