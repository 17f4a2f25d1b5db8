-- What `tell` answers, and what a lent buffer holds after it.
use Rattle.std.specs.Prelude.{ℕ, ◌+◌, ◌*◌, cond, List, ◌++◌, length, drop, ltb}
use Rattle.sentences.specs.Told.{text_of}

-- Room for the parts of a line, three bytes for each byte of the longest template and some more: 43 bytes of a guard's words, 68 of a
-- handover's before them, 46 of a hazard's.

abbrev pub guard_room : ℕ
guard_room = 130

abbrev pub reason_room : ℕ
reason_room = 210 + guard_room

abbrev pub hazard_room : ℕ
hazard_room = 140

abbrev pub line_room : ℕ
line_room = reason_room + hazard_room

-- room for every text, 122,880 bytes: an object's number is a byte, so there are fewer than 256 lines, each of at most 480
abbrev pub room_for_all : ℕ
room_for_all = 256 * line_room

-- how many bytes were written: the text's length, or 0 where the buffer is smaller than that room
unfoldable pub answer_of : List ℕ → List ℕ → ℕ
answer_of input buffer = cond (ltb (length buffer) room_for_all) 0 (length (text_of input))

-- the text, and then the buffer's other bytes untouched; a buffer that is smaller is untouched whole
unfoldable pub buffer_of : List ℕ → List ℕ → List ℕ
buffer_of input buffer =
    cond (ltb (length buffer) room_for_all) buffer (text_of input ++ drop (length (text_of input)) buffer)
