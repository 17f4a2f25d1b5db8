-- Bytes written into a lent buffer.
use Rattle.std.specs.Prelude.{ℕ, ◌+◌, ◌≡◌, Bool, cond, List, ◌++◌, length, take, drop, ltb}

-- the buffer with these bytes from a place on, and all others untouched
unfoldable pub written : List ℕ → ℕ → List ℕ → List ℕ
written buffer place bytes = take place buffer ++ bytes ++ drop (place + length bytes) buffer

-- what a function that writes bytes at a place of a buffer says of the buffer after it and of its answer, the place after the bytes
pub record Appended (before : List ℕ) (place : ℕ) (bytes after : List ℕ) (answer : ℕ) : Type 0 where
  pub next : answer ≡ place + length bytes
  pub buffer : after ≡ written before place bytes

-- ---- a function that asks for so much room from the place on, and does nothing where there is less

-- whether a buffer has less than that room
abbrev pub too_small : ℕ → ℕ → List ℕ → Bool
too_small room place buffer = ltb (length buffer) (place + room)

-- its answer: the place after the bytes, or the place itself
unfoldable pub place_after : ℕ → List ℕ → ℕ → List ℕ → ℕ
place_after room bytes place buffer = cond (too_small room place buffer) place (place + length bytes)

-- the buffer after it: with the bytes in it, or as it was
unfoldable pub buffer_after : ℕ → List ℕ → ℕ → List ℕ → List ℕ
buffer_after room bytes place buffer = cond (too_small room place buffer) buffer (written buffer place bytes)

-- what such a function says of the buffer after it and of its answer
pub record Put (room : ℕ) (bytes before : List ℕ) (place : ℕ) (after : List ℕ) (answer : ℕ) : Type 0 where
  pub next : answer ≡ place_after room bytes place before
  pub buffer : after ≡ buffer_after room bytes place before

-- the same where the room that it asks for is what the bytes take
abbrev pub PutWhole : List ℕ → List ℕ → ℕ → List ℕ → ℕ → Type 0
PutWhole bytes before place after answer = Put (length bytes) bytes before place after answer
