-- What the contract of a function that puts bytes says where there is room, and where there is not.
use Rattle.std.specs.Prelude.{ℕ, ◌+◌, ◌≤◌, ◌<◌, List, length}
use borrow.Author.Tests.{lt-ltb, le-ltb}
use Rattle.text.specs.Written.{Appended, place_after, buffer_after, Put}

module _ {room place : ℕ} {bytes before : List ℕ} where
  -- where there is room, the bytes are written
  pub fitted : {after : List ℕ} {answer : ℕ} → place + room ≤ length before → Put room bytes before place after answer → Appended before place bytes after answer
  unfolding place_after buffer_after
  fitted h p =
      let there = le-ltb (length before) (place + room) h in
      record { next = simp there at p.next; buffer = simp there at p.buffer }

  pub put_there : {after : List ℕ} {answer : ℕ} → place + room ≤ length before → Appended before place bytes after answer → Put room bytes before place after answer
  unfolding place_after buffer_after
  put_there h a =
      let there = le-ltb (length before) (place + room) h in
      record { next = simp there a.next; buffer = simp there a.buffer }

  -- where there is none, nothing is
  pub put_nowhere : length before < place + room → Put room bytes before place before place
  unfolding place_after buffer_after
  put_nowhere h =
      let small = lt-ltb (length before) (place + room) h in
      record { next = simp small; buffer = simp small }
