-- What is promised of a run's text beside the contract of `run`. Each proof is a name; the lemmas are in `Lemmas`.
use Rattle.std.specs.Prelude.{ℕ, ◌<◌, ◌≡◌, List, length, take}
use Rattle.lines.specs.Run.{text_of}
use Rattle.schedule.specs.Input.{input_for_all}
use Rattle.lines.specs.Lemmas.Enough as enough

-- 60,020 bytes decide the text: what comes after them is never looked at.
pub enough_read : (input : List ℕ) → text_of (take input_for_all input) ≡ text_of input
enough_read = enough.enough_read

-- A text has at least one line, so `run` answers 0 only where it wrote nothing.
pub never_empty : (input : List ℕ) → 0 < length (text_of input)
never_empty = enough.never_empty
