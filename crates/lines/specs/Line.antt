-- A line of the program, and its bytes.
use Rattle.std.specs.Prelude.{ℕ, List, [], ◌∷◌, ◌++◌, map}
use Rattle.text.specs.Decimal.{decimal}
use Rattle.text.specs.Fields.{joined}
use Rattle.basics.specs.Ascii.{ascii}

-- a line of numbers alone, or one that begins with `end` or `stop`
pub data Line : Type 0 where
  numbers : List ℕ → Line
  end : List ℕ → Line
  stop : List ℕ → Line

-- a line's bytes: "Fields are separated by one space"
unfoldable pub bytes_of : Line → List ℕ
bytes_of (numbers ns) = joined (map decimal ns)
bytes_of (end ns) = joined (ascii "end" ∷ map decimal ns)
bytes_of (stop ns) = joined (ascii "stop" ∷ map decimal ns)

-- Room for every line. The longest is a step's: at most 4 digits of its number, 3 each of thread, operation and answer, 10 each of a and b,
-- and a byte after each of the six make 39.
abbrev pub line_room : ℕ
line_room = 40

-- the bytes of lines one after the other
unfoldable pub text : List Line → List ℕ
text [] = []
text (line ∷ lines) = bytes_of line ++ text lines
