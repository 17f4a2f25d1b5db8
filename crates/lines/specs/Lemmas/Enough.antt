-- Bytes past those that a run can look at make no difference to its text; and a text is never empty.
use Rattle.std.specs.Prelude.{ℕ, ◌<◌, ◌≡◌, List, [], ◌∷◌, map, length, take}
use Rattle.std.proofs.Common.{arith, length-append}
use Rattle.machine.specs.Fresh.{fresh_of}
use Rattle.schedule.specs.Input.{Input, run, no_run, input_of, input_for_all}
use Rattle.schedule.proofs.Promise as schedule
use Rattle.text.specs.Decimal.{decimal}
use Rattle.text.specs.Fields.{joined}
use Rattle.basics.specs.Ascii.{ascii}
use Rattle.lines.specs.Line.{Line, numbers, end, stop, bytes_of, text}
use Rattle.lines.specs.Run.{sizes_line, stop_line, lines_from, lines_in, lines_of, text_of}

pub enough_read : (input : List ℕ) → text_of (take input_for_all input) ≡ text_of input
unfolding text_of lines_of
enough_read input = rw (schedule.enough_read input)

-- every line has its newline
joined_some : (fields : List (List ℕ)) → 0 < length (joined fields)
unfolding joined
joined_some [] = omega arith
joined_some (field ∷ []) = rw length-append (omega arith)
joined_some (field ∷ next ∷ fields) = rw length-append (omega arith)

line_some : (line : Line) → 0 < length (bytes_of line)
unfolding bytes_of
line_some (numbers ns) = joined_some (map decimal ns)
line_some (end ns) = joined_some (ascii "end" ∷ map decimal ns)
line_some (stop ns) = joined_some (ascii "stop" ∷ map decimal ns)

text_some : (line : Line) (lines : List Line) → 0 < length (text (line ∷ lines))
unfolding text
text_some line lines = rw length-append (omega (arith, line_some line))

some_in : (said : Input) → 0 < length (text (lines_in said))
unfolding lines_in
some_in (run z calls ending) = text_some (sizes_line z) (lines_from 0 (fresh_of z) calls ending)
some_in (no_run number) = text_some (stop_line 0 number) []

pub never_empty : (input : List ℕ) → 0 < length (text_of input)
unfolding text_of lines_of
never_empty input = some_in (input_of input)
