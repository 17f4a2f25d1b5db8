-- The run of specs/WorkedRun, computed: its lines and its text.
use Rattle.std.specs.Prelude.{◌≡◌, refl}
use Rattle.std.proofs.Common.{ap, ◌∙◌}
use Rattle.text.specs.Decimal.{digits, decimal}
use Rattle.text.specs.Fields.{joined}
use Rattle.basics.specs.Ascii.{ascii}
use Rattle.lines.specs.Line.{bytes_of, text}
use Rattle.lines.specs.Run.{lines_of, text_of}
use Rattle.schedule.specs.Input.{input_of}
use Rattle.worked.specs.Printing.{quick_lines, lines_quick, printing}
use Rattle.worked.specs.WorkedRun.{printed, printed_text, schedule}

quickly : quick_lines (input_of schedule) ≡ printed
unfolding printing schedule printed
quickly = refl

pub worked_run : lines_of schedule ≡ printed
worked_run = lines_quick schedule ∙ quickly

in_bytes : text printed ≡ printed_text
unfolding digits decimal joined ascii bytes_of text printed printed_text
in_bytes = refl

pub worked_text : text_of schedule ≡ printed_text
unfolding text_of
worked_text = ap text worked_run ∙ in_bytes
