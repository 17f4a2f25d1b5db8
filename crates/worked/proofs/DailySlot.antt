-- The day of specs/DailySlot, computed.
use Rattle.std.specs.Prelude.{◌≡◌, refl}
use Rattle.std.proofs.Common.{◌∙◌}
use Rattle.lines.specs.Run.{lines_of}
use Rattle.schedule.specs.Input.{input_of}
use Rattle.worked.specs.Printing.{quick_lines, lines_quick, printing}
use Rattle.worked.specs.DailySlot.{printed, schedule}

quickly : quick_lines (input_of schedule) ≡ printed
unfolding printing schedule printed
quickly = refl

pub day_run : lines_of schedule ≡ printed
day_run = lines_quick schedule ∙ quickly
