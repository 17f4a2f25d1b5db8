-- The number with which a run stops.
use Rattle.std.specs.Prelude.{ℕ}
use Rattle.machine.specs.Answers.{number_of}
use Rattle.records.specs.Numbers.{malformed_number}
use Rattle.schedule.specs.declared.Stop.{Stop}
use Rattle.schedule.specs.declared.Stop.TheVariants.{Malformed, Refused, SizesNotFirst, TooManySteps}

-- "20 at the first record", and a record's own 40, 41 or 44. "42: the first record is missing or a step, or a sizes record comes later.
-- 43: a 6,001st step."
unfoldable pub stop_number : Stop → ℕ
stop_number (Malformed why) = malformed_number why
stop_number (Refused refusal) = number_of refusal
stop_number SizesNotFirst = 42
stop_number TooManySteps = 43
