-- The definitions of the machine and of the records on `unfolding` lines: a statement that the checker computes names `computing` and not each
-- of them.
use Rattle.machine.specs.Computing.{machine_computes}
use Rattle.records.specs.Marks as marks
use Rattle.records.specs.Bytes.{low_first, number_of, sizes_bytes, step_bytes}
use Rattle.records.specs.Reading.{sizes_at, step_at, zeros_at_end}
use Rattle.records.specs.Reading as reading
use Rattle.records.specs.Rest.{rest_after, rest_of}
use Rattle.records.specs.Writing.{answer_of, written_of}
use Rattle.records.specs.Numbers as numbers

unfoldable pub records_compute : Unit {0}
unfolding marks.marked low_first number_of sizes_bytes step_bytes sizes_at step_at zeros_at_end reading.read_of rest_after rest_of answer_of written_of numbers.malformed_number numbers.no_room_number numbers.numbers_of numbers.numbers_of_written
records_compute = tt

unfoldable pub computing : Unit {0}
unfolding machine_computes records_compute
computing = tt
