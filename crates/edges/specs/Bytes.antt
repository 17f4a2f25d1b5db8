-- Reading and writing of schedule records, as lines of numbers.
use Rattle.std.specs.Prelude.{ℕ, List, [], ◌∷◌}
use Rattle.records.specs.declared.StepRecord.{StepRecord}
use Rattle.records.specs.Bytes.{step_bytes}
use Rattle.records.specs.Reading.{read_of}
use Rattle.records.specs.Rest.{rest_of}
use Rattle.records.specs.Writing.{answer_of, written_of}
use Rattle.records.specs.Numbers.{numbers_of, numbers_of_written}

-- a take by thread 0 with the largest tag that 32 bits hold
abbrev pub largest_tag : StepRecord
largest_tag = record { thread = 0; operation = 1; slot = 0; link = 0; tag = 4294967295 }

-- what reading finds, and the rest
unfoldable pub read_picture : List ℕ → List (List ℕ)
read_picture input = numbers_of (read_of input) ∷ rest_of input ∷ []

-- a step written into a buffer: the answer, the buffer after it, and what reading finds there
unfoldable pub written_picture : StepRecord → List ℕ → List (List ℕ)
written_picture r buffer =
    let bytes = written_of (step_bytes r) buffer in
    numbers_of_written (answer_of buffer) ∷ bytes ∷ read_picture bytes
