-- What an input says, by its bytes alone: nothing here asks the machine. "one sizes record, then at most 6,000 steps"
use Rattle.std.specs.Prelude.{ℕ, zero, suc, ◌*◌, cond, List, [], ◌∷◌, length, Ok, Err, Some, None}
use Rattle.entries.specs.declared.Sizes.{Sizes}
use Rattle.entries.specs.Sizes.{in_range}
use Rattle.machine.specs.declared.Call.{Call}
use Rattle.records.specs.declared.Record.TheVariants as record_of
use Rattle.records.specs.Numbers.{malformed_number}
use Rattle.records.specs.Reading.{Read, read_of}
use Rattle.records.specs.Rest.{rest_of}
use Rattle.schedule.specs.Said.{sizes_of, call_of}

-- a step and the calls after it; no call where the record is not a step
unfoldable pub calls_at : Read → List Call → List Call
calls_at (Ok (Some (record_of.Step r))) more = call_of r ∷ more
calls_at (Ok (Some (record_of.Sizes r))) more = []
calls_at (Ok None) more = []
calls_at (Err why) more = []

-- the calls of the step records at the front, of at most so many, up to the first record that is not a step
unfoldable pub calls_up_to : ℕ → List ℕ → List Call
calls_up_to zero bytes = []
calls_up_to (suc most) bytes = calls_at (read_of bytes) (calls_up_to most (rest_of bytes))

-- what is left after so many records
unfoldable pub after : ℕ → List ℕ → List ℕ
after zero bytes = bytes
after (suc records) bytes = after records (rest_of bytes)

-- how an input ends: well, or with the number at which the program stops
pub data Ending : Type 0 where
  ended : Ending
  stopped : ℕ → Ending

-- by what stands after the calls. "42: .. a sizes record comes later. 43: a 6,001st step. A record's own 40, 41 or 44 comes before both."
unfoldable pub ending_at : Read → Ending
ending_at (Ok None) = ended
ending_at (Ok (Some (record_of.Sizes r))) = stopped 42
ending_at (Ok (Some (record_of.Step r))) = stopped 43
ending_at (Err why) = stopped (malformed_number why)

-- an input says a run of a machine of sizes in range, or stops at its first record with a number
pub data Input : Type 0 where
  run : Sizes → List Call → Ending → Input
  no_run : ℕ → Input

-- "20 at the first record"
unfoldable pub sized : Sizes → List ℕ → Input
sized z rest =
    let calls = calls_up_to 6000 rest in
    cond (in_range z) (run z calls (ending_at (read_of (after (length calls) rest)))) (no_run 20)

-- "42: the first record is missing or a step"
unfoldable pub begun : Read → List ℕ → Input
begun (Ok (Some (record_of.Sizes r))) rest = sized (sizes_of r) rest
begun (Ok (Some (record_of.Step r))) rest = no_run 42
begun (Ok None) rest = no_run 42
begun (Err why) rest = no_run (malformed_number why)

unfoldable pub input_of : List ℕ → Input
input_of bytes = begun (read_of bytes) (rest_of bytes)

-- the bytes that decide what an input says, 60,020: a sizes record, 6,000 steps and one record more, of 10 bytes each
abbrev pub input_for_all : ℕ
input_for_all = 6002 * 10
