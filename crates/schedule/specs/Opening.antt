-- The machine with which the run of an input begins, or why it stops before any step.
use Rattle.std.specs.Prelude.{ℕ, List, Result, Ok, Err, Some, None}
use Rattle.entries.specs.declared.Sizes.{Sizes}
use Rattle.machine.specs.declared.refusal.Refusal.{Refusal}
use Rattle.machine.specs.Fresh.{fresh_of, blank, start_of}
use Rattle.records.specs.declared.SizesRecord.{SizesRecord}
use Rattle.records.specs.declared.Record.TheVariants as record_of
use Rattle.records.specs.Reading.{Read, read_of}
use Rattle.schedule.specs.declared.Opened.{Opened}
use Rattle.schedule.specs.declared.Stop.{Stop}
use Rattle.schedule.specs.declared.Stop.TheVariants as stop
use Rattle.schedule.specs.Said.{sizes_of}

-- a fresh machine of sizes in range
unfoldable pub opened : Sizes → Opened
opened z = record { state = fresh_of z; verdict = Ok tt }

-- no machine
unfoldable pub unopened : Stop → Opened
unopened why = record { state = blank; verdict = Err why }

-- The sizes that a run begins with. "42: the first record is missing or a step". "A record's own 40, 41 or 44" is its own.
unfoldable pub first_at : Read → Result SizesRecord Stop
first_at (Ok (Some (record_of.Sizes r))) = Ok r
first_at (Ok (Some (record_of.Step r))) = Err stop.SizesNotFirst
first_at (Ok None) = Err stop.SizesNotFirst
first_at (Err why) = Err (stop.Malformed why)

unfoldable pub first_of : List ℕ → Result SizesRecord Stop
first_of input = first_at (read_of input)

-- "20 at the first record" is what starting answers
unfoldable pub verdict_of : Result (Unit {0}) Refusal → Result (Unit {0}) Stop
verdict_of (Ok done) = Ok tt
verdict_of (Err refusal) = Err (stop.Refused refusal)

unfoldable pub opened_by : Result SizesRecord Stop → Opened
opened_by (Ok r) =
    let started = start_of (sizes_of r) in
    record { state = started.state; verdict = verdict_of started.verdict }
opened_by (Err why) = unopened why

unfoldable pub opened_of : List ℕ → Opened
opened_of input = opened_by (first_of input)
