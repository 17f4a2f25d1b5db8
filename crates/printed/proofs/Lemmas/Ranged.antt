-- The sizes of a run that an input says are in range.
use Rattle.std.specs.Prelude.{ℕ, ◌≡◌, true, List, Ok, Err, Some, None}
use Rattle.basics.specs.Tests.{by_test}
use Rattle.entries.specs.declared.Sizes.{Sizes}
use Rattle.entries.specs.Sizes.{in_range}
use Rattle.machine.specs.declared.Call.{Call}
use Rattle.records.specs.declared.Record.TheVariants.{Sizes as sizes_record, Step as step_record}
use Rattle.records.specs.Reading.{Read, read_of}
use Rattle.records.specs.Rest.{rest_of}
use Rattle.schedule.specs.Said.{sizes_of}
use Rattle.schedule.specs.Input.{Ending, Input, run, no_run, sized, begun, input_of}

abbrev Ranged : Input → Type 0
Ranged (run z calls ending) = in_range z ≡ true
Ranged (no_run number) = Unit {0}

sized_ranged : (z : Sizes) (rest : List ℕ) → Ranged (sized z rest)
unfolding sized
sized_ranged z rest = by_test (Ranged (sized z rest)) (in_range z) (λ good. rw good good) (λ bad. rw bad tt)

begun_ranged : (found : Read) (rest : List ℕ) → Ranged (begun found rest)
unfolding begun
begun_ranged (Ok (Some (sizes_record r))) rest = sized_ranged (sizes_of r) rest
begun_ranged (Ok (Some (step_record r))) rest = tt
begun_ranged (Ok None) rest = tt
begun_ranged (Err why) rest = tt

pub in_range_lem : (input : List ℕ) (z : Sizes) (calls : List Call) (ending : Ending) → input_of input ≡ run z calls ending → in_range z ≡ true
unfolding input_of
in_range_lem input z calls ending e = rw e at (begun_ranged (read_of input) (rest_of input))
