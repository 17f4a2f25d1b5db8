-- The first record by `opened_of` and by `input_of`.
use Rattle.std.specs.Prelude.{ℕ, ◌≡◌, refl, List, length, Ok, Err, Some, None}
use Rattle.basics.specs.Tests.{by_test}
use Rattle.entries.specs.declared.Sizes.{Sizes}
use Rattle.entries.specs.Sizes.{in_range}
use Rattle.machine.specs.declared.Call.{Call}
use Rattle.machine.specs.declared.refusal.Refusal.TheVariants.{SizeOutOfRange}
use Rattle.machine.specs.Answers.{number_of}
use Rattle.machine.specs.Fresh.{start_of}
use Rattle.records.specs.declared.SizesRecord.{SizesRecord}
use Rattle.records.specs.declared.Record.TheVariants as record_of
use Rattle.records.specs.Reading.{Read, read_of}
use Rattle.records.specs.Rest.{rest_of}
use Rattle.schedule.specs.declared.Opened.{Opened}
use Rattle.schedule.specs.declared.Stop.{Stop}
use Rattle.schedule.specs.declared.Stop.TheVariants.{Malformed, Refused, SizesNotFirst}
use Rattle.schedule.specs.Stopping.{stop_number}
use Rattle.schedule.specs.Said.{sizes_of}
use Rattle.schedule.specs.Input.{after, Ending, Input, run, no_run, sized, begun, input_of}
use Rattle.schedule.specs.Opening.{opened, unopened, first_at, first_of, verdict_of, opened_by, opened_of}
use Rattle.schedule.specs.Asked.{found_of, found_in}
use Rattle.schedule.proofs.Lemmas.Asked.{asked}

-- what the first record opens and what is found after it are what the input says
abbrev Fits : Input → Opened → List ℕ → Type 0
Fits (run z calls ending) by rest =
    (by ≡ opened z) ×
    (found_of rest ≡ record { calls = calls; ending = ending; left = after (length calls) rest })
Fits (no_run number) by rest = (why : Stop) × ((by ≡ unopened why) × (stop_number why ≡ number))

fits_none : (why : Stop) (rest : List ℕ) → Fits (no_run (stop_number why)) (unopened why) rest
fits_none why rest = (why, (refl, refl))

sized_fits : (r : SizesRecord) (rest : List ℕ) → Fits (sized (sizes_of r) rest) (opened_by (Ok r)) rest
unfolding sized start_of opened unopened opened_by verdict_of found_in stop_number number_of
sized_fits r rest =
    by_test (Fits (sized (sizes_of r) rest) (opened_by (Ok r)) rest) (in_range (sizes_of r)) (λ good. rw good (refl, asked rest)) (λ bad. rw bad (fits_none (Refused SizeOutOfRange) rest))

begun_fits : (found : Read) (rest : List ℕ) → Fits (begun found rest) (opened_by (first_at found)) rest
unfolding begun first_at opened_by stop_number
begun_fits (Ok (Some (record_of.Sizes r))) rest = sized_fits r rest
begun_fits (Ok (Some (record_of.Step r))) rest = fits_none SizesNotFirst rest
begun_fits (Ok None) rest = fits_none SizesNotFirst rest
begun_fits (Err why) rest = fits_none (Malformed why) rest

fits : (input : List ℕ) (said : Input) → input_of input ≡ said → Fits said (opened_of input) (rest_of input)
unfolding input_of opened_of first_of
fits input said e = rw e at (begun_fits (read_of input) (rest_of input))

pub run_found :
    (input : List ℕ) (z : Sizes) (calls : List Call) (ending : Ending) → input_of input ≡ run z calls ending →
    (opened_of input ≡ opened z) ×
    (found_of (rest_of input) ≡ record { calls = calls; ending = ending; left = after (length calls) (rest_of input) })
run_found input z calls ending e = fits input (run z calls ending) e

pub none_opened :
    (input : List ℕ) (number : ℕ) → input_of input ≡ no_run number →
    (why : Stop) × ((opened_of input ≡ unopened why) × (stop_number why ≡ number))
none_opened input number e = fits input (no_run number) e
