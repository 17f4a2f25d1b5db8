-- What is promised of reading a run: asking for one thing after the other gives the run that the bytes say. Each proof is a name; the
-- lemmas are in `Lemmas`.
use Rattle.std.specs.Prelude.{ℕ, ◌≡◌, List, length, take}
use Rattle.entries.specs.declared.Sizes.{Sizes}
use Rattle.machine.specs.declared.Call.{Call}
use Rattle.records.specs.Rest.{rest_of}
use Rattle.schedule.specs.declared.Stop.{Stop}
use Rattle.schedule.specs.Stopping.{stop_number}
use Rattle.schedule.specs.Input.{calls_up_to, after, Ending, run, no_run, input_of, input_for_all}
use Rattle.schedule.specs.Opening.{opened, unopened, opened_of}
use Rattle.schedule.specs.Asked.{found_of, found_in}
use Rattle.schedule.proofs.Lemmas.Asked as asked
use Rattle.schedule.proofs.Lemmas.Begun as begun
use Rattle.schedule.proofs.Lemmas.Enough as enough
use Rattle.schedule.proofs.Lemmas.Told as told

-- From any bytes: asking finds the calls of the step records at their front, 6,000 at most, what stands after those, and the bytes there.
pub asking_finds : (bytes : List ℕ) → found_of bytes ≡ found_in bytes (calls_up_to 6000 bytes)
asking_finds = asked.asked

-- The run that an input says: its first record opens the fresh machine of its sizes; from the bytes after that record asking finds its
-- calls and its end. What is left then are the bytes after the sizes and one record a call: there a reader of several runs goes on.
pub run_found :
    (input : List ℕ) (z : Sizes) (calls : List Call) (ending : Ending) → input_of input ≡ run z calls ending →
    (opened_of input ≡ opened z) ×
    (found_of (rest_of input) ≡ record { calls = calls; ending = ending; left = after (length calls) (rest_of input) })
run_found = begun.run_found

-- An input that says no run opens no machine, and stops with the same number, which no other stop has.
pub none_opened :
    (input : List ℕ) (number : ℕ) → input_of input ≡ no_run number →
    (why : Stop) × ((opened_of input ≡ unopened why) × (stop_number why ≡ number))
none_opened = begun.none_opened

pub numbers_tell : (a b : Stop) → stop_number a ≡ stop_number b → a ≡ b
numbers_tell = told.told

-- 60,020 bytes decide what an input says: what comes after them is never looked at.
pub enough_read : (input : List ℕ) → input_of (take input_for_all input) ≡ input_of input
enough_read = enough.enough_read
