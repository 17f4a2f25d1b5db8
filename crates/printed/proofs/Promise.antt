-- Each printed line is an event of the run of the calls that the input says, so what demand 3 says is said of what is printed.
use Rattle.std.specs.Prelude.{ℕ, ◌≡◌, true, List, [], ◌∷◌, ◌++◌}
use Rattle.entries.specs.declared.Sizes.{Sizes}
use Rattle.entries.specs.Sizes.{in_range}
use Rattle.machine.specs.declared.Call.{Call}
use Rattle.machine.specs.Step.{step_of}
use Rattle.promise.specs.Promise.{Promised}
use Rattle.promise.proofs.Promise.{promise}
use Rattle.lines.specs.Line.{Line, numbers, end}
use Rattle.lines.specs.Run.{lines_of}
use Rattle.sentences.specs.Told as told
use Rattle.schedule.specs.Input.{Ending, run, input_of}
use Rattle.printed.specs.Printed.{lines_of_input, sentences_of_input}
use Rattle.printed.specs.Counting.{AddsUp}
use Rattle.printed.proofs.Lemmas.Lines as lines
use Rattle.printed.proofs.Lemmas.Sentences as sentences
use Rattle.printed.proofs.Lemmas.Ranged as ranged
use Rattle.printed.proofs.Lemmas.Counted as counted

-- The lines of an input whose first record has sizes in range are the sizes, a line for each event of the history over its calls, and the
-- places of the state after them or the stop; those of any other input are one stop.
pub lines_are_events : (input : List ℕ) → lines_of input ≡ lines_of_input (input_of input)
lines_are_events = lines.lines_are_events

-- What is told in words is told of that same state.
pub sentences_of_state : (input : List ℕ) → told.text_of input ≡ sentences_of_input (input_of input)
sentences_of_state = sentences.sentences_of_state

-- The sizes of a run that an input says are in range.
pub sizes_in_range :
    (input : List ℕ) (z : Sizes) (calls : List Call) (ending : Ending) → input_of input ≡ run z calls ending → in_range z ≡ true
sizes_in_range = ranged.in_range_lem

-- All of demand 3 holds of the events and of the state that are printed.
pub promised :
    (input : List ℕ) (z : Sizes) (calls : List Call) (ending : Ending) → input_of input ≡ run z calls ending → Promised step_of z calls
promised input z calls ending e = promise z (sizes_in_range input z calls ending e) calls

-- And whoever counts in the printed lines alone finds demand 3's counts: in any output that starts with T H L N and comes to `end`.
pub counts_add_up :
    (t h l n : ℕ) (lines : List Line) (steps free links hands handovers carried : ℕ) (input : List ℕ)
    → lines_of input ≡
    numbers (t ∷ h ∷ l ∷ n ∷ []) ∷ lines ++ end (steps ∷ free ∷ links ∷ hands ∷ handovers ∷ carried ∷ []) ∷ []
    → AddsUp t h n lines free links hands handovers carried
counts_add_up = counted.adds_up
