-- What is printed of a run: a line for each of its events, and the places of its last state; and what is told of that state in words.
use Rattle.std.specs.Prelude.{ℕ, ◌+◌, List, [], ◌∷◌, ◌++◌, length}
use Rattle.entries.specs.declared.Sizes.{Sizes}
use Rattle.machine.specs.declared.Call.{Call}
use Rattle.machine.specs.Answers.{numbers_of}
use Rattle.machine.specs.Count.{five_places}
use Rattle.machine.specs.Step.{step_of}
use Rattle.promise.specs.History.{Machine, Event}
use Rattle.promise.specs.Run.{events_of, end_of, state}
use Rattle.lines.specs.Line.{Line, numbers, end, stop}
use Rattle.sentences.specs.Told as told
use Rattle.schedule.specs.Input.{Ending, ended, stopped, Input, run, no_run}

-- "Per step: number from 1, thread, operation, answer or refusal number, a, b."
unfoldable pub event_line : ℕ → Event → Line
event_line number e =
    let told = numbers_of e.answer in
    numbers (number ∷ e.call.thread ∷ e.call.operation ∷ told.number ∷ told.a ∷ told.b ∷ [])

-- one for each event, refused or not, in their order
unfoldable pub event_lines : ℕ → List Event → List Line
event_lines number [] = []
event_lines number (e ∷ later) = event_line number e ∷ event_lines (number + 1) later

-- of the run of whatever machine takes the steps
module _ (machine : Machine) (z : Sizes) (calls : List Call) where
  -- "Last line: `end`, steps, then objects free, in links, in hands, in handovers, carried." "`stop`, the count of good records before, and
  -- the number": those are the sizes record and the steps.
  unfoldable pub ending_line : Ending → Line
  ending_line ended =
      let p = five_places (end_of machine z calls) in
      end (length calls ∷ p.free ∷ p.links ∷ p.hands ∷ p.handovers ∷ p.carried ∷ [])
  ending_line (stopped number) = stop ((length calls + 1) ∷ number ∷ [])

  -- "First line: T H L N."
  unfoldable pub lines_of_run : Ending → List Line
  lines_of_run ending =
      numbers (z.threads ∷ z.slots ∷ z.links ∷ z.objects ∷ []) ∷
      event_lines 1 (events_of machine z calls) ++
      ending_line ending ∷ []

-- where there is no run, a `stop` line alone
unfoldable pub lines_of_input : Input → List Line
lines_of_input (run z calls ending) = lines_of_run step_of z calls ending
lines_of_input (no_run number) = stop (0 ∷ number ∷ []) ∷ []

-- the sentences are of the run's last state, and where it stops there are none
unfoldable pub sentences_of_input : Input → List ℕ
sentences_of_input (run z calls ended) = told.lines_of (state z calls)
sentences_of_input (run z calls (stopped number)) = []
sentences_of_input (no_run number) = []
