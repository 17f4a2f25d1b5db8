-- The lines of the calls that an input says are those of the history of these calls.
use Rattle.std.specs.Prelude.{ℕ, ◌+◌, ◌≡◌, refl, true, List, [], ◌∷◌, ◌++◌, length}
use Rattle.std.proofs.Common.{arith, ◌∙◌}
use Rattle.entries.specs.declared.Sizes.{Sizes}
use Rattle.entries.specs.Sizes.{in_range}
use Rattle.machine.specs.declared.State.{State}
use Rattle.machine.specs.declared.Call.{Call}
use Rattle.machine.specs.Sound.{from_sound}
use Rattle.machine.specs.Fresh.{fresh_of}
use Rattle.machine.specs.Count.{count_of}
use Rattle.machine.specs.Step.{step_of}
use Rattle.promise.specs.History.{history_by, state_by, history, state_after}
use Rattle.promise.specs.Run.{events, state}
use Rattle.promise.proofs.Moments.{always_sound}
use Rattle.schedule.specs.Input.{Ending, ended, stopped, Input, run, no_run, input_of}
use Rattle.lines.specs.Run.{sizes_line, step_line, end_line, stop_line, last_line, lines_from, lines_in, lines_of}
use Rattle.printed.specs.Printed.{event_line, event_lines, ending_line, lines_of_run, lines_of_input}
use Rattle.printed.proofs.Lemmas.Ranged.{in_range_lem}

from : (steps : ℕ) (s : State) (calls : List Call) (ending : Ending) →
    lines_from steps s calls ending ≡
    event_lines (steps + 1) (history s calls) ++ last_line (steps + length calls) (state_after s calls) ending ∷ []
unfolding lines_from event_lines history_by state_by step_line event_line
from steps s [] ending =
    let none : steps + 0 ≡ steps = omega arith in
    rw none
from steps s (c ∷ calls) ending =
    let one : steps + 1 + length calls ≡ steps + length (c ∷ calls) = omega arith in
    rw (from (steps + 1) (step_of s c).state calls ending, one)

-- the last line counts the places of a sound state, and any state of a run is one
last_line_lem : (z : Sizes) → in_range z ≡ true → (calls : List Call) (ending : Ending) → last_line (length calls) (state z calls) ending ≡ ending_line step_of z calls ending
unfolding last_line end_line stop_line ending_line count_of
last_line_lem z good calls ended = rw (from_sound (state z calls) (always_sound z good calls))
last_line_lem z good calls (stopped number) = refl

run_lines : (z : Sizes) → in_range z ≡ true → (calls : List Call) (ending : Ending) → lines_from 0 (fresh_of z) calls ending ≡ event_lines 1 (events z calls) ++ ending_line step_of z calls ending ∷ []
run_lines z good calls ending =
    let none : 0 + length calls ≡ length calls = omega arith in
    from 0 (fresh_of z) calls ending ∙ rw (none, last_line_lem z good calls ending)

said_lines : (input : List ℕ) (said : Input) → input_of input ≡ said → lines_in said ≡ lines_of_input said
unfolding lines_in lines_of_input lines_of_run sizes_line stop_line
said_lines input (run z calls ending) is = rw (run_lines z (in_range_lem input z calls ending is) calls ending)
said_lines input (no_run number) is = refl

pub lines_are_events : (input : List ℕ) → lines_of input ≡ lines_of_input (input_of input)
unfolding lines_of
lines_are_events input = said_lines input (input_of input) refl
