-- The run that an input says, as lines and as text. "It takes each answer apart and prints it as numbers."
use Rattle.std.specs.Prelude.{ℕ, ◌+◌, List, [], ◌∷◌}
use Rattle.entries.specs.declared.Sizes.{Sizes}
use Rattle.machine.specs.declared.State.{State}
use Rattle.machine.specs.declared.Call.{Call}
use Rattle.machine.specs.declared.Answer.{Answer}
use Rattle.machine.specs.declared.Places.{Places}
use Rattle.machine.specs.Fresh.{fresh_of}
use Rattle.machine.specs.Step.{step_of}
use Rattle.machine.specs.Count.{count_of}
use Rattle.machine.specs.Answers.{numbers_of}
use Rattle.schedule.specs.Input as input
use Rattle.schedule.specs.Asked.{Found}
use Rattle.lines.specs.Line.{Line, numbers, end, stop, text}

-- "First line: T H L N."
unfoldable pub sizes_line : Sizes → Line
sizes_line z = numbers (z.threads ∷ z.slots ∷ z.links ∷ z.objects ∷ [])

-- "Per step: number from 1, thread, operation, answer or refusal number, a, b."
unfoldable pub step_line : ℕ → Call → Answer → Line
step_line step c answer =
    let told = numbers_of answer in
    numbers (step ∷ c.thread ∷ c.operation ∷ told.number ∷ told.a ∷ told.b ∷ [])

-- "Last line: `end`, steps, then objects free, in links, in hands, in handovers, carried."
unfoldable pub end_line : ℕ → Places → Line
end_line steps p = end (steps ∷ p.free ∷ p.links ∷ p.hands ∷ p.handovers ∷ p.carried ∷ [])

-- "`stop`, the count of good records before, and the number"
unfoldable pub stop_line : ℕ → ℕ → Line
stop_line before number = stop (before ∷ number ∷ [])

-- The line with which a run ends after so many steps. The sizes record and the steps are the good records before a stop.
unfoldable pub last_line : ℕ → State → input.Ending → Line
last_line steps s input.ended = end_line steps (count_of s).places
last_line steps s (input.stopped number) = stop_line (steps + 1) number

-- The lines of these calls from a state on, after so many steps. "A refused step prints its line and the run goes on."
unfoldable pub lines_from : ℕ → State → List Call → input.Ending → List Line
lines_from steps s [] ending = last_line steps s ending ∷ []
lines_from steps s (c ∷ calls) ending =
    let done = step_of s c in
    step_line (steps + 1) c done.answer ∷ lines_from (steps + 1) done.state calls ending

-- "20 at the first record is `stop 0 20`, with no line before it", and so it is of any number there
unfoldable pub lines_in : input.Input → List Line
lines_in (input.run z calls ending) = sizes_line z ∷ lines_from 0 (fresh_of z) calls ending
lines_in (input.no_run number) = stop_line 0 number ∷ []

unfoldable pub lines_of : List ℕ → List Line
lines_of bytes = lines_in (input.input_of bytes)

unfoldable pub text_of : List ℕ → List ℕ
text_of bytes = text (lines_of bytes)

-- the lines of what is found
unfoldable pub lines_found : ℕ → State → Found → List Line
lines_found steps s found = lines_from steps s found.calls found.ending
