-- A run: any calls in any order, each on the state that the last one handed back; and what is counted from its history alone.
use Rattle.std.specs.Prelude.{ℕ, Bool, ◌&&◌, List, [], ◌∷◌, eqb}
use Rattle.machine.specs.declared.State.{State}
use Rattle.machine.specs.declared.Call.{Call}
use Rattle.machine.specs.declared.Answer.{Answer}
use Rattle.machine.specs.declared.Outcome.{Outcome}
use Rattle.machine.specs.Answers.{numbers_of}
use Rattle.basics.specs.Counts.{how_many}
use Rattle.machine.specs.Step.{step_of}

-- one call of a run and its answer: what can be seen of it from outside
pub record Event : Type 0 where
  pub call : Call
  pub answer : Answer

-- the answer's number, by which a call is accepted (1 to 11) or refused
abbrev pub answer_number : Event → ℕ
answer_number e = (numbers_of e.answer).number

-- what takes a step: the machine, or one with a rule changed, of which Promise would not hold
abbrev pub Machine : Type 0
Machine = State → Call → Outcome

abbrev pub event_by : Machine → State → Call → Event
event_by machine s c = record { call = c; answer = (machine s c).answer }

unfoldable pub history_by : Machine → State → List Call → List Event
history_by machine s [] = []
history_by machine s (c ∷ calls) = event_by machine s c ∷ history_by machine (machine s c).state calls

unfoldable pub state_by : Machine → State → List Call → State
state_by machine s [] = s
state_by machine s (c ∷ calls) = state_by machine (machine s c).state calls

-- of the machine that the code's contract cites
abbrev pub event_of : State → Call → Event
event_of = event_by step_of

abbrev pub history : State → List Call → List Event
history = history_by step_of

abbrev pub state_after : State → List Call → State
state_after = state_by step_of

-- an accepted retire: operation 5, answered 2 Begun
unfoldable pub is_retire : Event → Bool
is_retire e = eqb e.call.operation 5 && eqb (answer_number e) 2

-- a Freed answer: 11
unfoldable pub is_freed : Event → Bool
is_freed e = eqb (answer_number e) 11

-- "Counts come from the history: accepted retires less Freed answers"
unfoldable pub retires : List Event → ℕ
retires events = how_many is_retire events

unfoldable pub freed : List Event → ℕ
freed events = how_many is_freed events
