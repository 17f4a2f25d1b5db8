-- A list of calls run from a fresh machine, as the lines of numbers that document 01 prints.
use Rattle.std.specs.Prelude.{ℕ, suc, List, [], ◌∷◌, replicate}
use Rattle.entries.specs.declared.Sizes.{Sizes}
use Rattle.machine.specs.declared.State.{State}
use Rattle.machine.specs.declared.Call.{Call}
use Rattle.machine.specs.declared.Answer.{Answer}
use Rattle.machine.specs.declared.Outcome.{Outcome}
use Rattle.machine.specs.declared.Counted.{Counted}
use Rattle.machine.specs.Answers.{numbers_of}
use Rattle.machine.specs.Fresh.{start_of}

-- T, H, L and N, in this order
abbrev pub sizes : ℕ → ℕ → ℕ → ℕ → Sizes
sizes threads slots links objects =
    record { threads = threads; slots = slots; links = links; objects = objects }

-- "A call has thread, operation, slot, link, tag"
abbrev pub call : ℕ → ℕ → ℕ → ℕ → ℕ → Call
call thread operation slot link tag =
    record { thread = thread; operation = operation; slot = slot; link = link; tag = tag }

-- "go on" of a thread: "Fields not shown are 0."
abbrev pub on : ℕ → Call
on thread = call thread 7 0 0 0

-- lines of one, four and six numbers, and a line of zeros

abbrev pub one : ℕ → List ℕ
one a = a ∷ []

abbrev pub four : ℕ → ℕ → ℕ → ℕ → List ℕ
four a b c d = a ∷ b ∷ c ∷ d ∷ []

abbrev pub six : ℕ → ℕ → ℕ → ℕ → ℕ → ℕ → List ℕ
six a b c d e f = a ∷ b ∷ c ∷ d ∷ e ∷ f ∷ []

abbrev pub zeros : ℕ → List ℕ
zeros n = replicate n 0

-- What takes a step: the machine, or another that is to be told from it.
abbrev pub Machine : Type 0
Machine = State → Call → Outcome

-- the state that start gives, and the state after some calls

abbrev pub started : Sizes → State
started z = (start_of z).state

unfoldable pub after : Machine → State → List Call → State
after machine s [] = s
after machine s (c ∷ calls) = after machine (machine s c).state calls

-- "First line: T H L N."
abbrev pub sizes_line : Sizes → List ℕ
sizes_line z = z.threads ∷ z.slots ∷ z.links ∷ z.objects ∷ []

-- "answer or refusal number, a, b"
abbrev pub numbered : Answer → List ℕ
numbered answer =
    let n = numbers_of answer in
    n.number ∷ n.a ∷ n.b ∷ []

-- "Per step: number from 1, thread, operation, answer or refusal number, a, b."
abbrev pub step_line : ℕ → Call → Answer → List ℕ
step_line number c answer = number ∷ c.thread ∷ c.operation ∷ numbered answer

-- "Last line: `end`, steps, then objects free, in links, in hands, in handovers, carried."
abbrev pub end_line : ℕ → Counted → List ℕ
end_line steps counted =
    let p = counted.places in
    steps ∷ p.free ∷ p.links ∷ p.hands ∷ p.handovers ∷ p.carried ∷ []

-- the lines after so many steps, the last line included
unfoldable pub lines_from : Machine → (State → Counted) → ℕ → State → List Call → List (List ℕ)
lines_from machine count steps s [] = end_line steps (count s) ∷ []
lines_from machine count steps s (c ∷ calls) =
    let o = machine s c in
    step_line (suc steps) c o.answer ∷ lines_from machine count (suc steps) o.state calls

-- everything that is printed of a run from a fresh machine of these sizes
unfoldable pub printed : Machine → (State → Counted) → Sizes → List Call → List (List ℕ)
printed machine count z calls = sizes_line (started z).sizes ∷ lines_from machine count 0 (started z) calls
