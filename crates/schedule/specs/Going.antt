-- What stands next in a run after its first record.
use Rattle.std.specs.Prelude.{ℕ, ◌+◌, cond, List, ltb, Result, Ok, Err, Option, Some, None}
use Rattle.machine.specs.declared.Call.{Call}
use Rattle.records.specs.declared.Record.TheVariants.{Sizes, Step}
use Rattle.records.specs.Reading.{Read, read_of}
use Rattle.records.specs.Rest.{rest_of}
use Rattle.schedule.specs.declared.Stop.{Stop}
use Rattle.schedule.specs.declared.Stop.TheVariants.{Malformed, SizesNotFirst, TooManySteps}
use Rattle.schedule.specs.Said.{call_of}

-- a call for the machine, none at the end of the input, or why the run stops
abbrev pub Next : Type 0
Next = Result (Option Call) Stop

-- After so many steps, at what was read. "42: .. a sizes record comes later. 43: a 6,001st step. A record's own 40, 41 or 44 comes before
-- both."
unfoldable pub next_at : ℕ → Read → Next
next_at steps (Ok (Some (Sizes r))) = Err SizesNotFirst
next_at steps (Ok (Some (Step r))) = cond (ltb steps 6000) (Ok (Some (call_of r))) (Err TooManySteps)
next_at steps (Ok None) = Ok None
next_at steps (Err why) = Err (Malformed why)

unfoldable pub next_of : ℕ → List ℕ → Next
next_of steps left = next_at steps (read_of left)

-- Only a call is passed over: what stands after it is looked at next, and it counts as a step.

unfoldable pub left_after : Next → List ℕ → List ℕ
left_after (Ok (Some c)) left = rest_of left
left_after (Ok None) left = left
left_after (Err why) left = left

unfoldable pub steps_after : Next → ℕ → ℕ
steps_after (Ok (Some c)) steps = steps + 1
steps_after (Ok None) steps = steps
steps_after (Err why) steps = steps
