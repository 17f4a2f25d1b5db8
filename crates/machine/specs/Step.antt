-- One call on any state: refused by the first line of the table that applies, with "the same state", or done.
use Rattle.std.specs.Prelude.{cond, eqb, Option, Some, None}
use Rattle.machine.specs.declared.State.{State}
use Rattle.machine.specs.declared.Call.{Call}
use Rattle.machine.specs.declared.Outcome.{Outcome}
use Rattle.machine.specs.declared.refusal.Refusal.{Refusal}
use Rattle.machine.specs.declared.Answer.TheVariants.{Refused}
use Rattle.machine.specs.Calls.{outcome, take_of, protect_of, swap_of, read_of, retire_of, clear_of}
use Rattle.machine.specs.GoOn.{go_on_of}
use Rattle.machine.specs.Refusals.{refusal_of}

-- the effect of a call that is not refused, by its operation's number
unfoldable pub done_of : State → Call → Outcome
done_of s c =
    cond (eqb c.operation 1) (take_of s c.thread c.tag)
    (cond (eqb c.operation 2) (protect_of s c.thread c.slot c.link)
    (cond (eqb c.operation 3) (swap_of s c.thread c.slot c.link)
    (cond (eqb c.operation 4) (read_of s c.thread c.slot)
    (cond (eqb c.operation 5) (retire_of s c.thread)
    (cond (eqb c.operation 6) (clear_of s c.thread c.slot)
    (go_on_of s c.thread))))))

-- "Refusals of a call return a = b = 0 and the same state."
unfoldable pub refused_or : (State → Call → Outcome) → State → Call → Option Refusal → Outcome
refused_or done s c None = done s c
refused_or done s c (Some refusal) = outcome s (Refused refusal)

unfoldable pub step_of : State → Call → Outcome
step_of s c = refused_or done_of s c (refusal_of s c)
