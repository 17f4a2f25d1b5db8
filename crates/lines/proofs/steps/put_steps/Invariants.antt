use Prim.Native.Nat.{◌+◌, ◌-◌, ◌*◌, ◌≤◌}
use Rattle.records.specs.Rest.{rest_of}
use Rattle.schedule.specs.Asked.{found_from, found_of}
use Rattle.lines.specs.Line.{text}
use Rattle.lines.specs.Run.{lines_found}
use Rattle.text.specs.Paging.{Leads}
use Rattle.lines.proofs.steps.put_steps.Given as goal

-- The text from the present state and the bytes that are left is still to come; each step so far took at most 40 bytes.
abbrev pub invariant-loop-call : goal.invariant-loop-call
invariant-loop-call l = (l.calls.steps ≤ 6000) ×
    (l.page.at ≤ 40 * l.calls.steps + 40) ×
    Leads l.page (text (lines_found l.calls.steps l.now_at (found_from (6001 - l.calls.steps) l.calls.steps l.calls.left.now))) l.initial.page (text (lines_found 0 l.initial.now_at (found_of (rest_of l.input))))

abbrev pub decreases-loop-call : goal.decreases-loop-call
decreases-loop-call l = 6001 - l.calls.steps
