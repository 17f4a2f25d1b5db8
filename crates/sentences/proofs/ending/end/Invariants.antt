-- The run ends from here as it ends from its first step.
use Rattle.std.proofs.Common.{◌-◌, ◌≤◌, ◌≡◌}
use Rattle.schedule.specs.Asked.{found_from}
use Rattle.sentences.specs.Ends.{end_found, end_of}
use Rattle.sentences.proofs.ending.end.Given as goal

abbrev pub invariant-loop-call : goal.invariant-loop-call
invariant-loop-call l =
    (l.calls.steps ≤ 6000) × (end_of l.input ≡ end_found l.now_at (found_from (6001 - l.calls.steps) l.calls.steps l.calls.left.now))

abbrev pub decreases-loop-call : goal.decreases-loop-call
decreases-loop-call l = 6001 - l.calls.steps
