-- No 6,001st call comes, so the loop ends.
use Rattle.std.proofs.Common.{◌-◌, ◌≤◌}
use Rattle.drive.proofs.steps.Given as goal

abbrev pub invariant-loop-found : goal.invariant-loop-found
invariant-loop-found l = l.calls.steps ≤ 6000

abbrev pub decreases-loop-found : goal.decreases-loop-found
decreases-loop-found l = 6001 - l.calls.steps
