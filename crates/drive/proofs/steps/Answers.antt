-- The loop of `drive::steps` ends: each call counts, and 6,000 come at most.
use borrow.Author.Rules.{rules}
use Rattle.std.proofs.Common.{◌≡◌, arith, Ok, Some}
use Rattle.schedule.proofs.Turns.{count_within, call_passed}
use Rattle.drive.proofs.steps.Goals as goal

pub loop-found-init : goal.loop-found-init
loop-found-init c = omega (arith, c.new-calls.ensures.steps)

pub loop-found-preserved : goal.loop-found-preserved
loop-found-preserved c =
    let asked = c.next.ensures in
    count_within _ _ _ _ _ asked.next asked.left asked.steps c.loop-found.invariant

pub loop-found-smaller : goal.loop-found-smaller
loop-found-smaller c =
    let asked = c.next.ensures in
    let given : c.next.result ≡ Ok (Some c.in-Some.call) = search rules in
    omega (arith, c.loop-found.invariant, call_passed _ _ _ _ _ asked.next asked.left asked.steps _ given)
