-- `lines::steps::put_steps` meets its contract.
use borrow.Author.Rules.{rules}
use Prim.Native.Nat.{◌-◌}
use mathlib.Core.Path.{◌≡◌}
use mathlib.Core.List.{◌++◌}
use native.Mathlib.Omega.{arith}
use Rattle.std.specs.Prelude.{Ok, Some, None}
use Rattle.schedule.specs.Asked.{found_from, found_of}
use Rattle.schedule.proofs.Turns.{count_within, call_passed, end_stays, stop_stays}
use Rattle.lines.specs.Line.{bytes_of, text}
use Rattle.lines.specs.Run.{step_line, lines_found}
use Rattle.text.specs.Paging.{leads_start, leads_on, leads_end}
use Rattle.lines.proofs.Runs.{step_text, end_text, stop_text}
use Rattle.lines.proofs.steps.put_steps.Goals as goal
use Rattle.lines.proofs.steps.put_steps.Goals.{in_default-via-in-Ok+in_default, in_default-via-in_default}

pub loop-call-init : goal.loop-call-init
unfolding found_of
loop-call-init c =
    let new = c.new-calls.ensures in
    (omega (arith, new.steps), omega (arith, c.requires.0), rw (new.left, new.steps) (leads_start _ _))

pub put_end-requires : goal.put_end-requires
put_end-requires c =
    let asked = c.next-found.ensures in
    let within = count_within _ _ _ _ _ asked.next asked.left asked.steps c.loop-call.invariant.0 in
    (omega (arith, c.steps.ensures, within), omega (arith, c.loop-call.invariant.0, c.loop-call.invariant.1, c.loop-call.invariant.2.leads.size, c.requires.1))

pub returns-in_default-found : goal.returns-in_default-found
returns-in_default-found c =
    let at = c.loop-call in
    let asked = c.next-found.ensures in
    let ended : c.next-found.result ≡ Ok None = elim c.in_default.branch [
      | in_default-via-in-Ok+in_default w ↦ search rules
      | in_default-via-in_default w ↦ absurd (c.in_default-found.not-Err _ w.in_default.is)
    ] in
    let stays = end_stays _ _ _ _ _ asked.next asked.left asked.steps ended in
    leads_end
    (rw (end_text at.calls.steps at.now_at at.calls.left.now at.invariant.0 stays.0) at at.invariant.2)
    (rw (← c.count.ensures, ← stays.1, ← c.steps.ensures) c.put_end.ensures.wrote)

pub overflow_add-steps : goal.overflow_add-steps
overflow_add-steps c =
    let asked = c.next-found.ensures in
    omega (arith, c.steps-in_default.ensures, count_within _ _ _ _ _ asked.next asked.left asked.steps c.loop-call.invariant.0)

pub put_stop-requires : goal.put_stop-requires
put_stop-requires c =
    let asked = c.next-found.ensures in
    let within = count_within _ _ _ _ _ asked.next asked.left asked.steps c.loop-call.invariant.0 in
    (omega (arith, c.steps-in_default.ensures, within), omega (arith, c.loop-call.invariant.0, c.loop-call.invariant.1, c.loop-call.invariant.2.leads.size, c.requires.1))

pub returns-in_default : goal.returns-in_default
returns-in_default c =
    let at = c.loop-call in
    let asked = c.next-found.ensures in
    let stays = stop_stays _ _ _ _ _ asked.next asked.left asked.steps _ c.in-Err.is in
    leads_end
    (rw (stop_text at.calls.steps at.now_at at.calls.left.now at.invariant.0 _ stays.0) at at.invariant.2)
    (rw (← c.number.ensures, ← stays.1, ← c.steps-in_default.ensures) c.put_stop.ensures.wrote)

pub put_step-requires : goal.put_step-requires
put_step-requires c =
    let asked = c.next-found.ensures in
    let within = count_within _ _ _ _ _ asked.next asked.left asked.steps c.loop-call.invariant.0 in
    (omega (arith, c.steps-in-loop-call.ensures, within), omega (arith, c.loop-call.invariant.0, c.loop-call.invariant.1, c.loop-call.invariant.2.leads.size, c.requires.1))

pub loop-call-smaller : goal.loop-call-smaller
loop-call-smaller c =
    let asked = c.next-found.ensures in
    let given : c.next-found.result ≡ Ok (Some c.in-Ok-Some.call) = search rules in
    let passed = call_passed _ _ _ _ _ asked.next asked.left asked.steps _ given in
    omega (arith, c.loop-call.invariant.0, passed.2)

pub loop-call-preserved : goal.loop-call-preserved
loop-call-preserved c =
    let at = c.loop-call in
    let asked = c.next-found.ensures in
    let now = c.next-found.new.self in
    let given : c.next-found.result ≡ Ok (Some c.in-Ok-Some.call) = search rules in
    let passed = call_passed _ _ _ _ _ asked.next asked.left asked.steps _ given in
    -- a step's line, and the text from the state after it and the bytes after its record
    let turn :
    text (lines_found at.calls.steps at.now_at (found_from (6001 - at.calls.steps) at.calls.steps at.calls.left.now)) ≡
    bytes_of (step_line c.steps-in-loop-call.result c.in-Ok-Some.call c.step-done.result.answer) ++
    text (lines_found now.steps c.step-done.result.state (found_from (6001 - now.steps) now.steps now.left.now)) =
    rw (c.steps-in-loop-call.ensures, passed.1, passed.2, c.step-done.ensures)
    (step_text at.calls.steps at.now_at at.calls.left.now at.invariant.0 c.in-Ok-Some.call passed.0) in (
      count_within _ _ _ _ _ asked.next asked.left asked.steps at.invariant.0,
      omega (arith, passed.2, at.invariant.1, c.put_step.ensures.within, c.put_step.ensures.wrote.written.next),
      leads_on at.invariant.2 turn (omega (arith, c.put_step.ensures.within, at.invariant.0, at.invariant.1, at.invariant.2.leads.size, c.requires.1)) c.put_step.ensures.wrote,
    )
