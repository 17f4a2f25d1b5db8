-- `sentences::ending::end` meets its contract. The invariant: the run ends from here as it ends from its first step.
use Rattle.std.proofs.Common.{◌≡◌, sym, ◌∙◌, arith, Ok, Some, None}
use Rattle.std.proofs.lemmas.Result.{err_from_is_err_and}
use Rattle.schedule.specs.Asked.{found_of}
use Rattle.schedule.proofs.Turns.{count_within, call_passed}
use Rattle.sentences.proofs.Endings.{step_end, well_end, stop_end, good_end, refused_end}
use Rattle.sentences.proofs.ending.end.Goals as goal

pub returns-in_err-opened : goal.returns-in_err-opened
returns-in_err-opened c =
    let p = err_from_is_err_and c.from_residual.result c.from_residual.ensures.1 in
    rw p.1 (refused_end _ _ c.open-opened.ensures _ c.in_err-opened.was)

pub loop-call-init : goal.loop-call-init
unfolding found_of
loop-call-init c =
    let new = c.new-calls.ensures in
    (omega (arith, new.steps), rw (new.left, new.steps) (good_end _ _ c.open-opened.ensures c.in_ok-opened.was))

pub returns-in_err-call : goal.returns-in_err-call
returns-in_err-call c =
    let at = c.loop-call in
    let p = err_from_is_err_and c.from_residual-in_err-call.result c.from_residual-in_err-call.ensures.1 in
    rw p.1 (at.invariant.1 ∙ stop_end at.calls.steps at.now_at at.calls.left.now at.invariant.0 _ (sym c.next.ensures.next ∙ c.in_err-call.was))

pub loop-call-smaller : goal.loop-call-smaller
loop-call-smaller c =
    let asked = c.next.ensures in
    let given : c.next.result ≡ Ok (Some c.in-Some.call) = cc c.in_ok-call.was in
    omega (arith, c.loop-call.invariant.0, call_passed _ _ _ _ _ asked.next asked.left asked.steps _ given)

pub loop-call-preserved : goal.loop-call-preserved
loop-call-preserved c =
    let at = c.loop-call in
    let asked = c.next.ensures in
    let given : c.next.result ≡ Ok (Some c.in-Some.call) = cc c.in_ok-call.was in
    let passed = call_passed _ _ _ _ _ asked.next asked.left asked.steps _ given in (
      count_within _ _ _ _ _ asked.next asked.left asked.steps at.invariant.0,
      rw (passed.1, passed.2, c.step.ensures)
          (at.invariant.1 ∙ step_end at.calls.steps at.now_at at.calls.left.now at.invariant.0 c.in-Some.call passed.0),
    )

pub returns : goal.returns
returns c =
    let at = c.loop-call in
    let given : c.next.result ≡ Ok None = cc c.in_ok-call.was in
    at.invariant.1 ∙ well_end at.calls.steps at.now_at at.calls.left.now at.invariant.0 (sym c.next.ensures.next ∙ given)
