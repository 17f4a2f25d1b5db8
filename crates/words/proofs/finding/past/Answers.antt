-- `past` meets its contract: a byte of the run is passed, and the first that is none ends it.
use Rattle.std.proofs.Common.{◌≡◌, ◌+◌, sym, ◌∙◌, arith}
use native.Mathlib.Numerals.{add-one}
use Rattle.words.proofs.Runs.{run_stops, run_more, run_past}
use Rattle.words.proofs.finding.past.Goals as goal

pub returns-then-not-takes : goal.returns-then-not-takes
returns-then-not-takes c =
    let at = c.loop-i in
    let args = c.args in
    let stop = run_stops args.run args.text.now at.i (omega arith) (rw c.of.ensures at (sym c.takes.ensures ∙ c.if-not-takes.true)) in
    omega (arith, at.invariant, stop)

pub loop-i-preserved : goal.loop-i-preserved
loop-i-preserved c =
    let at = c.loop-i in
    let args = c.args in
    let more = run_more args.run args.text.now at.i (omega arith) (rw c.of.ensures at (sym c.takes.ensures ∙ c.if-not-takes.false)) in
    rw add-one (omega (arith, at.invariant, more))

pub returns : goal.returns
returns c =
    let at = c.loop-i in
    let args = c.args in
    c.max.ensures ∙ run_past args.run args.text.now args.at at.i at.invariant c.loop-i-test.false at.auto.i-end
