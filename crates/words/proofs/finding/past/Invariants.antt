-- From the present place on the run ends where it ends from `at` on.
use Rattle.std.specs.Prelude.{◌≡◌, ◌+◌, drop}
use Rattle.words.specs.Words.{run_of}
use Rattle.words.proofs.finding.past.Given as goal

abbrev pub invariant-loop-i : goal.invariant-loop-i
invariant-loop-i l = l.fn.at + run_of l.run (drop l.fn.at l.text) ≡ l.i + run_of l.run (drop l.i l.text)
