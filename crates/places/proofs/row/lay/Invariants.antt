-- The loop's invariant: the numbers passed are laid.
use Rattle.std.proofs.Common.{◌≡◌, ℕ, map}
use Rattle.std.proofs.Math.Seq.{paste}
use Rattle.places.proofs.row.lay.Given as goal

abbrev pub invariant-loop-i : goal.invariant-loop-i
invariant-loop-i g l =
    goal.F-IsAlwaysCallable g l.read
    × ((number : _ → ℕ) → ((x : _) (r : ℕ) → goal.F-post g l.read x r → r ≡ number x) → l.row ≡ paste l.initial.row l.from (map number l.fn.entries) l.i)
