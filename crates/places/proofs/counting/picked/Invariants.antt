-- The loop's invariant: those of the entries passed that the test picks are counted.
use Rattle.std.specs.Prelude.{◌≡◌, ◌≤◌, Bool, take}
use Rattle.basics.specs.Counts.{how_many}
use Rattle.places.proofs.counting.picked.Given as goal

abbrev pub invariant-loop-x : goal.invariant-loop-x
invariant-loop-x g l =
    goal.F-IsAlwaysCallable g l.picks
    × (l.x-index ≤ l.x-index-end)
    × (l.n ≤ l.x-index)
    × ((test : _ → Bool) → ((x : _) (r : Bool) → goal.F-post g l.picks x r → r ≡ test x) → l.n ≡ how_many test (take l.x-index l.x-items))
