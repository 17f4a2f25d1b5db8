-- What is written so far, and then what the bytes that are left write, is what is to be written.
use Rattle.std.proofs.Common.{◌≡◌, ℕ, List, [], ◌∷◌, ◌++◌, map, take}
use Rattle.std.specs.Fmt.{HasWritten, IsPlainFormatter}
use Rattle.std.specs.Iterator.Adapters.{take_source, take_count}
use Rattle.std.specs.Slice.Iter.{iter_rest}
use Rattle.pack.specs.Quoting.{shown_of, quoted}
use Rattle.pack.proofs.say.QuotedDisplay.fmt.Given as goal

abbrev pub invariant-loop-b : goal.invariant-loop-b
invariant-loop-b g l =
    (goal.iterator-loop-b g).can_next l.b-iterator
    × (goal.iterator-loop-b g).is_finite l.b-iterator
    × (IsPlainFormatter l.fn.f → (done : List ℕ) × HasWritten g.W.Write.write_str_gives l.fn.f done l.f
    × (done ++ (map shown_of (take (take_count l.b-iterator) (iter_rest (take_source l.b-iterator))) ++ 39 ∷ []) ≡ quoted l.fn.self.0))
