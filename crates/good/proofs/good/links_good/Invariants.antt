-- the links passed are good, or one is not
use Rattle.std.specs.Prelude.{◌≡◌, get_or}
use Rattle.basics.specs.Under.{all_under}
use Rattle.entries.specs.Entries.{link_good}
use Rattle.good.proofs.good.links_good.Given as goal

abbrev pub invariant-loop-i : goal.invariant-loop-i
invariant-loop-i l = l.good ≡ all_under l.i (λ i. link_good l.z i (get_or l.links i 0))
