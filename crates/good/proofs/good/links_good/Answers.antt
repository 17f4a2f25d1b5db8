-- `links_good` meets its contract.
use Rattle.std.proofs.Common.{◌≡◌, refl, arith, get_or}
use Rattle.basics.specs.Under.{all_under, under_next}
use Rattle.entries.specs.Entries.{link_good}
use Rattle.good.proofs.good.links_good.Goals as goal

pub loop-i-init : goal.loop-i-init
unfolding all_under
loop-i-init c = refl

pub loop-i-preserved : goal.loop-i-preserved
loop-i-preserved c =
    let a = c.args in
    under_next c.loop-i.i (λ i. link_good a.z i (get_or a.links.now i 0)) c.loop-i.invariant c.link_good-good.ensures

pub returns : goal.returns
returns c =
    let all : c.loop-i.i ≡ 16 = omega arith in
    rw (← all) c.loop-i.invariant
