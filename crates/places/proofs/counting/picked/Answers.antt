-- `picked` meets its contract: those of the entries passed that the test picks are counted.
use Rattle.std.proofs.Common.{◌≡◌, ◌≤◌, ◌<◌, ℕ, Bool, List, take, length, get_or, refl, arith, rules, ap, ◌∙◌}
use Rattle.basics.specs.Counts.{bit, how_many, bit_byte, bit_most, count_more, count_all}
use Rattle.places.proofs.counting.picked.Goals as goal

pub loop-x-init : goal.loop-x-init
unfolding how_many
loop-x-init g c = (search rules, omega arith, omega arith, λ test picks. refl)

pub overflow_add-n : goal.overflow_add-n
overflow_add-n g c = record { fits = omega (arith, c.from-n.ensures ∙ bit_byte c.picks.result, bit_most c.picks.result, c.loop-x.invariant) }

pub loop-x-preserved : goal.loop-x-preserved
loop-x-preserved g c = (
  search rules,
  omega arith,
  omega (arith, c.from-n.ensures ∙ bit_byte c.picks.result, bit_most c.picks.result),
  λ test picks.
      let l = c.loop-x in
      let x = c.x-item.result in
      let entries = c.args.entries in
      let same : c.picks.result ≡ test (get_or entries l.x-index x) = picks _ _ c.picks.ensures in
      count_more test entries l.x-index l.n (l.invariant.3 test picks) x c.from-n.result (omega arith) (c.from-n.ensures ∙ bit_byte c.picks.result ∙ ap bit same),
)

pub returns : goal.returns
returns g c = λ test picks. count_all test c.args.entries c.loop-x.x-index c.loop-x.n (c.loop-x.invariant.3 test picks) (omega arith)
