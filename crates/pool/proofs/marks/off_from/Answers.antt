-- `off_from` meets its contract.
use Rattle.std.proofs.Common.{◌≡◌, ◌-◌, false, refl, not, length, take, drop, rules, arith, ◌∙◌, ap, take_all}
use Rattle.std.proofs.lemmas.List.{take_rest}
use Rattle.std.specs.List.{list_all}
use Rattle.std.proofs.lemmas.List.Folds.{list_all_more}
use Rattle.basics.specs.Under.{beyond_listed}
use Rattle.pool.proofs.marks.off_from.Goals as goal

pub loop-mark-init : goal.loop-mark-init
loop-mark-init c = refl

pub loop-mark-preserved : goal.loop-mark-preserved
loop-mark-preserved c =
    let k = c.loop-mark.mark-index in
    let marks = take (240 - c.from.result) (drop c.from.result c.args.marks.now) in
    rw (list_all_more not marks k false c.loop-mark-test.true, c.loop-mark.invariant)

pub returns : goal.returns
returns c =
    let marks = c.args.marks.now in
    let n = c.from.result in
    let long : length marks ≡ 240 = search rules in
    let rest : take (240 - n) (drop n marks) ≡ drop n marks = rw long at (take_rest marks n) in
    let all = take_all c.loop-mark.mark-index (take (240 - n) (drop n marks)) (omega arith) in
    c.loop-mark.invariant ∙ ap (list_all not) (all ∙ rest) ∙ rw c.from.ensures (beyond_listed not false c.args.n 240 marks long)
