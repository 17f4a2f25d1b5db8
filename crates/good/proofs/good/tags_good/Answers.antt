-- `tags_good` meets its contract.
use Rattle.std.proofs.Common.{◌≡◌, ◌-◌, ℕ, refl, eqb, min, length, take, drop, rules, arith, ◌∙◌, ap, take_all}
use Rattle.std.proofs.lemmas.List.{take_rest}
use Rattle.std.specs.List.{list_all}
use Rattle.std.proofs.lemmas.List.Folds.{list_all_more}
use Rattle.basics.specs.Under.{beyond_listed_least}
use Rattle.entries.specs.Entries.{tag_good}
use Rattle.good.proofs.good.tags_good.Goals as goal

pub loop-tag-init : goal.loop-tag-init
loop-tag-init c = refl

pub loop-tag-preserved : goal.loop-tag-preserved
loop-tag-preserved c =
    let k = c.loop-tag.tag-index in
    let m = c.min.result in
    let tags = take (240 - m) (drop m c.args.tags.now) in
    rw (list_all_more (λ (tag : ℕ). eqb tag 0) tags k 0 c.loop-tag-test.true, c.loop-tag.invariant)

pub returns : goal.returns
unfolding tag_good
returns c =
    let tags = c.args.tags.now in
    let m = c.min.result in
    let zero' = (λ (tag : ℕ). eqb tag 0) in
    let long : length tags ≡ 240 = search rules in
    let end : m ≡ min c.args.z.objects 240 = rw c.from.ensures at c.min.ensures in
    let rest : take (240 - m) (drop m tags) ≡ drop m tags = rw long at (take_rest tags m) in
    let all = take_all c.loop-tag.tag-index (take (240 - m) (drop m tags)) (omega arith) in
    c.loop-tag.invariant ∙ ap (list_all zero') (all ∙ rest) ∙ rw end (beyond_listed_least zero' 0 c.args.z.objects 240 tags long)
