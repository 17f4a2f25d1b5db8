-- the tags passed are 0, or one is not
use Rattle.std.specs.Prelude.{◌≡◌, eqb, take}
use Rattle.std.specs.List.{list_all}
use Rattle.good.proofs.good.tags_good.Given as goal

abbrev pub invariant-loop-tag : goal.invariant-loop-tag
invariant-loop-tag l = l.good ≡ list_all (λ tag. eqb tag 0) (take l.tag-index l.tag-items)
