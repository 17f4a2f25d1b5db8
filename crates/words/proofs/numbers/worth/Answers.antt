-- `worth` meets its contract.
use Rattle.std.proofs.Common.{suc, ◌+◌, ◌*◌, ◌-◌, refl, sym, ◌∙◌, arith, add-one, get_or, drop}
use Rattle.words.specs.Numbers.{worth_of}
use Rattle.words.proofs.Digits.{worth_more, worth_end, worth_grows, fits, too_large}
use Rattle.words.proofs.numbers.worth.Goals as goal

pub loop-b-init : goal.loop-b-init
unfolding worth_of
loop-b-init c = (omega arith, refl)

pub returns-then-value-from : goal.returns-then-value-from
returns-then-value-from c =
    let at = c.loop-b in
    let word = c.args.word.now in
    let next = 10 * at.value + (get_or word at.b-index 0 - 48) in
    let more = worth_more word at.b-index at.value (omega arith) in
    let grown = worth_grows next (drop (suc at.b-index) word) in
    sym (too_large _ (worth_of word) (omega (arith, at.invariant.1, more, grown)))

pub loop-b-preserved : goal.loop-b-preserved
loop-b-preserved c =
    let at = c.loop-b in
    let word = c.args.word.now in
    (omega arith, rw add-one (at.invariant.1 ∙ worth_more word at.b-index at.value (omega arith) ∙ let digit = c.from.ensures ∙ c.saturating_sub.ensures in rw digit refl))

pub returns : goal.returns
returns c =
    let at = c.loop-b in
    rw (at.invariant.1 ∙ worth_end _ _ _ c.loop-b-test.false) (sym (fits _ _ at.invariant.0))
