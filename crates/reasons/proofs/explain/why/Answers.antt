-- `why` meets its contract: what is refused is answered by its line, and what is kept by its reason and its first hazard.
use Rattle.std.proofs.Common.{sym, ◌∙◌, rules}
use Rattle.reasons.specs.Reasons.{checked_of, hazard_at, hazard_of, why_of}
use Rattle.reasons.proofs.Picks.{limited}
use Rattle.reasons.proofs.Lemmas.NotRefused.{unless_ok, unless_err}
use Rattle.reasons.proofs.explain.why.Goals as goal

pub returns-in_err-check : goal.returns-in_err-check
unfolding why_of checked_of
returns-in_err-check c = let e = unless_err _ tt _ (sym c.check.ensures ∙ c.in_err-check.was) in rw e (search rules)

pub reason_of-requires : goal.reason_of-requires
unfolding checked_of
reason_of-requires c = unless_ok _ tt _ (sym c.check.ensures ∙ c.in_ok-check.was)

pub first_hazard-requires : goal.first_hazard-requires
unfolding checked_of
first_hazard-requires c =
    let most = limited c.args.state _ (unless_ok _ tt _ (sym c.check.ensures ∙ c.in_ok-check.was)) in
    (most.threads, most.slots)

pub returns : goal.returns
unfolding why_of checked_of hazard_of hazard_at
returns c =
    let e = unless_ok _ tt _ (sym c.check.ensures ∙ c.in_ok-check.was) in
    rw (e, c.reason_of.ensures, c.first_hazard.ensures)
