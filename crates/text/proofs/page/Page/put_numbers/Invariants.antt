-- The fields from the next number on are still to come.
use Rattle.std.proofs.Common.{[], ◌∷◌, ◌++◌, drop, map}
use Rattle.text.specs.Decimal.{decimal}
use Rattle.text.specs.Fields.{joined}
use Rattle.text.specs.Paging.{Leads}
use Rattle.text.proofs.page.Page.put_numbers.Given as goal

abbrev pub invariant-loop-number : goal.invariant-loop-number
invariant-loop-number l =
    Leads l.self (joined (map decimal (drop l.number-index (l.front ++ l.last ∷ [])))) l.initial.self (joined (map decimal (l.front ++ l.last ∷ [])))
