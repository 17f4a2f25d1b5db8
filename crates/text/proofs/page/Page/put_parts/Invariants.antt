-- What the rest of the template gives, with the numbers that are left, is still to come; each byte so far took at most three.
use Rattle.std.proofs.Common.{◌+◌, ◌*◌, ◌≤◌, drop}
use Rattle.std.specs.Slice.Iter.{iter_rest}
use Rattle.text.specs.Paging.{Leads}
use Rattle.text.specs.Words.{filled}
use Rattle.text.proofs.page.Page.put_parts.Given as goal

abbrev pub invariant-loop-byte : goal.invariant-loop-byte
invariant-loop-byte l =
    (goal.iterator-loop-byte).can_next l.left ×
    (l.self.at ≤ l.initial.self.at + 3 * l.byte-index) ×
    Leads l.self (filled (drop l.byte-index l.template) (iter_rest l.left)) l.initial.self (filled l.template l.numbers)
