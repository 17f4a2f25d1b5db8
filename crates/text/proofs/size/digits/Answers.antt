-- `text::size::digits` meets its contract: a number has one digit more than its logarithm says.
use Rattle.std.proofs.Common.{sym, arith}
use Rattle.text.specs.Digits.{digits_by_powers}
use Rattle.text.proofs.size.digits.Goals as goal

pub returns : goal.returns
returns c = (omega arith, sym (digits_by_powers _ _ (rw c.max.ensures at c.ilog10.ensures.power_le) (rw c.max.ensures at c.ilog10.ensures.next_power_gt)))
