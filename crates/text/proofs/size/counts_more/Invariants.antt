-- What is left of the room is the room less the fields so far.
use Rattle.std.proofs.Common.{◌+◌, ◌≡◌, drop}
use Rattle.text.specs.Joining.{fields_size}
use Rattle.text.proofs.size.counts_more.Given as goal

abbrev pub invariant-loop-number : goal.invariant-loop-number
invariant-loop-number l = fields_size (drop l.number-index l.numbers) + l.room ≡ fields_size l.numbers + l.left
