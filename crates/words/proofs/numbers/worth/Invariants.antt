-- the value so far is in range, and with the rest of the digits it makes the word's
use Rattle.std.proofs.Common.{◌≡◌, ◌≤◌, drop}
use Rattle.words.specs.Numbers.{worth_after, worth_of}
use Rattle.words.proofs.numbers.worth.Given as goal

abbrev pub invariant-loop-b : goal.invariant-loop-b
invariant-loop-b l = (l.value ≤ l.most) × (worth_of l.word ≡ worth_after l.value (drop l.b-index l.word))
