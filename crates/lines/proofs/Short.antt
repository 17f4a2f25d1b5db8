-- No line of a run is longer than 40 bytes.
use Prim.Native.Nat.{ℕ, ◌^◌, ◌≤◌, ◌<◌}
use mathlib.Core.Path.{◌≡◌}
use native.Mathlib.Omega.{arith}
use lib.ListN.{length, length-append}
use Rattle.entries.specs.declared.Sizes.{Sizes}
use Rattle.machine.specs.declared.Call.{Call}
use Rattle.machine.specs.declared.Answer.{Answer}
use Rattle.machine.specs.declared.Places.{Places}
use Rattle.machine.specs.Answers.{numbers, numbers_of}
use Rattle.text.specs.Decimal.{decimal}
use Rattle.text.specs.Fields.{joined}
use Rattle.basics.specs.Ascii.{ascii}
use Rattle.lines.specs.Line.{bytes_of}
use Rattle.lines.specs.Run.{sizes_line, step_line, end_line, stop_line}
use Rattle.text.specs.Digits.{decimal_short, byte_short, word_short}

count_short : (n : ℕ) → n ≤ 6001 → length (decimal n) ≤ 4
count_short n h = decimal_short 3 n (omega arith)

pub sizes_short :
    (r : Sizes) → r.threads < 2 ^ 8 → r.slots < 2 ^ 8 → r.links < 2 ^ 8 → r.objects < 2 ^ 8 →
    length (bytes_of (sizes_line r)) ≤ 40
unfolding bytes_of sizes_line joined
sizes_short r t h l n =
    simp length-append (omega (arith, byte_short _ t, byte_short _ h, byte_short _ l, byte_short _ n))

pub step_short :
    (number : ℕ) (r : Call) (answer : Answer) (k a b : ℕ) → numbers_of answer ≡ numbers k a b →
    number ≤ 6001 → r.thread < 2 ^ 8 → r.operation < 2 ^ 8 → k < 2 ^ 8 → a < 2 ^ 32 → b < 2 ^ 32 →
    length (bytes_of (step_line number r answer)) ≤ 40
unfolding bytes_of step_line joined
step_short number r answer k a b e n t o hk ha hb =
    rw e
    (simp length-append
    (omega
    (arith, count_short _ n, byte_short _ t, byte_short _ o, byte_short _ hk, word_short _ ha, word_short _ hb)))

pub end_short :
    (steps : ℕ) (p : Places) → steps ≤ 6001 →
    p.free < 2 ^ 8 → p.links < 2 ^ 8 → p.hands < 2 ^ 8 → p.handovers < 2 ^ 8 → p.carried < 2 ^ 8 →
    length (bytes_of (end_line steps p)) ≤ 40
unfolding bytes_of end_line joined ascii
end_short steps p n f l h o k =
    simp length-append
    (omega
    (arith, count_short _ n, byte_short _ f, byte_short _ l, byte_short _ h, byte_short _ o, byte_short _ k))

pub stop_short : (before number : ℕ) → before ≤ 6001 → number < 2 ^ 8 → length (bytes_of (stop_line before number)) ≤ 40
unfolding bytes_of stop_line joined ascii
stop_short before number n h = simp length-append (omega (arith, count_short _ n, byte_short _ h))
