-- A number as the ASCII digits that print it.
use Rattle.std.specs.Prelude.{ℕ, zero, suc, ◌+◌, ◌/◌, ◌%◌, cond, List, [], ◌∷◌, ◌++◌, ltb}
use Prim.Native.Char.{code}

-- the digit that prints a number below 10
abbrev pub digit : ℕ → ℕ
digit n = code "0" + n

-- the last digits of a number, at most so many: its last digit, after those of a tenth of it where that is not 0
unfoldable pub digits : ℕ → ℕ → List ℕ
digits zero n = []
digits (suc most) n =
    let front = digits most (n / 10) in
    cond (ltb n 10) [] front ++ digit (n % 10) ∷ []

-- all digits of a number, no zero in front; 0 is the one digit 0. A number has fewer digits than one more than itself.
unfoldable pub decimal : ℕ → List ℕ
decimal n = digits (suc n) n
