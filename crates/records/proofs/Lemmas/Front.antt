-- The front of a list written out element by element, for any length and place.
use Rattle.std.specs.Prelude.{ℕ, zero, suc, ◌+◌, ◌≤◌, ◌<◌, ◌≡◌, List, [], ◌∷◌, ◌++◌, length, get_or, drop}
use Rattle.std.proofs.Common.{ap, zero-add, add-zero, arith, drop-cons}

-- n elements from place i
abbrev pub run : List ℕ → ℕ → ℕ → List ℕ
run l i zero = []
run l i (suc n) = get_or l i 0 ∷ run l (suc i) n

pub run_then_drop : (l : List ℕ) (i n : ℕ) → i + n ≤ length l → run l i n ++ drop (i + n) l ≡ drop i l
run_then_drop l i zero h = rw add-zero
run_then_drop l i (suc n) h =
    let inside : i < length l = omega arith in
    let next : i + suc n ≡ suc i + n = omega arith in
    rw (next, drop-cons l i 0 inside)
    (ap {B = List ℕ} (λ r. get_or l i 0 ∷ r) (run_then_drop l (suc i) n (omega arith)))

-- what stands before a list's end and what stands after it
pub run_front : (l : List ℕ) (n : ℕ) → n ≤ length l → run l 0 n ++ drop n l ≡ l
run_front l n h = rw zero-add at (run_then_drop l 0 n (omega arith))
