-- Sums over the numbers 1 to n: of how often each is read in a list, and of marks.
use Rattle.std.specs.Prelude.{ℕ, zero, suc, ◌+◌, ◌<◌, ◌≤◌, ◌≡◌, refl, Bool, false, not, List, [], ◌∷◌, length, get_or, eqb}
use Rattle.std.proofs.Common.{arith, ap, ◌∙◌}
use Rattle.std.proofs.Math.Dec.{eqb-suc-zero, eqb-suc-suc}
use Rattle.basics.specs.Counts.{bit, how_many, occurrences, bit_zero}

-- f 0 + f 1 + .. + f (n - 1)
pub sum_to : ℕ → (ℕ → ℕ) → ℕ
sum_to zero f = 0
sum_to (suc n) f = f 0 + sum_to n (λ k. f (suc k))

pub sum_ones : (n : ℕ) (f : ℕ → ℕ) → ((k : ℕ) → k < n → f k ≡ 1) → sum_to n f ≡ n
unfolding sum_to
sum_ones zero f h = refl
sum_ones (suc n) f h =
    let first = h 0 (omega arith) in
    let rest = sum_ones n (λ k. f (suc k)) (λ k less. h (suc k) (omega arith)) in
    omega arith

pub sum_zeros : (n : ℕ) (f : ℕ → ℕ) → ((k : ℕ) → f k ≡ 0) → sum_to n f ≡ 0
unfolding sum_to
sum_zeros zero f h = refl
sum_zeros (suc n) f h =
    let first = h 0 in
    let rest = sum_zeros n (λ k. f (suc k)) (λ k. h (suc k)) in
    omega arith

pub sum_same : (n : ℕ) (f g : ℕ → ℕ) → ((k : ℕ) → f k ≡ g k) → sum_to n f ≡ sum_to n g
unfolding sum_to
sum_same zero f g h = refl
sum_same (suc n) f g h =
    let first = h 0 in
    let rest = sum_same n (λ k. f (suc k)) (λ k. g (suc k)) (λ k. h (suc k)) in
    omega arith

pub sum_add : (n : ℕ) (f g : ℕ → ℕ) → sum_to n (λ k. f k + g k) ≡ sum_to n f + sum_to n g
unfolding sum_to
sum_add zero f g = refl
sum_add (suc n) f g = let rest = sum_add n (λ k. f (suc k)) (λ k. g (suc k)) in omega arith

pub sum_five : (n : ℕ) (a b c d e : ℕ → ℕ)
    → sum_to n (λ k. a k + b k + c k + d k + e k) ≡ sum_to n a + sum_to n b + sum_to n c + sum_to n d + sum_to n e
sum_five n a b c d e =
    let four = sum_add n (λ k. a k + b k + c k + d k) e in
    let three = sum_add n (λ k. a k + b k + c k) d in
    let two = sum_add n (λ k. a k + b k) c in
    let one = sum_add n a b in
    omega arith

zero_or_not : (y : ℕ) → bit (eqb y 0) + bit (not (eqb y 0)) ≡ 1
unfolding bit
zero_or_not zero = refl
zero_or_not (suc y) = rw (eqb-suc-zero y)

-- a number at most n is one of 1 to n, or 0
sum_one : (n x : ℕ) → x ≤ n → sum_to n (λ k. bit (eqb x (suc k))) ≡ bit (not (eqb x 0))
unfolding sum_to bit
sum_one n zero most = sum_zeros n (λ k. bit (eqb 0 (suc k))) bit_zero
sum_one zero (suc y) most = absurd (omega arith)
sum_one (suc n) (suc y) most =
    let rest = sum_one n y (omega arith) in
    let same : sum_to n (λ k. bit (eqb (suc y) (suc (suc k)))) ≡ sum_to n (λ k. bit (eqb y (suc k))) =
    sum_same n (λ k. bit (eqb (suc y) (suc (suc k)))) (λ k. bit (eqb y (suc k))) (λ k. ap bit (eqb-suc-suc y (suc k)))
    in
    let first : bit (eqb (suc y) 1) ≡ bit (eqb y 0) = ap bit (eqb-suc-suc y 0) in
    let last : bit (not (eqb (suc y) 0)) ≡ 1 = rw (eqb-suc-zero y) in
    let whole = zero_or_not y in
    omega arith

pub sum_occurrences : {A : Type 0} (f : A → ℕ) (d : A) (n : ℕ) (xs : List A) → ((i : ℕ) → i < length xs → f (get_or xs i d) ≤ n)
    → sum_to n (λ k. occurrences f (suc k) xs) ≡ how_many (λ x. not (eqb (f x) 0)) xs
unfolding occurrences how_many
sum_occurrences f d n [] most = sum_zeros n (λ k. 0) (λ k. refl)
sum_occurrences f d n (x ∷ xs) most =
    let here = sum_one n (f x) (most 0 (omega arith)) in
    let rest = sum_occurrences f d n xs (λ i less. most (suc i) (omega arith)) in
    sum_add n (λ k. bit (eqb (f x) (suc k))) (λ k. occurrences f (suc k) xs) ∙ omega arith

pub sum_marks : (marks : List Bool) (n : ℕ) → ((i : ℕ) → n ≤ i → get_or marks i false ≡ false)
    → sum_to n (λ k. bit (get_or marks k false)) ≡ how_many (λ mark. mark) marks
unfolding sum_to how_many bit
sum_marks [] n off = sum_zeros n (λ k. 0) (λ k. refl)
sum_marks (mark ∷ marks) zero off =
    let here = off 0 (omega arith) in
    let rest = sum_marks marks zero (λ i less. off (suc i) (omega arith)) in
    simp (here, ← rest)
sum_marks (mark ∷ marks) (suc n) off =
    let rest = sum_marks marks n (λ i less. off (suc i) (omega arith)) in
    omega arith
