-- Facts of `decimal`: its last digit and the digits before it, and how many digits there are.
use Rattle.std.specs.Prelude.{ℕ, zero, suc, ◌+◌, ◌*◌, ◌/◌, ◌%◌, ◌^◌, ◌≤◌, ◌<◌, ◌≡◌, max, List, [], ◌∷◌, ◌++◌, length}
use Rattle.std.proofs.Common.{sym, ap, ◌∙◌, mod-eq_of_lt, pow-suc, arith, length-append, lt-ltb, le-ltb}
use Rattle.std.proofs.Math.Decide.{dec_le}
use Rattle.text.specs.Decimal.{digit, digits, decimal}

few : (most n : ℕ) → n < 10 → digits (suc most) n ≡ digit n ∷ []
unfolding digits
few most n h = simp (lt-ltb n 10 h, mod-eq_of_lt h)

many : (most n : ℕ) → 10 ≤ n → digits (suc most) n ≡ digits most (n / 10) ++ digit (n % 10) ∷ []
unfolding digits
many most n h = simp (le-ltb n 10 h)

enough_by : (most more n : ℕ) → Dec (10 ≤ n) → (10 ≤ n → digits most (n / 10) ≡ digits more (n / 10)) → digits (suc most) n ≡ digits (suc more) n
enough_by most more n (yes big) front =
    many most n big ∙ ap {B = List ℕ} (λ d. d ++ digit (n % 10) ∷ []) (front big) ∙ sym (many more n big)
enough_by most more n (no small) front = few most n (omega arith) ∙ sym (few more n (omega arith))

-- more room than there are digits makes no difference
enough : (most more n : ℕ) → n < most → n < more → digits most n ≡ digits more n
enough zero more n h k = absurd (omega arith)
enough (suc most) zero n h k = absurd (omega arith)
enough (suc most) (suc more) n h k =
    enough_by most more n (dec_le 10 n) (λ big. enough most more (n / 10) (omega arith) (omega arith))

pub decimal_few : (n : ℕ) → n < 10 → decimal n ≡ digit n ∷ []
unfolding decimal
decimal_few n h = few n n h

pub decimal_many : (n : ℕ) → 10 ≤ n → decimal n ≡ decimal (n / 10) ++ digit (n % 10) ∷ []
unfolding decimal
decimal_many n h =
    many n n h ∙
    ap {B = List ℕ} (λ front. front ++ digit (n % 10) ∷ []) (enough n (suc (n / 10)) (n / 10) (omega arith) (omega arith))

short_by : (k n : ℕ) → Dec (10 ≤ n) → (10 ≤ n → length (decimal (n / 10)) ≤ suc k) → length (decimal n) ≤ suc (suc k)
short_by k n (yes big) front = rw (decimal_many n big, length-append) (omega (arith, front big))
short_by k n (no small) front = rw (decimal_few n (omega arith)) (omega arith)

-- a number below 10 ^ k has at most k digits, k at least 1
pub decimal_short : (k n : ℕ) → n < 10 ^ suc k → length (decimal n) ≤ suc k
decimal_short zero n h = rw (decimal_few n h) (omega arith)
decimal_short (suc k) n h =
    let power : 10 ^ suc (suc k) ≡ 10 ^ suc k * 10 = pow-suc 10 (suc k) in
    short_by k n (dec_le 10 n) (λ big. decimal_short k (n / 10) (omega arith))

pub byte_short : (n : ℕ) → n < 2 ^ 8 → length (decimal n) ≤ 3
byte_short n h = decimal_short 2 n (omega arith)

pub word_short : (n : ℕ) → n < 2 ^ 32 → length (decimal n) ≤ 10
word_short n h = decimal_short 9 n (omega arith)

-- how many digits there are: one, or one more than a tenth has
pub one_digit : (n : ℕ) → n < 10 → length (decimal n) ≡ 1
one_digit n h = rw (decimal_few n h)

pub more_digits : (n : ℕ) → 10 ≤ n → length (decimal n) ≡ length (decimal (n / 10)) + 1
more_digits n h = rw (decimal_many n h) (length-append (decimal (n / 10)) (digit (n % 10) ∷ []))

powers : (k n : ℕ) → 10 ^ k ≤ n → n < 10 * 10 ^ k → length (decimal n) ≡ k + 1
powers zero n least most = one_digit n (omega arith)
powers (suc k) n least most =
    let power : 10 ^ suc k ≡ 10 ^ k * 10 = pow-suc 10 k in
    let big : 10 ≤ n = omega arith in
    omega (arith, more_digits n big, powers k (n / 10) (omega arith) (omega arith))

-- as many as there are powers of ten not above the number, 0 taken as 1
pub digits_by_powers : (k n : ℕ) → 10 ^ k ≤ max n 1 → max n 1 < 10 * 10 ^ k → length (decimal n) ≡ k + 1
digits_by_powers k zero least most = one_digit 0 (omega arith) ∙ sym (one_digit 1 (omega arith)) ∙ powers k 1 least most
digits_by_powers k (suc n) least most = powers k (suc n) (omega arith) (omega arith)
