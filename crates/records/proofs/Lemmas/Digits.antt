-- A number and its bytes, low byte first, for any number of bytes: each gives the other back.
use Rattle.std.specs.Prelude.{ℕ, zero, suc, ◌+◌, ◌*◌, ◌/◌, ◌%◌, ◌^◌, ◌<◌, ◌≡◌, refl, List, [], ◌∷◌, length, get_or}
use Rattle.std.proofs.Common.{ap, pow-suc, arith, lit<}
use Rattle.records.specs.Bytes.{AllBytes, low_first, number_of}
use Rattle.records.proofs.Lemmas.Front.{run}

pub byte_at : (bs : List ℕ) → AllBytes bs → (i : ℕ) → get_or bs i 0 < 256
byte_at [] all i = lit< tt
byte_at (b ∷ bs) all zero = all.0
byte_at (b ∷ bs) all (suc i) = byte_at bs all.1 i

-- what is known of a slice of bytes, place by place
pub by_places : (bs : List ℕ) → ((i : ℕ) → get_or bs i 0 < 256) → AllBytes bs
by_places [] h = tt
by_places (b ∷ bs) h = (h 0, by_places bs (λ i. h (suc i)))

pub low_bytes : (n v : ℕ) → AllBytes (low_first n v)
unfolding low_first
low_bytes zero v = tt
low_bytes (suc n) v = (omega arith, low_bytes n (v / 256))

-- a part of a list of bytes
pub run_bytes : (bs : List ℕ) → AllBytes bs → (i n : ℕ) → AllBytes (run bs i n)
run_bytes bs all i zero = tt
run_bytes bs all i (suc n) = (byte_at bs all i, run_bytes bs all (suc i) n)

pub number_of_low : (n v : ℕ) → v < 256 ^ n → number_of (low_first n v) ≡ v
unfolding low_first number_of
number_of_low zero v h = omega arith
number_of_low (suc n) v h =
    let up : v < 256 ^ n * 256 = rw pow-suc at h in
    omega (arith, number_of_low n (v / 256) (omega arith))

pub low_of_number : (bs : List ℕ) → AllBytes bs → low_first (length bs) (number_of bs) ≡ bs
unfolding low_first number_of
low_of_number [] h = refl
low_of_number (b ∷ bs) h =
    let small : b < 256 = h.0 in
    let low : (b + 256 * number_of bs) % 256 ≡ b = omega arith in
    let high : (b + 256 * number_of bs) / 256 ≡ number_of bs = omega arith in
    rw (low, high) (ap {B = List ℕ} (λ l. b ∷ l) (low_of_number bs h.1))

pub number_small : (bs : List ℕ) → AllBytes bs → number_of bs < 256 ^ length bs
unfolding number_of
number_small [] h = lit< tt
number_small (b ∷ bs) h = rw pow-suc (omega (arith, h.0, number_small bs h.1))
