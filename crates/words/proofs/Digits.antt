-- Digits from a place on: what the loops over a word need.
use Prim.Native.Nat.{ℕ, suc, ◌+◌, ◌*◌, ◌-◌, ◌≤◌, ◌<◌}
use mathlib.Core.Path.{◌≡◌, refl}
use mathlib.Core.Bool.{Bool, true, false, cond}
use mathlib.Core.List.{List, [], ◌∷◌}
use native.Mathlib.Omega.{arith}
use borrow.Author.Tests.{leb-true, lt-leb, le-leb}
use lib.ListN.{length, get_or, drop, drop_of_length-le}
use lib.Seq.{drop-cons}
use lib.Dec.{leb}
use Rattle.std.specs.Prelude.{Ok, Err}
use Rattle.std.specs.List.{list_all}
use Rattle.std.specs.Char.{is_ascii_digit}
use Rattle.words.specs.declared.Why.TheVariants.{Missing, NotNumber, TooLarge}
use Rattle.words.specs.Numbers.{is_digit, all_digits, worth_after, worth_of, fitting, spelled, number_of}

-- what `all` answers is the definition's
pub digits_all : (word : List ℕ) → all_digits word ≡ list_all is_ascii_digit word
unfolding all_digits is_digit
digits_all [] = refl
digits_all (b ∷ bs) = rw (digits_all bs) refl

-- whether all are digits, from a place on: the byte there, and the rest

pub digits_stop : (word : List ℕ) (i : ℕ) → i < length word → is_digit (get_or word i 0) ≡ false → all_digits (drop i word) ≡ false
unfolding all_digits
digits_stop word i h e = rw (drop-cons word i 0 h) (rw e)

pub digits_more : (word : List ℕ) (i : ℕ) → i < length word → is_digit (get_or word i 0) ≡ true → all_digits (drop i word) ≡ all_digits (drop (suc i) word)
unfolding all_digits
digits_more word i h e = rw (drop-cons word i 0 h) (rw e)

pub digits_end : (word : List ℕ) (i : ℕ) → length word ≤ i → all_digits (drop i word) ≡ true
unfolding all_digits
digits_end word i h = rw (drop_of_length-le word h)

pub worth_more : (word : List ℕ) (i before : ℕ) → i < length word → worth_after before (drop i word) ≡ worth_after (10 * before + (get_or word i 0 - 48)) (drop (suc i) word)
unfolding worth_after
worth_more word i before h = rw (drop-cons word i 0 h)

pub worth_end : (word : List ℕ) (i before : ℕ) → length word ≤ i → worth_after before (drop i word) ≡ before
unfolding worth_after
worth_end word i before h = rw (drop_of_length-le word h)

-- more digits never make a smaller number
pub worth_grows : (before : ℕ) (word : List ℕ) → before ≤ worth_after before word
unfolding worth_after
worth_grows before [] = omega arith
worth_grows before (b ∷ bs) =
    let more = worth_grows (10 * before + (b - 48)) bs in
    omega arith

pub fits : (most value : ℕ) → value ≤ most → fitting most value ≡ Ok value
unfolding fitting
fits most value h = simp (le-leb _ _ h)

pub too_large : (most value : ℕ) → most < value → fitting most value ≡ Err TooLarge
unfolding fitting
too_large most value h = simp (lt-leb _ _ h)

-- a word with no bytes, and one with some

pub none_there : (word : List ℕ) (most : ℕ) → length word ≡ 0 → number_of word most ≡ Err Missing
unfolding number_of
none_there [] most e = refl
none_there (b ∷ bs) most e = let z : suc (length bs) ≡ 0 = e in let no : ⊥ = omega arith in absurd no

pub some_there : (word : List ℕ) (most : ℕ) → (length word ≡ 0 → ⊥) → number_of word most ≡ spelled word most
unfolding number_of
some_there [] most e = absurd (e refl)
some_there (b ∷ bs) most e = refl

-- a value that was read is at most the largest of its field

fitted : (t : Bool) (value most v : ℕ) → (t ≡ true → value ≤ most) → cond t (Ok value) (Err TooLarge) ≡ Ok v → v ≤ most
fitted true value most v h e =
    let same : value ≡ v = cc in
    let small = h refl in
    omega arith
fitted false value most v h e = let z : ◌≡◌ {A = ℕ} 0 1 = cc in omega arith

spelled_fits : (t : Bool) (value most v : ℕ) → cond t (fitting most value) (Err NotNumber) ≡ Ok v → v ≤ most
unfolding fitting
spelled_fits true value most v e = fitted (leb value most) value most v (leb-true value most) e
spelled_fits false value most v e = let z : ◌≡◌ {A = ℕ} 0 1 = cc in omega arith

pub number_fits : (word : List ℕ) (most v : ℕ) → number_of word most ≡ Ok v → v ≤ most
unfolding number_of spelled
number_fits [] most v e = let z : ◌≡◌ {A = ℕ} 0 1 = cc in omega arith
number_fits (b ∷ bs) most v e = spelled_fits (all_digits (b ∷ bs)) (worth_of (b ∷ bs)) most v e
