-- How many elements of a list pass a test, and how many are read as a number: what one store changes, and how a loop that goes up counts.
use Prim.Native.Nat.{ℕ, zero, suc, ◌+◌, ◌≤◌, ◌<◌}
use Rattle.std.proofs.Common.{not-suc-le-zero, le_of_suc-le-suc, add-one, sym, ap, ◌∙◌, length-take, take_all, eq-eqb, ne_eqb}
use Rattle.std.proofs.Math.Nat.{min-le_left}
use native.Mathlib.Omega.{arith}
use Rattle.std.specs.Prelude.{◌≡◌, Bool, true, false, cond, length, get_or, set, take, replicate, eqb, count_by}
use Rattle.std.proofs.Math.Path.{refl}
use mathlib.Core.List.{List, [], ◌∷◌, ◌++◌, map}
use Rattle.std.proofs.Math.Dec.{eqb-zero-suc}
use Rattle.basics.specs.Tests.{by_test}
use Rattle.std.proofs.lemmas.List.Sums.{sum_by-cons}
use mir.Val.{bool_byte}

-- 1 for yes, 0 for no
unfoldable pub bit : Bool → ℕ
bit true = 1
bit false = 0

-- how many elements pass the test
unfoldable pub how_many : {A : Type 0} → (A → Bool) → List A → ℕ
how_many test [] = 0
how_many test (x ∷ xs) = bit (test x) + how_many test xs

-- how many elements, each read by f, are o
unfoldable pub occurrences : {A : Type 0} → (A → ℕ) → ℕ → List A → ℕ
occurrences f o [] = 0
occurrences f o (x ∷ xs) = bit (eqb (f x) o) + occurrences f o xs

-- how many of the numbers under n pass the test
unfoldable pub count_under : ℕ → (ℕ → Bool) → ℕ
count_under zero test = 0
count_under (suc n) test = count_under n test + bit (test n)

pub bit_most : (b : Bool) → bit b ≤ 1
unfolding bit
bit_most true = omega arith
bit_most false = omega arith

pub bit_off : (b : Bool) → bit b ≡ 0 → b ≡ false
unfolding bit
bit_off true h = absurd (omega arith)
bit_off false h = refl

pub bit_same : (o x : ℕ) → x ≡ o → bit (eqb x o) ≡ 1
unfolding bit
bit_same o x e = rw (eq-eqb x o e)

pub bit_zero : (o : ℕ) → bit (eqb 0 (suc o)) ≡ 0
unfolding bit
bit_zero o = rw eqb-zero-suc

-- one that passes and no more
pub none_passed : (b : Bool) (n : ℕ) → bit b + n ≡ 0 → (b ≡ false) × (n ≡ 0)
unfolding bit
none_passed true n h = absurd (omega arith)
none_passed false n h = (refl, omega arith)

module _ {A : Type 0} (test : A → Bool) where
  pub how_many_most : (xs : List A) → how_many test xs ≤ length xs
  unfolding how_many
  how_many_most [] = omega arith
  how_many_most (x ∷ xs) = omega (arith, bit_most (test x), how_many_most xs)

  -- A store takes one away for what stood there and adds one for what is stored.
  pub how_many_set : (xs : List A) (i : ℕ) (v d : A) → i < length xs
      → how_many test (set xs i v) + bit (test (get_or xs i d)) ≡ how_many test xs + bit (test v)
  unfolding how_many
  how_many_set [] i v d less = absurd (omega arith)
  how_many_set (x ∷ xs) zero v d less = omega arith
  how_many_set (x ∷ xs) (suc i) v d less = let rest = how_many_set xs i v d (omega arith) in omega arith

  -- where the test fails from n on, at most n pass it
  pub how_many_under : (xs : List A) (n : ℕ) (d : A) → ((i : ℕ) → n ≤ i → test (get_or xs i d) ≡ false) → how_many test xs ≤ n
  unfolding how_many bit
  how_many_under [] n d off = omega arith
  how_many_under (x ∷ xs) zero d off =
      let here : bit (test x) ≡ 0 = rw (off 0 (omega arith)) in
      let rest = how_many_under xs zero d (λ i low. off (suc i) (omega arith)) in
      omega arith
  how_many_under (x ∷ xs) (suc n) d off =
      let here = bit_most (test x) in
      let rest = how_many_under xs n d (λ i low. off (suc i) (omega arith)) in
      omega arith

  -- and where it fails at one number under n as well, fewer than n do
  pub how_many_missing : (xs : List A) (n i : ℕ) (d : A) → i < n → test (get_or xs i d) ≡ false
      → ((j : ℕ) → n ≤ j → test (get_or xs j d) ≡ false) → how_many test xs + 1 ≤ n
  unfolding how_many bit
  how_many_missing [] n i d less fails off = omega arith
  how_many_missing (x ∷ xs) zero i d less fails off = absurd (omega arith)
  how_many_missing (x ∷ xs) (suc n) zero d less fails off =
      let here : bit (test x) ≡ 0 = rw fails in
      let rest = how_many_under xs n d (λ j low. off (suc j) (omega arith)) in
      omega arith
  how_many_missing (x ∷ xs) (suc n) (suc i) d less fails off =
      let here = bit_most (test x) in
      let rest = how_many_missing xs n i d (omega arith) fails (λ j low. off (suc j) (omega arith)) in
      omega arith

  how_many_suc : (xs : List A) (i : ℕ) (d : A) → i < length xs → how_many test (take (suc i) xs) ≡ how_many test (take i xs) + bit (test (get_or xs i d))
  unfolding how_many
  how_many_suc [] i d h = absurd (not-suc-le-zero h)
  how_many_suc (x ∷ xs) zero d h = omega arith
  how_many_suc (x ∷ xs) (suc i) d h = omega (arith, how_many_suc xs i d (le_of_suc-le-suc h))

  -- A loop that has counted the first i: it counts no more than i, a turn adds the next, and at the end all are counted.
  module _ (xs : List A) (i n : ℕ) (so_far : n ≡ how_many test (take i xs)) where
    count_most : n ≤ i
    count_most = omega (arith, how_many_most (take i xs), length-take i xs, min-le_left i (length xs))

    pub count_next : (d : A) (more : ℕ) → more ≡ bit (test (get_or xs i d)) → n + more ≤ i + 1
    count_next d more e = omega (arith, count_most, bit_most (test (get_or xs i d)))

    pub count_more : (d : A) (more : ℕ) → i < length xs → more ≡ bit (test (get_or xs i d)) → n + more ≡ how_many test (take (i + 1) xs)
    count_more d more h e = rw add-one (omega (arith, how_many_suc xs i d h))

    pub count_all : length xs ≤ i → n ≡ how_many test xs
    count_all h = so_far ∙ ap (how_many test) (take_all i xs h)

module _ {A : Type 0} (f : A → ℕ) (o : ℕ) where
  -- The law that carries all counting of places.
  pub occurrences_set : (xs : List A) (i : ℕ) (v d : A) → i < length xs
      → occurrences f o (set xs i v) + bit (eqb (f (get_or xs i d)) o) ≡ occurrences f o xs + bit (eqb (f v) o)
  unfolding occurrences
  occurrences_set [] i v d less = absurd (omega arith)
  occurrences_set (x ∷ xs) zero v d less = omega arith
  occurrences_set (x ∷ xs) (suc i) v d less = let rest = occurrences_set xs i v d (omega arith) in omega arith

  occurrences_at : (xs : List A) (i : ℕ) (d : A) → i < length xs → bit (eqb (f (get_or xs i d)) o) ≤ occurrences f o xs
  unfolding occurrences
  occurrences_at [] i d less = absurd (omega arith)
  occurrences_at (x ∷ xs) zero d less = omega arith
  occurrences_at (x ∷ xs) (suc i) d less = let rest = occurrences_at xs i d (omega arith) in omega arith

  -- an entry that is read as o is counted
  pub one_there : (xs : List A) (i : ℕ) (d : A) → i < length xs → f (get_or xs i d) ≡ o → 1 ≤ occurrences f o xs
  one_there xs i d less e =
      let there = occurrences_at xs i d less in
      let one = bit_same o (f (get_or xs i d)) e in
      omega arith

  -- two entries that are count twice
  pub two_there : (xs : List A) (i j : ℕ) (d : A) → i < j → j < length xs → f (get_or xs i d) ≡ o → f (get_or xs j d) ≡ o
      → 2 ≤ occurrences f o xs
  unfolding occurrences bit
  two_there [] i j d less inside e e' = absurd (omega arith)
  two_there (x ∷ xs) zero zero d less inside e e' = absurd (omega arith)
  two_there (x ∷ xs) zero (suc j) d less inside e e' =
      let rest = one_there xs j d (omega arith) e' in
      rw (eq-eqb (f x) o e) (omega arith)
  two_there (x ∷ xs) (suc i) zero d less inside e e' = absurd (omega arith)
  two_there (x ∷ xs) (suc i) (suc j) d less inside e e' =
      let rest = two_there xs i j d (omega arith) (omega arith) e e' in
      omega arith

  pub none_there : (xs : List A) (d : A) → ((i : ℕ) → i < length xs → f (get_or xs i d) ≡ o → ⊥) → occurrences f o xs ≡ 0
  unfolding occurrences bit
  none_there [] d none = refl
  none_there (x ∷ xs) d none =
      rw (ne_eqb (f x) o (none 0 (omega arith)), none_there xs d (λ i less. none (suc i) (omega arith)))

pub occurrences_append : {A : Type 0} (f : A → ℕ) (o : ℕ) (xs ys : List A) → occurrences f o (xs ++ ys) ≡ occurrences f o xs + occurrences f o ys
unfolding occurrences
occurrences_append f o [] ys = omega arith
occurrences_append f o (x ∷ xs) ys = let rest = occurrences_append f o xs ys in omega arith

-- where no element from n on is read as o, the first n have them all
pub occurrences_within : {A : Type 0} (f : A → ℕ) (o : ℕ) (xs : List A) (n : ℕ) (d : A) → ((i : ℕ) → n ≤ i → i < length xs → f (get_or xs i d) ≡ o → ⊥)
    → occurrences f o (take n xs) ≡ occurrences f o xs
unfolding occurrences
occurrences_within f o [] zero d none = refl
occurrences_within f o [] (suc n) d none = refl
occurrences_within f o (x ∷ xs) zero d none = sym (none_there f o (x ∷ xs) d (λ i less. none i (omega arith) less))
occurrences_within f o (x ∷ xs) (suc n) d none =
    ap (λ (m : ℕ). bit (eqb (f x) o) + m) (occurrences_within f o xs n d (λ i past less. none (suc i) (omega arith) (omega arith)))

-- what is read from each element first
pub occurrences_map : {A : Type 0} (f : A → ℕ) (o : ℕ) (xs : List A) → occurrences (λ number. number) o (map f xs) ≡ occurrences f o xs
unfolding occurrences
occurrences_map f o [] = refl
occurrences_map f o (x ∷ xs) = ap (λ (n : ℕ). bit (eqb (f x) o) + n) (occurrences_map f o xs)

-- A loop that counts the numbers under n one by one: no more than there are, and a turn adds the next.

pub count_under_most : (n : ℕ) (test : ℕ → Bool) → count_under n test ≤ n
unfolding count_under
count_under_most zero test = omega arith
count_under_most (suc n) test = omega (arith, count_under_most n test, bit_most (test n))

pub count_under_next : (n : ℕ) (test : ℕ → Bool) {so_far more : ℕ} → so_far ≡ count_under n test → more ≡ bit (test n) → so_far + more ≡ count_under (n + 1) test
unfolding count_under
count_under_next n test e m = rw (add-one, e, m)

count_under_front : (n : ℕ) (test : ℕ → Bool) → count_under (suc n) test ≡ bit (test 0) + count_under n (λ i. test (suc i))
unfolding count_under
count_under_front zero test = omega arith
count_under_front (suc n) test = let rest = count_under_front n test in omega arith

-- the elements of a list by their numbers
pub count_under_list : (xs : List ℕ) (n o : ℕ) → length xs ≡ n → count_under n (λ i. eqb (get_or xs i 0) o) ≡ occurrences (λ number. number) o xs
unfolding count_under occurrences
count_under_list [] zero o long = refl
count_under_list [] (suc n) o long = absurd (omega arith)
count_under_list (x ∷ xs) zero o long = absurd (omega arith)
count_under_list (x ∷ xs) (suc n) o long =
    count_under_front n (λ i. eqb (get_or (x ∷ xs) i 0) o) ∙
    ap (λ (m : ℕ). bit (eqb x o) + m) (count_under_list xs n o (omega arith))

-- What std says of a byte that is 1 for yes, and of the elements that it counts.

pub bit_byte : (b : Bool) → bool_byte b ≡ bit b
unfolding bit
bit_byte true = refl
bit_byte false = refl

pub counted : {A : Type 0} (test : A → Bool) (xs : List A) → count_by test xs ≡ how_many test xs
unfolding how_many bit
counted test [] = refl
counted test (x ∷ xs) =
    sum_by-cons (λ x. cond (test x) 1 0) x xs ∙
    by_test (cond (test x) 1 0 + count_by test xs ≡ how_many test (x ∷ xs)) (test x)
    (λ yes'. rw (yes', counted test xs))
    (λ no'. rw (no', counted test xs))

-- of a list of one value that is read as 0, no number above 0 is
pub none_in_zeros : {A : Type 0} (f : A → ℕ) (x : A) (k m : ℕ) → f x ≡ 0 → occurrences f (suc k) (replicate m x) ≡ 0
unfolding occurrences
none_in_zeros f x k zero e = refl
none_in_zeros f x k (suc m) e =
    let rest = none_in_zeros f x k m e in
    let none : bit (eqb (f x) (suc k)) ≡ 0 = rw e (bit_zero k) in
    omega arith
