-- A test of each number under n, as a loop that goes up makes it: what it knows as it goes, and what one failure decides.
use Rattle.std.specs.Prelude.{◌≡◌, refl, Bool, true, false, cond, ◌&&◌, ◌||◌, List, [], ◌∷◌, length, take, drop, get_or, fold, ℕ, zero, suc, ◌+◌, ◌≤◌, ◌<◌, min, ltb}
use Rattle.std.specs.List.{list_all, enumerate_from}
use Rattle.std.proofs.Common.{sym, ap, ap₂, ◌∙◌, ⊎_elim, not-suc-le-zero, le_of_suc-le-suc, eq-or-lt_of_le, add-one, arith, ltb-false, ltb-true, le-ltb, lt-ltb}
use Rattle.std.proofs.Math.Path.{fun_ext}
use Rattle.std.proofs.Math.Bool.{and-false, and-true, and_assoc}
use Rattle.basics.specs.Tests.{both, by_test}

-- the test holds of each number under n
unfoldable pub all_under : ℕ → (ℕ → Bool) → Bool
all_under zero test = true
all_under (suc n) test = all_under n test && test n

-- one more number passes
pub under_more : (n : ℕ) (test : ℕ → Bool) → all_under n test ≡ true → test n ≡ true → all_under (n + 1) test ≡ true
unfolding all_under
under_more n test all here = rw (add-one, all, here)

-- what is known so far and the next number's own test, in a loop that looks at every number
pub under_next : (n : ℕ) (test : ℕ → Bool) {good here : Bool} → good ≡ all_under n test → here ≡ test n → good && here ≡ all_under (n + 1) test
unfolding all_under
under_next n test so_far here = rw (add-one, so_far, here)

-- one fails, so all under n do not pass
pub under_fails : (i n : ℕ) (test : ℕ → Bool) → i < n → test i ≡ false → all_under n test ≡ false
unfolding all_under
under_fails i zero test h fails = absurd (not-suc-le-zero h)
under_fails i (suc n) test h fails =
    ⊎_elim
    (λ e. rw (← e, fails) (and-false (all_under i test)))
    (λ l. rw (under_fails i n test l fails))
    (eq-or-lt_of_le (le_of_suc-le-suc h))

-- tests that agree under n
pub under_same : (n : ℕ) (test other : ℕ → Bool) → ((k : ℕ) → k < n → test k ≡ other k) → all_under n test ≡ all_under n other
unfolding all_under
under_same zero test other same = refl
under_same (suc n) test other same = rw (under_same n test other (λ k h. same k (omega arith)), same n (omega arith))

-- each passes
pub under_all : (n : ℕ) (test : ℕ → Bool) → ((k : ℕ) → k < n → test k ≡ true) → all_under n test ≡ true
unfolding all_under
under_all zero test all = refl
under_all (suc n) test all = rw (under_all n test (λ k h. all k (omega arith)), all n (omega arith))

-- each that passed, by its number
pub under_at : (n : ℕ) (test : ℕ → Bool) → all_under n test ≡ true → (k : ℕ) → k < n → test k ≡ true
unfolding all_under
under_at zero test all k h = absurd (not-suc-le-zero h)
under_at (suc n) test all k h =
    ⊎_elim
    (λ e. rw e (both (all_under n test) (test n) all).1)
    (λ l. under_at n test (both (all_under n test) (test n) all).0 k l)
    (eq-or-lt_of_le (le_of_suc-le-suc h))

-- each of 1 to n, where the test of k asks about k + 1
pub from_one : (n : ℕ) (test : ℕ → Bool) → all_under n (λ k. test (suc k)) ≡ true → (k : ℕ) → 1 ≤ k → k ≤ n → test k ≡ true
from_one n test all zero low high = absurd (omega arith)
from_one n test all (suc k) low high = under_at n (λ k. test (suc k)) all k high

-- fewer pass
pub under_fewer : (m n : ℕ) (test : ℕ → Bool) → m ≤ n → all_under n test ≡ true → all_under m test ≡ true
under_fewer m n test h all = under_all m test (λ k l. under_at n test all k (omega arith))

-- Tests that ask something only from m on.

or_else : (b r : Bool) → (b ≡ false → r ≡ true) → b || r ≡ true
or_else true r last = refl
or_else false r last = last refl

pub beyond_all : (m n : ℕ) (rest : ℕ → Bool) → ((k : ℕ) → k < n → m ≤ k → rest k ≡ true) → all_under n (λ k. ltb k m || rest k) ≡ true
beyond_all m n rest all =
    under_all n (λ k. ltb k m || rest k) (λ k h. or_else (ltb k m) (rest k) (λ e. all k h (ltb-false k m e)))

-- nothing is asked of a number under m
pub beyond_none : (m : ℕ) (rest : ℕ → Bool) → true ≡ all_under m (λ k. ltb k m || rest k)
beyond_none m rest = sym (beyond_all m m rest (λ k h from. absurd (omega arith)))

pub beyond_next : (m n : ℕ) (rest : ℕ → Bool) {good : Bool} → m ≤ n → good ≡ all_under n (λ k. ltb k m || rest k) → good && rest n ≡ all_under (n + 1) (λ k. ltb k m || rest k)
beyond_next m n rest from so_far = under_next n (λ k. ltb k m || rest k) so_far (rw (le-ltb n m from))

-- at the end of a loop that starts at m, which may be past n
pub beyond_end : (m k n : ℕ) (rest : ℕ → Bool) {good : Bool} → n ≤ k → (n < k → k ≡ m) → good ≡ all_under k (λ k. ltb k m || rest k) → good ≡ all_under n (λ k. ltb k m || rest k)
beyond_end m k n rest past started so_far =
    ⊎_elim
    (λ e. rw e so_far)
    (λ l.
    let all : all_under k (λ k. ltb k m || rest k) ≡ true = rw (started l) (sym (beyond_none m rest)) in
    so_far ∙ all ∙ sym (under_fewer n k (λ k. ltb k m || rest k) past all))
    (eq-or-lt_of_le past)

-- The same over a list that is walked once, which the checker computes sooner.

-- the test holds of the first n elements, numbered from k; d where the list is shorter
unfoldable pub walked : {A : Type 0} → (ℕ → A → Bool) → A → ℕ → ℕ → List A → Bool
walked test d k zero xs = true
walked test d k (suc n) [] = test k d && walked test d (suc k) n []
walked test d k (suc n) (x ∷ xs) = test k x && walked test d (suc k) n xs

under_front : (n : ℕ) (test : ℕ → Bool) → all_under (suc n) test ≡ (test 0 && all_under n (λ i. test (suc i)))
unfolding all_under
under_front zero test = rw (and-true (test 0)) refl
under_front (suc n) test =
    ap (λ (b : Bool). b && test (suc n)) (under_front n test) ∙
    and_assoc (test 0) (all_under n (λ i. test (suc i))) (test (suc n))

under_walked : {A : Type 0} (test : ℕ → A → Bool) (d : A) (k n : ℕ) (xs : List A) → all_under n (λ i. test (i + k) (get_or xs i d)) ≡ walked test d k n xs
unfolding all_under walked
under_walked test d k zero xs = refl
under_walked test d k (suc n) [] =
    under_front n (λ i. test (i + k) d) ∙
    ap₂ ◌&&◌
    (ap (λ (j : ℕ). test j d) (omega arith))
    (ap (all_under n) (fun_ext (λ i. ap (λ (j : ℕ). test j d) (omega arith))) ∙ under_walked test d (suc k) n [])
under_walked test d k (suc n) (x ∷ xs) =
    under_front n (λ i. test (i + k) (get_or (x ∷ xs) i d)) ∙
    ap₂ ◌&&◌
    (ap (λ (j : ℕ). test j x) (omega arith))
    (ap (all_under n) (fun_ext (λ i. ap (λ (j : ℕ). test j (get_or xs i d)) (omega arith))) ∙ under_walked test d (suc k) n xs)

pub under_list : {A : Type 0} (test : ℕ → A → Bool) (d : A) (n : ℕ) (xs : List A) → all_under n (λ i. test i (get_or xs i d)) ≡ walked test d 0 n xs
under_list test d n xs =
    ap (all_under n) (fun_ext (λ i. ap (λ (j : ℕ). test j (get_or xs i d)) (omega arith))) ∙ under_walked test d 0 n xs

-- What std's methods over a list say, as tests of each number under n.

-- a fold over the elements with their numbers
numbered_folded : {A : Type 0} (test : ℕ → A → Bool) (d : A) (k : ℕ) (b : Bool) (xs : List A)
    → fold (λ good p. good && test p.0 p.1) b (enumerate_from k xs) ≡ (b && walked test d k (length xs) xs)
unfolding walked
numbered_folded test d k b [] = sym (and-true b)
numbered_folded test d k b (x ∷ xs) =
    rw add-one (numbered_folded test d (suc k) (b && test k x) xs) ∙ and_assoc b (test k x) (walked test d (suc k) (length xs) xs)

pub under_folded : {A : Type 0} (test : ℕ → A → Bool) (d : A) (n : ℕ) (xs : List A) → length xs ≡ n
    → fold (λ good p. good && test p.0 p.1) true (enumerate_from 0 xs) ≡ all_under n (λ i. test i (get_or xs i d))
under_folded test d n xs long = rw (← long) (numbered_folded test d 0 true xs ∙ sym (under_list test d (length xs) xs))

-- within m one test and beyond it another: the first m elements, and the others
module _ {A : Type 0} (within beyond : A → Bool) (d : A) (m : ℕ) where
  abbrev either_side : ℕ → A → Bool
  either_side i x = cond (ltb i m) (within x) (beyond x)

  past : (k : ℕ) (xs : List A) → m ≤ k → walked either_side d k (length xs) xs ≡ list_all beyond xs
  unfolding walked
  past k [] from = refl
  past k (x ∷ xs) from = rw (le-ltb k m from, past (suc k) xs (omega arith))

  sides : (j k : ℕ) (xs : List A) → j + k ≡ m → walked either_side d k (length xs) xs ≡ (list_all within (take j xs) && list_all beyond (drop j xs))
  unfolding walked
  sides zero k xs e = past k xs (omega arith)
  sides (suc j) k [] e = refl
  sides (suc j) k (x ∷ xs) e =
      let inside : k < m = omega arith in
      rw (lt-ltb k m inside, sides j (suc k) xs (omega arith))
      (sym (and_assoc (within x) (list_all within (take j xs)) (list_all beyond (drop j xs))))

  pub under_sides : (n : ℕ) (xs : List A) → length xs ≡ n
      → (list_all within (take m xs) && list_all beyond (drop m xs)) ≡ all_under n (λ i. cond (ltb i m) (within (get_or xs i d)) (beyond (get_or xs i d)))
  under_sides n xs long = rw (← long) (sym (sides m 0 xs (omega arith)) ∙ sym (under_list either_side d (length xs) xs))

all_pass : {A : Type 0} (xs : List A) → list_all (λ x. true) xs ≡ true
all_pass [] = refl
all_pass (x ∷ xs) = all_pass xs

or_cond : (b r : Bool) → cond b true r ≡ (b || r)
or_cond true r = refl
or_cond false r = refl

-- nothing is asked of the first m
pub beyond_listed : {A : Type 0} (test : A → Bool) (d : A) (m n : ℕ) (xs : List A) → length xs ≡ n
    → list_all test (drop m xs) ≡ all_under n (λ i. ltb i m || test (get_or xs i d))
beyond_listed test d m n xs long =
    ap (λ (b : Bool). b && list_all test (drop m xs)) (sym (all_pass (take m xs))) ∙
    under_sides (λ x. true) test d m n xs long ∙
    under_same n (λ i. cond (ltb i m) true (test (get_or xs i d))) (λ i. ltb i m || test (get_or xs i d)) (λ i less. or_cond (ltb i m) (test (get_or xs i d)))

-- where m may be past the n there are

within_least : (i m n : ℕ) → i < n → ltb i (min m n) ≡ ltb i m
within_least i m n inside =
    by_test (ltb i (min m n) ≡ ltb i m) (ltb i m)
    (λ yes'. let less = ltb-true i m yes' in let both : i < min m n = omega arith in lt-ltb i (min m n) both ∙ sym yes')
    (λ no'. let from = ltb-false i m no' in let past : min m n ≤ i = omega arith in le-ltb i (min m n) past ∙ sym no')

pub under_sides_least : {A : Type 0} (within beyond : A → Bool) (d : A) (m n : ℕ) (xs : List A) → length xs ≡ n
    → (list_all within (take (min m n) xs) && list_all beyond (drop (min m n) xs))
    ≡ all_under n (λ i. cond (ltb i m) (within (get_or xs i d)) (beyond (get_or xs i d)))
under_sides_least within beyond d m n xs long =
    under_sides within beyond d (min m n) n xs long ∙
    under_same n (λ i. cond (ltb i (min m n)) (within (get_or xs i d)) (beyond (get_or xs i d)))
    (λ i. cond (ltb i m) (within (get_or xs i d)) (beyond (get_or xs i d)))
    (λ i less. ap (λ (b : Bool). cond b (within (get_or xs i d)) (beyond (get_or xs i d))) (within_least i m n less))

pub beyond_listed_least : {A : Type 0} (test : A → Bool) (d : A) (m n : ℕ) (xs : List A) → length xs ≡ n
    → list_all test (drop (min m n) xs) ≡ all_under n (λ i. ltb i m || test (get_or xs i d))
beyond_listed_least test d m n xs long =
    beyond_listed test d (min m n) n xs long ∙
    under_same n (λ i. ltb i (min m n) || test (get_or xs i d)) (λ i. ltb i m || test (get_or xs i d))
    (λ i less. ap (λ (b : Bool). b || test (get_or xs i d)) (within_least i m n less))
