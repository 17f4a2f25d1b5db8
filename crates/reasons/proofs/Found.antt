-- The first of the numbers under n that passes, as a loop or a search over the range finds it.
use Rattle.std.specs.Prelude.{ℕ, ◌*◌, ◌<◌, ◌≤◌, ◌≡◌, Bool, true, false, Option, None, Some, MatchOption, List, ⊤}
use Rattle.std.proofs.Common.{arith, sym, ap, ◌∙◌, get_or, length, IsSome, ⊎_elim, subst, ltb}
use native.Mathlib.Nat.{mul-le-mul_right}
use borrow.Author.Tests.{lt-ltb, le-ltb, ltb-true, ltb-false}
use Rattle.basics.specs.Tests.{tested}
use Rattle.basics.specs.First.{first, first_is, first_none}
use denote.Ref.{Bor}
use Rattle.std.specs.declared.ops.Range.{Range}
use Rattle.std.specs.Iterator.Adapters.{zip_first, zip_second}
use Rattle.std.specs.Slice.Iter.{iter_rest}
use Rattle.std.proofs.lemmas.List.{get_or_default}
use Rattle.std.proofs.lemmas.List.FromFn.{length-range_with_len, get_or-range_with_len}
use Rattle.std.proofs.lemmas.Slice.Zip.{length-zip, get_or-zip}
use Rattle.std.specs.Fn.{CalledAt}
use Rattle.std.specs.Iterator.{YieldsThen}
use Rattle.std.specs.List.{FoldsTo, AllWithin, HoldsAt, range_with_len, zip}
use Rattle.std.proofs.iter.Yields.{nat_range_steps, fronts}
use Rattle.std.proofs.lemmas.Iterator.{first_from_find, zips, YieldsList-from_zip, YieldsList-from_range, YieldsList-from_slice}
use denote.Param.Members.{Mut}
use Rattle.reasons.specs.Reasons.{found}

-- after the last thread no position is left
pub at_end_lem : (threads slots t j : ℕ) → threads ≤ t → j < threads * slots → j < t * slots
at_end_lem threads slots t j past less = let all : threads * slots ≤ t * slots = mul-le-mul_right slots past in omega arith

module _ (n : ℕ) (test : ℕ → Bool) where
  pub found_at : (p : ℕ) → p < n → test p ≡ true → ((j : ℕ) → j < p → test j ≡ false) → Some p ≡ found n test
  found_at p less here before = rw (first_is test n p less here before, lt-ltb p n less)

  pub found_nowhere : ((j : ℕ) → j < n → test j ≡ false) → None ≡ found n test
  found_nowhere none = rw (first_none test n none, le-ltb n n (omega arith))

  -- what is found is the first, under n
  pub found_first : (r : Option ℕ) → r ≡ found n test → (i : ℕ) → r ≡ Some i → (i < n) × (i ≡ first n test)
  found_first r e i some =
      ⊎_elim
      (λ (l : ltb (first n test) n ≡ true). let e' = rw l at e in let same : i ≡ first n test = cc in (subst (λ (k : ℕ). k < n) (sym same) (ltb-true _ _ l), same))
      (λ (l : ltb (first n test) n ≡ false). let e' = rw l at e in cc)
      (tested (ltb (first n test) n))

  pub found_under : (r : Option ℕ) → r ≡ found n test → (i : ℕ) → r ≡ Some i → (m : ℕ) → n ≤ m → i < m
  found_under r e i some m most = let at = found_first r e i some in omega arith

  pub found_none : (r : Option ℕ) → r ≡ found n test → r ≡ None → n ≤ first n test
  found_none r e none =
      ⊎_elim
      (λ (l : ltb (first n test) n ≡ true). let e' = rw l at e in cc)
      (λ (l : ltb (first n test) n ≡ false). ltb-false _ _ l)
      (tested (ltb (first n test) n))

-- the number of a pair that was found
abbrev pub number_of : {B : Type 0} → Option (ℕ × B) → Option ℕ
number_of None = None
number_of (Some x) = Some x.0

pub some_number : {B : Type 0} (r : Option (ℕ × B)) → IsSome (number_of r) → IsSome r
some_number None h = h
some_number (Some x) h = h

-- The same of a search over the entries of a list, each beside its number: the number that is found, and the entry beside it.
module _ {A : Type 0} (n : ℕ) (xs : List A) (d : A) (test : A → Bool) where
  abbrev beside : List (ℕ × A)
  beside = zip (range_with_len 0 n) xs

  module _ (fits : n ≤ length xs) where
    beside_length : length beside ≡ n
    beside_length = let l = length-range_with_len 0 n in length-zip (range_with_len 0 n) xs ∙ omega (arith, l)

    beside_at : (k : ℕ) (e : ℕ × A) → k < n → get_or beside k e ≡ (k, get_or xs k d)
    beside_at k e h =
        let l = length-range_with_len 0 n in
        let first_is : get_or (range_with_len 0 n) k e.0 ≡ k = omega (arith, get_or-range_with_len 0 n k e.0 h) in
        let second_is : get_or xs k e.1 ≡ get_or xs k d = get_or_default xs k e.1 d (omega arith) in
        get_or-zip (range_with_len 0 n) xs k e (omega (arith, l)) (omega arith) ∙ (λ i. (first_is i, second_is i))

    abbrev Here : ℕ × A → Type 0
    Here p = Some p.0 ≡ found n (λ i. test (get_or xs i d))

    by_entries :
        (r : Option (ℕ × Bor A)) →
        MatchOption r (AllWithin (λ p. test p.1 ≡ false) beside 0 (length beside))
        (λ x. (test x.1.now ≡ true) × (i : ℕ) × (i < length beside) × HoldsAt (λ y. y ≡ (x.0, x.1.now)) beside i × AllWithin (λ p. test p.1 ≡ false) beside 0 i) →
        (number_of r ≡ found n (λ i. test (get_or xs i d))) × ((x : ℕ × Bor A) → r ≡ Some x → x.1.now ≡ get_or xs x.0 d)
    by_entries None h =
        let l = beside_length in (
          found_nowhere n (λ i. test (get_or xs i d))
              (λ j less. subst (λ (p : ℕ × A). test p.1 ≡ false) (beside_at j (0, d) less) (h j (0, d) (omega arith) (omega arith))),
          λ x e. cc,
        )
    by_entries (Some x) h =
        let l = beside_length in
        let i = h.1 in
        let less : i < n = omega (arith, h.2) in
        let is : ◌≡◌ {A = ℕ × A} (i, get_or xs i d) (x.0, x.1.now) = sym (beside_at i (0, d) less) ∙ h.3 (0, d) in
        let number : i ≡ x.0 = ap (λ (p : ℕ × A). p.0) is in
        let entry : get_or xs i d ≡ x.1.now = ap (λ (p : ℕ × A). p.1) is in
        let here : Some i ≡ found n (λ k. test (get_or xs k d)) =
        found_at n (λ k. test (get_or xs k d)) i less (ap test entry ∙ h.0)
        (λ j before. subst (λ (p : ℕ × A). test p.1 ≡ false) (beside_at j (0, d) (omega arith)) (h.4 j (0, d) (omega arith) before))
        in
        let same : x.1.now ≡ get_or xs x.0 d = sym entry ∙ ap (λ (k : ℕ). get_or xs k d) number in (
          subst (λ (k : ℕ). Some k ≡ found n (λ i. test (get_or xs i d))) number here,
          λ y e. subst (λ (o : Option (ℕ × Bor A)). MatchOption o (Unit {0}) (λ z. z.1.now ≡ get_or xs z.0 d)) e same,
        )

    -- what `find` over the numbers under n, each with its entry, ensures: the number that is found, and that the entry is the one of that number
    pub found_beside :
        {F : Type 0} {g : Mut F (Bor (ℕ × Bor A) × Unit {0}) Bool} {s : _} (u : _) {f : F} {r : Option (ℕ × Bor A)} →
        ◌≡◌ {A = Range ℕ} (zip_first s) (record { start = 0; end = n }) →
        iter_rest (zip_second s) ≡ xs →
        (zs : List (ℕ × Bor A)) × (j : F) × YieldsThen (zips nat_range_steps fronts) s zs r u × FoldsTo (λ p x q. CalledAt g p x false q) f zs j × MatchOption r ⊤ (λ x. (h : F) × CalledAt g j x true h) →
        ((x : ℕ × Bor A) (b : Bool) (q : F) → CalledAt g f x b q → (q ≡ f) × (b ≡ test x.1.now)) →
        (number_of r ≡ found n (λ i. test (get_or xs i d))) × ((x : ℕ × Bor A) → r ≡ Some x → x.1.now ≡ get_or xs x.0 d)
    found_beside u {f = f} {r = r} e rest ran calls =
        by_entries r
        (first_from_find u f r (λ p. test p.1 ≡ true) (λ p. test p.1 ≡ false) ran
        (YieldsList-from_zip (YieldsList-from_range 0 n n e (omega arith)) (YieldsList-from_slice xs rest))
        (λ x q k. sym (calls x true q k).1)
        (λ x q k. ((calls x false q k).0, sym (calls x false q k).1)))
