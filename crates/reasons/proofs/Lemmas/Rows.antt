-- One row of places: how often the object stands in it, and the first entry that has it.
use Rattle.std.specs.Prelude.{ℕ, ◌<◌, ◌≤◌, ◌≡◌, true, false, List, length, get_or, ltb, eqb}
use Rattle.std.proofs.Common.{arith, sym, ⊎_elim, eq-eqb, ne_eqb, eqb-true, ltb-true, ltb-false}
use Rattle.std.proofs.lemmas.Bool.{eqb-false}
use Rattle.basics.specs.Counts.{occurrences, two_there, none_there}
use Rattle.basics.specs.Tests.{tested}
use Rattle.basics.specs.First.{first}
use Rattle.basics.specs.First.{first_is, first_passes, first_before}

module _ {A : Type 0} (f : A → ℕ) (o : ℕ) (d : A) where
  -- A row of n entries of which those from m on have nothing. Only the first m are looked at.
  module _ (xs : List A) (m n : ℕ) (long : length xs ≡ n) (some : 0 < o)
      (empty : (i : ℕ) → m ≤ i → i < n → f (get_or xs i d) ≡ 0) where
    abbrev pub found : ℕ
    found = first m (λ i. eqb (f (get_or xs i d)) o)

    -- the first that has it is past them: none has
    pub not_found : m ≤ found → occurrences f o xs ≡ 0
    not_found past =
        none_there f o xs d
        (λ i less e.
        ⊎_elim
        (λ (in' : ltb i m ≡ true).
        let off = first_before (λ j. eqb (f (get_or xs j d)) o) m i (omega (arith, ltb-true i m in')) in
        eqb-false _ _ off e)
        (λ (out : ltb i m ≡ false).
        let none = empty i (ltb-false i m out) (omega arith) in
        omega arith)
        (tested (ltb i m)))

    pub found_has : found < m → f (get_or xs found d) ≡ o
    found_has less = eqb-true _ _ (first_passes (λ j. eqb (f (get_or xs j d)) o) m less)

    -- an entry that has it is the only one, and so the first
    pub is_found : occurrences f o xs ≤ 1 → (i : ℕ) → i < m → m ≤ n → f (get_or xs i d) ≡ o → i ≡ found
    is_found once i less fits e =
        sym
        (first_is (λ j. eqb (f (get_or xs j d)) o) m i less (eq-eqb _ _ e)
        (λ j before.
        ne_eqb _ _
        (λ e'.
        let twice = two_there f o xs j i d before (omega arith) e' e in
        omega arith)))
