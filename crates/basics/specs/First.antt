-- The first number that passes a test: it passes, those before it do not, and no other number is such.
use Prim.Native.Nat.{ℕ, zero, suc, ◌+◌, ◌<◌, ◌≤◌}
use native.Mathlib.Omega.{arith}
use Rattle.std.proofs.Common.{eq-or-lt_of_le, sym, ◌∙◌}
use Rattle.std.proofs.Math.Nat.{suc_inj}
use Rattle.std.specs.Prelude.{◌≡◌, Bool, true, false, cond}
use Rattle.std.proofs.Math.Path.{subst}
use Rattle.std.proofs.Math.Logic.{⊎_elim}
use Rattle.basics.specs.Tests.{tested}

-- from k on, of so many numbers, the first that passes; the number after them where none does
unfoldable pub first_from : ℕ → ℕ → (ℕ → Bool) → ℕ
first_from k zero test = k
first_from k (suc more) test = cond (test k) k (first_from (suc k) more test)

-- of the numbers under n; n where none passes
abbrev pub first : ℕ → (ℕ → Bool) → ℕ
first n test = first_from 0 n test

module _ (test : ℕ → Bool) where
  from_none : (k n : ℕ) → ((j : ℕ) → k ≤ j → j < k + n → test j ≡ false) → first_from k n test ≡ k + n
  unfolding first_from
  from_none k zero fails = omega arith
  from_none k (suc n) fails =
      rw (fails k (omega arith) (omega arith))
      (from_none (suc k) n (λ j low high. fails j (omega arith) (omega arith)) ∙ omega arith)

  from_is : (k n r : ℕ) → k ≤ r → r < k + n → test r ≡ true → ((j : ℕ) → k ≤ j → j < r → test j ≡ false) → first_from k n test ≡ r
  unfolding first_from
  from_is k zero r low high passes fails = absurd (omega arith)
  from_is k (suc n) r low high passes fails =
      ⊎_elim
      (λ (e : k ≡ r). rw (subst (λ (i : ℕ). test i ≡ true) (sym e) passes) e)
      (λ (l : k < r).
      rw (fails k (omega arith) l)
      (from_is (suc k) n r l (omega arith) passes (λ j low' high'. fails j (omega arith) high')))
      (eq-or-lt_of_le low)

  from_passes : (k n : ℕ) → first_from k n test < k + n → test (first_from k n test) ≡ true
  unfolding first_from
  from_passes k zero less = absurd (omega arith)
  from_passes k (suc n) less =
      ⊎_elim
      (λ (e : test k ≡ true). rw e e)
      (λ (e : test k ≡ false). let past = rw e at less in rw e (from_passes (suc k) n (omega arith)))
      (tested (test k))

  from_before : (k n j : ℕ) → k ≤ j → j < first_from k n test → test j ≡ false
  unfolding first_from
  from_before k zero j low less = absurd (omega arith)
  from_before k (suc n) j low less =
      ⊎_elim
      (λ (e : test k ≡ true). let here = rw e at less in absurd (omega arith))
      (λ (e : test k ≡ false).
      ⊎_elim
      (λ (same : k ≡ j). subst (λ (i : ℕ). test i ≡ false) same e)
      (λ (l : k < j). from_before (suc k) n j l (rw e at less))
      (eq-or-lt_of_le low))
      (tested (test k))

  -- none passes
  pub first_none : (n : ℕ) → ((j : ℕ) → j < n → test j ≡ false) → first n test ≡ n
  first_none n fails = from_none 0 n (λ j low high. fails j (omega arith)) ∙ omega arith

  -- r passes and none before it
  pub first_is : (n r : ℕ) → r < n → test r ≡ true → ((j : ℕ) → j < r → test j ≡ false) → first n test ≡ r
  first_is n r less passes fails = from_is 0 n r (omega arith) (omega arith) passes (λ j low. fails j)

  pub first_passes : (n : ℕ) → first n test < n → test (first n test) ≡ true
  first_passes n less = from_passes 0 n (omega arith)

  pub first_before : (n j : ℕ) → j < first n test → test j ≡ false
  first_before n j = from_before 0 n j (omega arith)

  -- where the first is not under n, none passes
  pub none_before : (n j : ℕ) → n ≤ first n test → j < n → test j ≡ false
  none_before n j past less = first_before n j (omega arith)

  -- one more number does not pass, as a loop that goes up finds out
  pub none_more : (i : ℕ) → ((j : ℕ) → j < i → test j ≡ false) → test i ≡ false → (j : ℕ) → j < i + 1 → test j ≡ false
  none_more i fails here j less =
      ⊎_elim
      (λ (e : suc j ≡ suc i). subst (λ (k : ℕ). test k ≡ false) (sym (suc_inj e)) here)
      (λ (l : suc j < suc i). fails j (omega arith))
      (eq-or-lt_of_le (omega arith))
