-- The object that is handed out next: it is free, and there is one exactly when some object is free.
use Rattle.std.specs.Prelude.{ℕ, zero, suc, ◌+◌, ◌≡◌, refl, Bool, true, false, List, [], ◌∷◌, get_or, eqb, is_none}
use Rattle.std.proofs.Common.{arith, sym, ◌∙◌, subst}
use Rattle.std.proofs.Math.Dec.{eqb-suc-zero}
use Rattle.pool.specs.declared.Pool.{Pool}
use Rattle.pool.specs.Pool.{is_free, first_on, object_of, next_of}

-- where the first mark that is on stands
record First (k : ℕ) (marks : List Bool) : Type 0 where
  index : ℕ
  number : first_on k marks ≡ suc (k + index)
  on : get_or marks index false ≡ true

first_found : (k : ℕ) (marks : List Bool) → (first_on k marks ≡ 0 → ⊥) → First k marks
unfolding first_on
first_found k [] some = absurd (some refl)
first_found k (true ∷ marks) some = record { index = 0; number = omega arith; on = refl }
first_found k (false ∷ marks) some =
    let rest = first_found (suc k) marks some in
    record { index = suc rest.index; number = rest.number ∙ omega arith; on = rest.on }

none_found : (k : ℕ) (marks : List Bool) → first_on k marks ≡ 0 → (i : ℕ) → get_or marks i false ≡ false
unfolding first_on
none_found k [] none i = refl
none_found k (true ∷ marks) none i = absurd (omega arith)
none_found k (false ∷ marks) none zero = refl
none_found k (false ∷ marks) none (suc i) = none_found (suc k) marks none i

pub next_is_free : (pool : Pool) → (next_of pool ≡ 0 → ⊥) → is_free pool (next_of pool) ≡ true
unfolding next_of is_free
next_is_free pool some =
    let first = first_found 0 pool.marks some in
    let same : suc first.index ≡ first_on 0 pool.marks = let number = first.number in omega arith in
    subst (λ (o : ℕ). is_free pool o ≡ true) same first.on

pub none_is_free : (pool : Pool) → next_of pool ≡ 0 → (o : ℕ) → is_free pool o ≡ false
unfolding next_of is_free
none_is_free pool none zero = refl
none_is_free pool none (suc k) = none_found 0 pool.marks none k

-- no object is handed out exactly where its number is 0
pub none_is_zero : (n : ℕ) → is_none (object_of n) ≡ eqb n 0
none_is_zero zero = refl
none_is_zero (suc n) = sym (eqb-suc-zero n)
