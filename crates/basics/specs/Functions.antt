-- A function changed at one point, and what a contract of the form "the result is f of the argument" leaves open: nothing.
use Rattle.std.specs.Prelude.{ℕ, ◌≡◌, refl, cond, eqb}
use Rattle.std.proofs.Common.{sym, ◌∙◌, eq-eqb, ne_eqb}

-- f with another value at i
unfoldable pub put : {A : Type 0} → (ℕ → A) → ℕ → A → ℕ → A
put f i value j = cond (eqb j i) value (f j)

pub put_same : {A : Type 0} (f : ℕ → A) (i : ℕ) (v : A) → put f i v i ≡ v
unfolding put
put_same f i v = rw (eq-eqb i i refl)

pub put_other : {A : Type 0} (f : ℕ → A) (i : ℕ) (v : A) (j : ℕ) → (j ≡ i → ⊥) → put f i v j ≡ f j
unfolding put
put_other f i v j ne = rw (ne_eqb j i ne)

-- any two results that such a contract allows are the same
pub allowed_once : {A B : Type 0} (f : A → B) (x : A) (r s : B) → r ≡ f x → s ≡ f x → r ≡ s
allowed_once f x r s p q = p ∙ sym q
