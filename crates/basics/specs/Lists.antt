-- Lists by their entries: what holds of each after one store, and lists of one value.
use Rattle.std.specs.Prelude.{ℕ, suc, ◌+◌, ◌-◌, ◌<◌, ◌≡◌, Bool, true, List, ◌++◌, length, get_or, set, replicate}
use Rattle.std.proofs.Common.{arith, sym, ap, subst, ◌∙◌, get_or-set_same, get_or-set_other, ext_get_or}
use Rattle.std.proofs.lemmas.List.{length-replicate, get_or-replicate, replicate-append-replicate, set_at}
use Rattle.std.proofs.Math.Seq.{append_snoc}
use Rattle.basics.specs.Tests.{same_or_not}

-- what is at each number of a list after one store: something of what is stored, there, and of what stood there, elsewhere
pub at_set : {A : Type 0} (P : ℕ → A → Type 0) (xs : List A) (i : ℕ) (v d : A) → i < length xs → P i v
    → ((j : ℕ) → (j ≡ i → ⊥) → P j (get_or xs j d)) → (j : ℕ) → P j (get_or (set xs i v) j d)
at_set P xs i v d long this others j =
    same_or_not (P j (get_or (set xs i v) j d)) j i
    (λ e. subst (λ (k : ℕ). P k (get_or (set xs i v) k d)) (sym e) (subst (P i) (sym (get_or-set_same xs i v d long)) this))
    (λ ne. subst (P j) (sym (get_or-set_other xs i j v d ne)) (others j ne))

module _ {A : Type 0} (n : ℕ) (good : ℕ → A → Bool) (d : A) where
  -- each of the first n entries is good
  abbrev pub Each : List A → Type 0
  Each xs = (i : ℕ) → i < n → good i (get_or xs i d) ≡ true

  -- and still is after one good store
  pub each_set : (xs : List A) (j : ℕ) (v : A) → j < length xs → good j v ≡ true → Each xs → Each (set xs j v)
  each_set xs j v long fine each =
      at_set (λ (i : ℕ) (x : A). i < n → good i x ≡ true) xs j v d long (λ less. fine) (λ i ne. each i)

-- a list of known length whose every entry is x
pub all_same : {A : Type 0} (xs : List A) (n : ℕ) (x : A) → length xs ≡ n → ((i : ℕ) → i < n → get_or xs i x ≡ x) → xs ≡ replicate n x
all_same xs n x long each =
    ext_get_or x xs (replicate n x) (long ∙ sym (length-replicate n x))
    (λ i less. each i (rw long at less) ∙ sym (get_or-replicate n i x x (rw long at less)))

-- A list whose first elements are one value and whose others are another: one more store of the first, just after those there are.
pub front_more : {A : Type 0} (n i : ℕ) (a b : A) → i < n
    → set (replicate i a ++ replicate (n - i) b) i a ≡ replicate (i + 1) a ++ replicate (n - (i + 1)) b
front_more n i a b h =
    let e : n - i ≡ suc (n - (i + 1)) = omega arith in
    ap (λ (k : ℕ). set (replicate i a ++ replicate k b) i a) e ∙
    set_at (replicate i a) b (replicate (n - (i + 1)) b) a i (length-replicate i a) ∙
    sym (append_snoc (replicate i a) a (replicate (n - (i + 1)) b)) ∙
    ap (λ l. l ++ replicate (n - (i + 1)) b) (replicate-append-replicate i 1 a)
