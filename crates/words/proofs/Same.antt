-- The comparison of two words as a Bool, and as an equation, and what it says of their length and of two of their bytes.
use Prim.Native.Nat.{ℕ}
use mathlib.Core.Path.{◌≡◌, refl, sym, ap}
use mathlib.Core.Bool.{Bool, true, false, ◌&&◌}
use mathlib.Core.List.{List, [], ◌∷◌}
use borrow.Author.Tests.{eqb-true, eq-eqb}
use lib.ListN.{length, get_or}
use lib.Dec.{eqb}
use Rattle.words.specs.Names.{same_bytes}

both_first : (a b : Bool) → a && b ≡ true → a ≡ true
both_first true b e = refl
both_first false b e = e

both_second : (a b : Bool) → a && b ≡ true → b ≡ true
both_second true b e = e
both_second false true e = refl
both_second false false e = e

pub same_of : (a b : List ℕ) → same_bytes a b ≡ true → a ≡ b
unfolding same_bytes
same_of [] [] e = refl
same_of [] (y ∷ ys) e = let z : ◌≡◌ {A = Bool} false true = e in cc
same_of (x ∷ xs) [] e = let z : ◌≡◌ {A = Bool} false true = e in cc
same_of (x ∷ xs) (y ∷ ys) e =
    let first : x ≡ y = eqb-true x y (both_first (eqb x y) (same_bytes xs ys) e) in
    let others : xs ≡ ys = same_of xs ys (both_second (eqb x y) (same_bytes xs ys) e) in
    cc

same_self : (a : List ℕ) → same_bytes a a ≡ true
unfolding same_bytes
same_self [] = refl
same_self (x ∷ xs) = simp (eq-eqb x x refl, same_self xs)

-- a Bool that says whether two words are equal is the definition's
pub same_is : (r : Bool) (a b : List ℕ) → (r ≡ true → a ≡ b) → (a ≡ b → r ≡ true) → r ≡ same_bytes a b
same_is r a b f g = by_cases r (same_bytes a b) (λ e. rw (f e) (same_self b)) (λ e. g (same_of a b e))
  where
    by_cases : (r s : Bool) → (r ≡ true → s ≡ true) → (s ≡ true → r ≡ true) → r ≡ s
    by_cases true s f g = sym (f refl)
    by_cases false true f g = g refl
    by_cases false false f g = refl

-- words that are the same are as long
pub same_long : (a b : List ℕ) → same_bytes a b ≡ true → length a ≡ length b
same_long a b e = ap length (same_of a b e)

-- and have the same first byte
pub same_first : (a b : List ℕ) → same_bytes a b ≡ true → get_or a 0 0 ≡ get_or b 0 0
same_first a b e = ap (λ l. get_or l 0 0) (same_of a b e)

pub same_third : (a b : List ℕ) → same_bytes a b ≡ true → get_or a 2 0 ≡ get_or b 2 0
same_third a b e = ap (λ l. get_or l 2 0) (same_of a b e)
