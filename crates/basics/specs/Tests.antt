-- Tests that are true or false, taken apart and put together.
use Rattle.std.specs.Prelude.{ℕ, ◌≡◌, refl, Bool, true, false, not, ◌&&◌, ◌||◌, ◌⊎◌, eqb}
use Rattle.std.proofs.Common.{arith, sym, ◌∙◌, inl, inr, ⊎_elim, eqb-true}
use Rattle.std.proofs.lemmas.Bool.{false≢true, eqb-false, not-true, not-false}

-- a test is true or false, with the equation kept
pub tested : (b : Bool) → (b ≡ true) ⊎ (b ≡ false)
tested true = inl refl
tested false = inr refl

pub by_test : (P : Type 0) (test : Bool) → (test ≡ true → P) → (test ≡ false → P) → P
by_test P test p q = ⊎_elim p q (tested test)

-- by whether two numbers are the same
pub same_or_not : (P : Type 0) (i j : ℕ) → (i ≡ j → P) → ((i ≡ j → ⊥) → P) → P
same_or_not P i j p q = by_test P (eqb i j) (λ same. p (eqb-true i j same)) (λ other. q (eqb-false i j other))

-- a conjunction that holds
pub and_l : (a b : Bool) → (a && b) ≡ true → a ≡ true
and_l true b h = refl
and_l false b h = h

pub and_r : (a b : Bool) → (a && b) ≡ true → b ≡ true
and_r true b h = h
and_r false b h = absurd (false≢true h)

-- `search ands` finds a part of a conjunction
pub ruleset ands = (and_l, and_r)

pub both : (a b : Bool) → (a && b) ≡ true → (a ≡ true) × (b ≡ true)
both a b h = (and_l a b h, and_r a b h)

module _ {a : Bool} where
  -- two that hold
  pub and_i : {b : Bool} → a ≡ true → b ≡ true → (a && b) ≡ true
  and_i p q = rw (p, q)

  -- the first of two fails
  pub and_not : (b : Bool) → a ≡ false → (a && b) ≡ false
  and_not b p = rw p

  -- the second of two decides
  pub and_then : {b r : Bool} → a ≡ true → b ≡ r → (a && b) ≡ r
  and_then p q = rw (p, q)

-- what is left of a false conjunction one of whose tests is true
pub second_false : (a b : Bool) → a ≡ true → (a && b) ≡ false → b ≡ false
second_false true b h e = e
second_false false b h e = absurd (false≢true h)

pub first_false : (a b : Bool) → b ≡ true → (a && b) ≡ false → a ≡ false
first_false true b h e = sym h ∙ e
first_false false b h e = refl

-- one of two holds
pub either : (a b : Bool) → (a || b) ≡ true → (a ≡ true) ⊎ (b ≡ true)
either true b e = inl refl
either false b e = inr e

pub or_cases : (a b : Bool) → (a || b) ≡ true → a ≡ false → b ≡ true
or_cases true b h ne = absurd (false≢true (sym ne))
or_cases false b h ne = h

-- two things that are never the same: `cc` proves 0 ≡ 1 from two constructors that are said to be equal
pub clash : {A : Type 0} → ◌≡◌ {A = ℕ} 0 1 → A
clash e = absurd (omega arith)

-- A test that a function makes by a call, leaving at `!test`: what the call ensures and the way that was taken decide the test.
module _ {r t : Bool} (is : r ≡ t) where
  pub refused : not r ≡ true → t ≡ false
  refused taken = sym is ∙ not-true r taken

  pub passed : not r ≡ false → t ≡ true
  passed left = sym is ∙ not-false r left
