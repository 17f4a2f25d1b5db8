-- A table of lines: "the first that applies is given, in this order, and never otherwise".
use Rattle.std.specs.Prelude.{ℕ, ◌≡◌, Bool, true, false, cond, not, ◌&&◌, List, [], ◌∷◌, leb, eqb, Option, Some, None}

-- a line of the table: what it gives, and whether it applies
pub record Row (A : Type 0) : Type 0 where
  pub value : A
  pub applies : Bool

infix 20 ◌when◌
abbrev pub ◌when◌ : {A : Type 0} → A → Bool → Row A
value when applies = record { value = value; applies = applies }

-- what the first line that applies gives
unfoldable pub first_of : {A : Type 0} → List (Row A) → Option A
first_of [] = None
first_of (row ∷ rows) = cond row.applies (Some row.value) (first_of rows)

-- no line applies
pub data NoneApplies {A : Type 0} : List (Row A) → Type 0 where
  none : NoneApplies []
  pass : {row : Row A} {rows : List (Row A)} → row.applies ≡ false → NoneApplies rows → NoneApplies (row ∷ rows)

-- the line that gives this applies, and no line before it does
pub data FirstIs {A : Type 0} : List (Row A) → A → Type 0 where
  here : {row : Row A} {rows : List (Row A)} → row.applies ≡ true → FirstIs (row ∷ rows) row.value
  later : {row : Row A} {rows : List (Row A)} {a : A} → row.applies ≡ false → FirstIs rows a → FirstIs (row ∷ rows) a

-- of lines whose values have numbers
module _ {A : Type 0} (number : A → ℕ) where
  -- The numbers of the lines are from `low` on.
  unfoldable pub all_from : ℕ → List (Row A) → Bool
  all_from low [] = true
  all_from low (row ∷ rows) = leb low (number row.value) && all_from low rows

  -- no line has this number
  unfoldable pub without : ℕ → List (Row A) → Bool
  without n [] = true
  without n (row ∷ rows) = not (eqb (number row.value) n) && without n rows
