-- What holds of every table of lines.
use Rattle.std.specs.Prelude.{ℕ, ◌≤◌, ◌≡◌, refl, Bool, true, false, cond, not, List, [], ◌∷◌, ◌++◌, leb, eqb, Option, Some, None, MatchOption}
use Rattle.std.specs.Option.{option_or}
use Rattle.std.proofs.Common.{sym, subst, ◌∙◌, ⊎_elim, leb-true}
use Rattle.std.proofs.lemmas.Bool.{eqb-false, not-true}
use Rattle.basics.specs.Tests.{tested, and_l, and_r}
use Rattle.basics.specs.Rows.{FirstIs, NoneApplies, Row, all_from, first_of, here, later, none, pass, without}

module _ {A : Type 0} where
  -- Where `FirstIs` names a line, `first_of` gives its value, and nothing where none applies
  pub first_is : {rows : List (Row A)} {a : A} → FirstIs rows a → first_of rows ≡ Some a
  unfolding first_of
  first_is (here {row = row} yes') = rw yes'
  first_is (later {row = row} no' rest) = rw no' (first_is rest)

  pub none_is : {rows : List (Row A)} → NoneApplies rows → first_of rows ≡ None
  unfolding first_of
  none_is none = refl
  none_is (pass {row = row} no' rest) = rw no' (none_is rest)

  -- one of the two holds of every table, and `first_of` says which
  abbrev Decided : List (Row A) → Option A → Type 0
  Decided rows o = MatchOption o (NoneApplies rows) (FirstIs rows)

  -- by whether the first line applies
  abbrev By : Row A → List (Row A) → Option A → Bool → Type 0
  By row rows rest applies = Decided (row ∷ rows) (cond applies (Some row.value) rest)

  pub first_or_none : (rows : List (Row A)) → Decided rows (first_of rows)
  unfolding first_of
  first_or_none [] = none
  first_or_none (row ∷ rows) = ⊎_elim found (onward (first_of rows) (first_or_none rows)) (tested row.applies)
    where
      found : row.applies ≡ true → By row rows (first_of rows) row.applies
      found yes' = subst (By row rows (first_of rows)) (sym yes') (here yes')

      onward : (rest : Option A) → Decided rows rest → row.applies ≡ false → By row rows rest row.applies
      onward None all no' = subst (By row rows None) (sym no') (pass no' all)
      onward (Some a) first no' = subst (By row rows (Some a)) (sym no') (later no' first)

  -- where the table gives something, that is the first line that applies
  pub first_some : {rows : List (Row A)} {a : A} → first_of rows ≡ Some a → FirstIs rows a
  first_some {rows} {a} e = rw e at (first_or_none rows)

  -- and where it gives nothing, no line applies
  pub none_applies : {rows : List (Row A)} → first_of rows ≡ None → NoneApplies rows
  none_applies {rows} e = rw e at (first_or_none rows)

  -- Two tables, one after the other: a line of the first decides, and where none of them applies the second does.
  pub first_append : (front back : List (Row A)) → first_of (front ++ back) ≡ option_or (first_of front) (first_of back)
  unfolding first_of
  first_append [] back = refl
  first_append (row ∷ rows) back =
      ⊎_elim
      (λ (yes' : row.applies ≡ true). rw yes')
      (λ (no' : row.applies ≡ false). rw no' (first_append rows back))
      (tested row.applies)

  pub stops : (front back : List (Row A)) {a : A} → first_of front ≡ Some a → first_of (front ++ back) ≡ Some a
  stops front back e = first_append front back ∙ rw e

  pub goes_on : {front : List (Row A)} (back : List (Row A)) → NoneApplies front → first_of (front ++ back) ≡ first_of back
  goes_on {front} back all = first_append front back ∙ rw (none_is all)

  -- both tables are passed
  pub none_split : (front : List (Row A)) {back : List (Row A)} → NoneApplies (front ++ back) → NoneApplies front × NoneApplies back
  none_split [] all = (none, all)
  none_split (row ∷ rows) (pass no' rest) = let parts = none_split rows rest in (pass no' parts.0, parts.1)

  -- of a table of one line, that line
  pub only_line : {row : Row A} {a : A} → FirstIs (row ∷ []) a → row.applies ≡ true
  only_line (here on) = on
  only_line {row = row} {a = a} (later _ x8) = elim x8 [ ]

-- of lines whose values have numbers
module _ {A : Type 0} (number : A → ℕ) where
  pub first_from_lem : {low : ℕ} {rows : List (Row A)} {a : A} → all_from number low rows ≡ true → FirstIs rows a → low ≤ number a
  unfolding all_from
  first_from_lem {low} h (here {row = row} {rows = rows} on) = leb-true low (number row.value) (and_l _ (all_from number low rows) h)
  first_from_lem {low} h (later {row = row} off rest) = first_from_lem (and_r (leb low (number row.value)) _ h) rest

  -- a number that no line of the first table has is the second's, and the first is passed
  pub first_split : (front : List (Row A)) {back : List (Row A)} {a : A} → without number (number a) front ≡ true → FirstIs (front ++ back) a
      → NoneApplies front × FirstIs back a
  unfolding without
  first_split [] h first = (none, first)
  first_split (row ∷ rows) {a = a} h (here on) =
      absurd
      (eqb-false (number row.value) (number a)
      (not-true (eqb (number row.value) (number a)) (and_l _ (without number (number a) rows) h))
      refl)
  first_split (row ∷ rows) {a = a} h (later off rest) =
      let parts = first_split rows (and_r (not (eqb (number row.value) (number a))) _ h) rest in
      (pass off parts.0, parts.1)
