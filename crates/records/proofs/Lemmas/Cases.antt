-- What reading answers, case by case, and that there are no other cases.
use Rattle.std.specs.Prelude.{ℕ, ◌-◌, ◌≤◌, ◌<◌, ◌≡◌, refl, List, [], ◌∷◌, Bool, true, false, ◌&&◌, length, get_or, take, drop, eqb, Ok, Err, Some, None}
use Rattle.std.proofs.Common.{sym, subst, ◌∙◌, arith, length-drop, take_all}
use Rattle.std.proofs.lemmas.Bool.{false≢true}
use Rattle.std.proofs.Math.Decide.{dec_le, ℕ_discrete}
use borrow.Author.Tests.{eq-eqb, ne_eqb, lt-ltb, le-ltb, eqb-true}
use Rattle.records.specs.declared.Record.{Record}
use Rattle.records.specs.declared.Record.TheVariants.{Sizes, Step}
use Rattle.records.specs.declared.Malformed.{Malformed}
use Rattle.records.specs.declared.Malformed.TheVariants.{Short, OtherMark, NotZero}
use Rattle.records.specs.Marks.{sizes_mark, step_mark, marked}
use Rattle.records.specs.Reading.{Read, sizes_at, step_at, zeros_at_end, read_of}
use Rattle.records.specs.Rest.{rest_after, rest_of}

pub both : (s t : Bool) → (s && t) ≡ true → (s ≡ true) × (t ≡ true)
both true t e = (refl, e)
both false t e = absurd (false≢true e)

-- the two bytes of a mark that the input starts with
pub mark_at : (m n : ℕ) (bs : List ℕ) → marked (m ∷ n ∷ []) bs ≡ true → (get_or bs 0 0 ≡ m) × (get_or bs 1 0 ≡ n)
unfolding marked
mark_at m n bs e =
    let two = both (eqb (get_or bs 0 0) m) (eqb (get_or bs 1 0) n) e in
    (eqb-true _ _ two.0, eqb-true _ _ two.1)

step_not_sizes : (bs : List ℕ) → marked step_mark bs ≡ true → marked sizes_mark bs ≡ false
unfolding marked
step_not_sizes bs e = simp ((mark_at 84 75 bs e).0, (mark_at 84 75 bs e).1)

module _ (bs : List ℕ) where
  pub reads_end : length bs ≡ 0 → read_of bs ≡ Ok None
  unfolding read_of
  reads_end e = simp (eq-eqb _ _ e)

  pub reads_short : (length bs ≡ 0 → ⊥) → length bs < 10 → read_of bs ≡ Err Short
  unfolding read_of
  reads_short n h = simp (ne_eqb _ _ n, lt-ltb _ _ h)

module _ (bs : List ℕ) (long : 10 ≤ length bs) where
  some_bytes : length bs ≡ 0 → ⊥
  some_bytes e = omega arith

  pub reads_other : marked sizes_mark bs ≡ false → marked step_mark bs ≡ false → read_of bs ≡ Err OtherMark
  unfolding read_of
  reads_other n m = simp (ne_eqb _ _ some_bytes, le-ltb _ _ long, n, m)

  pub reads_step : marked step_mark bs ≡ true → read_of bs ≡ Ok (Some (Step (step_at bs)))
  unfolding read_of
  reads_step m = simp (ne_eqb _ _ some_bytes, le-ltb _ _ long, m, step_not_sizes bs m)

  pub reads_nonzero : marked sizes_mark bs ≡ true → zeros_at_end bs ≡ false → read_of bs ≡ Err NotZero
  unfolding read_of
  reads_nonzero m z = simp (ne_eqb _ _ some_bytes, le-ltb _ _ long, m, z)

  pub reads_sizes : marked sizes_mark bs ≡ true → zeros_at_end bs ≡ true → read_of bs ≡ Ok (Some (Sizes (sizes_at bs)))
  unfolding read_of
  reads_sizes m z = simp (ne_eqb _ _ some_bytes, le-ltb _ _ long, m, z)

-- The cases that `Promise` tells apart, with what is known of the input in each.
pub data Case (bs : List ℕ) : Read → Type 0 where
  sizes : 10 ≤ length bs → marked sizes_mark bs ≡ true → zeros_at_end bs ≡ true → Case bs (Ok (Some (Sizes (sizes_at bs))))
  step : 10 ≤ length bs → marked step_mark bs ≡ true → Case bs (Ok (Some (Step (step_at bs))))
  at_end_lem : Case bs (Ok None)
  refused : (why : Malformed) → Case bs (Err why)

known : (bs : List ℕ) {a : Read} → read_of bs ≡ a → Case bs a → Case bs (read_of bs)
known bs e c = subst (Case bs) (sym e) c

short : (bs : List ℕ) → length bs < 10 → Dec (length bs ≡ 0) → Case bs (read_of bs)
short bs h (yes e) = known bs (reads_end bs e) at_end_lem
short bs h (no n) = known bs (reads_short bs n h) (refused Short)

module _ (bs : List ℕ) (long : 10 ≤ length bs) where
  with_sizes_mark : marked sizes_mark bs ≡ true → (z : Bool) → zeros_at_end bs ≡ z → Case bs (read_of bs)
  with_sizes_mark m true z = known bs (reads_sizes bs long m z) (sizes long m z)
  with_sizes_mark m false z = known bs (reads_nonzero bs long m z) (refused NotZero)

  by_mark : (s t : Bool) → marked sizes_mark bs ≡ s → marked step_mark bs ≡ t → Case bs (read_of bs)
  by_mark true t m n = with_sizes_mark m (zeros_at_end bs) refl
  by_mark false true m n = known bs (reads_step bs long n) (step long n)
  by_mark false false m n = known bs (reads_other bs long m n) (refused OtherMark)

by_length : (bs : List ℕ) → Dec (10 ≤ length bs) → Case bs (read_of bs)
by_length bs (yes h) = by_mark bs h (marked sizes_mark bs) (marked step_mark bs) refl refl
by_length bs (no n) = short bs (omega arith) (ℕ_discrete _ _)

pub case_of : (bs : List ℕ) → Case bs (read_of bs)
case_of bs = by_length bs (dec_le 10 (length bs))

-- a record is read only where ten bytes stand
abbrev Long : List ℕ → Read → Type 0
Long bs (Ok (Some r)) = 10 ≤ length bs
Long bs (Ok None) = Unit {0}
Long bs (Err why) = Unit {0}

long_case : (bs : List ℕ) {a : Read} → Case bs a → Long bs a
long_case bs (sizes h m z) = h
long_case bs (step h m) = h
long_case bs at_end_lem = tt
long_case bs (refused why) = tt

module _ (bs : List ℕ) (r : Record) (e : read_of bs ≡ Ok (Some r)) where
  pub read_long : 10 ≤ length bs
  read_long = subst (Long bs) e (long_case bs (case_of bs))

  pub rest_record : rest_of bs ≡ drop 10 bs
  unfolding rest_of rest_after
  rest_record = rw e

  -- the same as the part of the input that the code takes
  pub rest_part : take (length bs - 10) (drop 10 bs) ≡ rest_of bs
  rest_part = take_all (length bs - 10) (drop 10 bs) (simp length-drop (omega arith)) ∙ sym rest_record

pub rest_at_end : (bs : List ℕ) → read_of bs ≡ Ok None → rest_of bs ≡ bs
unfolding rest_of rest_after
rest_at_end bs e = rw e

pub rest_refused : (bs : List ℕ) (why : Malformed) → read_of bs ≡ Err why → rest_of bs ≡ bs
unfolding rest_of rest_after
rest_refused bs why e = rw e
