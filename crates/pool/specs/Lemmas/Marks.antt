-- A good pool's marks by their numbers: what is on in a fresh one, what one store changes, and their sum.
use Prim.Native.Nat.{ℕ, zero, suc, ◌+◌, ◌-◌, ◌<◌, ◌≤◌}
use native.Mathlib.Omega.{arith}
use Rattle.std.specs.Prelude.{◌≡◌, refl, Bool, not, ◌||◌, ◌++◌, set, ltb, ◌⊎◌}
use Rattle.std.proofs.Common.{inr, ⊎_elim, sym, ap, ◌∙◌, length-append, length-set, get_or-append-add, get_or-set_same, get_or-set_other, eqb-true, eq-eqb, le-leb, lt-ltb, le-ltb, ltb-true, ltb-false}
use Rattle.std.proofs.Math.Path.{subst}
use Rattle.std.proofs.Math.Bool.{true, false}
use Rattle.std.proofs.lemmas.Bool.{false≢true, not-true}
use Rattle.std.proofs.Math.ListN.{length, get_or, replicate, length-replicate, get_or-replicate, get_or-append, get_or-eq_default}
use Rattle.std.proofs.Math.Seq.{set_out}
use Rattle.pool.specs.declared.Pool.{Pool}
use Rattle.basics.specs.Tests.{by_test, ands, and_i}
use Rattle.basics.specs.Counts.{bit}
use Rattle.basics.specs.Under.{under_at, under_all}
use Rattle.basics.specs.Lists.{Each, each_set, all_same}
use Rattle.basics.specs.Sums.{sum_to, sum_marks}
use Rattle.pool.specs.Pool.{is_free, marked, fresh_pool, marked_at, taken_out, put_back, free_count, pool_good, pool_of}

-- a mark beyond n is off
abbrev mark_good : ℕ → ℕ → Bool → Bool
mark_good n k mark = ltb k n || not mark

record Good (n : ℕ) (pool : Pool) : Type 0 where
  long : length pool.marks ≡ 240
  marks : Each 240 (mark_good n) false pool.marks

to_good : (n : ℕ) (pool : Pool) → pool_good n pool ≡ true → Good n pool
unfolding pool_good
to_good n pool h =
    record {
      long = eqb-true _ _ (search ands);
      marks = under_at 240 (λ k. mark_good n k (get_or pool.marks k false)) (search ands);
    }

from_good : (n : ℕ) (pool : Pool) → Good n pool → pool_good n pool ≡ true
unfolding pool_good
from_good n pool g = and_i (eq-eqb _ _ g.long) (under_all 240 _ g.marks)

-- it is off within the 240 and past them
off_beyond : (n : ℕ) (pool : Pool) → Good n pool → (k : ℕ) → n ≤ k → get_or pool.marks k false ≡ false
off_beyond n pool g k beyond =
    by_test (get_or pool.marks k false ≡ false) (ltb k 240)
    (λ inside. not-true _ (rw (le-ltb k n beyond) at (g.marks k (ltb-true k 240 inside))))
    (λ past. get_or-eq_default pool.marks false (rw g.long (ltb-false k 240 past)))

pub free_is_object : (n : ℕ) (pool : Pool) → pool_good n pool ≡ true → (o : ℕ) → is_free pool o ≡ true → (0 < o) × (o ≤ n)
unfolding is_free
free_is_object n pool h zero free = absurd (false≢true free)
free_is_object n pool h (suc k) free = (
  omega arith,
  by_test (suc k ≤ n) (ltb k n)
      (λ inside. ltb-true k n inside)
      (λ past. absurd (false≢true (sym (off_beyond n pool (to_good n pool h) k (ltb-false k n past)) ∙ free))),
)

-- the first n marks are on, the others off
module _ (n : ℕ) where
  marks_long : n ≤ 240 → length (marked n) ≡ 240
  unfolding marked
  marks_long most = simp (length-append, length-replicate) (omega arith)

  marks_on : (k : ℕ) → k < n → get_or (marked n) k false ≡ true
  unfolding marked
  marks_on k less =
      get_or-append (replicate n true) (replicate (240 - n) false) false k (rw length-replicate less) ∙
      get_or-replicate n k true false less

  all_off : (m j : ℕ) → get_or (replicate m false) j false ≡ false
  all_off zero j = refl
  all_off (suc m) zero = refl
  all_off (suc m) (suc j) = all_off m j

  marks_off : (k : ℕ) → n ≤ k → get_or (marked n) k false ≡ false
  unfolding marked
  marks_off k beyond =
      let e : k ≡ length (replicate n true) + (k - n) = rw length-replicate (omega arith) in
      subst (λ (i : ℕ). get_or (replicate n true ++ replicate (240 - n) false) i false ≡ false) (sym e)
      (get_or-append-add (replicate n true) (replicate (240 - n) false) (k - n) false ∙ all_off (240 - n) (k - n))

  fresh_is : n ≤ 240 → fresh_pool n ≡ pool_of (marked n)
  unfolding fresh_pool
  fresh_is most = rw (le-leb n 240 most)

  pub fresh_good : n ≤ 240 → pool_good n (fresh_pool n) ≡ true
  fresh_good most =
      rw (fresh_is most)
      (from_good n (pool_of (marked n))
      (record {
        long = marks_long most;
        marks =
            λ k less.
            by_test (mark_good n k (get_or (marked n) k false) ≡ true) (ltb k n)
            (λ inside. rw inside)
            (λ past. rw (past, marks_off k (ltb-false k n past)));
      }))

  pub fresh_free : n ≤ 240 → (o : ℕ) → 0 < o → o ≤ n → is_free (fresh_pool n) o ≡ true
  unfolding is_free
  fresh_free most zero some under = absurd (omega arith)
  fresh_free most (suc k) some under = rw (fresh_is most) (marks_on k under)

-- one mark stored

stored : (n : ℕ) (pool : Pool) → Good n pool → (k : ℕ) (mark : Bool) → k < 240 → mark_good n k mark ≡ true → Good n (pool_of (set pool.marks k mark))
stored n pool g k mark less fine =
    record {
      long = simp length-set g.long;
      marks = each_set 240 (mark_good n) false pool.marks k mark (rw g.long less) fine g.marks;
    }

beyond_240 : (n : ℕ) (pool : Pool) → Good n pool → (k : ℕ) (mark : Bool) → 240 ≤ k → Good n (pool_of (set pool.marks k mark))
beyond_240 n pool g k mark past =
    record {
      long = simp length-set g.long;
      marks =
          λ i less.
          rw (get_or-set_other pool.marks k i mark false (λ e. omega arith)) (g.marks i less);
    }

or_off : (b : Bool) → (b || not false) ≡ true
or_off true = refl
or_off false = refl

pub out_good : (n : ℕ) (pool : Pool) → pool_good n pool ≡ true → (o : ℕ) → pool_good n (taken_out pool o) ≡ true
unfolding taken_out
out_good n pool h zero = h
out_good n pool h (suc k) =
    let g = to_good n pool h in
    by_test (pool_good n (pool_of (set pool.marks k false)) ≡ true) (ltb k 240)
    (λ inside. from_good n _ (stored n pool g k false (ltb-true k 240 inside) (or_off (ltb k n))))
    (λ past. from_good n _ (beyond_240 n pool g k false (ltb-false k 240 past)))

pub out_this : (n : ℕ) (pool : Pool) → n ≤ 240 → pool_good n pool ≡ true → (o : ℕ) → is_free pool o ≡ true → is_free (taken_out pool o) o ≡ false
unfolding taken_out is_free
out_this n pool few h zero free = refl
out_this n pool few h (suc k) free =
    let g = to_good n pool h in
    let object = free_is_object n pool h (suc k) free in
    get_or-set_same pool.marks k false false (rw g.long (omega arith))

pub out_others : (pool : Pool) (o x : ℕ) → (x ≡ o → ⊥) → is_free (taken_out pool o) x ≡ is_free pool x
unfolding taken_out is_free
out_others pool zero x ne = refl
out_others pool (suc k) zero ne = refl
out_others pool (suc k) (suc j) ne = get_or-set_other pool.marks k j false false (λ e. ne (ap suc e))

pub back_good : (n : ℕ) (pool : Pool) → pool_good n pool ≡ true → (o : ℕ) → o ≤ n → pool_good n (put_back pool o) ≡ true
unfolding put_back
back_good n pool h zero most = h
back_good n pool h (suc k) most =
    let g = to_good n pool h in
    by_test (pool_good n (pool_of (set pool.marks k true)) ≡ true) (ltb k 240)
    (λ inside. from_good n _ (stored n pool g k true (ltb-true k 240 inside) (rw (lt-ltb k n most))))
    (λ past. from_good n _ (beyond_240 n pool g k true (ltb-false k 240 past)))

pub back_this : (n : ℕ) (pool : Pool) → n ≤ 240 → pool_good n pool ≡ true → (o : ℕ) → 0 < o → o ≤ n → is_free (put_back pool o) o ≡ true
unfolding put_back is_free
back_this n pool few h zero some most = absurd (omega arith)
back_this n pool few h (suc k) some most =
    let g = to_good n pool h in
    get_or-set_same pool.marks k true false (rw g.long (omega arith))

pub back_others : (pool : Pool) (o x : ℕ) → (x ≡ o → ⊥) → is_free (put_back pool o) x ≡ is_free pool x
unfolding put_back is_free
back_others pool zero x ne = refl
back_others pool (suc k) zero ne = refl
back_others pool (suc k) (suc j) ne = get_or-set_other pool.marks k j true false (λ e. ne (ap suc e))

pub count_is_sum : (n : ℕ) (pool : Pool) → pool_good n pool ≡ true → sum_to n (λ k. bit (is_free pool (suc k))) ≡ free_count pool
unfolding is_free free_count
count_is_sum n pool h = sum_marks pool.marks n (off_beyond n pool (to_good n pool h))

pub only_fresh : (pool : Pool) → pool_good 0 pool ≡ true → pool ≡ fresh_pool 0
unfolding fresh_pool marked
only_fresh pool h =
    let g = to_good 0 pool h in
    ap pool_of (all_same pool.marks 240 false g.long (λ i less. off_beyond 0 pool g i (omega arith)))

-- One store of a mark is taking out or putting back.

pub taken_is : (pool : Pool) (o : ℕ) → marked_at pool o false ≡ taken_out pool o
unfolding marked_at taken_out
taken_is pool zero = refl
taken_is pool (suc k) = refl

pub put_is : (pool : Pool) (o : ℕ) → marked_at pool o true ≡ put_back pool o
unfolding marked_at put_back
put_is pool zero = refl
put_is pool (suc k) = refl

-- an object that there is no mark for: nothing is read there, and a store changes nothing
module _ (pool : Pool) (long : length pool.marks ≡ 240) where
  pub free_out : (o : ℕ) → (o ≡ 0) ⊎ (240 < o) → false ≡ is_free pool o
  unfolding is_free
  free_out zero out = refl
  free_out (suc k) out = sym (get_or-eq_default pool.marks false (rw long (⊎_elim (λ (e : suc k ≡ 0). omega arith) (λ (past : 240 < suc k). omega arith) out)))

  pub marked_out : (o : ℕ) (mark : Bool) → (o ≡ 0) ⊎ (240 < o) → pool ≡ marked_at pool o mark
  unfolding marked_at
  marked_out zero mark out = refl
  marked_out (suc k) mark out =
      ap pool_of (sym (set_out pool.marks k mark (rw long (⊎_elim (λ (e : suc k ≡ 0). omega arith) (λ (past : 240 < suc k). omega arith) out))))

-- the same of an object above 0, and of one past 240
module _ (pool : Pool) (o : ℕ) where
  pub free_at_lem : 0 < o → get_or pool.marks (o - 1) false ≡ is_free pool o
  unfolding is_free
  free_at_lem some = at o some
    where
      at : (o : ℕ) → 0 < o → get_or pool.marks (o - 1) false ≡ is_free pool o
      at zero some = absurd (omega arith)
      at (suc k) some = let e : suc k - 1 ≡ k = omega arith in rw e

  pub free_past : length pool.marks ≡ 240 → 240 < o → false ≡ is_free pool o
  free_past long past = free_out pool long o (inr past)

module _ (pool : Pool) where
  pub out_at : (o : ℕ) → 0 < o → pool_of (set pool.marks (o - 1) false) ≡ taken_out pool o
  unfolding taken_out
  out_at zero some = absurd (omega arith)
  out_at (suc k) some = let e : suc k - 1 ≡ k = omega arith in rw e

  pub back_at : (o : ℕ) → 0 < o → pool_of (set pool.marks (o - 1) true) ≡ put_back pool o
  unfolding put_back
  back_at zero some = absurd (omega arith)
  back_at (suc k) some = let e : suc k - 1 ≡ k = omega arith in rw e

  stored_past : (o : ℕ) (mark : Bool) → length pool.marks ≡ 240 → 240 < o → pool ≡ pool_of (set pool.marks (o - 1) mark)
  stored_past o mark long past = ap pool_of (sym (set_out pool.marks (o - 1) mark (rw long (omega arith))))

  pub out_past : (o : ℕ) → length pool.marks ≡ 240 → 240 < o → pool ≡ taken_out pool o
  out_past o long past = stored_past o false long past ∙ out_at o (omega arith)

  pub back_past : (o : ℕ) → length pool.marks ≡ 240 → 240 < o → pool ≡ put_back pool o
  back_past o long past = stored_past o true long past ∙ back_at o (omega arith)
