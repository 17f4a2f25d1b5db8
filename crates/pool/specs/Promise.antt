-- What a pool is to those above it, in eight laws. n is how many objects there are.
use Rattle.std.specs.Prelude.{ℕ, suc, ◌<◌, ◌≤◌, ◌≡◌, Bool, true, false}
use Rattle.pool.specs.declared.Pool.{Pool}
use Rattle.basics.specs.Counts.{bit}
use Rattle.basics.specs.Sums.{sum_to}
use Rattle.pool.specs.Pool.{is_free, next_of, fresh_pool, taken_out, put_back, free_count, pool_good}
use Rattle.pool.specs.Lemmas.Marks as marks
use Rattle.pool.specs.Lemmas.Next as next

-- One object has become free, or is free no more, and of every other nothing changed.
pub record Changed (n : ℕ) (pool pool' : Pool) (o : ℕ) (free : Bool) : Type 0 where
  pub good : pool_good n pool' ≡ true
  pub this : is_free pool' o ≡ free
  pub others : (x : ℕ) → (x ≡ o → ⊥) → is_free pool' x ≡ is_free pool x

-- In a fresh pool 1 to n are free.
pub fresh_pool_lem : (n : ℕ) → n ≤ 240
    → (pool_good n (fresh_pool n) ≡ true) × ((o : ℕ) → 0 < o → o ≤ n → is_free (fresh_pool n) o ≡ true)
fresh_pool_lem n most = (marks.fresh_good n most, marks.fresh_free n most)

-- Nothing else is ever free.
pub free_is_object : (n : ℕ) (pool : Pool) → pool_good n pool ≡ true → (o : ℕ) → is_free pool o ≡ true → (0 < o) × (o ≤ n)
free_is_object = marks.free_is_object

-- What is handed out next is free;
pub next_is_free : (pool : Pool) → (next_of pool ≡ 0 → ⊥) → is_free pool (next_of pool) ≡ true
next_is_free = next.next_is_free

-- and where nothing is, nothing is free.
pub none_is_free : (pool : Pool) → next_of pool ≡ 0 → (o : ℕ) → is_free pool o ≡ false
none_is_free = next.none_is_free

-- A free object is taken out,
pub taken_out_lem : (n : ℕ) (pool : Pool) → n ≤ 240 → pool_good n pool ≡ true → (o : ℕ) → is_free pool o ≡ true
    → Changed n pool (taken_out pool o) o false
taken_out_lem n pool few good o free =
    record {
      good = marks.out_good n pool good o;
      this = marks.out_this n pool few good o free;
      others = marks.out_others pool o;
    }

-- and one that is not free is put back.
pub put_back_lem : (n : ℕ) (pool : Pool) → n ≤ 240 → pool_good n pool ≡ true → (o : ℕ) → 0 < o → o ≤ n → is_free pool o ≡ false
    → Changed n pool (put_back pool o) o true
put_back_lem n pool few good o some most taken =
    record {
      good = marks.back_good n pool good o most;
      this = marks.back_this n pool few good o some most;
      others = marks.back_others pool o;
    }

-- The count is that of the objects 1 to n that are free.
pub count_is_sum : (n : ℕ) (pool : Pool) → pool_good n pool ≡ true → sum_to n (λ k. bit (is_free pool (suc k))) ≡ free_count pool
count_is_sum = marks.count_is_sum

-- A pool of no objects is the fresh one of none.
pub only_fresh : (pool : Pool) → pool_good 0 pool ≡ true → pool ≡ fresh_pool 0
only_fresh = marks.only_fresh
