-- "per object: a free mark"; object o's stands at o − 1. Which objects are free, which is handed out next, and what taking one out and putting
-- one back do.
use Rattle.std.specs.Prelude.{ℕ, zero, suc, ◌+◌, ◌-◌, Bool, true, false, cond, not, ◌&&◌, ◌||◌, List, [], ◌∷◌, ◌++◌, length, get_or, set, replicate, leb, ltb, eqb, Option, Some, None}
use Rattle.pool.specs.declared.Pool.{Pool}
use Rattle.basics.specs.Counts.{bit, how_many, count_under}
use Rattle.basics.specs.Under.{all_under}

abbrev pub pool_of : List Bool → Pool
pool_of marks = record { marks = marks }

-- "objects [are numbered] from 1; 0 means no object"
unfoldable pub is_free : Pool → ℕ → Bool
is_free pool zero = false
is_free pool (suc k) = get_or pool.marks k false

-- the number, counted on from k, of the first mark that is on; 0 where none is
unfoldable pub first_on : ℕ → List Bool → ℕ
first_on k [] = 0
first_on k (true ∷ marks) = suc k
first_on k (false ∷ marks) = first_on (suc k) marks

-- "lowest-numbered free object"; 0 where none is free
unfoldable pub next_of : Pool → ℕ
next_of pool = first_on 0 pool.marks

-- an object by its number, 0 being none
abbrev pub object_of : ℕ → Option ℕ
object_of zero = None
object_of (suc k) = Some (suc k)

-- the marks of which the first n are on
unfoldable pub marked : ℕ → List Bool
marked n = replicate n true ++ replicate (240 - n) false

-- "A fresh machine has every object free"; there is room for 240
unfoldable pub fresh_pool : ℕ → Pool
fresh_pool n = pool_of (marked (cond (leb n 240) n 240))

-- the object's mark stored
unfoldable pub marked_at : Pool → ℕ → Bool → Pool
marked_at pool zero mark = pool
marked_at pool (suc k) mark = pool_of (set pool.marks k mark)

-- the object is free no more
unfoldable pub taken_out : Pool → ℕ → Pool
taken_out pool zero = pool
taken_out pool (suc k) = pool_of (set pool.marks k false)

-- the object is free again
unfoldable pub put_back : Pool → ℕ → Pool
put_back pool zero = pool
put_back pool (suc k) = pool_of (set pool.marks k true)

-- how many objects are free
unfoldable pub free_count : Pool → ℕ
free_count pool = how_many (λ mark. mark) pool.marks

-- a pool of n objects: 240 marks, and "entries beyond the sizes are [..] unmarked"
unfoldable pub pool_good : ℕ → Pool → Bool
pool_good n pool =
    eqb (length pool.marks) 240 && all_under 240 (λ k. ltb k n || not (get_or pool.marks k false))

-- each of the objects 1 to n, 240 at the most, is free or stands among the 64 numbers, and that once
unfoldable pub each_once : ℕ → Pool → List ℕ → Bool
each_once n pool row =
    leb n 240 && all_under n (λ k. eqb (bit (is_free pool (suc k)) + count_under 64 (λ i. eqb (get_or row i 0) (suc k))) 1)
