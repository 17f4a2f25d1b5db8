-- The test of a good pool with its marks walked once, so that runs are computed in seconds. Nothing here has to be believed: it is shown to be
-- the definition's own test.
use Rattle.std.specs.Prelude.{ℕ, ◌≡◌, Bool, false, not, ◌&&◌, ◌||◌, length, ltb, eqb}
use Rattle.pool.specs.declared.Pool.{Pool}
use Rattle.basics.specs.Under.{walked, under_list}
use Rattle.pool.specs.Pool.{pool_good}

unfoldable pub quick_good : ℕ → Pool → Bool
quick_good n pool = eqb (length pool.marks) 240 && walked (λ k mark. ltb k n || not mark) false 0 240 pool.marks

pub good_is_quick : (n : ℕ) (pool : Pool) → pool_good n pool ≡ quick_good n pool
unfolding pool_good quick_good
good_is_quick n pool =
    λ i. eqb (length pool.marks) 240 && under_list (λ k mark. ltb k n || not mark) false 240 pool.marks i
