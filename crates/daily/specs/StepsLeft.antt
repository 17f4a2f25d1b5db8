-- How long a scan can go on, for the proof of proofs/Promise.
use Rattle.std.specs.Prelude.{ℕ, ◌+◌, ◌-◌, Bool, cond}
use Rattle.entries.specs.declared.Sizes.{Sizes}
use Rattle.entries.specs.Sizes.{positions}

-- how many steps of its own a scan has left at the most: before a swap one, before a look at q one for each position from q on and one more
unfoldable pub steps_left : Sizes → Bool → ℕ → ℕ
steps_left z look q = cond look (positions z - q + 1) 1
