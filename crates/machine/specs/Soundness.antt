-- "A state is sound if: its sizes are in range and all numbers above are in range for them; entries beyond the sizes are 0, idle or
-- unmarked; a protected mark stands only on a hazard that is not 0; every object 1 to N is in exactly one place (free, one link, one
-- hand, one handover, or carried by one thread). The blank state, all sizes and entries 0, idle and unmarked, is sound too."
use Rattle.std.specs.Prelude.{ℕ, suc, ◌+◌, Bool, ◌&&◌, length, get_or, eqb}
use Rattle.machine.specs.declared.State.{State}
use Rattle.machine.specs.Parts.{link_at, thread_at, slot_at, free_at}
use Rattle.entries.specs.Phases.{carried_by}
use Rattle.basics.specs.Under.{all_under}
use Rattle.basics.specs.Counts.{bit, occurrences}
use Rattle.entries.specs.Entries.{sizes_good, link_good, thread_good, slot_good, tag_good}
use Rattle.pool.specs.Pool.{pool_good}

-- The arrays have 16, 8, 32 and 240 entries. The code's types say so; a list by itself does not.
unfoldable pub shaped : State → Bool
shaped s =
    eqb (length s.links) 16 &&
    eqb (length s.threads) 8 &&
    eqb (length s.slots) 32 &&
    eqb (length s.tags) 240

-- in how many places the object is: "free, one link, one hand, one handover, or carried by one thread"
unfoldable pub places_holding : State → ℕ → ℕ
places_holding s o =
    bit (free_at s o) +
    occurrences (λ link. link) o s.links +
    occurrences (λ thread. thread.hand) o s.threads +
    occurrences (λ slot. slot.handover) o s.slots +
    occurrences (λ thread. carried_by thread.phase) o s.threads

unfoldable pub sound : State → Bool
sound s =
    shaped s &&
    sizes_good s.sizes &&
    all_under 16 (λ i. link_good s.sizes i (link_at s i)) &&
    all_under 8 (λ t. thread_good s.sizes t (thread_at s t)) &&
    all_under 32 (λ p. slot_good s.sizes p (slot_at s p)) &&
    all_under 240 (λ k. tag_good s.sizes k (get_or s.tags k 0)) &&
    pool_good s.sizes.objects s.pool &&
    all_under s.sizes.objects (λ k. eqb (places_holding s (suc k)) 1)
