-- The numbers that can hold an object, in one row of 64: "one link, one hand, one handover, or carried by one thread". Each kind has its room
-- there, and beyond the sizes stand zeros.
use Rattle.std.specs.Prelude.{ℕ, ◌-◌, min, List, map, ◌++◌, take, replicate}
use Rattle.entries.specs.declared.Sizes.{Sizes}
use Rattle.entries.specs.declared.Thread.{Thread}
use Rattle.entries.specs.declared.Slot.{Slot}
use Rattle.entries.specs.Sizes.{positions}
use Rattle.entries.specs.Phases.{carried_by}

-- the first n of the numbers, and zeros up to the room there is
unfoldable pub padded : ℕ → ℕ → List ℕ → List ℕ
padded n room numbers = take n numbers ++ replicate (room - n) 0

unfoldable pub row_of : Sizes → List ℕ → List Thread → List Slot → List ℕ
row_of z links threads slots =
    padded (min z.links 16) 16 links ++
    padded (min z.threads 8) 8 (map (λ thread. thread.hand) threads) ++
    padded (min (positions z) 32) 32 (map (λ slot. slot.handover) slots) ++
    padded (min z.threads 8) 8 (map (λ thread. carried_by thread.phase) threads)
