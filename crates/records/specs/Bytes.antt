-- The ten bytes of a record.
use Rattle.std.specs.Prelude.{ℕ, suc, zero, ◌+◌, ◌*◌, ◌/◌, ◌%◌, ◌<◌, List, [], ◌∷◌, ◌++◌}
use Rattle.records.specs.declared.SizesRecord.{SizesRecord}
use Rattle.records.specs.declared.StepRecord.{StepRecord}
use Rattle.records.specs.Marks.{sizes_mark, step_mark}

-- each number of the list is a byte
abbrev pub AllBytes : List ℕ → Type 0
AllBytes [] = Unit {0}
AllBytes (b ∷ bs) = (b < 256) × AllBytes bs

-- "low byte first": the lowest n bytes of a number
unfoldable pub low_first : ℕ → ℕ → List ℕ
low_first zero v = []
low_first (suc n) v = v % 256 ∷ low_first n (v / 256)

-- the number that bytes make, the low byte first
unfoldable pub number_of : List ℕ → ℕ
number_of [] = 0
number_of (b ∷ bs) = b + 256 * number_of bs

-- "Sizes: 84 83, then T, H, L, N one byte each, then four zero bytes."
unfoldable pub sizes_bytes : SizesRecord → List ℕ
sizes_bytes r = sizes_mark ++ (r.threads ∷ r.slots ∷ r.links ∷ r.objects ∷ 0 ∷ 0 ∷ 0 ∷ 0 ∷ [])

-- "Step: 84 75, thread, operation, slot, link, one byte each, then tag, low byte first."
unfoldable pub step_bytes : StepRecord → List ℕ
step_bytes r = step_mark ++ (r.thread ∷ r.operation ∷ r.slot ∷ r.link ∷ low_first 4 r.tag)
