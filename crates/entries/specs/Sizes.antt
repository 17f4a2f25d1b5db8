-- "Sizes: T threads 1 to 8, H hazard slots per thread 1 to 4, L links 1 to 16, N objects 1 to 240."
use Rattle.std.specs.Prelude.{ℕ, ◌*◌, Bool, ◌&&◌, leb, eqb}
use Rattle.entries.specs.declared.Sizes.{Sizes}

-- low to high, both included
abbrev pub within : ℕ → ℕ → ℕ → Bool
within low high n = leb low n && leb n high

unfoldable pub in_range : Sizes → Bool
in_range z =
    within 1 8 z.threads && within 1 4 z.slots && within 1 16 z.links && within 1 240 z.objects

-- the sizes of the blank state: "all sizes and entries 0"
unfoldable pub all_zero : Sizes → Bool
all_zero z = eqb z.threads 0 && eqb z.slots 0 && eqb z.links 0 && eqb z.objects 0

-- "positions run from 0 to T × H − 1": how many there are
abbrev pub positions : Sizes → ℕ
positions z = z.threads * z.slots
