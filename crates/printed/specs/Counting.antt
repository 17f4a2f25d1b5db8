-- Counting in what is printed, by the numbers of its lines and nothing else, as a reader of the output can.
use Rattle.std.specs.Prelude.{ℕ, ◌+◌, ◌*◌, ◌-◌, ◌≤◌, ◌≡◌, Bool, ◌&&◌, List, [], get_or, eqb}
use Rattle.basics.specs.Counts.{how_many}
use Rattle.lines.specs.Line.{Line, numbers, end, stop}

-- the numbers of a step's line
unfoldable pub fields_of : Line → List ℕ
fields_of (numbers fields) = fields
fields_of (end fields) = []
fields_of (stop fields) = []

-- an accepted retire: operation 5, answered 2
unfoldable pub is_retire_line : Line → Bool
is_retire_line line = eqb (get_or (fields_of line) 2 0) 5 && eqb (get_or (fields_of line) 3 0) 2

-- a Freed answer: 11
unfoldable pub is_freed_line : Line → Bool
is_freed_line line = eqb (get_or (fields_of line) 3 0) 11

-- "accepted retires less Freed answers equals non-zero handovers plus carried objects, and is at most T × (H + 1). The five places always
-- sum to N."
pub record AddsUp (t h n : ℕ) (lines : List Line) (free links hands handovers carried : ℕ) : Type 0 where
  pub as_many : how_many is_freed_line lines + (handovers + carried) ≡ how_many is_retire_line lines
  pub bound : how_many is_retire_line lines - how_many is_freed_line lines ≤ t * (h + 1)
  pub places_sum : free + links + hands + handovers + carried ≡ n
