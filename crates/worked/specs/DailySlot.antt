-- A slot in daily use that never clears (`schedules/daily-slot.txt`), computed up to the till's third take: the screen task frees object 1 in the
-- middle of its second protect, without a clear, and the till gets object 1 again.
use Rattle.std.specs.Prelude.{ℕ, List, [], ◌∷◌}
use Rattle.lines.specs.Line.{Line, numbers, end}

-- sizes 2 1 1 2, then the first 25 steps as records
unfoldable pub schedule : List ℕ
schedule =
    84 ∷ 83 ∷ 2 ∷ 1 ∷ 1 ∷ 2 ∷ 0 ∷ 0 ∷ 0 ∷ 0 ∷
    84 ∷ 75 ∷ 0 ∷ 1 ∷ 0 ∷ 0 ∷ 33 ∷ 3 ∷ 0 ∷ 0 ∷
    84 ∷ 75 ∷ 0 ∷ 3 ∷ 255 ∷ 0 ∷ 0 ∷ 0 ∷ 0 ∷ 0 ∷
    84 ∷ 75 ∷ 1 ∷ 2 ∷ 0 ∷ 0 ∷ 0 ∷ 0 ∷ 0 ∷ 0 ∷
    84 ∷ 75 ∷ 1 ∷ 7 ∷ 0 ∷ 0 ∷ 0 ∷ 0 ∷ 0 ∷ 0 ∷
    84 ∷ 75 ∷ 1 ∷ 7 ∷ 0 ∷ 0 ∷ 0 ∷ 0 ∷ 0 ∷ 0 ∷
    84 ∷ 75 ∷ 1 ∷ 7 ∷ 0 ∷ 0 ∷ 0 ∷ 0 ∷ 0 ∷ 0 ∷
    84 ∷ 75 ∷ 0 ∷ 1 ∷ 0 ∷ 0 ∷ 34 ∷ 3 ∷ 0 ∷ 0 ∷
    84 ∷ 75 ∷ 0 ∷ 2 ∷ 0 ∷ 0 ∷ 0 ∷ 0 ∷ 0 ∷ 0 ∷
    84 ∷ 75 ∷ 0 ∷ 7 ∷ 0 ∷ 0 ∷ 0 ∷ 0 ∷ 0 ∷ 0 ∷
    84 ∷ 75 ∷ 0 ∷ 7 ∷ 0 ∷ 0 ∷ 0 ∷ 0 ∷ 0 ∷ 0 ∷
    84 ∷ 75 ∷ 0 ∷ 7 ∷ 0 ∷ 0 ∷ 0 ∷ 0 ∷ 0 ∷ 0 ∷
    84 ∷ 75 ∷ 0 ∷ 3 ∷ 0 ∷ 0 ∷ 0 ∷ 0 ∷ 0 ∷ 0 ∷
    84 ∷ 75 ∷ 0 ∷ 6 ∷ 0 ∷ 0 ∷ 0 ∷ 0 ∷ 0 ∷ 0 ∷
    84 ∷ 75 ∷ 0 ∷ 7 ∷ 0 ∷ 0 ∷ 0 ∷ 0 ∷ 0 ∷ 0 ∷
    84 ∷ 75 ∷ 0 ∷ 5 ∷ 0 ∷ 0 ∷ 0 ∷ 0 ∷ 0 ∷ 0 ∷
    84 ∷ 75 ∷ 0 ∷ 7 ∷ 0 ∷ 0 ∷ 0 ∷ 0 ∷ 0 ∷ 0 ∷
    84 ∷ 75 ∷ 0 ∷ 7 ∷ 0 ∷ 0 ∷ 0 ∷ 0 ∷ 0 ∷ 0 ∷
    84 ∷ 75 ∷ 0 ∷ 7 ∷ 0 ∷ 0 ∷ 0 ∷ 0 ∷ 0 ∷ 0 ∷
    84 ∷ 75 ∷ 1 ∷ 2 ∷ 0 ∷ 0 ∷ 0 ∷ 0 ∷ 0 ∷ 0 ∷
    84 ∷ 75 ∷ 1 ∷ 7 ∷ 0 ∷ 0 ∷ 0 ∷ 0 ∷ 0 ∷ 0 ∷
    84 ∷ 75 ∷ 1 ∷ 7 ∷ 0 ∷ 0 ∷ 0 ∷ 0 ∷ 0 ∷ 0 ∷
    84 ∷ 75 ∷ 1 ∷ 7 ∷ 0 ∷ 0 ∷ 0 ∷ 0 ∷ 0 ∷ 0 ∷
    84 ∷ 75 ∷ 1 ∷ 7 ∷ 0 ∷ 0 ∷ 0 ∷ 0 ∷ 0 ∷ 0 ∷
    84 ∷ 75 ∷ 1 ∷ 7 ∷ 0 ∷ 0 ∷ 0 ∷ 0 ∷ 0 ∷ 0 ∷
    84 ∷ 75 ∷ 0 ∷ 1 ∷ 0 ∷ 0 ∷ 35 ∷ 3 ∷ 0 ∷ 0 ∷
    []

-- the lines as printed: step 21 takes object 1 out of the handover of position 1 (3 6 1), 23 frees it, and 24 ends the protect
unfoldable pub printed : List Line
printed =
    numbers (2 ∷ 1 ∷ 1 ∷ 2 ∷ []) ∷
    numbers (1 ∷ 0 ∷ 1 ∷ 1 ∷ 1 ∷ 0 ∷ []) ∷
    numbers (2 ∷ 0 ∷ 3 ∷ 6 ∷ 0 ∷ 0 ∷ []) ∷
    numbers (3 ∷ 1 ∷ 2 ∷ 2 ∷ 1 ∷ 0 ∷ []) ∷
    numbers (4 ∷ 1 ∷ 7 ∷ 3 ∷ 1 ∷ 1 ∷ []) ∷
    numbers (5 ∷ 1 ∷ 7 ∷ 3 ∷ 7 ∷ 1 ∷ []) ∷
    numbers (6 ∷ 1 ∷ 7 ∷ 4 ∷ 1 ∷ 801 ∷ []) ∷
    numbers (7 ∷ 0 ∷ 1 ∷ 1 ∷ 2 ∷ 0 ∷ []) ∷
    numbers (8 ∷ 0 ∷ 2 ∷ 2 ∷ 1 ∷ 0 ∷ []) ∷
    numbers (9 ∷ 0 ∷ 7 ∷ 3 ∷ 1 ∷ 0 ∷ []) ∷
    numbers (10 ∷ 0 ∷ 7 ∷ 3 ∷ 7 ∷ 0 ∷ []) ∷
    numbers (11 ∷ 0 ∷ 7 ∷ 4 ∷ 1 ∷ 801 ∷ []) ∷
    numbers (12 ∷ 0 ∷ 3 ∷ 6 ∷ 1 ∷ 0 ∷ []) ∷
    numbers (13 ∷ 0 ∷ 6 ∷ 2 ∷ 0 ∷ 0 ∷ []) ∷
    numbers (14 ∷ 0 ∷ 7 ∷ 9 ∷ 0 ∷ 0 ∷ []) ∷
    numbers (15 ∷ 0 ∷ 5 ∷ 2 ∷ 1 ∷ 0 ∷ []) ∷
    numbers (16 ∷ 0 ∷ 7 ∷ 3 ∷ 3 ∷ 0 ∷ []) ∷
    numbers (17 ∷ 0 ∷ 7 ∷ 3 ∷ 4 ∷ 1 ∷ []) ∷
    numbers (18 ∷ 0 ∷ 7 ∷ 10 ∷ 1 ∷ 1 ∷ []) ∷
    numbers (19 ∷ 1 ∷ 2 ∷ 2 ∷ 2 ∷ 0 ∷ []) ∷
    numbers (20 ∷ 1 ∷ 7 ∷ 3 ∷ 1 ∷ 1 ∷ []) ∷
    numbers (21 ∷ 1 ∷ 7 ∷ 3 ∷ 6 ∷ 1 ∷ []) ∷
    numbers (22 ∷ 1 ∷ 7 ∷ 3 ∷ 3 ∷ 1 ∷ []) ∷
    numbers (23 ∷ 1 ∷ 7 ∷ 11 ∷ 1 ∷ 0 ∷ []) ∷
    numbers (24 ∷ 1 ∷ 7 ∷ 4 ∷ 2 ∷ 802 ∷ []) ∷
    numbers (25 ∷ 0 ∷ 1 ∷ 1 ∷ 1 ∷ 0 ∷ []) ∷
    end (25 ∷ 0 ∷ 1 ∷ 1 ∷ 0 ∷ 0 ∷ []) ∷
    []
