-- The two marks. "Ten bytes each, a two-byte mark first, in decimal here. Sizes: 84 83 .. Step: 84 75 .."
use Rattle.std.specs.Prelude.{ℕ, List, [], ◌∷◌, Bool, ◌&&◌, get_or, eqb}

abbrev pub sizes_mark : List ℕ
sizes_mark = 84 ∷ 83 ∷ []

abbrev pub step_mark : List ℕ
step_mark = 84 ∷ 75 ∷ []

-- the input's first two bytes are this mark
unfoldable pub marked : List ℕ → List ℕ → Bool
marked mark bytes = eqb (get_or bytes 0 0) (get_or mark 0 0) && eqb (get_or bytes 1 0) (get_or mark 1 0)
