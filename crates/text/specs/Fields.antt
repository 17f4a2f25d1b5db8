-- A line of fields.
use Rattle.std.specs.Prelude.{ℕ, List, [], ◌∷◌, ◌++◌}
use Prim.Native.Char.{code}

-- "Fields are separated by one space": each field but the last is followed by a space, the last by a newline. A line of no fields is its
-- newline.
unfoldable pub joined : List (List ℕ) → List ℕ
joined [] = code "\n" ∷ []
joined (field ∷ []) = field ++ code "\n" ∷ []
joined (field ∷ next ∷ fields) = field ++ code " " ∷ joined (next ∷ fields)
