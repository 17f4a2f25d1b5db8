-- Words written as text.
use Rattle.std.specs.Prelude.{ℕ, List}
use Prim.Native.Char.{code}
use Prim.Native.String.{String, [], ◌∷◌}
use mathlib.Core.List as list

-- the bytes of a text in ASCII, one for each character
unfoldable pub ascii : String → List ℕ
ascii [] = list.[]
ascii (c ∷ text) = list.◌∷◌ (code c) (ascii text)
