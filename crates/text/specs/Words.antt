-- Numbers filled into words.
use Rattle.std.specs.Prelude.{ℕ, List, ◌++◌, Bool, cond, get_or, drop, eqb}
use Prim.Native.Char.{code}
use Prim.Native.String.{String}
use mathlib.Core.List as list
use Rattle.basics.specs.Ascii.{ascii}
use Rattle.text.specs.Decimal.{decimal}

-- a byte where a number goes: `%`
abbrev pub is_place : ℕ → Bool
is_place byte = eqb byte (code "%")

-- what one byte of a template gives: the decimal digits of the next number for a `%`, 0 where none is left, and any other byte itself
abbrev pub given : ℕ → List ℕ → List ℕ
given byte numbers = cond (is_place byte) (decimal (get_or numbers 0 0)) (list.◌∷◌ byte list.[])

-- the numbers that are left after it
abbrev pub left : ℕ → List ℕ → List ℕ
left byte numbers = cond (is_place byte) (drop 1 numbers) numbers

-- a template with each `%` replaced by the decimal digits of the next number, every other byte kept
unfoldable pub filled : List ℕ → List ℕ → List ℕ
filled list.[] numbers = list.[]
filled (list.◌∷◌ byte template) numbers = given byte numbers ++ filled template (left byte numbers)

-- the same of words that can be read here
abbrev pub words : String → List ℕ → List ℕ
words text numbers = filled (ascii text) numbers
