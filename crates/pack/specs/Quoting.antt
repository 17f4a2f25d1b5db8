-- A word of the text as a message quotes it.
use Rattle.std.specs.Prelude.{ℕ, List, [], ◌∷◌, ◌++◌, ◌&&◌, cond, leb, map, take, Option, Some, None}
use denote.Ref.{Bor}

-- a printing character of ASCII, one of the bytes 33 to 126, shows as it is, any other byte as a question mark, 63
abbrev pub shown_of : ℕ → ℕ
shown_of b = cond (leb 33 b && leb b 126) b 63

-- the first 40 bytes of a word as they show, between quotation marks, 39
abbrev pub in_quotes : List ℕ → List ℕ
in_quotes word = 39 ∷ map shown_of (take 40 word) ++ 39 ∷ []

-- nothing where there is no word
abbrev pub quoted : Option (Bor (List ℕ)) → List ℕ
quoted (Some word) = in_quotes word.now
quoted None = []
