-- Every way in which a short input stops a run, and a refused step that does not, computed as one table.
use Rattle.std.specs.Prelude.{ℕ, List, [], ◌∷◌, ◌++◌}
use Rattle.lines.specs.Line.{Line, numbers, end, stop}

pub record Row : Type 0 where
  pub input : List ℕ
  pub lines : List Line

infix 15 ◌gives◌
abbrev pub ◌gives◌ : List ℕ → List Line → Row
input gives lines = record { input = input; lines = lines }

-- sizes 2 1 1 2, and a take by thread 0
abbrev sizes : List ℕ
sizes = 84 ∷ 83 ∷ 2 ∷ 1 ∷ 1 ∷ 2 ∷ 0 ∷ 0 ∷ 0 ∷ 0 ∷ []

abbrev take : List ℕ
take = 84 ∷ 75 ∷ 0 ∷ 1 ∷ 0 ∷ 0 ∷ 0 ∷ 0 ∷ 0 ∷ 0 ∷ []

-- nine bytes; another mark; sizes whose last byte is not 0; nine threads
abbrev short : List ℕ
short = 84 ∷ 83 ∷ 2 ∷ 1 ∷ 1 ∷ 2 ∷ 0 ∷ 0 ∷ 0 ∷ []

abbrev other : List ℕ
other = 84 ∷ 84 ∷ 2 ∷ 1 ∷ 1 ∷ 2 ∷ 0 ∷ 0 ∷ 0 ∷ 0 ∷ []

abbrev unclean : List ℕ
unclean = 84 ∷ 83 ∷ 2 ∷ 1 ∷ 1 ∷ 2 ∷ 0 ∷ 0 ∷ 0 ∷ 1 ∷ []

abbrev nine : List ℕ
nine = 84 ∷ 83 ∷ 9 ∷ 1 ∷ 1 ∷ 2 ∷ 0 ∷ 0 ∷ 0 ∷ 0 ∷ []

abbrev first : Line
first = numbers (2 ∷ 1 ∷ 1 ∷ 2 ∷ [])

abbrev taken : Line
taken = numbers (1 ∷ 0 ∷ 1 ∷ 1 ∷ 1 ∷ 0 ∷ [])

unfoldable pub table : List Row
table =
    ([] gives stop (0 ∷ 42 ∷ []) ∷ []) ∷
    (take gives stop (0 ∷ 42 ∷ []) ∷ []) ∷
    (short gives stop (0 ∷ 40 ∷ []) ∷ []) ∷
    (other gives stop (0 ∷ 41 ∷ []) ∷ []) ∷
    (unclean gives stop (0 ∷ 44 ∷ []) ∷ []) ∷
    (nine ++ take gives stop (0 ∷ 20 ∷ []) ∷ []) ∷
    (sizes gives first ∷ end (0 ∷ 2 ∷ 0 ∷ 0 ∷ 0 ∷ 0 ∷ []) ∷ []) ∷
    (sizes ++ sizes gives first ∷ stop (1 ∷ 42 ∷ []) ∷ []) ∷
    (sizes ++ take ++ sizes gives first ∷ taken ∷ stop (2 ∷ 42 ∷ []) ∷ []) ∷
    (sizes ++ take ++ short gives first ∷ taken ∷ stop (2 ∷ 40 ∷ []) ∷ []) ∷
    (sizes ++ take ++ other gives first ∷ taken ∷ stop (2 ∷ 41 ∷ []) ∷ []) ∷
    (sizes ++ take ++ unclean gives first ∷ taken ∷ stop (2 ∷ 44 ∷ []) ∷ []) ∷
    (sizes ++ take ++ take
    gives first ∷ taken ∷ numbers (2 ∷ 0 ∷ 1 ∷ 28 ∷ 0 ∷ 0 ∷ []) ∷ end (2 ∷ 1 ∷ 0 ∷ 1 ∷ 0 ∷ 0 ∷ []) ∷ []) ∷
    []
