-- The words of a line.
use Rattle.std.specs.Prelude.{ℕ, suc, ◌+◌, ◌-◌, List, [], ◌∷◌, Bool, true, false, cond, take, drop, eqb}
use Prim.Native.Char.{code}
use Rattle.words.specs.declared.Kind.{Kind}
use Rattle.words.specs.declared.Kind.TheVariants as kind
use Rattle.words.specs.declared.Run.{Run}
use Rattle.words.specs.declared.Run.TheVariants as run
use Rattle.words.specs.declared.Word.{Word}

-- what a byte is to a line: a space, a tab and a carriage return are blanks
unfoldable pub kind_of : ℕ → Kind
kind_of b =
    cond (eqb b (code " ")) kind.Blank
    (cond (eqb b (code "\t")) kind.Blank
    (cond (eqb b (code "\r")) kind.Blank
    (cond (eqb b (code "\n")) kind.LineEnd
    (cond (eqb b (code "#")) kind.Comment kind.Word))))

-- whether a run takes in a byte of this kind
unfoldable pub goes_on : Run → Kind → Bool
goes_on run.Word kind.Word = true
goes_on run.Word kind.Blank = false
goes_on run.Word kind.LineEnd = false
goes_on run.Word kind.Comment = false
goes_on run.Blanks kind.Word = false
goes_on run.Blanks kind.Blank = true
goes_on run.Blanks kind.LineEnd = false
goes_on run.Blanks kind.Comment = false
goes_on run.Line kind.Word = true
goes_on run.Line kind.Blank = true
goes_on run.Line kind.LineEnd = false
goes_on run.Line kind.Comment = true

-- how many bytes from the front on a run has
unfoldable pub run_of : Run → List ℕ → ℕ
run_of run [] = 0
run_of run (b ∷ bs) = cond (goes_on run (kind_of b)) (suc (run_of run bs)) 0

-- the first word from a place on, past the blanks; where a comment, the line's end or the text's end comes first it has no bytes
unfoldable pub word_at : List ℕ → ℕ → Word
word_at text at =
    let from = at + run_of run.Blanks (drop at text) in
    record { from = from; to = from + run_of run.Word (drop from text) }

-- a word's bytes
unfoldable pub bytes_of : List ℕ → Word → List ℕ
bytes_of text w = take (w.to - w.from) (drop w.from text)
