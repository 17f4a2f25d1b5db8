-- The text that says why each object is still here when a run has ended.
use Rattle.std.specs.Prelude.{ℕ, zero, suc, ◌+◌, List, [], ◌++◌}
use Rattle.machine.specs.declared.State.{State}
use Rattle.reasons.specs.Reasons.{why_of}
use Rattle.sentences.specs.Sentence.{line_of}
use Rattle.sentences.specs.Ends.{End, ended, stopped, end_of}

module _ (s : State) where
  -- the lines of so many objects from this one on, one after the other
  unfoldable pub lines_from : ℕ → ℕ → List ℕ
  lines_from object zero = []
  lines_from object (suc more) = line_of s.sizes.slots object (why_of s object) ++ lines_from (object + 1) more

  -- of objects 1 to N
  unfoldable pub lines_of : List ℕ
  lines_of = lines_from 1 s.sizes.objects

-- a run that stops has no text
unfoldable pub text_at : End → List ℕ
text_at (ended s) = lines_of s
text_at stopped = []

unfoldable pub text_of : List ℕ → List ℕ
text_of input = text_at (end_of input)
