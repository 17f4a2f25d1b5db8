-- `lines::told::put_step` meets its contract: it hands over the numbers of `step_line`, the answer's as `Numbers::from` gives them.
use Rattle.std.proofs.Common.{ℕ, ◌≡◌, [], ◌∷◌, map}
use Rattle.machine.specs.declared.Call.{Call}
use Rattle.machine.specs.declared.Answer.{Answer}
use Rattle.machine.specs.Answers.{numbers, numbers_of}
use Rattle.text.specs.Decimal.{decimal}
use Rattle.text.specs.Fields.{joined}
use Rattle.lines.specs.Line.{bytes_of}
use Rattle.lines.specs.Run.{step_line}
use Rattle.text.specs.Paging.{put_within}
use Rattle.lines.proofs.Short.{step_short}
use borrow.Author.Rules.{rules}
use Rattle.lines.proofs.told.put_step.Goals as goal

-- the line's bytes, with the answer's numbers
line-bytes :
    (number : ℕ) (step : Call) (answer : Answer) (k a b : ℕ) →
    numbers_of answer ≡ numbers k a b →
    bytes_of (step_line number step answer) ≡
    joined (map decimal (number ∷ step.thread ∷ step.operation ∷ k ∷ a ∷ b ∷ []))
unfolding bytes_of step_line
line-bytes number step answer k a b e = rw e

pub returns : goal.returns
returns c =
    let told = c.from-told.ensures in
    let short =
    step_short c.args.number c.args.step c.args.answer _ _ _
    told
    c.requires.0
    (search rules)
    (search rules)
    (search rules)
    (search rules)
    (search rules) in
    put_within short c.requires.1
    (rw (line-bytes c.args.number c.args.step c.args.answer _ _ _ told) (rw (c.from.ensures, c.from-2.ensures, c.from-3.ensures) at c.put_line.ensures))
