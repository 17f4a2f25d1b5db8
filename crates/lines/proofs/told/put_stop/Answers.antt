-- `lines::told::put_stop` meets its contract: the word, a space and then the numbers of `stop_line`.
use Rattle.std.proofs.Common.{ℕ, ◌≡◌, [], ◌∷◌, ◌++◌, map, lit<}
use Rattle.text.specs.Decimal.{decimal}
use Rattle.text.specs.Fields.{joined}
use Rattle.basics.specs.Ascii.{ascii}
use Rattle.lines.specs.Line.{bytes_of}
use Rattle.lines.specs.Run.{stop_line}
use Rattle.text.specs.Joining.{joined_more}
use Rattle.text.specs.Paging.{both_within}
use Rattle.lines.proofs.Short.{stop_short}
use borrow.Author.Rules.{rules}
use Rattle.lines.proofs.told.put_stop.Goals as goal

split : (before number : ℕ) → bytes_of (stop_line before number) ≡ (ascii "stop" ++ 32 ∷ []) ++ joined (map decimal (before ∷ number ∷ []))
unfolding bytes_of stop_line
split before number = joined_more (ascii "stop") (map decimal (before ∷ number ∷ [])) (lit< tt)

pub returns : goal.returns
unfolding ascii
returns c =
    both_within (ascii "stop" ++ 32 ∷ []) _ (split c.args.before c.args.number)
    (stop_short c.args.before c.args.number c.requires.0 (search rules))
    c.requires.1 c.put_bytes.ensures
    (rw c.from.ensures at c.put_line.ensures)
