-- `lines::told::put_end` meets its contract: the word, a space and then the numbers of `end_line`.
use Rattle.std.proofs.Common.{ℕ, ◌≡◌, List, [], ◌∷◌, ◌++◌, map, lit<}
use Rattle.machine.specs.declared.Places.{Places}
use Rattle.text.specs.Decimal.{decimal}
use Rattle.text.specs.Fields.{joined}
use Rattle.basics.specs.Ascii.{ascii}
use Rattle.lines.specs.Line.{bytes_of}
use Rattle.lines.specs.Run.{end_line}
use Rattle.text.specs.Joining.{joined_more}
use Rattle.text.specs.Paging.{both_within}
use Rattle.lines.proofs.Short.{end_short}
use borrow.Author.Rules.{rules}
use Rattle.lines.proofs.told.put_end.Goals as goal

-- the numbers after the word
abbrev numbers_of : ℕ → Places → List ℕ
numbers_of steps places =
    steps ∷ places.free ∷ places.links ∷ places.hands ∷ places.handovers ∷ places.carried ∷ []

split : (steps : ℕ) (places : Places) → bytes_of (end_line steps places) ≡ (ascii "end" ++ 32 ∷ []) ++ joined (map decimal (numbers_of steps places))
unfolding bytes_of end_line
split steps places = joined_more (ascii "end") (map decimal (numbers_of steps places)) (lit< tt)

pub returns : goal.returns
unfolding ascii
returns c =
    both_within (ascii "end" ++ 32 ∷ []) _ (split c.args.steps c.args.places)
    (end_short c.args.steps c.args.places c.requires.0 (search rules) (search rules) (search rules) (search rules) (search rules))
    c.requires.1 c.put_bytes.ensures
    (rw (c.from.ensures, c.from-2.ensures, c.from-3.ensures, c.from-4.ensures, c.from-5.ensures) at c.put_line.ensures)
