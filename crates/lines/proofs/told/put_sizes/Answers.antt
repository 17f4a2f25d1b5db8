-- `lines::told::put_sizes` meets its contract: it hands over the numbers of `sizes_line`.
use Rattle.lines.specs.Line.{bytes_of}
use Rattle.lines.specs.Run.{sizes_line}
use Rattle.text.specs.Paging.{put_within}
use Rattle.lines.proofs.Short.{sizes_short}
use borrow.Author.Rules.{rules}
use Rattle.lines.proofs.told.put_sizes.Goals as goal

pub returns : goal.returns
unfolding bytes_of sizes_line
returns c =
    put_within
    (sizes_short c.args.sizes (search rules) (search rules) (search rules) (search rules))
    c.requires
    (rw (c.from.ensures, c.from-2.ensures, c.from-3.ensures, c.from-4.ensures) at c.put_line.ensures)
