-- `bytes_of` meets its contract: of a word that ends past the text's end it has the bytes up to there.
use Rattle.std.proofs.Common.{refl, ◌∙◌, arith}
use Rattle.words.specs.Words.{bytes_of}
use Rattle.words.proofs.Parts.{got, cut}
use Rattle.words.proofs.finding.bytes_of.Goals as goal

pub returns : goal.returns
unfolding bytes_of
returns c =
    let text = c.args.text.now in
    let word = c.args.word in
    got text word.from c.min.result _ _ c.unwrap_or.result c.get.ensures.lookup (omega arith) refl c.unwrap_or.ensures
    ∙ rw c.min.ensures (cut text word.from word.to)
