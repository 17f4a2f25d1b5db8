-- What one more read put into the buffer stands behind what was there, and was consumed after it.
use Rattle.std.proofs.Common.{◌≡◌, ℕ, ◌+◌, ◌≤◌, List, ◌++◌, rules, length, take, sym, ap, subst, ◌∙◌, drop_at, length-take-le, le_refl}
use Rattle.std.proofs.lemmas.Slice.{take-put_mid_below}
use Rattle.std.specs.Io.KnownBytes.{Consumes}
use Rattle.std.proofs.KnownBytes.{Consumes-trans}
use borrow.Rule.Slice.PartMut.{put_mid, post_of}
use lib.Seq.{take-add, take-append-le}
use Rattle.input.proofs.read_full.Goals as goal

take_put : (at k n : ℕ) (xs ys : List ℕ) → at ≤ length xs → n ≤ length ys → take at xs ++ take n ys ≡ take (at + n) (put_mid at k xs ys)
take_put at k n xs ys within fits =
    let after = ys ++ post_of at k xs in
    ap (λ l. l ++ take n ys) (sym (take-put_mid_below _ _ _ _ _ (le_refl at) within))
    ∙ ap (λ l. take at (put_mid at k xs ys) ++ l) (sym (ap (take n) (drop_at (take at xs) after at (length-take-le at xs within)) ∙ take-append-le n ys _ fits))
    ∙ sym (take-add at n (put_mid at k xs ys))

pub loop-done-preserved : goal.loop-done-preserved
loop-done-preserved g c =
    let read = c.in-Ok.ensures in
    let from = c.loop-done.done in
    record {
      within = search rules;
      same = search rules;
      bytes =
          subst
          (Consumes _ _)
          (take_put from _ c.in-Ok.n c.loop-done.buf c.read.new.buf c.loop-done.invariant.within read.bound.0)
          (Consumes-trans _ _ _ _ _ c.loop-done.invariant.bytes read.bytes.0);
    }
