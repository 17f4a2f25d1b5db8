-- What `get` finds of a text, where a part that is not there has no bytes.
use Rattle.std.proofs.Common.{ℕ, ◌≡◌, ◌-◌, ◌≤◌, ◌<◌, ◌∙◌, sym, refl, List, [], length, take, drop, Option, Some, None, unwrap_or, Bor, Bool, true, false, ltb, arith, min, length-drop, ⊎_elim}
use borrow.Author.Tests.{ltb-true, ltb-false}
use Rattle.std.proofs.Math.Seq.{take_all}
use Rattle.std.specs.Slice.{IsGetRangeResult}

pub got : (text : List ℕ) (from to : ℕ) (found : Option (Bor (List ℕ))) (none part : Bor (List ℕ)) → IsGetRangeResult text from to found → to ≤ length text → none.now ≡ [] → part ≡ unwrap_or found none → part.now ≡ take (to - from) (drop from text)
got text from to None none part h fits e same =
    let empty : to - from ≡ 0 = ⊎_elim (λ s. omega arith) (λ l. omega arith) h.0 in
    rw (same, e, empty) refl
got text from to (Some x) none part h fits e same = rw same (h.0.2)

-- a part up to where the text ends has all that a longer one has
pub cut : (text : List ℕ) (from to : ℕ) → take (min to (length text) - from) (drop from text) ≡ take (to - from) (drop from text)
cut text from to = by_end (ltb to (length text)) (ltb-true _ _) (ltb-false _ _)
  where
    by_end : (t : Bool) → (t ≡ true → to < length text) → (t ≡ false → length text ≤ to) → take (min to (length text) - from) (drop from text) ≡ take (to - from) (drop from text)
    by_end true f g =
        let before = f refl in
        let same : min to (length text) ≡ to = omega arith in
        rw same refl
    by_end false f g =
        let past = g refl in
        let size = length-drop from text in
        take_all (min to (length text) - from) (drop from text) (omega arith) ∙ sym (take_all (to - from) (drop from text) (omega arith))
