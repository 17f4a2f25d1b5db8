-- `text::page::Page::put_parts` meets its contract. The invariant: what the rest of the template gives, with the numbers that are left, is
-- still to come; each byte so far took at most three.
use Rattle.std.proofs.Common.{ℕ, ◌+◌, ◌<◌, ◌≡◌, refl, List, [], ◌∷◌, ◌++◌, Option, None, Some, Bor, length, get_or, drop, arith, drop_of_length-le, Iter}
use Rattle.std.specs.Option.{option_copied, unwrap_or}
use Rattle.std.specs.Slice.Iter.{iter_rest, iter_steps}
use Rattle.text.specs.Decimal.{decimal}
use Rattle.text.specs.Digits.{byte_short}
use Rattle.text.specs.Words.{filled}
use Rattle.text.specs.Parts.{place_part, other_part, after_place, after_other}
use Rattle.text.specs.Paging.{none, leads_start, leads_on, leads_end}
use Rattle.text.proofs.page.Page.put_parts.Goals as goal
use Rattle.text.proofs.page.Page.put_parts.Goals.{then-byte-eq37, else-byte-eq37}

-- the next number, 0 where none is left, and those that are left after it
none_left : (numbers : List ℕ) → length numbers ≡ 0 → (0 ≡ get_or numbers 0 0) × (numbers ≡ drop 1 numbers)
none_left [] h = (refl, refl)
none_left (n ∷ numbers) h = absurd (omega arith)

taken :
    (s t : Iter ℕ) (r : Option (Bor ℕ)) →
    iter_steps s r t →
    (unwrap_or (option_copied r) 0 ≡ get_or (iter_rest s) 0 0) × (iter_rest t ≡ drop 1 (iter_rest s))
taken s t None h = rw h.1 (none_left (iter_rest s) h.0)
taken s t (Some x) h = rw h (refl, refl)

-- the part of the next byte, and what comes after it
module _ (template numbers : List ℕ) (i : ℕ) (more : i < length template) where
  place_next :
      get_or template i 0 ≡ 37 →
      filled (drop i template) numbers ≡ decimal (get_or numbers 0 0) ++ filled (drop (i + 1) template) (drop 1 numbers)
  place_next e = rw (place_part (get_or template i 0) (get_or numbers 0 0) e) at (after_place template numbers i 0 more e)

  other_next :
      (get_or template i 0 ≡ 37 → ⊥) →
      filled (drop i template) numbers ≡ (get_or template i 0 ∷ []) ++ filled (drop (i + 1) template) numbers
  other_next ne = rw (other_part (get_or template i 0) (get_or numbers 0 0) ne) at (after_other template numbers i 0 more ne)

pub loop-byte-init : goal.loop-byte-init
loop-byte-init c = (tt, omega arith, rw c.iter-left.ensures.rest (leads_start _ _))

pub put_number-requires : goal.put_number-requires
put_number-requires c =
    omega (arith, byte_short c.from.result (omega (arith, c.from.ensures)), c.loop-byte.invariant.2.leads.size, c.requires)

pub put_byte-requires : goal.put_byte-requires
put_byte-requires c = omega (arith, c.loop-byte.invariant.2.leads.size, c.requires)

pub loop-byte-preserved : goal.loop-byte-preserved
loop-byte-preserved c = elim c.if-byte-eq37.branch [
  | then-byte-eq37 w ↦
      let number : w.from.result ≡ get_or (iter_rest c.loop-byte.left) 0 0 =
      rw (w.from.ensures, w.unwrap_or-number.ensures, w.copied.ensures) (taken _ _ _ w.next.ensures.steps).0 in
      let next = place_next c.args.template.now (iter_rest c.loop-byte.left) c.loop-byte.byte-index c.loop-byte-test.true w.if-byte-eq37.true in
      let short = byte_short w.from.result (omega (arith, w.from.ensures)) in
      rw (w.self-is, w.left-is, (taken _ _ _ w.next.ensures.steps).1) (
        tt,
        omega (arith, short, w.put_number.ensures.written.next),
        leads_on c.loop-byte.invariant.2 (rw (← number) at next) (omega (arith, short, c.loop-byte.invariant.2.leads.size, c.requires)) w.put_number.ensures,
      )
  | else-byte-eq37 w ↦
      let next = other_next c.args.template.now (iter_rest c.loop-byte.left) c.loop-byte.byte-index c.loop-byte-test.true w.if-byte-eq37.false in
      rw (w.self-is, w.left-is) (
        tt,
        omega (arith, w.put_byte.ensures.written.next),
        leads_on c.loop-byte.invariant.2 next (omega (arith, c.loop-byte.invariant.2.leads.size, c.requires)) w.put_byte.ensures,
      )
]

pub returns-clause-wrote : goal.returns-clause-wrote
unfolding filled
returns-clause-wrote c = leads_end (rw (drop_of_length-le c.args.template.now {i = c.loop-byte.byte-index} (omega arith)) at c.loop-byte.invariant.2) (none _)
