-- `text::page::Page::put_numbers` meets its contract. The invariant: the fields from the next number on are still to come.
use Rattle.std.proofs.Common.{ℕ, ◌+◌, ◌<◌, ◌≡◌, List, [], ◌∷◌, ◌++◌, length, get_or, drop, map, arith, length-append}
use Rattle.std.proofs.Math.Seq.{get_or-append_seam}
use Rattle.std.proofs.lemmas.List.{get_or_append_left}
use Rattle.text.specs.Decimal.{decimal}
use Rattle.text.specs.Fields.{joined}
use Rattle.text.specs.Appending.{part_room, rest_room}
use Rattle.text.specs.Paging.{leads_on, leads_end}
use Rattle.text.specs.Joining.{number_more, number_last}
use Rattle.text.proofs.page.Page.put_numbers.Goals as goal

-- the next field, and the line that follows it
module _ (front : List ℕ) (last i : ℕ) where
  field_next :
      i < length front →
      joined (map decimal (drop i (front ++ last ∷ []))) ≡
      (decimal (get_or front i 0) ++ 32 ∷ []) ++ joined (map decimal (drop (i + 1) (front ++ last ∷ [])))
  field_next h =
      rw (← get_or_append_left front (last ∷ []) 0 i h) (number_more (front ++ last ∷ []) i (omega (arith, length-append front (last ∷ []))))

  -- where the loop is left, the last number is still to come
  field_last : i ≡ length front → joined (map decimal (drop i (front ++ last ∷ []))) ≡ decimal last ++ 10 ∷ []
  field_last e =
      rw e (rw (get_or-append_seam front last [] 0) at (number_last (front ++ last ∷ []) (length front) (omega (arith, length-append front (last ∷ [])))))

pub put_field-requires : goal.put_field-requires
put_field-requires c =
    part_room _ _ c.loop-number.invariant.leads (field_next c.args.front.now c.args.last c.loop-number.number-index (omega arith)) c.requires

pub loop-number-preserved : goal.loop-number-preserved
loop-number-preserved c =
    let next = field_next c.args.front.now c.args.last c.loop-number.number-index (omega arith) in
    leads_on c.loop-number.invariant next (part_room _ _ c.loop-number.invariant.leads next c.requires) c.put_field.ensures

pub put_field-requires-2 : goal.put_field-requires-2
put_field-requires-2 c =
    rest_room (rw (field_last c.args.front.now c.args.last c.loop-number.number-index (omega arith)) at c.loop-number.invariant.leads) c.requires

pub returns : goal.returns
returns c =
    leads_end (rw (field_last c.args.front.now c.args.last c.loop-number.number-index (omega arith)) at c.loop-number.invariant) c.put_field-2.ensures
