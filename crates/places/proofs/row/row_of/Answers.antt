-- `row_of` meets its contract: each kind of place is laid into its own room.
use Rattle.std.proofs.Common.{◌≡◌, ℕ, List, arith, rules, map, replicate, ap, ◌∙◌, map-id}
use Rattle.std.proofs.Math.Seq.{paste}
use Rattle.entries.specs.declared.Thread.{Thread}
use Rattle.entries.specs.declared.Slot.{Slot}
use Rattle.entries.specs.Phases.{carried_by}
use Rattle.places.specs.Lemmas.Laying.{laid_up_to}
use Rattle.places.proofs.row.row_of.Goals as goal

pub returns : goal.returns
returns c =
    let a = c.args in
    let L = c.min-links_end.result in
    let T = c.min-some.result in
    let P = c.min-slots_end.result in
    let one : c.lay.new.row ≡ paste (replicate 64 0) 0 (map (λ (link : ℕ). link) a.links) L =
    c.lay.ensures (λ (link : ℕ). link) (λ x r e. search rules)
    in
    let two : c.lay-2.new.row ≡ paste c.lay.new.row 16 (map (λ (thread : Thread). thread.hand) a.threads) T =
    c.lay-2.ensures (λ (thread : Thread). thread.hand) (λ x r e. search rules)
    in
    let three : c.lay-3.new.row ≡ paste c.lay-2.new.row 24 (map (λ (slot : Slot). slot.handover) a.slots) P =
    c.lay-3.ensures (λ (slot : Slot). slot.handover) (λ x r e. search rules)
    in
    let four : c.lay-4.new.row ≡ paste c.lay-3.new.row 56 (map (λ (thread : Thread). carried_by thread.phase) a.threads) T =
    c.lay-4.ensures (λ (thread : Thread). carried_by thread.phase) (λ x r e. search rules)
    in
    laid_up_to a.z a.links a.threads a.slots (search rules) (search rules) (search rules) L T P
    (omega (arith, c.min-links_end.ensures, c.from-2.ensures))
    (omega (arith, c.min-some.ensures, c.from.ensures))
    (omega (arith, c.min-slots_end.ensures, c.positions.ensures))
    (one ∙ ap (λ (l : List ℕ). paste (replicate 64 0) 0 l L) (map-id a.links))
    two
    three
    four
