-- An object of a sound state that is not free stands in exactly one row, and there once.
use Rattle.std.specs.Prelude.{ℕ, ◌<◌, ◌≤◌, ◌≡◌, true, false}
use Rattle.std.proofs.Common.{arith}
use Rattle.std.proofs.Math.Path.{ap}
use Rattle.std.proofs.Math.Logic.{⊎_elim}
use Rattle.std.proofs.Math.Dec.{ltb}
use borrow.Author.Tests.{ltb-true, ltb-false}
use Rattle.machine.specs.declared.State.{State}
use Rattle.entries.specs.declared.Slot.{Slot}
use Rattle.entries.specs.declared.Thread.{Thread}
use Rattle.basics.specs.Tests.{tested}
use Rattle.basics.specs.Counts.{bit, occurrences}
use Rattle.entries.specs.Sizes.{positions}
use Rattle.entries.specs.Entries.{idle_thread, empty_slot}
use Rattle.entries.specs.Phases.{carried_by}
use Rattle.entries.specs.Facts.{link_empty, thread_empty_lem, slot_empty_lem}
use Rattle.machine.specs.Parts.{link_at, thread_at, slot_at, free_at}
use Rattle.machine.specs.Soundness.{places_holding}
use Rattle.machine.specs.Sound.{Sound}
use Rattle.laws.specs.OnePlace.{one_place}
use Rattle.reasons.specs.Reasons.{link_with, hand_with, carrier_of, handover_with}
use Rattle.reasons.proofs.Lemmas.Rows as rows

module _ (s : State) (h : Sound s) (o : ℕ) (some : 0 < o) where
  pub links_empty : (i : ℕ) → s.sizes.links ≤ i → i < 16 → link_at s i ≡ 0
  links_empty i past less = link_empty s.sizes i (link_at s i) past (h.ranged.links i less)

  pub hands_empty : (t : ℕ) → s.sizes.threads ≤ t → t < 8 → (thread_at s t).hand ≡ 0
  hands_empty t past less = ap (λ (x : Thread). x.hand) (thread_empty_lem s.sizes t (thread_at s t) past (h.ranged.threads t less))

  pub carry_none : (t : ℕ) → s.sizes.threads ≤ t → t < 8 → carried_by (thread_at s t).phase ≡ 0
  unfolding carried_by
  carry_none t past less =
      ap (λ (x : Thread). carried_by x.phase) (thread_empty_lem s.sizes t (thread_at s t) past (h.ranged.threads t less))

  pub handovers_empty : (p : ℕ) → positions s.sizes ≤ p → p < 32 → (slot_at s p).handover ≡ 0
  handovers_empty p past less = ap (λ (x : Slot). x.handover) (slot_empty_lem s.sizes p (slot_at s p) past (h.ranged.slots p less))

  -- a row in which the first that has it is past the end counts nothing

  pub no_link : s.sizes.links ≤ link_with s o → occurrences (λ (x : ℕ). x) o s.links ≡ 0
  unfolding link_with
  no_link = rows.not_found (λ (x : ℕ). x) o 0 s.links s.sizes.links 16 h.ranged.shape.links some links_empty

  pub no_hand : s.sizes.threads ≤ hand_with s o → occurrences (λ (x : Thread). x.hand) o s.threads ≡ 0
  unfolding hand_with
  no_hand =
      rows.not_found (λ (x : Thread). x.hand) o idle_thread s.threads s.sizes.threads 8 h.ranged.shape.threads some
      hands_empty

  pub no_carrier : s.sizes.threads ≤ carrier_of s o → occurrences (λ (x : Thread). carried_by x.phase) o s.threads ≡ 0
  unfolding carrier_of
  no_carrier =
      rows.not_found (λ (x : Thread). carried_by x.phase) o idle_thread s.threads s.sizes.threads 8
      h.ranged.shape.threads some carry_none

  pub no_handover : positions s.sizes ≤ handover_with s o → occurrences (λ (x : Slot). x.handover) o s.slots ≡ 0
  unfolding handover_with
  no_handover =
      rows.not_found (λ (x : Slot). x.handover) o empty_slot s.slots (positions s.sizes) 32 h.ranged.shape.slots some
      handovers_empty

  -- It is in one of the four, so where it is in none of the first three it is in the last.
  pub left_in_handover : o ≤ s.sizes.objects → free_at s o ≡ false → s.sizes.links ≤ link_with s o → s.sizes.threads ≤ hand_with s o
      → s.sizes.threads ≤ carrier_of s o → handover_with s o < positions s.sizes
  unfolding places_holding bit
  left_in_handover most kept link hand carrier =
      ⊎_elim
      (λ (less : ltb (handover_with s o) (positions s.sizes) ≡ true). ltb-true _ _ less)
      (λ (past : ltb (handover_with s o) (positions s.sizes) ≡ false).
      let one = rw kept at (one_place s h o some most) in
      let a = no_link link in
      let b = no_hand hand in
      let c = no_carrier carrier in
      let d = no_handover (ltb-false _ _ past) in
      absurd (omega arith))
      (tested (ltb (handover_with s o) (positions s.sizes)))
