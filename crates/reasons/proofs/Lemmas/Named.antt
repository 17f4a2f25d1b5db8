-- The reason that is named applies, and no other does.
use Rattle.std.specs.Prelude.{ℕ, ◌+◌, ◌<◌, ◌≤◌, ◌≡◌, refl, true, false, ltb}
use native.Mathlib.Omega.{arith}
use Rattle.std.proofs.Common.{sym, ap, subst, ◌∙◌, ⊎_elim}
use borrow.Author.Tests.{lt-ltb, le-ltb, ltb-true, ltb-false}
use Rattle.machine.specs.declared.State.{State}
use Rattle.entries.specs.declared.Slot.{Slot}
use Rattle.entries.specs.declared.Thread.{Thread}
use Rattle.entries.specs.Sizes.{positions}
use Rattle.machine.specs.Parts.{link_at, hand_of, phase_of, slot_at}
use Rattle.basics.specs.Counts.{bit, occurrences}
use Rattle.entries.specs.Entries.{idle_thread, empty_slot}
use Rattle.entries.specs.Phases.{carried_by, scans_at}
use Rattle.machine.specs.Soundness.{places_holding}
use Rattle.basics.specs.Tests.{tested}
use Rattle.machine.specs.Sound.{Sound, to_sound}
use Rattle.entries.specs.Facts.{bounds}
use Rattle.laws.specs.OnePlace.{one_place, link_in, hand_in, handover_in, carried_in}
use Rattle.reasons.specs.declared.Reason.{Reason}
use Rattle.reasons.specs.declared.Reason.TheVariants.{Link, Hand, Carried, Handover}
use Rattle.reasons.specs.Reasons.{guard_of, link_with, hand_with, carrier_of, handover_with, reason_of}
use Rattle.reasons.specs.Applies.{Stays, Applies}
use Rattle.reasons.proofs.Lemmas.Rows as rows
use Rattle.reasons.proofs.Lemmas.Somewhere.{left_in_handover, links_empty, hands_empty, carry_none, handovers_empty}
use Rattle.reasons.proofs.Lemmas.Guards.{guarding, guard_is}

module _ (s : State) (o : ℕ) (stays : Stays s o) where
  h : Sound s
  h = to_sound s stays.sound

  -- what each search found has the object

  link_has : link_with s o < s.sizes.links → link_at s (link_with s o) ≡ o
  unfolding link_with
  link_has = rows.found_has (λ (x : ℕ). x) o 0 s.links s.sizes.links 16 h.ranged.shape.links stays.some (links_empty s h o stays.some)

  hand_has : hand_with s o < s.sizes.threads → hand_of s (hand_with s o) ≡ o
  unfolding hand_with
  hand_has =
      rows.found_has (λ (x : Thread). x.hand) o idle_thread s.threads s.sizes.threads 8 h.ranged.shape.threads
      stays.some (hands_empty s h o stays.some)

  carrier_has : carrier_of s o < s.sizes.threads → carried_by (phase_of s (carrier_of s o)) ≡ o
  unfolding carrier_of
  carrier_has =
      rows.found_has (λ (x : Thread). carried_by x.phase) o idle_thread s.threads s.sizes.threads 8
      h.ranged.shape.threads stays.some (carry_none s h o stays.some)

  handover_has : handover_with s o < positions s.sizes → (slot_at s (handover_with s o)).handover ≡ o
  unfolding handover_with
  handover_has =
      rows.found_has (λ (x : Slot). x.handover) o empty_slot s.slots (positions s.sizes) 32 h.ranged.shape.slots
      stays.some (handovers_empty s h o stays.some)

  -- the reason that is named, case by case

  is_link : link_with s o < s.sizes.links → reason_of s o ≡ Link (link_with s o)
  unfolding reason_of
  is_link less = rw (lt-ltb _ _ less)

  module _ (no_links : s.sizes.links ≤ link_with s o) where
    is_hand : hand_with s o < s.sizes.threads → reason_of s o ≡ Hand (hand_with s o)
    unfolding reason_of
    is_hand less = rw (le-ltb _ _ no_links, lt-ltb _ _ less)

    module _ (no_hands : s.sizes.threads ≤ hand_with s o) where
      is_carrier : carrier_of s o < s.sizes.threads → reason_of s o ≡ Carried (carrier_of s o) (scans_at (phase_of s (carrier_of s o)))
      unfolding reason_of
      is_carrier less = rw (le-ltb _ _ no_links, le-ltb _ _ no_hands, lt-ltb _ _ less)

      is_handover : s.sizes.threads ≤ carrier_of s o → reason_of s o ≡ Handover (handover_with s o) (guard_of (slot_at s (handover_with s o)) o)
      unfolding reason_of
      is_handover past = rw (le-ltb _ _ no_links, le-ltb _ _ no_hands, le-ltb _ _ past)

  -- either a search found it, or it did not
  split : (A : Type 0) (found n : ℕ) → (found < n → A) → (n ≤ found → A) → A
  split A found n under past =
      ⊎_elim (λ (e : ltb found n ≡ true). under (ltb-true _ _ e)) (λ (e : ltb found n ≡ false). past (ltb-false _ _ e))
      (tested (ltb found n))

  pub named_applies : Applies s o (reason_of s o)
  named_applies =
      split (Applies s o (reason_of s o)) (link_with s o) s.sizes.links
      (λ less. subst (Applies s o) (sym (is_link less)) (less, link_has less))
      (λ no_links.
      split (Applies s o (reason_of s o)) (hand_with s o) s.sizes.threads
      (λ less. subst (Applies s o) (sym (is_hand no_links less)) (less, hand_has less))
      (λ no_hands.
      split (Applies s o (reason_of s o)) (carrier_of s o) s.sizes.threads
      (λ less.
      subst (Applies s o) (sym (is_carrier no_links no_hands less))
      (less, (carrier_has less, refl)))
      (λ past.
      let less =
      left_in_handover s h o stays.some stays.most stays.kept no_links no_hands past
      in
      subst (Applies s o) (sym (is_handover no_links no_hands past))
      (less, (handover_has less, guarding (slot_at s (handover_with s o)) o)))))

  -- how often the object stands in each row

  in_links : ℕ
  in_links = occurrences (λ (x : ℕ). x) o s.links

  in_hands : ℕ
  in_hands = occurrences (λ (x : Thread). x.hand) o s.threads

  in_handovers : ℕ
  in_handovers = occurrences (λ (x : Slot). x.handover) o s.slots

  is_carried : ℕ
  is_carried = occurrences (λ (x : Thread). carried_by x.phase) o s.threads

  sum : in_links + in_hands + in_handovers + is_carried ≡ 1
  unfolding places_holding bit in_links in_hands in_handovers is_carried
  sum = let one = rw stays.kept at (one_place s h o stays.some stays.most) in omega arith

  -- a row that has it not at all was searched in vain

  links_past : in_links ≡ 0 → s.sizes.links ≤ link_with s o
  unfolding in_links
  links_past none =
      split (s.sizes.links ≤ link_with s o) (link_with s o) s.sizes.links
      (λ less.
      let one = link_in s h o stays.some stays.most (link_with s o) less (link_has less) in
      absurd (omega arith))
      (λ past. past)

  hands_past : in_hands ≡ 0 → s.sizes.threads ≤ hand_with s o
  unfolding in_hands
  hands_past none =
      split (s.sizes.threads ≤ hand_with s o) (hand_with s o) s.sizes.threads
      (λ less.
      let one = hand_in s h o stays.some stays.most (hand_with s o) less (hand_has less) in
      absurd (omega arith))
      (λ past. past)

  carriers_past : is_carried ≡ 0 → s.sizes.threads ≤ carrier_of s o
  unfolding is_carried
  carriers_past none =
      split (s.sizes.threads ≤ carrier_of s o) (carrier_of s o) s.sizes.threads
      (λ less.
      let one = carried_in s h o stays.some stays.most (carrier_of s o) less (carrier_has less) in
      absurd (omega arith))
      (λ past. past)

  -- an entry that has it is the one that is found

  the_link : (i : ℕ) → i < s.sizes.links → link_at s i ≡ o → (1 ≤ in_links) × (i ≡ link_with s o)
  unfolding in_links link_with
  the_link i less e =
      let b = bounds s.sizes h.ranged.sizes in
      let total = sum in
      let one = link_in s h o stays.some stays.most i less e in (
        one,
        rows.is_found (λ (x : ℕ). x) o 0 s.links s.sizes.links 16 h.ranged.shape.links stays.some
            (links_empty s h o stays.some) (omega arith) i less b.links e,
      )

  the_hand : (t : ℕ) → t < s.sizes.threads → hand_of s t ≡ o → (1 ≤ in_hands) × (t ≡ hand_with s o)
  unfolding in_hands hand_with
  the_hand t less e =
      let b = bounds s.sizes h.ranged.sizes in
      let total = sum in
      let one = hand_in s h o stays.some stays.most t less e in (
        one,
        rows.is_found (λ (x : Thread). x.hand) o idle_thread s.threads s.sizes.threads 8 h.ranged.shape.threads
            stays.some (hands_empty s h o stays.some) (omega arith) t less b.threads e,
      )

  the_carrier : (t : ℕ) → t < s.sizes.threads → carried_by (phase_of s t) ≡ o → (1 ≤ is_carried) × (t ≡ carrier_of s o)
  unfolding is_carried carrier_of
  the_carrier t less e =
      let b = bounds s.sizes h.ranged.sizes in
      let total = sum in
      let one = carried_in s h o stays.some stays.most t less e in (
        one,
        rows.is_found (λ (x : Thread). carried_by x.phase) o idle_thread s.threads s.sizes.threads 8
            h.ranged.shape.threads stays.some (carry_none s h o stays.some) (omega arith) t less b.threads e,
      )

  the_handover : (p : ℕ) → p < positions s.sizes → (slot_at s p).handover ≡ o → (1 ≤ in_handovers) × (p ≡ handover_with s o)
  unfolding in_handovers handover_with
  the_handover p less e =
      let b = bounds s.sizes h.ranged.sizes in
      let total = sum in
      let one = handover_in s h o stays.some stays.most p less e in (
        one,
        rows.is_found (λ (x : Slot). x.handover) o empty_slot s.slots (positions s.sizes) 32 h.ranged.shape.slots
            stays.some (handovers_empty s h o stays.some) (omega arith) p less b.positions e,
      )

  pub only_one : (r : Reason) → Applies s o r → r ≡ reason_of s o
  only_one (Link i) a =
      let it = the_link i a.0 a.1 in
      ap Link it.1 ∙ sym (is_link (subst (λ (k : ℕ). k < s.sizes.links) it.1 a.0))
  only_one (Hand t) a =
      let it = the_hand t a.0 a.1 in
      let total = sum in
      ap Hand it.1 ∙
      sym (is_hand (links_past (omega (arith, it.0))) (subst (λ (k : ℕ). k < s.sizes.threads) it.1 a.0))
  only_one (Carried t p) a =
      let it = the_carrier t a.0 a.1.0 in
      let total = sum in
      ap (Carried t) (sym a.1.1) ∙
      ap (λ (k : ℕ). Carried k (scans_at (phase_of s k))) it.1 ∙
      sym
      (is_carrier (links_past (omega (arith, it.0))) (hands_past (omega (arith, it.0)))
      (subst (λ (k : ℕ). k < s.sizes.threads) it.1 a.0))
  only_one (Handover p g) a =
      let it = the_handover p a.0 a.1.0 in
      let total = sum in
      ap (Handover p) (guard_is (slot_at s p) o g a.1.1) ∙
      ap (λ (k : ℕ). Handover k (guard_of (slot_at s k) o)) it.1 ∙
      sym
      (is_handover (links_past (omega (arith, it.0))) (hands_past (omega (arith, it.0)))
      (carriers_past (omega (arith, it.0))))
