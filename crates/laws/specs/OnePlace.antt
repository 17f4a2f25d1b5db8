-- An object of a sound state that is in one place is in no other.
use Rattle.std.specs.Prelude.{ℕ, suc, ◌-◌, ◌<◌, ◌≤◌, ◌≡◌, false}
use native.Mathlib.Omega.{arith}
use Rattle.std.proofs.Common.{subst}
use Rattle.machine.specs.declared.State.{State}
use Rattle.entries.specs.declared.Slot.{Slot}
use Rattle.entries.specs.declared.Thread.{Thread}
use Rattle.basics.specs.Counts.{occurrences, bit_off, one_there}
use Rattle.entries.specs.Sizes.{positions}
use Rattle.entries.specs.Entries.{idle_thread, empty_slot}
use Rattle.entries.specs.Phases.{carried_by}
use Rattle.machine.specs.Parts.{link_at, slot_at, hand_of, phase_of, free_at}
use Rattle.machine.specs.Soundness.{places_holding}
use Rattle.machine.specs.Sound.{Sound, thread_long, link_long, slot_long}

-- the five numbers of which one is 1 and the others 0
module _ (s : State) (h : Sound s) (o : ℕ) (some : 0 < o) (most : o ≤ s.sizes.objects) where
  pub one_place : places_holding s o ≡ 1
  one_place =
      let e : suc (o - 1) ≡ o = omega arith in
      subst (λ (k : ℕ). places_holding s k ≡ 1) e (h.placed (o - 1) (omega arith))

  -- where it may be found

  pub link_in : (i : ℕ) → i < s.sizes.links → link_at s i ≡ o → 1 ≤ occurrences (λ (x : ℕ). x) o s.links
  link_in i less e = one_there (λ (x : ℕ). x) o s.links i 0 (link_long s h.ranged i less) e

  pub hand_in : (t : ℕ) → t < s.sizes.threads → hand_of s t ≡ o → 1 ≤ occurrences (λ (x : Thread). x.hand) o s.threads
  hand_in t less e =
      one_there (λ (x : Thread). x.hand) o s.threads t idle_thread (thread_long s h.ranged t less) e

  pub handover_in : (p : ℕ) → p < positions s.sizes → (slot_at s p).handover ≡ o
      → 1 ≤ occurrences (λ (x : Slot). x.handover) o s.slots
  handover_in p less e =
      one_there (λ (x : Slot). x.handover) o s.slots p empty_slot (slot_long s h.ranged p less) e

  pub carried_in : (t : ℕ) → t < s.sizes.threads → carried_by (phase_of s t) ≡ o
      → 1 ≤ occurrences (λ (x : Thread). carried_by x.phase) o s.threads
  carried_in t less e =
      one_there (λ (x : Thread). carried_by x.phase) o s.threads t idle_thread
      (thread_long s h.ranged t less)
      e

  -- what is in a link, a hand, a handover or carried is not free

  pub link_not_free : (i : ℕ) → i < s.sizes.links → link_at s i ≡ o → free_at s o ≡ false
  unfolding places_holding
  link_not_free i less e = let one = one_place in let a = link_in i less e in bit_off (free_at s o) (omega arith)

  pub hand_not_free : (t : ℕ) → t < s.sizes.threads → hand_of s t ≡ o → free_at s o ≡ false
  unfolding places_holding
  hand_not_free t less e = let one = one_place in let a = hand_in t less e in bit_off (free_at s o) (omega arith)

  pub handover_not_free : (p : ℕ) → p < positions s.sizes → (slot_at s p).handover ≡ o → free_at s o ≡ false
  unfolding places_holding
  handover_not_free p less e = let one = one_place in let a = handover_in p less e in bit_off (free_at s o) (omega arith)

  pub carried_not_free : (t : ℕ) → t < s.sizes.threads → carried_by (phase_of s t) ≡ o → free_at s o ≡ false
  unfolding places_holding
  carried_not_free t less e = let one = one_place in let a = carried_in t less e in bit_off (free_at s o) (omega arith)

  -- what is in a link is in no handover and not carried, and what is in a hand is not carried

  pub link_not_handover : (i p : ℕ) → i < s.sizes.links → p < positions s.sizes → link_at s i ≡ o → (slot_at s p).handover ≡ o → ⊥
  unfolding places_holding
  link_not_handover i p less less' e e' =
      let one = one_place in
      let a = link_in i less e in
      let b = handover_in p less' e' in
      omega arith

  pub link_not_carried : (i t : ℕ) → i < s.sizes.links → t < s.sizes.threads → link_at s i ≡ o → carried_by (phase_of s t) ≡ o → ⊥
  unfolding places_holding
  link_not_carried i t less less' e e' =
      let one = one_place in
      let a = link_in i less e in
      let b = carried_in t less' e' in
      omega arith

  pub hand_not_carried : (u t : ℕ) → u < s.sizes.threads → t < s.sizes.threads → hand_of s u ≡ o → carried_by (phase_of s t) ≡ o → ⊥
  unfolding places_holding
  hand_not_carried u t less less' e e' =
      let one = one_place in
      let a = hand_in u less e in
      let b = carried_in t less' e' in
      omega arith
