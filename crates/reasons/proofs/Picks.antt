-- Which reason the four searches pick, one after the other, each by what its search found.
use Prim.Native.Nat.{ℕ, ◌≤◌}
use native.Mathlib.Omega.{arith}
use Rattle.std.specs.Prelude.{◌≡◌, length, Option, None, Some, IsSome, eqb}
use Rattle.std.proofs.Common.{sym, subst, refl}
use borrow.Author.Tests.{lt-ltb, le-ltb}
use Rattle.machine.specs.declared.State.{State}
use Rattle.entries.specs.Sizes.{positions}
use Rattle.machine.specs.Parts.{link_at, hand_of, phase_of, slot_at}
use Rattle.entries.specs.Facts.{Bounds}
use Rattle.entries.specs.Phases.{carried_by, scans_at}
use Rattle.machine.specs.Sound.{to_sound, limits}
use Rattle.reasons.specs.declared.Guard.{Guard}
use Rattle.reasons.specs.declared.Reason.TheVariants.{Link, Hand, Carried, Handover}
use Rattle.reasons.specs.Reasons.{found, guard_of, link_with, hand_with, carrier_of, handover_with, reason_of, refusal_of}
use Rattle.reasons.proofs.Found.{found_first, found_none}
use Rattle.reasons.proofs.Lemmas.NotRefused.{stays}
use Rattle.reasons.proofs.Lemmas.Somewhere.{left_in_handover}

module _ (s : State) (o : ℕ) where
  pub limited : refusal_of s o ≡ None → Bounds s.sizes
  limited h = limits s (to_sound s (stays s o h).sound).ranged

  -- there are at most 32 positions
  pub row_limited : refusal_of s o ≡ None → positions s.sizes ≤ 32
  row_limited h = (limited h).positions

  -- and each search walks no more entries than there are
  pub links_fit : refusal_of s o ≡ None → s.sizes.links ≤ length s.links
  links_fit h = let ranged = (to_sound s (stays s o h).sound).ranged in omega (arith, (limited h).links, ranged.shape.links)

  pub threads_fit : refusal_of s o ≡ None → s.sizes.threads ≤ length s.threads
  threads_fit h = let ranged = (to_sound s (stays s o h).sound).ranged in omega (arith, (limited h).threads, ranged.shape.threads)

  pub slots_fit : refusal_of s o ≡ None → positions s.sizes ≤ length s.slots
  slots_fit h = let ranged = (to_sound s (stays s o h).sound).ranged in omega (arith, row_limited h, ranged.shape.slots)

  module _ (links : Option ℕ) (el : links ≡ found s.sizes.links (λ i. eqb (link_at s i) o)) where
    pub in_link : (l : ℕ) → links ≡ Some l → Link l ≡ reason_of s o
    unfolding reason_of link_with
    in_link l there =
        let at = found_first _ _ links el l there in
        rw (← at.1, lt-ltb l s.sizes.links at.0)

    module _ (no_link : links ≡ None) (hands : Option ℕ) (eh : hands ≡ found s.sizes.threads (λ t. eqb (hand_of s t) o)) where
      pub in_hand : (h : ℕ) → hands ≡ Some h → Hand h ≡ reason_of s o
      unfolding reason_of link_with hand_with
      in_hand h there =
          let at = found_first _ _ hands eh h there in
          rw (le-ltb _ _ (found_none _ _ links el no_link), ← at.1, lt-ltb h s.sizes.threads at.0)

      module _ (no_hand : hands ≡ None) (carriers : Option ℕ)
          (et : carriers ≡ found s.sizes.threads (λ t. eqb (carried_by (phase_of s t)) o)) where
        pub is_carried : (t : ℕ) → carriers ≡ Some t → (p : ℕ) → p ≡ scans_at (phase_of s t) → Carried t p ≡ reason_of s o
        unfolding reason_of link_with hand_with carrier_of
        is_carried t there p e =
            let at = found_first _ _ carriers et t there in
            rw (
              le-ltb _ _ (found_none _ _ links el no_link),
              le-ltb _ _ (found_none _ _ hands eh no_hand),
              ← at.1,
              lt-ltb t s.sizes.threads at.0,
              e,
            )

        module _ (no_carrier : carriers ≡ None) (handovers : Option ℕ)
            (ep : handovers ≡ found (positions s.sizes) (λ p. eqb (slot_at s p).handover o)) where
          -- so it is in the last
          pub left_there : refusal_of s o ≡ None → IsSome handovers
          unfolding link_with hand_with carrier_of handover_with
          left_there kept =
              let k = stays s o kept in
              let less =
              left_in_handover s (to_sound s k.sound) o k.some k.most k.kept
              (found_none _ _ links el no_link)
              (found_none _ _ hands eh no_hand)
              (found_none _ _ carriers et no_carrier)
              in
              subst IsSome (sym ep) (rw (lt-ltb _ _ less) refl)

          pub in_handover : (p : ℕ) → handovers ≡ Some p → (g : Guard) → g ≡ guard_of (slot_at s p) o → Handover p g ≡ reason_of s o
          unfolding reason_of link_with hand_with carrier_of handover_with
          in_handover p there g e =
              let at = found_first _ _ handovers ep p there in
              rw (
                le-ltb _ _ (found_none _ _ links el no_link),
                le-ltb _ _ (found_none _ _ hands eh no_hand),
                le-ltb _ _ (found_none _ _ carriers et no_carrier),
                ← at.1,
                e,
              )
