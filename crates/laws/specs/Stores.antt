-- What one store does: the state stays in range where what is stored is, and the places of an object change by what went and what came.
use Rattle.std.specs.Prelude.{ℕ, ◌+◌, ◌-◌, ◌<◌, ◌≤◌, ◌≡◌, refl, true, false, length, eqb}
use native.Mathlib.Omega.{arith}
use Rattle.std.proofs.Common.{sym, length-set}
use borrow.Author.Tests.{eq-eqb, ne_eqb}
use Rattle.machine.specs.declared.State.{State}
use Rattle.entries.specs.declared.Slot.{Slot}
use Rattle.entries.specs.declared.Phase.{Phase}
use Rattle.pool.specs.declared.Pool.{Pool}
use Rattle.basics.specs.Tests.{same_or_not}
use Rattle.basics.specs.Counts.{bit, occurrences_set}
use Rattle.basics.specs.Lists.{each_set}
use Rattle.entries.specs.Sizes.{positions}
use Rattle.entries.specs.Phases.{carried_by, phase_in_range}
use Rattle.entries.specs.Entries.{thread, idle_thread, empty_slot, link_good, thread_good, slot_good, tag_good}
use Rattle.entries.specs.Facts.{link_good_lem, thread_good_lem, SlotFacts, slot_good_lem, tag_good_lem}
use Rattle.pool.specs.Pool.{is_free, pool_good}
use Rattle.machine.specs.Parts.{link_at, slot_at, hand_of, phase_of, free_at, with_link, with_thread, with_slot, with_pool}
use Rattle.machine.specs.Soundness.{places_holding}
use Rattle.machine.specs.Sound.{Ranged, thread_long, link_long, slot_long, tag_long}

module _ (s : State) (r : Ranged s) where
  pub link_ranged : (i o : ℕ) → i < s.sizes.links → o ≤ s.sizes.objects → Ranged (with_link s i o)
  link_ranged i o under most =
      let less = link_long s r i under in
      record {
        shape =
            record {
              links = simp length-set r.shape.links;
              threads = r.shape.threads;
              slots = r.shape.slots;
              tags = r.shape.tags;
            };
        sizes = r.sizes;
        links = each_set 16 (link_good s.sizes) 0 s.links i o less (link_good_lem s.sizes i o under most) r.links;
        threads = r.threads;
        slots = r.slots;
        pool = r.pool;
        tags = r.tags;
      }

  pub thread_ranged : (t hand : ℕ) (phase : Phase) → t < s.sizes.threads → hand ≤ s.sizes.objects
      → phase_in_range s.sizes phase ≡ true → Ranged (with_thread s t hand phase)
  thread_ranged t hand phase under most fine =
      let less = thread_long s r t under in
      let good = thread_good_lem s.sizes t hand phase under most fine in
      record {
        shape =
            record {
              links = r.shape.links;
              threads = simp length-set r.shape.threads;
              slots = r.shape.slots;
              tags = r.shape.tags;
            };
        sizes = r.sizes;
        links = r.links;
        threads = each_set 8 (thread_good s.sizes) idle_thread s.threads t (thread hand phase) less good r.threads;
        slots = r.slots;
        pool = r.pool;
        tags = r.tags;
      }

  pub slot_ranged : (p : ℕ) (slot : Slot) → p < positions s.sizes → SlotFacts s.sizes.objects slot → Ranged (with_slot s p slot)
  slot_ranged p slot under facts =
      let less = slot_long s r p under in
      record {
        shape =
            record {
              links = r.shape.links;
              threads = r.shape.threads;
              slots = simp length-set r.shape.slots;
              tags = r.shape.tags;
            };
        sizes = r.sizes;
        links = r.links;
        threads = r.threads;
        slots = each_set 32 (slot_good s.sizes) empty_slot s.slots p slot less (slot_good_lem s.sizes p slot under facts) r.slots;
        pool = r.pool;
        tags = r.tags;
      }

  pub pool_ranged : (pool : Pool) (o tag : ℕ) → pool_good s.sizes.objects pool ≡ true → 0 < o → o ≤ s.sizes.objects
      → Ranged (with_pool s pool o tag)
  pool_ranged pool o tag fine some most =
      let less = tag_long s r o some most in
      record {
        shape =
            record {
              links = r.shape.links;
              threads = r.shape.threads;
              slots = r.shape.slots;
              tags = simp length-set r.shape.tags;
            };
        sizes = r.sizes;
        links = r.links;
        threads = r.threads;
        slots = r.slots;
        pool = fine;
        tags = each_set 240 (tag_good s.sizes) 0 s.tags (o - 1) tag less (tag_good_lem s.sizes (o - 1) tag (omega arith)) r.tags;
      }

module _ (s : State) (o : ℕ) where
  pub link_places : (i x : ℕ) → i < length s.links
      → places_holding (with_link s i x) o + bit (eqb (link_at s i) o) ≡ places_holding s o + bit (eqb x o)
  unfolding places_holding
  link_places i x less =
      let law = occurrences_set (λ link. link) o s.links i x 0 less in
      omega arith

  pub thread_places : (t hand : ℕ) (phase : Phase) → t < length s.threads
      → places_holding (with_thread s t hand phase) o + bit (eqb (hand_of s t) o) + bit (eqb (carried_by (phase_of s t)) o)
      ≡ places_holding s o + bit (eqb hand o) + bit (eqb (carried_by phase) o)
  unfolding places_holding
  thread_places t hand phase less =
      let hands = occurrences_set (λ thread. thread.hand) o s.threads t (thread hand phase) idle_thread less in
      let carries = occurrences_set (λ thread. carried_by thread.phase) o s.threads t (thread hand phase) idle_thread less in
      omega arith

  pub slot_places : (p : ℕ) (slot : Slot) → p < length s.slots
      → places_holding (with_slot s p slot) o + bit (eqb (slot_at s p).handover o) ≡ places_holding s o + bit (eqb slot.handover o)
  unfolding places_holding
  slot_places p slot less =
      let law = occurrences_set (λ slot. slot.handover) o s.slots p slot empty_slot less in
      omega arith

-- One object is free no more, or has become free: one place less, or one more, for that object alone.
module _ (s : State) (pool : Pool) (o tag x : ℕ) (others : (x : ℕ) → (x ≡ o → ⊥) → is_free pool x ≡ free_at s x) where
  pub taken_places : free_at s o ≡ true → is_free pool o ≡ false → places_holding (with_pool s pool o tag) x + bit (eqb o x) ≡ places_holding s x
  unfolding places_holding bit
  taken_places was now =
      same_or_not (places_holding (with_pool s pool o tag) x + bit (eqb o x) ≡ places_holding s x) x o
      (λ e. rw (e, was, now, eq-eqb o o refl) (omega arith))
      (λ ne. rw (others x ne, ne_eqb o x (λ e. ne (sym e))) (omega arith))

  pub freed_places : free_at s o ≡ false → is_free pool o ≡ true → places_holding (with_pool s pool o tag) x ≡ places_holding s x + bit (eqb o x)
  unfolding places_holding bit
  freed_places was now =
      same_or_not (places_holding (with_pool s pool o tag) x ≡ places_holding s x + bit (eqb o x)) x o
      (λ e. rw (e, was, now, eq-eqb o o refl) (omega arith))
      (λ ne. rw (others x ne, ne_eqb o x (λ e. ne (sym e))) (omega arith))
