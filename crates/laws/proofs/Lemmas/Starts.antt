-- The fresh machine and the blank state are sound, and a sound state whose sizes are out of range is the blank one.
use Rattle.std.specs.Prelude.{ℕ, suc, ◌<◌, ◌≤◌, ◌≡◌, false}
use Rattle.std.proofs.Common.{arith, ap, subst}
use Rattle.std.proofs.Math.Path.{refl}
use Rattle.std.proofs.Math.Bool.{true}
use Rattle.std.proofs.Math.ListN.{length-replicate}
use Rattle.std.proofs.lemmas.List.{get_or-replicate}
use Rattle.machine.specs.declared.State.{State}
use Rattle.entries.specs.declared.Sizes.{Sizes}
use Rattle.entries.specs.declared.Thread.{Thread}
use Rattle.entries.specs.declared.Slot.{Slot}
use Rattle.basics.specs.Counts.{bit, none_in_zeros}
use Rattle.basics.specs.Lists.{all_same}
use Rattle.entries.specs.Sizes.{in_range, all_zero, positions}
use Rattle.entries.specs.Phases.{carried_by}
use Rattle.entries.specs.Entries.{idle_thread, empty_slot, sizes_good}
use Rattle.entries.specs.Facts.{bounds, in_range_good, all_zero_lem, link_empty, thread_empty_lem, slot_empty_lem, tag_empty, zero_link, idle_thread_lem, empty_slot_lem, zero_tag}
use Rattle.pool.specs.Pool.{pool_good}
use Rattle.pool.specs.Promise.{fresh_pool_lem, only_fresh}
use Rattle.machine.specs.Parts.{link_at, thread_at, slot_at, free_at}
use Rattle.machine.specs.Soundness.{places_holding, sound}
use Rattle.machine.specs.Sound.{Ranged, Sound, from_sound}
use Rattle.machine.specs.Fresh.{fresh_of, blank}

module _ (z : Sizes) (fine : sizes_good z ≡ true) where
  fresh_ranged : Ranged (fresh_of z)
  unfolding fresh_of
  fresh_ranged =
      let b = bounds z fine in
      record {
        shape =
            record {
              links = length-replicate {A = ℕ} 16 0;
              threads = length-replicate 8 idle_thread;
              slots = length-replicate 32 empty_slot;
              tags = length-replicate {A = ℕ} 240 0;
            };
        sizes = fine;
        links = λ i less. rw (get_or-replicate {A = ℕ} 16 i 0 0 less) (zero_link z i);
        threads = λ i less. rw (get_or-replicate 8 i idle_thread idle_thread less) (idle_thread_lem z i);
        slots = λ i less. rw (get_or-replicate 32 i empty_slot empty_slot less) (empty_slot_lem z i);
        pool = (fresh_pool_lem z.objects b.objects).0;
        tags = λ i less. rw (get_or-replicate {A = ℕ} 240 i 0 0 less) (zero_tag z i);
      }

  fresh_placed : (k : ℕ) → k < z.objects → places_holding (fresh_of z) (suc k) ≡ 1
  unfolding fresh_of places_holding bit carried_by
  fresh_placed k less =
      let b = bounds z fine in
      let there : free_at (fresh_of z) (suc k) ≡ true = (fresh_pool_lem z.objects b.objects).1 (suc k) (omega arith) less in
      let links = none_in_zeros (λ (link : ℕ). link) 0 k 16 refl in
      let hands = none_in_zeros (λ (thread : Thread). thread.hand) idle_thread k 8 refl in
      let handovers = none_in_zeros (λ (slot : Slot). slot.handover) empty_slot k 32 refl in
      let carried = none_in_zeros (λ (thread : Thread). carried_by thread.phase) idle_thread k 8 refl in
      simp (there, links, hands, handovers, carried)

  pub fresh_good : Sound (fresh_of z)
  unfolding fresh_of
  fresh_good = record { ranged = fresh_ranged; placed = fresh_placed }

pub fresh_sound : (z : Sizes) → in_range z ≡ true → sound (fresh_of z) ≡ true
fresh_sound z h = from_sound (fresh_of z) (fresh_good z (in_range_good z h))

-- the blank state is the fresh one of sizes 0
abbrev zeros : Sizes
zeros = record { threads = 0; slots = 0; links = 0; objects = 0 }

pub blank_sound : sound blank ≡ true
unfolding blank fresh_of sizes_good in_range all_zero
blank_sound = from_sound blank (fresh_good zeros refl)

module _ (s : State) (h : Sound s) (out : in_range s.sizes ≡ false) where
  none : s.sizes ≡ zeros
  none = all_zero_lem s.sizes h.ranged.sizes out

  -- every entry is beyond the sizes
  beyond : (size : Sizes → ℕ) → size zeros ≡ 0 → (i : ℕ) → size s.sizes ≤ i
  beyond size zero' i = let e : size s.sizes ≡ size zeros = ap size none in omega arith

  pub only_blank : s ≡ blank
  unfolding blank
  only_blank =
      let r = h.ranged in
      let z = s.sizes in
      let links =
      all_same s.links 16 0 r.shape.links
      (λ i less. link_empty z i (link_at s i) (beyond (λ y. y.links) refl i) (r.links i less))
      in
      let threads =
      all_same s.threads 8 idle_thread r.shape.threads
      (λ i less. thread_empty_lem z i (thread_at s i) (beyond (λ y. y.threads) refl i) (r.threads i less))
      in
      let slots =
      all_same s.slots 32 empty_slot r.shape.slots
      (λ i less. slot_empty_lem z i (slot_at s i) (beyond positions refl i) (r.slots i less))
      in
      let pool = only_fresh s.pool (subst (λ (y : Sizes). pool_good y.objects s.pool ≡ true) none r.pool) in
      let tags =
      all_same s.tags 240 0 r.shape.tags
      (λ i less. tag_empty z i _ (beyond (λ y. y.objects) refl i) (r.tags i less))
      in
      λ j.
      record {
        sizes = none j;
        links = links j;
        threads = threads j;
        slots = slots j;
        pool = pool j;
        tags = tags j;
      }
