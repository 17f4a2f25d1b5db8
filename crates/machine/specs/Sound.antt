-- Soundness as facts, for the proofs of the code and for all that stands above. `Ranged` is all of it but the one place of each object, so that
-- a store keeps it by itself.
use Rattle.std.specs.Prelude.{ℕ, suc, ◌-◌, ◌<◌, ◌≤◌, ◌≡◌, true, length, get_or, eqb}
use Rattle.std.proofs.Common.{arith, eqb-true, eq-eqb}
use Rattle.machine.specs.declared.State.{State}
use Rattle.basics.specs.Tests.{ands, and_i}
use Rattle.basics.specs.Under.{under_at, under_all}
use Rattle.basics.specs.Lists.{Each}
use Rattle.entries.specs.Sizes.{positions}
use Rattle.entries.specs.Phases.{phase_in_range}
use Rattle.entries.specs.Entries.{idle_thread, empty_slot, sizes_good, link_good, thread_good, slot_good, tag_good}
use Rattle.entries.specs.Facts.{Bounds, bounds, position_less, link_most, hand_most, phase_good, SlotFacts, slot_facts}
use Rattle.pool.specs.Pool.{pool_good}
use Rattle.machine.specs.Parts.{link_at, thread_at, hand_of, phase_of, slot_at, position_of}
use Rattle.machine.specs.Soundness.{shaped, places_holding, sound}

-- how many entries each array has
pub record Shape (s : State) : Type 0 where
  pub links : length s.links ≡ 16
  pub threads : length s.threads ≡ 8
  pub slots : length s.slots ≡ 32
  pub tags : length s.tags ≡ 240

pub record Ranged (s : State) : Type 0 where
  pub shape : Shape s
  pub sizes : sizes_good s.sizes ≡ true
  pub links : Each 16 (link_good s.sizes) 0 s.links
  pub threads : Each 8 (thread_good s.sizes) idle_thread s.threads
  pub slots : Each 32 (slot_good s.sizes) empty_slot s.slots
  pub pool : pool_good s.sizes.objects s.pool ≡ true
  pub tags : Each 240 (tag_good s.sizes) 0 s.tags

-- every object 1 to N is in exactly one place
abbrev pub Placed : State → Type 0
Placed s = (k : ℕ) → k < s.sizes.objects → places_holding s (suc k) ≡ 1

pub record Sound (s : State) : Type 0 where
  pub ranged : Ranged s
  pub placed : Placed s

pub to_shape : (s : State) → shaped s ≡ true → Shape s
unfolding shaped
to_shape s h =
    record {
      links = eqb-true _ _ (search ands);
      threads = eqb-true _ _ (search ands);
      slots = eqb-true _ _ (search ands);
      tags = eqb-true _ _ (search ands);
    }

pub from_shape : (s : State) → Shape s → shaped s ≡ true
unfolding shaped
from_shape s h =
    and_i (and_i (and_i (eq-eqb _ _ h.links) (eq-eqb _ _ h.threads)) (eq-eqb _ _ h.slots)) (eq-eqb _ _ h.tags)

pub to_sound : (s : State) → sound s ≡ true → Sound s
unfolding sound
to_sound s h =
    record {
      ranged =
          record {
            shape = to_shape s (search ands depth 8);
            sizes = search ands depth 8;
            links = under_at 16 (λ i. link_good s.sizes i (link_at s i)) (search ands depth 8);
            threads = under_at 8 (λ t. thread_good s.sizes t (thread_at s t)) (search ands depth 8);
            slots = under_at 32 (λ p. slot_good s.sizes p (slot_at s p)) (search ands depth 8);
            pool = search ands depth 8;
            tags = under_at 240 (λ k. tag_good s.sizes k (get_or s.tags k 0)) (search ands depth 8);
          };
      placed =
          λ k less.
          eqb-true (places_holding s (suc k)) 1
          (under_at s.sizes.objects (λ k. eqb (places_holding s (suc k)) 1) (search ands depth 8) k less);
    }

pub from_sound : (s : State) → Sound s → sound s ≡ true
unfolding sound
from_sound s h =
    let r = h.ranged in
    and_i
    (and_i
    (and_i
    (and_i
    (and_i
    (and_i (and_i (from_shape s r.shape) r.sizes) (under_all 16 _ r.links))
    (under_all 8 _ r.threads))
    (under_all 32 _ r.slots))
    (under_all 240 _ r.tags))
    r.pool)
    (under_all s.sizes.objects _ (λ k less. eq-eqb _ _ (h.placed k less)))

-- what a state in range says of its numbers
module _ (s : State) (r : Ranged s) where
  pub limits : Bounds s.sizes
  limits = bounds s.sizes r.sizes

  pub thread_eight : (t : ℕ) → t < s.sizes.threads → t < 8
  thread_eight t under = let b = limits in omega arith

  pub link_sixteen : (i : ℕ) → i < s.sizes.links → i < 16
  link_sixteen i under = let b = limits in omega arith

  pub position_32 : (p : ℕ) → p < positions s.sizes → p < 32
  position_32 p under = let b = limits in omega arith

  -- and so there is an entry to store at

  pub thread_long : (t : ℕ) → t < s.sizes.threads → t < length s.threads
  thread_long t under = rw r.shape.threads (thread_eight t under)

  pub link_long : (i : ℕ) → i < s.sizes.links → i < length s.links
  link_long i under = rw r.shape.links (link_sixteen i under)

  pub slot_long : (p : ℕ) → p < positions s.sizes → p < length s.slots
  slot_long p under = rw r.shape.slots (position_32 p under)

  pub tag_long : (o : ℕ) → 0 < o → o ≤ s.sizes.objects → o - 1 < length s.tags
  tag_long o some most = let b = limits in rw r.shape.tags (omega arith)

  pub link_holds : (i : ℕ) → i < s.sizes.links → link_at s i ≤ s.sizes.objects
  link_holds i under = link_most s.sizes i (link_at s i) (r.links i (link_sixteen i under))

  pub its_hand : (t : ℕ) → t < s.sizes.threads → hand_of s t ≤ s.sizes.objects
  its_hand t under = hand_most s.sizes t (thread_at s t) (r.threads t (thread_eight t under))

  pub its_phase : (t : ℕ) → t < s.sizes.threads → phase_in_range s.sizes (phase_of s t) ≡ true
  its_phase t under = phase_good s.sizes t (thread_at s t) under (r.threads t (thread_eight t under))

  pub its_slot : (p : ℕ) → p < positions s.sizes → SlotFacts s.sizes.objects (slot_at s p)
  its_slot p under = slot_facts s.sizes p (slot_at s p) under (r.slots p (position_32 p under))

  -- a slot of a thread has a position
  pub its_position : (t slot : ℕ) → t < s.sizes.threads → slot < s.sizes.slots → position_of s t slot < positions s.sizes
  its_position t slot under inside = position_less s.sizes.threads s.sizes.slots t slot under inside

  pub position_fits : (t slot : ℕ) → t < s.sizes.threads → slot < s.sizes.slots → position_of s t slot < 32
  position_fits t slot under inside = position_32 (position_of s t slot) (its_position t slot under inside)

  -- a protected slot holds an object
  pub marked_object : (p : ℕ) → p < positions s.sizes → (slot_at s p).mark ≡ true
      → (0 < (slot_at s p).hazard) × ((slot_at s p).hazard ≤ s.sizes.objects)
  marked_object p under marked =
      let facts = its_slot p under in
      let some = facts.marked marked in
      (omega arith, facts.hazard)
