-- A good entry as facts about its numbers, and back: within the sizes, beyond them, and wherever it stands.
use Rattle.std.specs.Prelude.{ℕ, suc, ◌+◌, ◌*◌, ◌<◌, ◌≤◌, ◌≡◌, refl, Bool, true, not, ◌||◌, eqb, ltb}
use Rattle.std.proofs.Common.{arith, mul-le-mul, mul-le-mul_right, ⊎_elim}
use Rattle.std.proofs.Math.Bool.{false}
use Rattle.std.proofs.lemmas.Bool.{false≢true}
use Rattle.std.proofs.Math.Dec.{leb-zero}
use borrow.Author.Tests.{lt-ltb, le-ltb, le-leb, leb-true, eq-eqb, eqb-true, ne_eqb, not-true}
use Rattle.entries.specs.declared.Sizes.{Sizes}
use Rattle.entries.specs.declared.Slot.{Slot}
use Rattle.entries.specs.declared.Thread.{Thread}
use Rattle.entries.specs.declared.Phase.{Phase}
use Rattle.basics.specs.Tests.{and_i, ands, by_test, either, or_cases}
use Rattle.entries.specs.Sizes.{in_range, all_zero, positions}
use Rattle.entries.specs.Phases.{is_idle, carried_by, phase_in_range}
use Rattle.entries.specs.PhaseFacts.{idle_is, idle_carries, carried_most}
use Rattle.entries.specs.Entries.{thread, idle_thread, empty_slot, sizes_good, link_good, thread_in_range, thread_empty, thread_good, slot_in_range, slot_empty, slot_good, tag_good}

-- sizes in range or all 0, and how many positions they make
pub record Bounds (z : Sizes) : Type 0 where
  pub threads : z.threads ≤ 8
  pub slots : z.slots ≤ 4
  pub links : z.links ≤ 16
  pub objects : z.objects ≤ 240
  pub positions : z.threads * z.slots ≤ 32

bounded : (z : Sizes) → z.threads ≤ 8 → z.slots ≤ 4 → z.links ≤ 16 → z.objects ≤ 240 → Bounds z
bounded z t h l n = record { threads = t; slots = h; links = l; objects = n; positions = mul-le-mul t h }

pub bounds : (z : Sizes) → sizes_good z ≡ true → Bounds z
unfolding sizes_good in_range all_zero
bounds z h =
    ⊎_elim
    (λ (fits : in_range z ≡ true).
    bounded z (leb-true _ _ (search ands)) (leb-true _ _ (search ands)) (leb-true _ _ (search ands)) (leb-true _ _ (search ands)))
    (λ (zeros : all_zero z ≡ true).
    let t = eqb-true z.threads 0 (search ands) in
    let s = eqb-true z.slots 0 (search ands) in
    let l = eqb-true z.links 0 (search ands) in
    let n = eqb-true z.objects 0 (search ands) in
    bounded z (omega arith) (omega arith) (omega arith) (omega arith))
    (either (in_range z) (all_zero z) h)

pub in_range_good : (z : Sizes) → in_range z ≡ true → sizes_good z ≡ true
unfolding sizes_good
in_range_good z h = rw h

-- good sizes that are not in range are all 0
pub all_zero_lem : (z : Sizes) → sizes_good z ≡ true → in_range z ≡ false → z ≡ record { threads = 0; slots = 0; links = 0; objects = 0 }
unfolding sizes_good all_zero
all_zero_lem z good out =
    let zeros = or_cases (in_range z) (all_zero z) good out in
    let t : z.threads ≡ 0 = eqb-true _ _ (search ands) in
    let h : z.slots ≡ 0 = eqb-true _ _ (search ands) in
    let l : z.links ≡ 0 = eqb-true _ _ (search ands) in
    let n : z.objects ≡ 0 = eqb-true _ _ (search ands) in
    λ i. record { threads = t i; slots = h i; links = l i; objects = n i }

-- thread × H + slot is a position
pub position_less : (threads slots t slot : ℕ) → t < threads → slot < slots → t * slots + slot < threads * slots
position_less threads slots t slot less less' =
    let row : suc t * slots ≤ threads * slots = mul-le-mul_right slots less in
    omega arith

-- a mark stands only on an object
mark_good_lem : (mark : Bool) (hazard : ℕ) → (mark ≡ true → hazard ≡ 0 → ⊥) → (not mark || not (eqb hazard 0)) ≡ true
mark_good_lem true hazard h = rw (ne_eqb hazard 0 (h refl))
mark_good_lem false hazard h = refl

mark_held : (mark : Bool) (hazard : ℕ) → (not mark || not (eqb hazard 0)) ≡ true → mark ≡ true → hazard ≡ 0 → ⊥
mark_held true hazard h m e = false≢true (rw (eq-eqb hazard 0 e) at h)
mark_held false hazard h m e = false≢true m

pub record SlotFacts (n : ℕ) (slot : Slot) : Type 0 where
  pub hazard : slot.hazard ≤ n
  pub handover : slot.handover ≤ n
  pub marked : slot.mark ≡ true → slot.hazard ≡ 0 → ⊥

-- within the sizes
module _ (z : Sizes) (i : ℕ) where
  pub thread_within : (x : Thread) → i < z.threads → thread_good z i x ≡ thread_in_range z x
  unfolding thread_good
  thread_within x less = rw (lt-ltb i z.threads less)

  pub slot_within : (slot : Slot) → i < positions z → slot_good z i slot ≡ slot_in_range z.objects slot
  unfolding slot_good
  slot_within slot less = rw (lt-ltb i (positions z) less)

  pub link_good_lem : (object : ℕ) → i < z.links → object ≤ z.objects → link_good z i object ≡ true
  unfolding link_good
  link_good_lem object less most = rw (lt-ltb i z.links less) (le-leb _ _ most)

  pub thread_good_lem : (hand : ℕ) (phase : Phase) → i < z.threads → hand ≤ z.objects → phase_in_range z phase ≡ true
      → thread_good z i (thread hand phase) ≡ true
  unfolding thread_good thread_in_range
  thread_good_lem hand phase less most fine = rw (lt-ltb i z.threads less) (and_i (le-leb _ _ most) fine)

  pub phase_good : (x : Thread) → i < z.threads → thread_good z i x ≡ true → phase_in_range z x.phase ≡ true
  unfolding thread_good thread_in_range
  phase_good x less fine =
      let both = rw (lt-ltb i z.threads less) at fine in
      search ands

  pub slot_good_lem : (slot : Slot) → i < positions z → SlotFacts z.objects slot → slot_good z i slot ≡ true
  unfolding slot_good slot_in_range
  slot_good_lem slot less facts =
      rw (lt-ltb i (positions z) less)
      (and_i (and_i (le-leb _ _ facts.hazard) (le-leb _ _ facts.handover)) (mark_good_lem slot.mark slot.hazard facts.marked))

  pub slot_facts : (slot : Slot) → i < positions z → slot_good z i slot ≡ true → SlotFacts z.objects slot
  unfolding slot_good slot_in_range
  slot_facts slot less fine =
      let all = rw (lt-ltb i (positions z) less) at fine in
      record {
        hazard = leb-true _ _ (search ands);
        handover = leb-true _ _ (search ands);
        marked = mark_held slot.mark slot.hazard (search ands);
      }

  pub tag_good_lem : (tag : ℕ) → i < z.objects → tag_good z i tag ≡ true
  unfolding tag_good
  tag_good_lem tag less = rw (lt-ltb i z.objects less)

-- beyond them: "entries beyond the sizes are 0, idle or unmarked"
module _ (z : Sizes) (i : ℕ) where
  pub thread_beyond : (x : Thread) → z.threads ≤ i → thread_good z i x ≡ thread_empty x
  unfolding thread_good
  thread_beyond x past = rw (le-ltb i z.threads past)

  pub slot_beyond : (slot : Slot) → positions z ≤ i → slot_good z i slot ≡ slot_empty slot
  unfolding slot_good
  slot_beyond slot past = rw (le-ltb i (positions z) past)

  pub link_empty : (object : ℕ) → z.links ≤ i → link_good z i object ≡ true → object ≡ 0
  unfolding link_good
  link_empty object past fine = eqb-true _ _ (rw (le-ltb i z.links past) at fine)

  pub thread_empty_lem : (x : Thread) → z.threads ≤ i → thread_good z i x ≡ true → x ≡ idle_thread
  unfolding thread_good thread_empty
  thread_empty_lem x past fine =
      let all = rw (le-ltb i z.threads past) at fine in
      let hand : x.hand ≡ 0 = eqb-true _ _ (search ands) in
      let phase = idle_is x.phase (search ands) in
      λ j. record { hand = hand j; phase = phase j }

  pub slot_empty_lem : (slot : Slot) → positions z ≤ i → slot_good z i slot ≡ true → slot ≡ empty_slot
  unfolding slot_good slot_empty
  slot_empty_lem slot past fine =
      let all = rw (le-ltb i (positions z) past) at fine in
      let hazard : slot.hazard ≡ 0 = eqb-true _ _ (search ands) in
      let mark : slot.mark ≡ false = not-true _ (search ands) in
      let handover : slot.handover ≡ 0 = eqb-true _ _ (search ands) in
      λ j. record { hazard = hazard j; mark = mark j; handover = handover j }

  pub tag_empty : (tag : ℕ) → z.objects ≤ i → tag_good z i tag ≡ true → tag ≡ 0
  unfolding tag_good
  tag_empty tag past fine = eqb-true _ _ (rw (le-ltb i z.objects past) at fine)

-- wherever it stands, a good entry holds no object above N
module _ (z : Sizes) (i : ℕ) where
  pub link_most : (object : ℕ) → link_good z i object ≡ true → object ≤ z.objects
  unfolding link_good
  link_most object fine =
      by_test (object ≤ z.objects) (ltb i z.links)
      (λ inside. leb-true _ _ (rw inside at fine))
      (λ past. let none = eqb-true object 0 (rw past at fine) in omega arith)

  pub hand_most : (x : Thread) → thread_good z i x ≡ true → x.hand ≤ z.objects
  unfolding thread_good thread_in_range thread_empty
  hand_most x fine =
      by_test (x.hand ≤ z.objects) (ltb i z.threads)
      (λ inside. let both = rw inside at fine in leb-true _ _ (search ands))
      (λ past. let both = rw past at fine in let none = eqb-true x.hand 0 (search ands) in omega arith)

  pub carries_most : (x : Thread) → thread_good z i x ≡ true → carried_by x.phase ≤ z.objects
  unfolding thread_good thread_in_range thread_empty
  carries_most x fine =
      by_test (carried_by x.phase ≤ z.objects) (ltb i z.threads)
      (λ inside. let both = rw inside at fine in carried_most z x.phase (search ands))
      (λ past. let both = rw past at fine in let none = idle_carries x.phase (search ands) in omega arith)

  pub handover_most : (slot : Slot) → slot_good z i slot ≡ true → slot.handover ≤ z.objects
  unfolding slot_good slot_in_range slot_empty
  handover_most slot fine =
      by_test (slot.handover ≤ z.objects) (ltb i (positions z))
      (λ inside. let all = rw inside at fine in leb-true _ _ (search ands))
      (λ past. let all = rw past at fine in let none = eqb-true slot.handover 0 (search ands) in omega arith)

-- entries that are 0, idle or unmarked are good within the sizes and beyond them
module _ (z : Sizes) (i : ℕ) where
  pub zero_link : link_good z i 0 ≡ true
  unfolding link_good
  zero_link =
      by_test (link_good z i 0 ≡ true) (ltb i z.links) (λ inside. rw (inside, leb-zero z.objects)) (λ past. rw past)

  pub idle_thread_lem : thread_good z i idle_thread ≡ true
  unfolding thread_good thread_in_range thread_empty phase_in_range is_idle
  idle_thread_lem =
      by_test (thread_good z i idle_thread ≡ true) (ltb i z.threads)
      (λ inside. rw (inside, leb-zero z.objects))
      (λ past. rw past)

  pub empty_slot_lem : slot_good z i empty_slot ≡ true
  unfolding slot_good slot_in_range slot_empty
  empty_slot_lem =
      by_test (slot_good z i empty_slot ≡ true) (ltb i (positions z))
      (λ inside. rw (inside, leb-zero z.objects))
      (λ past. rw past)

  pub zero_tag : tag_good z i 0 ≡ true
  unfolding tag_good
  zero_tag = by_test (tag_good z i 0 ≡ true) (ltb i z.objects) (λ inside. rw inside) (λ past. rw past)
