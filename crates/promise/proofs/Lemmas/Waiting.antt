-- How many are given up and not yet freed: an accepted retire adds one, a Freed answer takes one off, nothing else changes the number, and there
-- is room for T × (H + 1).
use Rattle.std.specs.Prelude.{ℕ, ◌+◌, ◌*◌, ◌<◌, ◌≤◌, ◌≡◌, true, false, length, eqb, ltb}
use native.Mathlib.Omega.{arith}
use Rattle.std.proofs.Math.Path.{refl, sym, ap}
use Rattle.std.proofs.Common.{◌∙◌, ne_eqb, ltb-true, ltb-false}
use Rattle.std.proofs.Math.ListN.{get_or-eq_default}
use Rattle.machine.specs.declared.State.{State}
use Rattle.machine.specs.declared.Call.{Call}
use Rattle.machine.specs.declared.Outcome.{Outcome}
use Rattle.entries.specs.declared.Slot.{Slot}
use Rattle.entries.specs.declared.Thread.{Thread}
use Rattle.entries.specs.declared.Phase.{Phase}
use Rattle.entries.specs.declared.Phase.TheVariants.{Idle, Loaded, Sweeping, Published, Draining, Look}
use Rattle.basics.specs.Tests.{by_test}
use Rattle.basics.specs.Counts.{bit, how_many_set, how_many_under}
use Rattle.entries.specs.Sizes.{positions}
use Rattle.entries.specs.Phases.{carried_by}
use Rattle.entries.specs.PhaseFacts.{idle_carries}
use Rattle.entries.specs.Entries.{thread, idle_thread, empty_slot, is_object, with_hazard, with_handover}
use Rattle.pool.specs.Pool.{taken_out, put_back}
use Rattle.entries.specs.Facts.{thread_empty_lem, slot_empty_lem}
use Rattle.machine.specs.Parts.{slot_at, thread_at, hand_of, phase_of, with_link, with_thread, with_slot, with_pool}
use Rattle.machine.specs.Sound.{Ranged, Sound, thread_long, slot_long, its_position}
use Rattle.machine.specs.Answers.{numbers_of}
use Rattle.machine.specs.Count.{five_places}
use Rattle.laws.specs.Ways.{own, named, Does, Way, refused, takes, begins, swaps, moves, reads, retires, clears, publishes, protects, finds_nothing, loads_again, finishes, sweeps, drains, meets, passes, frees, leaves, displaces}
use Rattle.promise.specs.History.{Event, is_retire, is_freed}
use Rattle.promise.specs.Holdings.{waiting}
use Rattle.promise.proofs.Lemmas.Refusing.{both_off, no_answer}

-- one that is carried, or stands in a handover
one : ℕ → ℕ
one x = bit (is_object x)

same_one : {x y : ℕ} → x ≡ y → one x ≡ one y
same_one e = rw e

no_one : {x : ℕ} → x ≡ 0 → one x ≡ 0
unfolding one bit
no_one e = rw e

some_one : {x : ℕ} → 0 < x → one x ≡ 1
unfolding one bit
some_one {x} some = rw (ne_eqb x 0 (λ e. omega arith))

module _ (s : State) where
  waiting_thread : (t hand : ℕ) (phase : Phase) → t < length s.threads
      → waiting (with_thread s t hand phase) + one (carried_by (phase_of s t)) ≡ waiting s + one (carried_by phase)
  unfolding five_places one
  waiting_thread t hand phase long =
      let law = how_many_set (λ (x : Thread). is_object (carried_by x.phase)) s.threads t (thread hand phase) idle_thread long in
      omega arith

  waiting_slot : (p : ℕ) (slot : Slot) → p < length s.slots
      → waiting (with_slot s p slot) + one (slot_at s p).handover ≡ waiting s + one slot.handover
  unfolding five_places one
  waiting_slot p slot long =
      let law = how_many_set (λ (x : Slot). is_object x.handover) s.slots p slot empty_slot long in
      omega arith

abbrev event : State → Call → Outcome → Event
event s c o = record { call = c; answer = o.answer }

-- the counts of an event that is neither
abbrev Still : State → Call → Outcome → Type 0
Still s c o = waiting o.state + bit (is_freed (event s c o)) ≡ waiting s + bit (is_retire (event s c o))

module _ (s : State) (c : Call) (h : Sound s) where
  abbrev t : ℕ
  t = c.thread

  -- the thread's store after one that changed no handover, and after one that did
  thread_waits : {n : ℕ} → Does s c n → (mid : State) → mid.threads ≡ s.threads → mid.slots ≡ s.slots → (hand : ℕ) (phase : Phase)
      → waiting (with_thread mid t hand phase) + one (carried_by (phase_of s t)) ≡ waiting s + one (carried_by phase)
  unfolding five_places one
  thread_waits d mid e e' hand phase =
      let law = how_many_set (λ (x : Thread). is_object (carried_by x.phase)) s.threads t (thread hand phase) idle_thread (thread_long s h.ranged t d.thread) in
      rw (e, e') (omega arith)

  slot_waits : {n : ℕ} → Does s c n → (p : ℕ) (slot : Slot) (phase : Phase) → p < positions s.sizes
      → waiting (with_thread (with_slot s p slot) t (hand_of s t) phase) + one (slot_at s p).handover + one (carried_by (phase_of s t))
      ≡ waiting s + one slot.handover + one (carried_by phase)
  slot_waits d p slot phase inside =
      let first = waiting_slot s p slot (slot_long s h.ranged p inside) in
      let second = waiting_thread (with_slot s p slot) t (hand_of s t) phase (thread_long s h.ranged t d.thread) in
      omega arith

  pub waiting_kept : {o : Outcome} → Way s c o → Still s c o
  unfolding is_retire is_freed numbers_of carried_by bit
  waiting_kept (refused first) =
      let not_freed = no_answer s c first 11 (omega arith) in
      let not_begun = no_answer s c first 2 (omega arith) in
      simp (not_freed, not_begun, both_off (eqb c.operation 5))
  waiting_kept (takes {o = o} d empty next free) =
      let law = thread_waits d (with_pool s (taken_out s.pool o) o c.tag) refl refl o (phase_of s t) in
      rw d.operation (omega arith)
  waiting_kept (begins {o = o} d idle slot link read) =
      let law = thread_waits d s refl refl (hand_of s t) (Loaded c.slot c.link o) in
      let none = no_one (idle_carries (phase_of s t) idle) in
      rw d.operation (omega (arith, no_one {x = 0} refl))
  waiting_kept (swaps {o = o} d link protected read same) =
      let law = thread_waits d (with_link s c.link (hand_of s t)) refl refl o (phase_of s t) in
      rw d.operation (omega arith)
  waiting_kept (moves d link protected other) = rw d.operation
  waiting_kept (reads d inside marked) = rw d.operation
  waiting_kept (retires {o = o} d idle full some) =
      let law = thread_waits d s refl refl 0 (Look o 0) in
      let none = no_one (idle_carries (phase_of s t) idle) in
      let this = some_one some in
      rw d.operation (omega arith)
  waiting_kept (clears d idle slot) =
      let p = named s c in
      let law = slot_waits d p (with_hazard (slot_at s p) 0 false) (Draining c.slot) (its_position s h.ranged t c.slot d.thread slot) in
      let none = no_one (idle_carries (phase_of s t) idle) in
      rw d.operation (omega (arith, no_one {x = 0} refl))
  waiting_kept (publishes {slot = slot} {link = link} {o = o} d was inside inside' most) =
      let p = own s c slot in
      let law = slot_waits d p (with_hazard (slot_at s p) o false) (Sweeping slot link) (its_position s h.ranged t slot d.thread inside) in
      let none = no_one (ap carried_by was) in
      rw d.operation (omega (arith, no_one {x = 0} refl))
  waiting_kept (protects {slot = slot} d was inside inside' read same some) =
      let p = own s c slot in
      let law = slot_waits d p (with_hazard (slot_at s p) (slot_at s p).hazard true) Idle (its_position s h.ranged t slot d.thread inside) in
      let none = no_one (ap carried_by was) in
      rw d.operation (omega (arith, no_one {x = 0} refl))
  waiting_kept (finds_nothing d was inside inside' read nothing) =
      let law = thread_waits d s refl refl (hand_of s t) Idle in
      let none = no_one (ap carried_by was) in
      rw d.operation (omega (arith, no_one {x = 0} refl))
  waiting_kept (loads_again {slot = slot} {link = link} {o = o} d was inside inside' read other) =
      let law = thread_waits d s refl refl (hand_of s t) (Loaded slot link o) in
      let none = no_one (ap carried_by was) in
      rw d.operation (omega (arith, no_one {x = 0} refl))
  waiting_kept (finishes p d was inside empty) =
      let law = slot_waits d p (with_handover (slot_at s p) 0) Idle inside in
      let none = no_one was.carries in
      let none' = no_one empty in
      rw d.operation (omega (arith, no_one {x = 0} refl))
  waiting_kept (sweeps p {slot} {link} d was inside empty inside' inside'') =
      let law = slot_waits d p (with_handover (slot_at s p) 0) (Published slot link) inside in
      let none = no_one was.carries in
      let none' = no_one empty in
      rw d.operation (omega (arith, no_one {x = 0} refl))
  waiting_kept (drains p next d was inside full scans) =
      let law = slot_waits d p (with_handover (slot_at s p) 0) next inside in
      let none = no_one was.carries in
      let this = same_one (scans.carries ∙ sym full) in
      rw d.operation (omega (arith, no_one {x = 0} refl))
  waiting_kept (meets next d was inside match scans) =
      let law = thread_waits d s refl refl (hand_of s t) next in
      let this = same_one (scans.carries ∙ sym was.carries) in
      rw d.operation (omega arith)
  waiting_kept (passes next d was inside other scans) =
      let law = thread_waits d s refl refl (hand_of s t) next in
      let this = same_one (scans.carries ∙ sym was.carries) in
      rw d.operation (omega arith)
  waiting_kept (frees {o = o} next d was past ended fine) =
      let law = thread_waits d (with_pool s (put_back s.pool o) o 0) refl refl (hand_of s t) next in
      let this = same_one was.carries in
      let one_more = some_one was.some in
      let none = no_one ended in
      rw d.operation (omega arith)
  waiting_kept (leaves {o = o} {q = q} next d was inside empty ended fine) =
      let law = slot_waits d q (with_handover (slot_at s q) o) next inside in
      let this = same_one was.carries in
      let none = no_one empty in
      let none' = no_one ended in
      rw d.operation (omega arith)
  waiting_kept (displaces {o = o} {q = q} next d was inside full scans) =
      let law = slot_waits d q (with_handover (slot_at s q) o) next inside in
      let this = same_one was.carries in
      let that = same_one (scans.carries ∙ sym full) in
      rw d.operation (omega arith)

module _ (s : State) (r : Ranged s) where
  pub handovers_end : (i : ℕ) → positions s.sizes ≤ i → is_object (slot_at s i).handover ≡ false
  handovers_end i low =
      by_test (is_object (slot_at s i).handover ≡ false) (ltb i 32)
      (λ inside. ap (λ (x : Slot). is_object x.handover) (slot_empty_lem s.sizes i (slot_at s i) low (r.slots i (ltb-true i 32 inside))))
      (λ past.
      ap (λ (x : Slot). is_object x.handover) (get_or-eq_default s.slots empty_slot (rw r.shape.slots (ltb-false i 32 past))))

  pub carried_end : (i : ℕ) → s.sizes.threads ≤ i → is_object (carried_by (phase_of s i)) ≡ false
  unfolding carried_by
  carried_end i low =
      by_test (is_object (carried_by (phase_of s i)) ≡ false) (ltb i 8)
      (λ inside.
      ap (λ (x : Thread). is_object (carried_by x.phase)) (thread_empty_lem s.sizes i (thread_at s i) low (r.threads i (ltb-true i 8 inside))))
      (λ past.
      ap (λ (x : Thread). is_object (carried_by x.phase))
      (get_or-eq_default s.threads idle_thread (rw r.shape.threads (ltb-false i 8 past))))

  -- "at most T × (H + 1)"
  pub waiting_most : waiting s ≤ s.sizes.threads * (s.sizes.slots + 1)
  unfolding five_places
  waiting_most =
      let a = how_many_under (λ (x : Slot). is_object x.handover) s.slots (positions s.sizes) empty_slot handovers_end in
      let b = how_many_under (λ (x : Thread). is_object (carried_by x.phase)) s.threads s.sizes.threads idle_thread carried_end in
      omega arith
