-- Whichever way a call goes, it leaves a sound state sound: each object that leaves a place comes to another.
use Rattle.std.specs.Prelude.{ℕ, suc, ◌+◌, ◌<◌, ◌≤◌, ◌≡◌, refl, Bool, eqb}
use Rattle.std.proofs.Common.{arith, ap, ◌∙◌}
use Rattle.std.proofs.Math.Path.{sym}
use Rattle.std.proofs.Math.Bool.{true, false, false≢true}
use Rattle.machine.specs.declared.State.{State}
use Rattle.machine.specs.declared.Call.{Call}
use Rattle.machine.specs.declared.Outcome.{Outcome}
use Rattle.entries.specs.declared.Phase.{Phase}
use Rattle.basics.specs.Counts.{bit, bit_zero}
use Rattle.entries.specs.Sizes.{positions}
use Rattle.entries.specs.Phases.{carried_by, phase_in_range, looking}
use Rattle.entries.specs.PhaseFacts.{to_idle, idle_carries, idle_good, loaded_good, sweeping_good, published_good, draining_good, look_scans}
use Rattle.entries.specs.Entries.{with_hazard, with_handover}
use Rattle.entries.specs.Facts.{SlotFacts}
use Rattle.pool.specs.Promise.{free_is_object, taken_out_lem, put_back_lem}
use Rattle.machine.specs.Parts.{hand_of, phase_of, slot_at, with_thread, with_slot}
use Rattle.machine.specs.Soundness.{places_holding}
use Rattle.machine.specs.Sound.{Ranged, Sound, limits, thread_long, link_long, slot_long, link_holds, its_hand, its_phase, its_slot, its_position}
use Rattle.laws.specs.OnePlace.{carried_not_free}
use Rattle.laws.specs.Stores.{link_ranged, thread_ranged, slot_ranged, pool_ranged, link_places, thread_places, slot_places, taken_places, freed_places}
use Rattle.laws.specs.Ways.{Does, Way, refused, takes, begins, swaps, moves, reads, retires, clears, publishes, protects, finds_nothing, loads_again, finishes, sweeps, drains, meets, passes, frees, leaves, displaces}

-- which object a number is, as a count
is : ℕ → ℕ → ℕ
is x k = bit (eqb x (suc k))

alike : {x y : ℕ} → x ≡ y → (k : ℕ) → is x k ≡ is y k
alike e k = rw e

none : {x : ℕ} → x ≡ 0 → (k : ℕ) → is x k ≡ 0
unfolding is
none e k = rw e (bit_zero k)

-- The last store of every accepted call is that of its thread. What the thread had is made up for by what it has now and by what the store
-- before it, which led to `mid`, put elsewhere.
settled : (mid : State) → Ranged mid → (t hand : ℕ) (phase : Phase) → t < mid.sizes.threads → hand ≤ mid.sizes.objects
    → phase_in_range mid.sizes phase ≡ true
    → ((k : ℕ) → k < mid.sizes.objects
    → places_holding mid (suc k) + is hand k + is (carried_by phase) k ≡ 1 + is (hand_of mid t) k + is (carried_by (phase_of mid t)) k)
    → Sound (with_thread mid t hand phase)
unfolding is
settled mid r t hand phase under most fine even =
    record {
      ranged = thread_ranged mid r t hand phase under most fine;
      placed =
          λ k object.
          let balance = even k object in
          let law = thread_places mid (suc k) t hand phase (thread_long mid r t under) in
          omega arith;
    }

module _ (s : State) (c : Call) where
  -- the thread alone: it carries what it did
  thread_kept : {n : ℕ} → Does s c n → (phase : Phase) → phase_in_range s.sizes phase ≡ true
      → carried_by phase ≡ carried_by (phase_of s c.thread) → Sound (with_thread s c.thread (hand_of s c.thread) phase)
  thread_kept d phase fine same =
      settled s d.sound.ranged c.thread (hand_of s c.thread) phase d.thread (its_hand s d.sound.ranged c.thread d.thread) fine
      (λ k object. let one = d.sound.placed k object in let e = alike same k in omega arith)

  -- a slot's hazard and mark, which are no place
  hazard_kept : {n : ℕ} → Does s c n → (p hazard : ℕ) (mark : Bool) (phase : Phase) → p < positions s.sizes → hazard ≤ s.sizes.objects
      → (mark ≡ true → hazard ≡ 0 → ⊥) → phase_in_range s.sizes phase ≡ true → carried_by phase ≡ carried_by (phase_of s c.thread)
      → Sound (with_thread (with_slot s p (with_hazard (slot_at s p) hazard mark)) c.thread (hand_of s c.thread) phase)
  unfolding is
  hazard_kept d p hazard mark phase inside most held fine same =
      let r = d.sound.ranged in
      let facts : SlotFacts s.sizes.objects (with_hazard (slot_at s p) hazard mark) =
      record { hazard = most; handover = (its_slot s r p inside).handover; marked = held }
      in
      settled (with_slot s p (with_hazard (slot_at s p) hazard mark)) (slot_ranged s r p (with_hazard (slot_at s p) hazard mark) inside facts)
      c.thread (hand_of s c.thread) phase d.thread (its_hand s r c.thread d.thread) fine
      (λ k object.
      let one = d.sound.placed k object in
      let law = slot_places s (suc k) p (with_hazard (slot_at s p) hazard mark) (slot_long s r p inside) in
      let e = alike same k in
      omega arith)

  -- a slot's handover: what goes in was carried, and what comes out is carried on
  handover_kept : {n : ℕ} → Does s c n → (p into : ℕ) (phase : Phase) → p < positions s.sizes → into ≤ s.sizes.objects
      → carried_by (phase_of s c.thread) ≡ into → carried_by phase ≡ (slot_at s p).handover → phase_in_range s.sizes phase ≡ true
      → Sound (with_thread (with_slot s p (with_handover (slot_at s p) into)) c.thread (hand_of s c.thread) phase)
  unfolding is
  handover_kept d p into phase inside most before after fine =
      let r = d.sound.ranged in
      let old = its_slot s r p inside in
      let facts : SlotFacts s.sizes.objects (with_handover (slot_at s p) into) =
      record { hazard = old.hazard; handover = most; marked = old.marked }
      in
      settled (with_slot s p (with_handover (slot_at s p) into)) (slot_ranged s r p (with_handover (slot_at s p) into) inside facts)
      c.thread (hand_of s c.thread) phase d.thread (its_hand s r c.thread d.thread) fine
      (λ k object.
      let one = d.sound.placed k object in
      let law = slot_places s (suc k) p (with_handover (slot_at s p) into) (slot_long s r p inside) in
      let e = alike before k in
      let e' = alike after k in
      omega arith)

  pub kept : {o : Outcome} → Way s c o → Sound s → Sound o.state
  unfolding is carried_by looking
  kept (refused first) h = h
  kept (takes {o = o} d empty next free) h =
      let r = h.ranged in
      let n = s.sizes.objects in
      let object = free_is_object n s.pool r.pool o free in
      let out = taken_out_lem n s.pool (limits s r).objects r.pool o free in
      settled _ (pool_ranged s r _ o c.tag out.good object.0 object.1) c.thread o (phase_of s c.thread) d.thread object.1
      (its_phase s r c.thread d.thread)
      (λ k under.
      let one = h.placed k under in
      let law = taken_places s _ o c.tag (suc k) out.others free out.this in
      let e = none empty k in
      omega arith)
  kept (begins d idle slot link read) h =
      thread_kept d _
      (loaded_good s.sizes c.slot c.link _ slot link (rw (sym read) (link_holds s h.ranged c.link link)))
      (sym (idle_carries _ idle))
  kept (swaps {o = o} d link protected read same) h =
      let r = h.ranged in
      let most : o ≤ s.sizes.objects = rw (sym read) (link_holds s r c.link link) in
      settled _ (link_ranged s r c.link _ link (its_hand s r c.thread d.thread)) c.thread o (phase_of s c.thread) d.thread most
      (its_phase s r c.thread d.thread)
      (λ k under.
      let one = h.placed k under in
      let law = link_places s (suc k) c.link (hand_of s c.thread) (link_long s r c.link link) in
      let e = alike read k in
      omega arith)
  kept (moves d link protected other) h = h
  kept (reads d inside marked) h = h
  kept (retires {o = o} d idle full some) h =
      let r = h.ranged in
      let most : o ≤ s.sizes.objects = rw (sym full) (its_hand s r c.thread d.thread) in
      let scan = look_scans s.sizes to_idle o 0 (idle_good s.sizes) some most (omega arith) in
      settled s r c.thread 0 _ d.thread (omega arith) scan.good
      (λ k under.
      let one = h.placed k under in
      let e = none (idle_carries _ idle) k in
      let e' = alike full k in
      let z = bit_zero k in
      omega arith)
  kept (clears d idle slot) h =
      hazard_kept d _ 0 false _ (its_position s h.ranged c.thread c.slot d.thread slot) (omega arith) (λ m e. false≢true m)
      (draining_good s.sizes c.slot slot)
      (sym (idle_carries _ idle))
  kept (publishes {slot = slot} {link = link} {o = o} d was inside inside' most) h =
      hazard_kept d _ o false _ (its_position s h.ranged c.thread slot d.thread inside) most (λ m e. false≢true m)
      (sweeping_good s.sizes slot link inside inside')
      (sym (ap carried_by was))
  kept (protects {slot = slot} {link = link} {o = o} d was inside inside' read same some) h =
      let at = its_position s h.ranged c.thread slot d.thread inside in
      hazard_kept d _ _ true _ at (its_slot s h.ranged _ at).hazard (λ m e. omega arith) (idle_good s.sizes) (sym (ap carried_by was))
  kept (finds_nothing d was inside inside' read none') h = thread_kept d _ (idle_good s.sizes) (sym (ap carried_by was))
  kept (loads_again {slot = slot} {link = link} d was inside inside' read other) h =
      thread_kept d _
      (loaded_good s.sizes slot link _ inside inside' (rw (sym read) (link_holds s h.ranged link inside')))
      (sym (ap carried_by was))
  kept (finishes p d was inside empty) h = handover_kept d p 0 _ inside (omega arith) was.carries (sym empty) (idle_good s.sizes)
  kept (sweeps p {slot} {link} d was inside empty inside' inside'') h =
      handover_kept d p 0 _ inside (omega arith) was.carries (sym empty) (published_good s.sizes slot link inside' inside'')
  kept (drains p next d was inside full scans) h =
      handover_kept d p 0 next inside (omega arith) was.carries (scans.carries ∙ sym full) scans.good
  kept (meets next d was inside match scans) h = thread_kept d next scans.good (scans.carries ∙ sym was.carries)
  kept (passes next d was inside other scans) h = thread_kept d next scans.good (scans.carries ∙ sym was.carries)
  kept (frees {o = o} next d was past ended fine) h =
      let r = h.ranged in
      let n = s.sizes.objects in
      let taken = carried_not_free s h o was.some was.most c.thread d.thread was.carries in
      let back = put_back_lem n s.pool (limits s r).objects r.pool o was.some was.most taken in
      settled _ (pool_ranged s r _ o 0 back.good was.some was.most) c.thread (hand_of s c.thread) next d.thread
      (its_hand s r c.thread d.thread)
      fine
      (λ k under.
      let one = h.placed k under in
      let law = freed_places s _ o 0 (suc k) back.others taken back.this in
      let e = none ended k in
      let e' = alike was.carries k in
      omega arith)
  kept (leaves {o = o} {q = q} next d was inside empty ended fine) h =
      handover_kept d q o next inside was.most was.carries (ended ∙ sym empty) fine
  kept (displaces {o = o} {q = q} next d was inside full scans) h =
      handover_kept d q o next inside was.most was.carries (scans.carries ∙ sym full) scans.good

  pub sizes_kept : {o : Outcome} → Way s c o → o.state.sizes ≡ s.sizes
  sizes_kept (refused first) = refl
  sizes_kept (takes d empty next free) = refl
  sizes_kept (begins d idle slot link read) = refl
  sizes_kept (swaps d link protected read same) = refl
  sizes_kept (moves d link protected other) = refl
  sizes_kept (reads d inside marked) = refl
  sizes_kept (retires d idle full some) = refl
  sizes_kept (clears d idle slot) = refl
  sizes_kept (publishes d was inside inside' most) = refl
  sizes_kept (protects d was inside inside' read same some) = refl
  sizes_kept (finds_nothing d was inside inside' read none') = refl
  sizes_kept (loads_again d was inside inside' read other) = refl
  sizes_kept (finishes p d was inside empty) = refl
  sizes_kept (sweeps p d was inside empty inside' inside'') = refl
  sizes_kept (drains p next d was inside full scans) = refl
  sizes_kept (meets next d was inside match scans) = refl
  sizes_kept (passes next d was inside other scans) = refl
  sizes_kept (frees next d was past ended fine) = refl
  sizes_kept (leaves next d was inside empty ended fine) = refl
  sizes_kept (displaces next d was inside full scans) = refl
