-- The invariant that makes freeing safe: what a marked slot holds is not free, and if it has been retired it lies at or below that slot. It is
-- kept whichever way a call goes.
use Rattle.std.specs.Prelude.{ℕ, ◌<◌, ◌≤◌, ◌≡◌, Bool, false, length}
use Rattle.std.proofs.Common.{arith, ◌∙◌}
use Rattle.std.proofs.Math.Path.{refl, sym, subst}
use Rattle.std.proofs.Math.Bool.{true, false≢true}
use Rattle.machine.specs.declared.State.{State}
use Rattle.machine.specs.declared.Call.{Call}
use Rattle.machine.specs.declared.Outcome.{Outcome}
use Rattle.entries.specs.declared.Slot.{Slot}
use Rattle.entries.specs.declared.Thread.{Thread}
use Rattle.entries.specs.declared.Phase.{Phase}
use Rattle.pool.specs.declared.Pool.{Pool}
use Rattle.basics.specs.Tests.{same_or_not}
use Rattle.basics.specs.Lists.{at_set}
use Rattle.entries.specs.Sizes.{positions}
use Rattle.entries.specs.Entries.{thread, idle_thread, empty_slot, with_hazard, with_handover}
use Rattle.entries.specs.Phases.{carried_by, scans_at}
use Rattle.pool.specs.Pool.{is_free}
use Rattle.pool.specs.Promise.{taken_out_lem, put_back_lem}
use Rattle.machine.specs.Parts.{link_at, slot_at, hand_of, phase_of, free_at, with_link, with_thread, with_slot, with_pool}
use Rattle.machine.specs.Sound.{Sound, limits, thread_long, slot_long, link_holds, its_position}
use Rattle.promise.specs.Guard.{Guard, Guarded}
use Rattle.laws.specs.OnePlace.{link_not_free, link_not_handover, link_not_carried, carried_not_free}
use Rattle.laws.specs.Ways.{own, Does, Way, refused, takes, begins, swaps, moves, reads, retires, clears, publishes, protects, finds_nothing, loads_again, finishes, sweeps, drains, meets, passes, frees, leaves, displaces}

-- what a phase carries is guarded from no position below its scan
abbrev Reached : State → Phase → Type 0
Reached s phase = (p : ℕ) → p < positions s.sizes → (slot_at s p).mark ≡ true → carried_by phase ≡ (slot_at s p).hazard → scans_at phase ≤ p

-- one store after the other
module _ (s : State) (g : Guarded s) where
  guarded_thread : (t hand : ℕ) (phase : Phase) → t < length s.threads → Reached s phase → Guarded (with_thread s t hand phase)
  guarded_thread t hand phase long scan p inside marked =
      let old = g p inside marked in
      record {
        some = old.some;
        kept = old.kept;
        handed = old.handed;
        carried =
            at_set (λ (u : ℕ) (x : Thread). u < s.sizes.threads → carried_by x.phase ≡ (slot_at s p).hazard → scans_at x.phase ≤ p)
            s.threads t (thread hand phase) idle_thread long
            (λ under. scan p inside marked)
            (λ u ne. old.carried u);
      }

  -- links are not looked at
  guarded_link : (i o : ℕ) → Guarded (with_link s i o)
  guarded_link i o p inside marked =
      let old = g p inside marked in
      record { some = old.some; kept = old.kept; handed = old.handed; carried = old.carried }

  -- another pool and tag for an object that no marked slot holds
  guarded_pool : (pool : Pool) (o tag : ℕ) → ((x : ℕ) → (x ≡ o → ⊥) → is_free pool x ≡ free_at s x)
      → ((p : ℕ) → p < positions s.sizes → (slot_at s p).mark ≡ true → (slot_at s p).hazard ≡ o → ⊥)
      → Guarded (with_pool s pool o tag)
  guarded_pool pool o tag others unheld p inside marked =
      let old = g p inside marked in
      record {
        some = old.some;
        kept = others (slot_at s p).hazard (unheld p inside marked) ∙ old.kept;
        handed = old.handed;
        carried = old.carried;
      }

  -- another hazard and mark at p; where the mark is on, the new hazard is guarded from there
  guarded_hazard : (p hazard : ℕ) (mark : Bool) → p < length s.slots → (mark ≡ true → Guard s p hazard)
      → Guarded (with_slot s p (with_hazard (slot_at s p) hazard mark))
  guarded_hazard p hazard mark long new q inside marked =
      let old =
      at_set (λ (i : ℕ) (x : Slot). i < positions s.sizes → x.mark ≡ true → Guard s i x.hazard)
      s.slots p (with_hazard (slot_at s p) hazard mark) empty_slot long (λ under. new) (λ i ne. g i) q inside marked
      in
      record {
        some = old.some;
        kept = old.kept;
        handed =
            at_set (λ (i : ℕ) (x : Slot). i < positions s.sizes → x.handover ≡ (slot_at (with_slot s p (with_hazard (slot_at s p) hazard mark)) q).hazard → i ≤ q)
            s.slots p (with_hazard (slot_at s p) hazard mark) empty_slot long (old.handed p) (λ i ne. old.handed i);
        carried = old.carried;
      }

  -- another handover at p, which no position below p guards
  guarded_handover : (p into : ℕ) → p < length s.slots
      → ((q : ℕ) → q < positions s.sizes → (slot_at s q).mark ≡ true → into ≡ (slot_at s q).hazard → p ≤ q)
      → Guarded (with_slot s p (with_handover (slot_at s p) into))
  guarded_handover p into long scan q inside marked =
      let old =
      at_set (λ (i : ℕ) (x : Slot). i < positions s.sizes → x.mark ≡ true → Guard s i x.hazard)
      s.slots p (with_handover (slot_at s p) into) empty_slot long (g p) (λ i ne. g i) q inside marked
      in
      let source =
      at_set (λ (i : ℕ) (x : Slot). i < positions s.sizes → x.mark ≡ true → into ≡ x.hazard → p ≤ i)
      s.slots p (with_handover (slot_at s p) into) empty_slot long (scan p) (λ i ne. scan i) q inside marked
      in
      record {
        some = old.some;
        kept = old.kept;
        handed =
            at_set (λ (i : ℕ) (x : Slot). i < positions s.sizes → x.handover ≡ (slot_at (with_slot s p (with_handover (slot_at s p) into)) q).hazard → i ≤ q)
            s.slots p (with_handover (slot_at s p) into) empty_slot long (λ under. source) (λ i ne. old.handed i);
        carried = old.carried;
      }

module _ (s : State) (c : Call) (h : Sound s) (g : Guarded s) where
  abbrev t : ℕ
  t = c.thread

  -- a phase that carries nothing, and one that the thread was in
  nothing_carried : (phase : Phase) → carried_by phase ≡ 0 → Reached s phase
  nothing_carried phase none p inside marked e = let some = (g p inside marked).some in absurd (omega arith)

  same_phase : t < s.sizes.threads → Reached s (phase_of s t)
  same_phase under p inside marked e = (g p inside marked).carried t under e

  -- the thread alone
  thread_guarded : {n : ℕ} → Does s c n → (hand : ℕ) (phase : Phase) → Reached s phase → Guarded (with_thread s t hand phase)
  thread_guarded d hand phase scan = guarded_thread s g t hand phase (thread_long s h.ranged t d.thread) scan

  empty_guarded : {n : ℕ} → Does s c n → (hand : ℕ) (phase : Phase) → carried_by phase ≡ 0 → Guarded (with_thread s t hand phase)
  empty_guarded d hand phase none = thread_guarded d hand phase (nothing_carried phase none)

  -- a hazard that is not marked
  unmarked_guarded : {n : ℕ} → Does s c n → (p hazard : ℕ) (phase : Phase) → p < positions s.sizes → carried_by phase ≡ 0
      → Guarded (with_thread (with_slot s p (with_hazard (slot_at s p) hazard false)) t (hand_of s t) phase)
  unmarked_guarded d p hazard phase inside none =
      let mid = guarded_hazard s g p hazard false (slot_long s h.ranged p inside) (λ m. absurd (false≢true m)) in
      guarded_thread (with_slot s p (with_hazard (slot_at s p) hazard false)) mid t (hand_of s t) phase (thread_long s h.ranged t d.thread)
      (λ q under marked e. let some = (mid q under marked).some in absurd (omega arith))

  -- what goes into the handover at p was carried to p, and what comes out is carried on from p
  exchange_guarded : {n : ℕ} → Does s c n → (p into : ℕ) (phase : Phase) → p < positions s.sizes
      → ((q : ℕ) → q < positions s.sizes → (slot_at s q).mark ≡ true → into ≡ (slot_at s q).hazard → p ≤ q)
      → (0 < carried_by phase → ((slot_at s p).handover ≡ carried_by phase) × (scans_at phase ≡ p))
      → Guarded (with_thread (with_slot s p (with_handover (slot_at s p) into)) t (hand_of s t) phase)
  exchange_guarded d p into phase inside scan out =
      let mid = guarded_handover s g p into (slot_long s h.ranged p inside) scan in
      guarded_thread (with_slot s p (with_handover (slot_at s p) into)) mid t (hand_of s t) phase (thread_long s h.ranged t d.thread)
      (at_set (λ (q : ℕ) (x : Slot). q < positions s.sizes → x.mark ≡ true → carried_by phase ≡ x.hazard → scans_at phase ≤ q)
      s.slots p (with_handover (slot_at s p) into) empty_slot (slot_long s h.ranged p inside) (from p) (λ q ne. from q))
    where
      from : (q : ℕ) → q < positions s.sizes → (slot_at s q).mark ≡ true → carried_by phase ≡ (slot_at s q).hazard → scans_at phase ≤ q
      from q under marked e =
          let old = g q under marked in
          let some = old.some in
          let there = out (omega arith) in
          let below = old.handed p inside (there.0 ∙ e) in
          let at = there.1 in
          omega arith

  -- an object that the thread carries to q is guarded from no position below q
  carried_to : {n : ℕ} → Does s c n → {o q : ℕ} → carried_by (phase_of s t) ≡ o → scans_at (phase_of s t) ≡ q
      → (p : ℕ) → p < positions s.sizes → (slot_at s p).mark ≡ true → o ≡ (slot_at s p).hazard → q ≤ p
  carried_to d carries at p inside marked e = let below = (g p inside marked).carried t d.thread (carries ∙ e) in omega arith

  -- an object in a link is guarded from anywhere, since it was not retired
  link_guarded : (link o p : ℕ) → link < s.sizes.links → link_at s link ≡ o → 0 < o → o ≤ s.sizes.objects → Guard s p o
  link_guarded link o p inside there some most =
      record {
        some = some;
        kept = link_not_free s h o some most link inside there;
        handed = λ q under e. absurd (link_not_handover s h o some most link q inside under there e);
        carried = λ u under e. absurd (link_not_carried s h o some most link u inside under there e);
      }

  pub guarded_kept : {o : Outcome} → Way s c o → Guarded o.state
  unfolding carried_by scans_at
  guarded_kept (refused first) = g
  guarded_kept (takes {o = o} d empty next free) =
      let out = taken_out_lem s.sizes.objects s.pool (limits s h.ranged).objects h.ranged.pool o free in
      let mid =
      guarded_pool s g _ o c.tag out.others
      (λ p inside marked e. false≢true (sym (g p inside marked).kept ∙ rw e free))
      in
      guarded_thread _ mid t o (phase_of s t) (thread_long s h.ranged t d.thread) (same_phase d.thread)
  guarded_kept (begins d idle slot link read) = empty_guarded d _ _ refl
  guarded_kept (swaps {o = o} d link protected read same) =
      guarded_thread _ (guarded_link s g c.link (hand_of s t)) t o (phase_of s t) (thread_long s h.ranged t d.thread) (same_phase d.thread)
  guarded_kept (moves d link protected other) = g
  guarded_kept (reads d inside marked) = g
  guarded_kept (retires d idle full some) = thread_guarded d 0 _ (λ p inside marked e. omega arith)
  guarded_kept (clears d idle slot) = unmarked_guarded d _ 0 _ (its_position s h.ranged t c.slot d.thread slot) refl
  guarded_kept (publishes {slot = slot} {o = o} d was inside inside' most) =
      unmarked_guarded d _ o _ (its_position s h.ranged t slot d.thread inside) refl
  guarded_kept (protects {slot = slot} {link = link} {o = o} d was inside inside' read same some) =
      let p = own s c slot in
      let at = its_position s h.ranged t slot d.thread inside in
      let most : o ≤ s.sizes.objects = rw (sym read) (link_holds s h.ranged link inside') in
      let guard : Guard s p (slot_at s p).hazard = subst (Guard s p) same (link_guarded link o p inside' read some most) in
      let mid = guarded_hazard s g p (slot_at s p).hazard true (slot_long s h.ranged p at) (λ m. guard) in
      guarded_thread _ mid t (hand_of s t) _ (thread_long s h.ranged t d.thread) (λ q under marked e. let z = (mid q under marked).some in absurd (omega arith))
  guarded_kept (finds_nothing d was inside inside' read none) = empty_guarded d _ _ refl
  guarded_kept (loads_again d was inside inside' read other) = empty_guarded d _ _ refl
  guarded_kept (finishes p d was inside empty) =
      exchange_guarded d p 0 _ inside
      (λ q under marked e. let some = (g q under marked).some in absurd (omega arith))
      (λ some. absurd (omega arith))
  guarded_kept (sweeps p d was inside empty inside' inside'') =
      exchange_guarded d p 0 _ inside
      (λ q under marked e. let some = (g q under marked).some in absurd (omega arith))
      (λ some. absurd (omega arith))
  guarded_kept (drains p next d was inside full scans) =
      exchange_guarded d p 0 next inside
      (λ q under marked e. let some = (g q under marked).some in absurd (omega arith))
      (λ some. (full ∙ sym scans.carries, scans.at))
  guarded_kept (meets next d was inside match scans) =
      thread_guarded d _ next
      (λ p under marked e.
      let below = carried_to d was.carries was.at p under marked (sym scans.carries ∙ e) in
      let at = scans.at in
      omega arith)
  guarded_kept (passes {o = o} {q = q} next d was inside other scans) =
      thread_guarded d _ next
      (λ p under marked e.
      let held : o ≡ (slot_at s p).hazard = sym scans.carries ∙ e in
      let below = carried_to d was.carries was.at p under marked held in
      let at = scans.at in
      same_or_not (scans_at next ≤ p) q p
      (λ same. absurd (other (subst (λ (k : ℕ). (slot_at s k).hazard ≡ o) (sym same) (sym held))))
      (λ ne. omega arith))
  guarded_kept (frees {o = o} {q = q} next d was past ended fine) =
      let taken = carried_not_free s h o was.some was.most t d.thread was.carries in
      let back = put_back_lem s.sizes.objects s.pool (limits s h.ranged).objects h.ranged.pool o was.some was.most taken in
      let mid =
      guarded_pool s g _ o 0 back.others
      (λ p inside marked e. let below = carried_to d was.carries was.at p inside marked (sym e) in omega arith)
      in
      guarded_thread _ mid t (hand_of s t) next (thread_long s h.ranged t d.thread) (nothing_carried next ended)
  guarded_kept (leaves {o = o} {q = q} next d was inside empty ended fine) =
      exchange_guarded d q o next inside (carried_to d was.carries was.at) (λ some. absurd (omega arith))
  guarded_kept (displaces {o = o} {q = q} next d was inside full scans) =
      exchange_guarded d q o next inside (carried_to d was.carries was.at) (λ some. (full ∙ sym scans.carries, scans.at))
