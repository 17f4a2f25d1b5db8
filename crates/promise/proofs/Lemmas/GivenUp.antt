-- The takes that were given up and not freed since are those of the objects that wait: kept by every call.
use Rattle.std.specs.Prelude.{ℕ, suc, ◌<◌, ◌≤◌, ◌≡◌, false, List, [], ◌∷◌, eqb}
use Rattle.std.proofs.Common.{arith, ap, ◌∙◌}
use Rattle.std.proofs.Math.Path.{refl, sym, subst}
use Rattle.std.proofs.Math.Bool.{true}
use Rattle.std.proofs.lemmas.Bool.{false≢true}
use Rattle.std.proofs.lemmas.List.{get_or-replicate}
use Rattle.machine.specs.declared.State.{State}
use Rattle.machine.specs.declared.Call.{Call}
use Rattle.machine.specs.declared.Outcome.{Outcome}
use Rattle.machine.specs.declared.Answer.TheVariants.{Taken}
use Rattle.entries.specs.declared.Sizes.{Sizes}
use Rattle.entries.specs.declared.Slot.{Slot}
use Rattle.entries.specs.declared.Thread.{Thread}
use Rattle.entries.specs.declared.Phase.{Phase}
use Rattle.entries.specs.declared.Phase.TheVariants.{Idle, Look}
use Rattle.basics.specs.Tests.{same_or_not}
use Rattle.basics.specs.Functions.{put, put_same, put_other}
use Rattle.entries.specs.Sizes.{in_range, positions}
use Rattle.entries.specs.Entries.{idle_thread, empty_slot, with_hazard, with_handover}
use Rattle.entries.specs.Facts.{bounds}
use Rattle.entries.specs.Phases.{carried_by}
use Rattle.entries.specs.PhaseFacts.{idle_carries}
use Rattle.pool.specs.Pool.{taken_out, put_back}
use Rattle.pool.specs.Promise.{put_back_lem}
use Rattle.machine.specs.Parts.{slot_at, phase_of, hand_of, free_at, with_thread, with_slot, with_link, with_pool}
use Rattle.machine.specs.Sound.{Sound, limits, thread_long, slot_long, its_position}
use Rattle.machine.specs.Answers.{numbers_of}
use Rattle.machine.specs.Fresh.{fresh_of}
use Rattle.machine.specs.Step.{step_of}
use Rattle.laws.specs.OnePlace.{carried_not_free}
use Rattle.laws.proofs.Promise.{way}
use Rattle.laws.specs.Ways.{own, named, Does, Way, refused, takes, begins, swaps, moves, reads, retires, clears, publishes, protects, finds_nothing, loads_again, finishes, sweeps, drains, meets, passes, frees, leaves, displaces}
use Rattle.promise.specs.Store.{Store}
use Rattle.promise.specs.History.{history_by, state_by, history, state_after, is_retire, is_freed}
use Rattle.promise.specs.Reading.{Reading, no_takes, noted, record_of, reading_after}
use Rattle.promise.specs.Asked.{Memory}
use Rattle.promise.specs.GivenUp.{GivenUp, none_given_up, given_by, given_after, Waits, handed, carried, WaitsAs, SameGivenUp}
use Rattle.promise.proofs.Lemmas.Refusing.{both_off, no_answer}
use Rattle.promise.proofs.Lemmas.Same.{Live, record_some}
use Rattle.promise.proofs.Lemmas.Waits.{waits_most, waits_not_free, turned, passed, SameWaits, now_carried, only_thread, still_handed, handed_still, nothing_moved, handovers_same, exchanged}
use Rattle.promise.proofs.Lemmas.Invariant.{Invariant}
use Rattle.promise.proofs.Lemmas.Begin.{start_invariant}
use Rattle.promise.proofs.Lemmas.Runs.{moment}

-- an object that was not taken is read as before
taken_other : (r : Reading) (o x : ℕ) → (x ≡ o → ⊥) → record_of (noted r (Taken o)) x ≡ record_of r x
unfolding noted record_of
taken_other r o x ne = rw (put_other r.last o (suc r.takes) x ne)

module _ (s : State) (c : Call) (m : Memory) (r : Reading) (store : Store) (given : GivenUp) (v : Invariant s m r store)
    (g : SameGivenUp s r given) where
  abbrev t : ℕ
  t = c.thread

  abbrev After : Outcome → Type 0
  After o = SameGivenUp o.state (noted r o.answer) (given_by r given (record { call = c; answer = o.answer }))

  -- the same objects wait as before
  unmoved : {s' : State} → SameWaits s s' → SameGivenUp s' r given
  unmoved same =
      record {
        given_up = λ x some w. g.given_up x some (same.back x w);
        waiting =
            λ take on.
            let w = g.waiting take on in
            record { object = w.object; some = w.some; waits = same.there w.object w.waits; is = w.is };
      }

  -- only the caller's entry is stored, and it carries what it carried
  thread_still : {n : ℕ} → Does s c n → (mid : State) (hand : ℕ) (phase : Phase) → mid.threads ≡ s.threads → mid.sizes ≡ s.sizes
      → ((q : ℕ) → (slot_at mid q).handover ≡ (slot_at s q).handover) → carried_by phase ≡ carried_by (phase_of s t)
      → SameWaits s (with_thread mid t hand phase)
  thread_still d mid hand phase threads sizes slots same =
      nothing_moved s mid t hand phase threads sizes (thread_long s v.sound.ranged t d.thread) slots same

  -- a slot of the caller's keeps its handover
  slot_still : {n : ℕ} → Does s c n → (p : ℕ) (slot : Slot) (phase : Phase) → p < positions s.sizes
      → slot.handover ≡ (slot_at s p).handover → carried_by phase ≡ carried_by (phase_of s t)
      → SameGivenUp (with_thread (with_slot s p slot) t (hand_of s t) phase) r given
  slot_still d p slot phase inside same carries =
      unmoved
      (thread_still d (with_slot s p slot) (hand_of s t) phase refl refl
      (handovers_same s p slot (slot_long s v.sound.ranged p inside) same)
      carries)

  -- what was carried and what was handed over change places
  change_places : {n : ℕ} → Does s c n → (p : ℕ) (slot : Slot) (phase : Phase) → p < positions s.sizes
      → carried_by phase ≡ (slot_at s p).handover → slot.handover ≡ carried_by (phase_of s t)
      → SameGivenUp (with_thread (with_slot s p slot) t (hand_of s t) phase) r given
  change_places d p slot phase inside now now' =
      unmoved
      (exchanged s t (hand_of s t) p slot phase (thread_long s v.sound.ranged t d.thread) (slot_long s v.sound.ranged p inside)
      d.thread
      inside now now')

  -- an object that waits has another record than one that is not free and is another
  other_record : (x o : ℕ) → 0 < x → Waits s x → Live s.sizes.objects s.pool o → (x ≡ o → ⊥) → record_of r x ≡ record_of r o → ⊥
  other_record x o some w live ne e =
      let live' : Live s.sizes.objects s.pool x = (some, waits_most s v.sound x w, waits_not_free s v.sound x some w) in
      ne (v.same.names.apart x o live' live (sym (record_some r x some) ∙ e ∙ record_some r o live.0))

  -- retire: one more is given up, and carried
  retired : Does s c 5 → (o : ℕ) → 0 < o → carried_by (phase_of s t) ≡ 0
      → SameGivenUp (with_thread s t 0 (Look o 0)) r (put given (record_of r o) true)
  unfolding carried_by
  retired d o some none =
      let far = thread_long s v.sound.ranged t d.thread in
      let s' = with_thread s t 0 (Look o 0) in
      let apart = only_thread s s t 0 (Look o 0) refl refl far (λ q. refl) in
      let now = now_carried s s t 0 (Look o 0) refl refl far in
      let here : (x : ℕ) → Waits s' x → (x ≡ o → ⊥) → Waits s x =
      λ x w ne.
      passed (turned apart) x (λ under is. absurd (ne (sym is ∙ now))) (handed_still s s t 0 (Look o 0) refl refl far (λ q. refl) x) w
      in
      let on : (x : ℕ) → 0 < x → Waits s x → Waits s' x =
      λ x more w.
      passed apart x (λ under is. absurd (omega arith)) (still_handed s s t 0 (Look o 0) refl refl far (λ q. refl) x) w
      in
      record {
        given_up =
            λ x more w.
            same_or_not (put given (record_of r o) true (record_of r x) ≡ true) (record_of r x) (record_of r o)
            (λ e. subst (λ (k : ℕ). put given (record_of r o) true k ≡ true) (sym e) (put_same given (record_of r o) true))
            (λ ne. put_other given (record_of r o) true (record_of r x) ne ∙ g.given_up x more (here x w (λ e. ne (ap (record_of r) e))));
        waiting =
            λ take yes'.
            same_or_not (WaitsAs s' r take) take (record_of r o)
            (λ e. record { object = o; some = some; waits = carried t d.thread now; is = sym e })
            (λ ne.
            let w = g.waiting take (sym (put_other given (record_of r o) true take ne) ∙ yes') in
            record { object = w.object; some = w.some; waits = on w.object w.some w.waits; is = w.is });
      }

  -- Freed: the one that was carried waits no more
  let_go : Does s c 7 → (o : ℕ) (next : Phase) → 0 < o → o ≤ s.sizes.objects → carried_by (phase_of s t) ≡ o → carried_by next ≡ 0
      → Sound (with_thread (with_pool s (put_back s.pool o) o 0) t (hand_of s t) next)
      → SameGivenUp (with_thread (with_pool s (put_back s.pool o) o 0) t (hand_of s t) next) r (put given (record_of r o) false)
  let_go d o next some most was none sound' =
      let far = thread_long s v.sound.ranged t d.thread in
      let mid = with_pool s (put_back s.pool o) o 0 in
      let s' = with_thread mid t (hand_of s t) next in
      let apart = only_thread s mid t (hand_of s t) next refl refl far (λ q. refl) in
      let now = now_carried s mid t (hand_of s t) next refl refl far in
      let taken = carried_not_free s v.sound o some most t d.thread was in
      let freed = put_back_lem s.sizes.objects s.pool (limits s v.sound.ranged).objects v.sound.ranged.pool o some most taken in
      let here : (x : ℕ) → 0 < x → Waits s' x → Waits s x =
      λ x more w.
      passed (turned apart) x (λ under is. absurd (omega arith)) (handed_still s mid t (hand_of s t) next refl refl far (λ q. refl) x) w
      in
      let on : (x : ℕ) → (x ≡ o → ⊥) → Waits s x → Waits s' x =
      λ x ne w.
      passed apart x (λ under is. absurd (ne (sym is ∙ was))) (still_handed s mid t (hand_of s t) next refl refl far (λ q. refl) x) w
      in
      let another : (x : ℕ) → 0 < x → Waits s' x → x ≡ o → ⊥ =
      λ x more w e. false≢true (sym (waits_not_free s' sound' x more w) ∙ ap (free_at s') e ∙ freed.this)
      in
      record {
        given_up =
            λ x more w.
            let old = here x more w in
            put_other given (record_of r o) false (record_of r x) (other_record x o more old (some, most, taken) (another x more w)) ∙
            g.given_up x more old;
        waiting =
            λ take yes'.
            let ne : take ≡ record_of r o → ⊥ =
            λ e.
            false≢true
            (sym (put_same given (record_of r o) false) ∙
            subst (λ (k : ℕ). put given (record_of r o) false k ≡ true) e yes')
            in
            let w = g.waiting take (sym (put_other given (record_of r o) false take ne) ∙ yes') in
            record {
              object = w.object;
              some = w.some;
              waits = on w.object (λ e. ne (sym w.is ∙ ap (record_of r) e)) w.waits;
              is = w.is;
            };
      }

  -- Taken: the same wait, and are read as before, since the one taken was free
  taken : (s' : State) (o : ℕ) → SameWaits s s' → free_at s o ≡ true → SameGivenUp s' (noted r (Taken o)) given
  taken s' o same free =
      let as_before : (x : ℕ) → 0 < x → Waits s x → record_of (noted r (Taken o)) x ≡ record_of r x =
      λ x some w. taken_other r o x (λ e. false≢true (sym (waits_not_free s v.sound x some w) ∙ ap (free_at s) e ∙ free))
      in
      record {
        given_up =
            λ x some w.
            let old = same.back x w in
            ap given (as_before x some old) ∙ g.given_up x some old;
        waiting =
            λ take on.
            let w = g.waiting take on in
            record {
              object = w.object;
              some = w.some;
              waits = same.there w.object w.waits;
              is = as_before w.object w.some w.waits ∙ w.is;
            };
      }

  pub given_step : {o : Outcome} → Way s c o → Sound o.state → After o
  unfolding given_by is_retire is_freed numbers_of noted carried_by
  given_step (refused first) after =
      let not_freed = no_answer s c first 11 (omega arith) in
      let not_begun = no_answer s c first 2 (omega arith) in
      rw (not_freed, not_begun, both_off (eqb c.operation 5)) g
  given_step (takes {o = o} d empty next free) after =
      rw d.operation
      (taken _ o (thread_still d (with_pool s (taken_out s.pool o) o c.tag) o (phase_of s t) refl refl (λ q. refl) refl) free)
  given_step (begins d idle slot link read) after =
      rw d.operation (unmoved (thread_still d s (hand_of s t) _ refl refl (λ q. refl) (sym (idle_carries (phase_of s t) idle))))
  given_step (swaps {o = o} d link protected read same) after =
      rw d.operation
      (unmoved (thread_still d (with_link s c.link (hand_of s t)) o (phase_of s t) refl refl (λ q. refl) refl))
  given_step (moves d link protected other) after = rw d.operation g
  given_step (reads d inside marked) after = rw d.operation g
  given_step (retires {o = o} d idle full some) after = rw d.operation (retired d o some (idle_carries (phase_of s t) idle))
  given_step (clears d idle slot) after =
      rw d.operation
      (slot_still d (named s c) (with_hazard (slot_at s (named s c)) 0 false) _
      (its_position s v.sound.ranged t c.slot d.thread slot)
      refl
      (sym (idle_carries (phase_of s t) idle)))
  given_step (publishes {slot = slot} {o = o} d was inside inside' most) after =
      rw d.operation
      (slot_still d (own s c slot) (with_hazard (slot_at s (own s c slot)) o false) _
      (its_position s v.sound.ranged t slot d.thread inside)
      refl
      (sym (ap carried_by was)))
  given_step (protects {slot = slot} d was inside inside' read same some) after =
      rw d.operation
      (slot_still d (own s c slot) (with_hazard (slot_at s (own s c slot)) (slot_at s (own s c slot)).hazard true) Idle
      (its_position s v.sound.ranged t slot d.thread inside)
      refl
      (sym (ap carried_by was)))
  given_step (finds_nothing d was inside inside' read nothing) after =
      rw d.operation (unmoved (thread_still d s (hand_of s t) Idle refl refl (λ q. refl) (sym (ap carried_by was))))
  given_step (loads_again d was inside inside' read other) after =
      rw d.operation (unmoved (thread_still d s (hand_of s t) _ refl refl (λ q. refl) (sym (ap carried_by was))))
  given_step (finishes p d was inside empty) after =
      rw d.operation (slot_still d p (with_handover (slot_at s p) 0) Idle inside (sym empty) (sym was.carries))
  given_step (sweeps p d was inside empty inside' inside'') after =
      rw d.operation (slot_still d p (with_handover (slot_at s p) 0) _ inside (sym empty) (sym was.carries))
  given_step (drains p next d was inside full scans) after =
      rw d.operation
      (change_places d p (with_handover (slot_at s p) 0) next inside (scans.carries ∙ sym full) (sym was.carries))
  given_step (meets next d was inside match scans) after =
      rw d.operation (unmoved (thread_still d s (hand_of s t) next refl refl (λ q. refl) (scans.carries ∙ sym was.carries)))
  given_step (passes next d was inside other scans) after =
      rw d.operation (unmoved (thread_still d s (hand_of s t) next refl refl (λ q. refl) (scans.carries ∙ sym was.carries)))
  given_step (frees {o = o} next d was past ended fine) after =
      rw d.operation (let_go d o next was.some was.most was.carries ended after)
  given_step (leaves {o = o} {q = q} next d was inside empty ended fine) after =
      rw d.operation
      (change_places d q (with_handover (slot_at s q) o) next inside (ended ∙ sym empty) (sym was.carries))
  given_step (displaces {o = o} {q = q} next d was inside full scans) after =
      rw d.operation
      (change_places d q (with_handover (slot_at s q) o) next inside (scans.carries ∙ sym full) (sym was.carries))

pub given_kept : (s : State) (m : Memory) (r : Reading) (store : Store) (given : GivenUp) → Invariant s m r store → SameGivenUp s r given
    → (calls : List Call) → SameGivenUp (state_after s calls) (reading_after r (history s calls)) (given_after r given (history s calls))
unfolding history_by state_by reading_after given_after
given_kept s m r store given v g [] = g
given_kept s m r store given v g (c ∷ calls) =
    let one = moment s c m r store v in
    given_kept (step_of s c).state _ _ _ _ one.holds (given_step s c m r store given v g (way s c) one.holds.sound) calls

-- nothing waits in the fresh machine, and nothing was given up
pub start_given : (z : Sizes) → in_range z ≡ true → SameGivenUp (fresh_of z) no_takes none_given_up
unfolding fresh_of carried_by
start_given z h =
    record { given_up = λ x some w. absurd (none x some w); waiting = λ take on. absurd (false≢true on) }
  where
    none : (x : ℕ) → 0 < x → Waits (fresh_of z) x → ⊥
    none x some (handed p less is) =
        let b = bounds z (start_invariant z h).sound.ranged.sizes in
        let e : x ≡ 0 = sym is ∙ ap (λ (y : Slot). y.handover) (get_or-replicate 32 p empty_slot empty_slot (omega arith)) in
        omega arith
    none x some (carried t less is) =
        let b = bounds z (start_invariant z h).sound.ranged.sizes in
        let e : x ≡ 0 = sym is ∙ ap (λ (y : Thread). carried_by y.phase) (get_or-replicate 8 t idle_thread idle_thread (omega arith)) in
        omega arith
