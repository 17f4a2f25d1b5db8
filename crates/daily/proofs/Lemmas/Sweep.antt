-- The step after a publication, by the ways of a call.
use Rattle.std.specs.Prelude.{ℕ, ◌<◌, ◌≤◌, ◌≡◌, true, false, List}
use Rattle.std.proofs.Common.{arith, ◌∙◌, get_or-set_same}
use Rattle.std.proofs.Math.Path.{refl, sym, ap, subst}
use Rattle.std.proofs.lemmas.Bool.{false≢true}
use Rattle.machine.specs.declared.State.{State}
use Rattle.machine.specs.declared.Call.{Call}
use Rattle.machine.specs.declared.Outcome.{Outcome}
use Rattle.entries.specs.declared.Slot.{Slot}
use Rattle.entries.specs.declared.Thread.{Thread}
use Rattle.entries.specs.declared.Phase.{Phase}
use Rattle.entries.specs.declared.Phase.TheVariants.{Loaded, Sweeping, Published}
use Rattle.basics.specs.Tests.{clash}
use Rattle.entries.specs.Entries.{empty_slot, with_handover}
use Rattle.entries.specs.Phases.{is_idle, carried_by}
use Rattle.entries.specs.PhaseFacts.{AtLook}
use Rattle.machine.specs.Parts.{slot_at, hand_of, phase_of, position_of}
use Rattle.machine.specs.Sound.{Sound, slot_long}
use Rattle.machine.specs.Answers.{numbers, work_of, numbers_of}
use Rattle.machine.specs.Step.{step_of}
use Rattle.laws.proofs.Promise.{way, way_keeps_sound, way_keeps_sizes}
use Rattle.laws.specs.Ways.{Does, Empties, by_drain, by_sweep, Way, refused, takes, begins, swaps, moves, reads, retires, clears, publishes, protects, finds_nothing, loads_again, finishes, sweeps, drains, meets, passes, frees, leaves, displaces}
use Rattle.promise.specs.History.{history, state_after, event_of}
use Rattle.promise.specs.Asked.{is_accepted}
use Rattle.daily.specs.Swept.{own_steps, Publishes, Sweeps}
use Rattle.daily.proofs.Lemmas.Steps.{event_by, its_new_phase, refused_not, all_unmoved, stays_sound, sizes_stay}

-- what a thread is in the middle of tells which ways its call can go

module _ (s : State) (c : Call) where
  -- not a call of an idle thread
  not_idle : {n : ℕ} {now : Phase} {A : Type 0} → phase_of s c.thread ≡ now → is_idle now ≡ false → Does s c n → n ≤ 6 → A
  not_idle e busy d most = absurd (false≢true (sym busy ∙ sym (ap is_idle e) ∙ d.idle most))

  -- nor of one that carries an object
  not_carrying : {now : Phase} {o : ℕ} {A : Type 0} → phase_of s c.thread ≡ now → carried_by now ≡ 0 → carried_by (phase_of s c.thread) ≡ o
      → 0 < o → A
  not_carrying {o = o} e none is some = let nothing : o ≡ 0 = sym is ∙ ap carried_by e ∙ none in absurd (omega arith)

-- a go on out of Loaded: the sweep is next
module _ (s : State) (c : Call) (slot link object : ℕ) (loaded : phase_of s c.thread ≡ Loaded slot link object) (h : Sound s) where
  no_empties : {slot' : ℕ} {back : Phase} {A : Type 0} → Empties (phase_of s c.thread) slot' back → A
  no_empties (by_drain e b) = clash (cc)
  no_empties (by_sweep l e b) = clash (cc)

  published : {o : Outcome} → Way s c o → is_accepted (event_by c o) ≡ true → phase_of o.state c.thread ≡ Sweeping slot link
  unfolding is_idle carried_by numbers_of
  published (refused first) took = refused_not s c first took
  published (takes d empty next free) took = not_idle s c loaded refl d (omega arith)
  published (begins d idle slot' link' read) took = not_idle s c loaded refl d (omega arith)
  published (swaps d link' protected read same) took = not_idle s c loaded refl d (omega arith)
  published (moves d link' protected other) took = not_idle s c loaded refl d (omega arith)
  published (reads d inside marked) took = not_idle s c loaded refl d (omega arith)
  published (retires d idle full some) took = not_idle s c loaded refl d (omega arith)
  published (clears d idle slot') took = not_idle s c loaded refl d (omega arith)
  published (publishes {slot = slot'} {link = link'} d was inside inside' most) took =
      let same : slot' ≡ slot = cc in
      let same' : link' ≡ link = cc in
      its_new_phase s c _ (Sweeping slot' link') h d.thread ∙ rw (same, same')
  published (protects d was inside inside' read same some) took = clash (cc)
  published (finds_nothing d was inside inside' read none) took = clash (cc)
  published (loads_again d was inside inside' read other) took = clash (cc)
  published (finishes p d was inside empty) took = no_empties was.empties
  published (sweeps p d was inside empty inside' inside'') took = no_empties was.empties
  published (drains p next d was inside full scans) took = no_empties was.empties
  published (meets next d was inside match scans) took = not_carrying s c loaded refl was.carries was.some
  published (passes next d was inside other scans) took = not_carrying s c loaded refl was.carries was.some
  published (frees next d was past ended fine) took = not_carrying s c loaded refl was.carries was.some
  published (leaves next d was inside empty ended fine) took = not_carrying s c loaded refl was.carries was.some
  published (displaces next d was inside full scans) took = not_carrying s c loaded refl was.carries was.some

-- a go on out of Sweeping
module _ (s : State) (c : Call) (slot link : ℕ) (now : phase_of s c.thread ≡ Sweeping slot link) (h : Sound s) where
  abbrev p : ℕ
  p = position_of s c.thread slot

  -- the slot whose handover is taken, and what is gone on to
  its_own : {slot' : ℕ} {back : Phase} → Empties (phase_of s c.thread) slot' back → (slot' ≡ slot) × (back ≡ Published slot link)
  its_own (by_drain e b) = clash (cc)
  its_own {slot'} (by_sweep link' e b) =
      let same : slot' ≡ slot = cc in
      let same' : link' ≡ link = cc in
      (same, b ∙ rw (same, same'))

  swept : {o : Outcome} → Way s c o → is_accepted (event_by c o) ≡ true → Sweeps s c slot link o
  unfolding is_idle carried_by work_of numbers_of
  swept (refused first) took = refused_not s c first took
  swept (takes d empty next free) took = not_idle s c now refl d (omega arith)
  swept (begins d idle slot' link' read) took = not_idle s c now refl d (omega arith)
  swept (swaps d link' protected read same) took = not_idle s c now refl d (omega arith)
  swept (moves d link' protected other) took = not_idle s c now refl d (omega arith)
  swept (reads d inside marked) took = not_idle s c now refl d (omega arith)
  swept (retires d idle full some) took = not_idle s c now refl d (omega arith)
  swept (clears d idle slot') took = not_idle s c now refl d (omega arith)
  swept (publishes d was inside inside' most) took = clash (cc)
  swept (protects d was inside inside' read same some) took = clash (cc)
  swept (finds_nothing d was inside inside' read none) took = clash (cc)
  swept (loads_again d was inside inside' read other) took = clash (cc)
  swept (finishes q d was inside empty) took = let wrong = (its_own was.empties).1 in clash (cc)
  swept (sweeps q {slot = slot'} {link = link'} d was inside empty inside' inside'') took =
      let its = its_own was.empties in
      let at : p ≡ q = ap (position_of s c.thread) (sym its.0) ∙ was.at in
      record {
        emptied = rw at (ap (λ (x : Slot). x.handover) (get_or-set_same s.slots q (with_handover (slot_at s q) 0) empty_slot (slot_long s h.ranged q inside)));
        found_nothing = λ none. (ap (numbers 3 7) (sym at), its_new_phase s c _ (Published slot' link') h d.thread ∙ its.1);
        found = λ x is some. let none : (slot_at s p).handover ≡ 0 = rw at empty in absurd (omega arith);
      }
  swept (drains q {back = back} {o = o} next d was inside full scans) took =
      let its = its_own was.empties in
      let at : p ≡ q = ap (position_of s c.thread) (sym its.0) ∙ was.at in
      let held : (slot_at s p).handover ≡ o = rw at full in
      let left = its_new_phase s c (hand_of s c.thread) next h d.thread in
      record {
        emptied = rw at (ap (λ (x : Slot). x.handover) (get_or-set_same s.slots q (with_handover (slot_at s q) 0) empty_slot (slot_long s h.ranged q inside)));
        found_nothing = λ none. let some = scans.some in absurd (omega arith);
        found =
            λ x is some.
            let same : o ≡ x = sym held ∙ is in
            let look = subst (λ (b : Phase). AtLook s.sizes next b o q) its.1 scans in
            let here = subst (λ (k : ℕ). AtLook s.sizes next (Published slot link) o k) (sym at) look in
            let this = subst (λ (k : ℕ). AtLook s.sizes next (Published slot link) k p) same here in
            (ap (numbers 3 6) (sym at), subst (λ (y : Phase). AtLook s.sizes y (Published slot link) x p) (sym left) this);
      }
  swept (meets next d was inside match scans) took = not_carrying s c now refl was.carries was.some
  swept (passes next d was inside other scans) took = not_carrying s c now refl was.carries was.some
  swept (frees next d was past ended fine) took = not_carrying s c now refl was.carries was.some
  swept (leaves next d was inside empty ended fine) took = not_carrying s c now refl was.carries was.some
  swept (displaces next d was inside full scans) took = not_carrying s c now refl was.carries was.some

module _ (s : State) (h : Sound s) (publish : Call) (slot link : ℕ) (begun : Publishes s publish slot link) (between : List Call) where
  abbrev t : ℕ
  t = publish.thread

  abbrev first : State
  first = (step_of s publish).state

  abbrev later : State
  later = state_after first between

  pub next_step : own_steps t (history first between) ≡ 0 → (next : Call) → next.thread ≡ t → is_accepted (event_of later next) ≡ true
      → Sweeps later next slot link (step_of later next)
  next_step none next is took =
      let sound' = stays_sound first (way_keeps_sound s publish (way s publish) h) between in
      let after = published s publish slot link begun.object begun.loaded h (way s publish) begun.accepted in
      let now = ap (λ (x : Thread). x.phase) (all_unmoved t first between none) ∙ after in
      swept later next slot link (rw is now) sound' (way later next) took

  pub gone : own_steps t (history first between) ≡ 0 → (next : Call) → next.thread ≡ t → is_accepted (event_of later next) ≡ true
      → (o : ℕ) → 0 < o → (slot_at s (position_of s t slot)).handover ≡ o
      → (slot_at (step_of later next).state (position_of s t slot)).handover ≡ o → ⊥
  gone none next is took o some was there =
      let sizes = sizes_stay first between ∙ way_keeps_sizes s publish (way s publish) in
      let at : position_of later next.thread slot ≡ position_of s t slot = rw (is, sizes) in
      let empty = rw at at (next_step none next is took).emptied in
      let zero = sym there ∙ empty in
      omega arith
