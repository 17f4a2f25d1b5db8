-- What was done, by the ways of a call.
use Rattle.std.specs.Prelude.{ℕ, zero, suc, ◌<◌, ◌≡◌, true, false, List, [], ◌∷◌, eqb, get_or, set}
use Rattle.std.proofs.Common.{arith, sym, ◌∙◌, subst}
use Rattle.std.proofs.Math.Path.{refl, ap}
use Rattle.std.proofs.lemmas.Bool.{false≢true}
use Rattle.entries.specs.declared.Sizes.{Sizes}
use Rattle.entries.specs.declared.Slot.{Slot}
use Rattle.machine.specs.declared.State.{State}
use Rattle.machine.specs.declared.Call.{Call}
use Rattle.machine.specs.declared.Outcome.{Outcome}
use Rattle.entries.specs.declared.Phase.{Phase}
use Rattle.entries.specs.declared.Phase.TheVariants.{Loaded, Sweeping, Published}
use Rattle.basics.specs.Tests.{clash}
use Rattle.basics.proofs.Rows.{first_from_lem}
use Rattle.entries.specs.Sizes.{positions}
use Rattle.entries.specs.Entries.{empty_slot, with_handover}
use Rattle.entries.specs.Phases.{phase_in_range}
use Rattle.entries.specs.PhaseFacts.{sweeping_facts, draining_facts}
use Rattle.machine.specs.Parts.{slot_at, phase_of, position_of, with_slot, become}
use Rattle.machine.specs.Sound.{Sound, its_phase, its_position}
use Rattle.machine.specs.Answers.{number_of, Numbers, numbers, work_of, numbers_of}
use Rattle.machine.specs.Accepted.{refusals_high}
use Rattle.machine.specs.Step.{step_of}
use Rattle.laws.proofs.Promise.{way}
use Rattle.laws.specs.Ways.{Empties, by_drain, by_sweep, Way, refused, takes, begins, swaps, moves, reads, retires, clears, publishes, protects, finds_nothing, loads_again, finishes, sweeps, drains, meets, passes, frees, leaves, displaces}
use Rattle.work.specs.Seven.{Own, Did, publication, failed_read, no_match, match, displacement, found, found_nothing}

-- storing again what stands there changes nothing
set_there : {A : Type 0} (xs : List A) (i : ℕ) (d : A) → set xs i (get_or xs i d) ≡ xs
set_there [] i d = refl
set_there (x ∷ xs) zero d = refl
set_there {A} (x ∷ xs) (suc i) d = ap (λ (l : List A). x ∷ l) (set_there xs i d)

-- nor does emptying a handover that is empty
emptied_kept : (s : State) (p : ℕ) → (slot_at s p).handover ≡ 0 → with_slot s p (with_handover (slot_at s p) 0) ≡ s
emptied_kept s p empty =
    let same : with_handover (slot_at s p) 0 ≡ slot_at s p = ap (with_handover (slot_at s p)) (sym empty) in
    let kept = ap (set s.slots p) same ∙ set_there s.slots p empty_slot in
    ap (λ (slots : List Slot). record { sizes = s.sizes; links = s.links; threads = s.threads; slots = slots; pool = s.pool; tags = s.tags }) kept

module _ (s : State) (c : Call) where
  -- the slot whose handover is taken by a sweep, and its link
  its_sweep : {slot slot' link : ℕ} → Empties (phase_of s c.thread) slot' (Published slot link)
      → (slot' ≡ slot) × (phase_of s c.thread ≡ Sweeping slot link)
  its_sweep (by_drain e b) = clash (cc)
  its_sweep {slot} {slot'} {link} (by_sweep link' e b) =
      let same : slot' ≡ slot = cc in
      let same' : link' ≡ link = cc in
      (same, e ∙ rw (same, same'))

  -- whether by a drain or by a sweep, the slot is one of the thread's
  its_slot_inside : {slot : ℕ} {back : Phase} → phase_in_range s.sizes (phase_of s c.thread) ≡ true
      → Empties (phase_of s c.thread) slot back → slot < s.sizes.slots
  its_slot_inside {slot} good (by_drain e b) = draining_facts s.sizes slot (rw e at good)
  its_slot_inside {slot} good (by_sweep link e b) = (sweeping_facts s.sizes slot link (rw e at good)).0

module _ (s : State) (c : Call) (h : Sound s) (a b : ℕ) where
  -- what is known of a step that is answered 3 with a and b
  abbrev Known : State → Type 0
  Known s' = (b < positions s.sizes) × Did s c.thread s' a b

  -- the answer has another number
  other : {n x y : ℕ} {A : Type 0} → numbers n x y ≡ numbers 3 a b → eqb n 3 ≡ false → A
  other told ne = absurd (false≢true (sym ne ∙ ap (λ (r : Numbers). eqb r.number 3) told))

  -- or these two
  so : {k p : ℕ} {s' : State} → numbers 3 k p ≡ numbers 3 a b → p < positions s.sizes → Did s c.thread s' k p → Known s'
  so {k} {p} {s'} told inside done =
      let at : p ≡ b = ap (λ (r : Numbers). r.b) told in
      let is : k ≡ a = ap (λ (r : Numbers). r.a) told in (
        subst (λ (x : ℕ). x < positions s.sizes) at inside,
        subst (λ (x : ℕ). Did s c.thread s' a x) at (subst (λ (x : ℕ). Did s c.thread s' x p) is done),
      )

  below : {slot : ℕ} → c.thread < s.sizes.threads → slot < s.sizes.slots → position_of s c.thread slot < positions s.sizes
  below under inside = its_position s h.ranged c.thread _ under inside

  here : {slot : ℕ} → slot < s.sizes.slots → Own s c.thread slot (position_of s c.thread slot)
  here inside = record { inside = inside; at = refl }

  did : {o : Outcome} → Way s c o → numbers_of o.answer ≡ numbers 3 a b → Known o.state
  unfolding work_of numbers_of
  did (refused first) told =
      let high = first_from_lem number_of (refusals_high s c) first in
      let is = ap (λ (r : Numbers). r.number) told in
      absurd (omega arith)
  did (takes d empty next free) told = other told refl
  did (begins d idle inside inside' read) told = other told refl
  did (swaps d inside protected read same) told = other told refl
  did (moves d inside protected differs) told = other told refl
  did (reads d inside marked) told = other told refl
  did (retires d idle full some) told = other told refl
  did (clears d idle inside) told = other told refl
  did (publishes d was inside inside' most) told = so told (below d.thread inside) (publication (here inside) was refl)
  did (protects d was inside inside' read same some) told = other told refl
  did (finds_nothing d was inside inside' read none) told = other told refl
  did (loads_again {slot = slot} {link = link} d was inside inside' read differs) told =
      so told (below d.thread inside)
      (failed_read (here inside) was (λ e. differs (sym read ∙ e)) (ap (λ (x : ℕ). become s c.thread (Loaded slot link x)) (sym read)))
  did (finishes p d was inside empty) told = other told refl
  did (sweeps p {slot = slot} {link = link} d was inside empty inside' inside'') told =
      let its = its_sweep s c was.empties in
      let its_own : Own s c.thread slot p = record { inside = inside'; at = ap (position_of s c.thread) (sym its.0) ∙ was.at } in
      let unchanged = ap (λ (x : State). become x c.thread (Published slot link)) (emptied_kept s p empty) in
      so told inside (found_nothing its_own its.1 empty unchanged)
  did (drains p next d was inside full scans) told =
      let good = its_phase s h.ranged c.thread d.thread in
      let its_own : Own s c.thread was.slot p = record { inside = its_slot_inside s c good was.empties; at = was.at } in
      so told inside (found next its_own was.empties full scans refl)
  did (meets next d was inside same scans) told = so told inside (match next was same scans refl)
  did (passes next d was inside differs scans) told = so told inside (no_match next was differs scans refl)
  did (frees next d was past ended fine) told = other told refl
  did (leaves next d was inside empty ended fine) told = other told refl
  did (displaces next d was inside full scans) told = so told inside (displacement next was full scans refl)

pub in_a_run : (z : Sizes) (s : State) → s.sizes ≡ z → Sound s → (c : Call) (a b : ℕ) → numbers_of (step_of s c).answer ≡ numbers 3 a b
    → (b < positions z) × Did s c.thread (step_of s c).state a b
in_a_run z s same h c a b told =
    let known = did s c h a b (way s c) told in
    (subst (λ (x : Sizes). b < positions x) same known.0, known.1)
