-- What a sweep found, from the sweep on.
use Rattle.std.specs.Prelude.{ℕ, ◌+◌, ◌-◌, ◌<◌, ◌≡◌, true, List}
use Rattle.std.proofs.Common.{◌∙◌, subst}
use Rattle.machine.specs.declared.State.{State}
use Rattle.machine.specs.declared.Call.{Call}
use Rattle.entries.specs.declared.Sizes.{Sizes}
use Rattle.entries.specs.declared.Phase.TheVariants.{Published}
use Rattle.entries.specs.Sizes.{positions}
use Rattle.entries.specs.PhaseFacts.{AtLook}
use Rattle.machine.specs.Parts.{slot_at, phase_of, position_of}
use Rattle.machine.specs.Sound.{Sound}
use Rattle.machine.specs.Step.{step_of}
use Rattle.laws.proofs.Promise.{way, way_keeps_sound, way_keeps_sizes}
use Rattle.promise.specs.History.{event_of, history, state_after}
use Rattle.promise.specs.Asked.{is_accepted}
use Rattle.daily.specs.Swept.{own_steps, Publishes, Sweeps, Fate}
use Rattle.daily.proofs.Lemmas.Steps.{stays_sound, sizes_stay}
use Rattle.daily.proofs.Lemmas.Sweep.{next_step}
use Rattle.daily.proofs.Lemmas.Scan.{moved, fate}

-- from a state on that the call sweeps
after_sweep : (s : State) → Sound s → (c : Call) (slot link : ℕ) → Sweeps s c slot link (step_of s c) → (t p : ℕ) → c.thread ≡ t
    → position_of s c.thread slot ≡ p → (o : ℕ) → 0 < o → (slot_at s p).handover ≡ o → (more : List Call)
    → Fate (step_of s c).state t p o (positions s.sizes - p + 1) more
after_sweep s h c slot link done t p is at o some held more =
    let w = way s c in
    let sizes = way_keeps_sizes s c w in
    let s' = (step_of s c).state in
    let found = (done.found o (rw at held) some).1 in
    let here = subst (λ (k : ℕ). AtLook s.sizes (phase_of s' c.thread) (Published slot link) o k) at found in
    subst (λ (z : Sizes). Fate s' t p o (positions z - p + 1) more) sizes
    (fate s' (way_keeps_sound s c w h) t p (Published slot link) o (moved t p o s s' sizes is here) more)

module _ (z : Sizes) (s : State) (same : s.sizes ≡ z) (h : Sound s) (publish : Call) (slot link : ℕ) (begun : Publishes s publish slot link)
    (between : List Call) where
  abbrev t : ℕ
  t = publish.thread

  abbrev first : State
  first = (step_of s publish).state

  abbrev later : State
  later = state_after first between

  pub found_fate : own_steps t (history first between) ≡ 0 → (next : Call) → next.thread ≡ t → is_accepted (event_of later next) ≡ true
      → (o : ℕ) → 0 < o → (slot_at later (position_of s t slot)).handover ≡ o → (more : List Call)
      → Fate (step_of later next).state t (position_of s t slot) o (positions z - position_of s t slot + 1) more
  found_fate none next is took o some held more =
      let w = way s publish in
      let sizes = sizes_stay first between ∙ way_keeps_sizes s publish w in
      let sound' = stays_sound first (way_keeps_sound s publish w h) between in
      let at : position_of later next.thread slot ≡ position_of s t slot = rw (is, sizes) in
      subst (λ (y : Sizes). Fate (step_of later next).state t (position_of s t slot) o (positions y - position_of s t slot + 1) more) (sizes ∙ same)
      (after_sweep later sound' next slot link (next_step s h publish slot link begun between none next is took) t _ is at o some held more)
