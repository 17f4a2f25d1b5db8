-- A thread that is in the middle of a protect is in the middle of the one that it last asked for: what the calls and their answers say of it is so.
use Rattle.std.specs.Prelude.{ℕ, ◌<◌, ◌≡◌, Bool}
use Rattle.std.proofs.Math.Path.{refl, sym}
use Rattle.std.proofs.Common.{ap, ◌∙◌}
use Rattle.machine.specs.declared.State.{State}
use Rattle.machine.specs.declared.Call.{Call}
use Rattle.machine.specs.declared.Outcome.{Outcome}
use Rattle.entries.specs.declared.Thread.{Thread}
use Rattle.entries.specs.declared.Phase.{Phase}
use Rattle.entries.specs.declared.Phase.TheVariants.{Idle, Loaded, Sweeping, Published}
use Rattle.basics.specs.Tests.{clash}
use Rattle.basics.specs.Lists.{at_set}
use Rattle.basics.specs.Functions.{put, put_same, put_other}
use Rattle.entries.specs.Entries.{thread, idle_thread}
use Rattle.entries.specs.Phases.{none, into, protecting}
use Rattle.entries.specs.PhaseFacts.{Scans, scan_protects}
use Rattle.machine.specs.Parts.{phase_of, with_thread}
use Rattle.machine.specs.Sound.{Sound, thread_long}
use Rattle.machine.specs.Answers.{numbers_of}
use Rattle.laws.specs.Ways.{Does, Way, refused, takes, begins, swaps, moves, reads, retires, clears, publishes, protects, finds_nothing, loads_again, finishes, sweeps, drains, meets, passes, frees, leaves, displaces}
use Rattle.promise.specs.Asked.{Memory, remembered}
use Rattle.promise.proofs.Lemmas.Refusing.{not_accepted}

-- the protect in this phase, if any, is the one remembered
abbrev pub Fits : Phase → ℕ → ℕ → ℕ → Type 0
Fits phase begun slot link = (inside link' : ℕ) → protecting phase ≡ into inside link' → (begun ≡ 2) × (slot ≡ inside) × (link ≡ link')

pub record Remembers (s : State) (m : Memory) : Type 0 where
  pub fits : (t : ℕ) → t < s.sizes.threads → Fits (phase_of s t) (m.begun t) (m.slot t) (m.link t)

-- a phase that protects nothing fits whatever is remembered
pub nothing_fits : (phase : Phase) (begun slot link : ℕ) → protecting phase ≡ none → Fits phase begun slot link
nothing_fits phase begun slot link e inside link' e' = clash (cc)

abbrev after : Memory → Call → Outcome → Memory
after m c o = remembered m (record { call = c; answer = o.answer })

module _ (s : State) (c : Call) (m : Memory) (h : Sound s) (v : Remembers s m) where
  abbrev t : ℕ
  t = c.thread

  -- the caller's entry is stored, and what is remembered of the others is as it was
  stored : {n : ℕ} → Does s c n → (mid : State) → mid.threads ≡ s.threads → mid.sizes ≡ s.sizes → (hand : ℕ) (phase : Phase) (m' : Memory)
      → ((u : ℕ) → (u ≡ t → ⊥) → (m'.begun u ≡ m.begun u) × (m'.slot u ≡ m.slot u) × (m'.link u ≡ m.link u))
      → Fits phase (m'.begun t) (m'.slot t) (m'.link t) → Remembers (with_thread mid t hand phase) m'
  stored d mid threads sizes hand phase m' others this =
      record {
        fits =
            rw (threads, sizes)
            (at_set (λ (u : ℕ) (x : Thread). u < s.sizes.threads → Fits x.phase (m'.begun u) (m'.slot u) (m'.link u)) s.threads t
            (thread hand phase)
            idle_thread
            (thread_long s h.ranged t d.thread)
            (λ under. this)
            (λ u ne under.
            let same = others u ne in
            rw (same.0, same.1, same.2) (v.fits u under)));
      }

  -- nothing new is remembered
  kept : {n : ℕ} → Does s c n → (mid : State) → mid.threads ≡ s.threads → mid.sizes ≡ s.sizes → (hand : ℕ) (phase : Phase)
      → Fits phase (m.begun t) (m.slot t) (m.link t) → Remembers (with_thread mid t hand phase) m
  kept d mid threads sizes hand phase = stored d mid threads sizes hand phase m (λ u ne. (refl, refl, refl))

  -- another operation than protect has begun
  begun_other : {n : ℕ} → Does s c n → (mid : State) → mid.threads ≡ s.threads → mid.sizes ≡ s.sizes → (hand : ℕ) (phase : Phase)
      → (operation : ℕ) → protecting phase ≡ none
      → Remembers (with_thread mid t hand phase) (record { begun = put m.begun t operation; slot = m.slot; link = m.link })
  begun_other d mid threads sizes hand phase operation nothing =
      stored d mid threads sizes hand phase _
      (λ u ne. (put_other m.begun t operation u ne, refl, refl))
      (nothing_fits phase _ _ _ nothing)

  -- a phase in the middle of what the thread was in the middle of
  goes_on : (phase : Phase) → t < s.sizes.threads → protecting (phase_of s t) ≡ protecting phase → Fits phase (m.begun t) (m.slot t) (m.link t)
  goes_on phase under same inside link' e = v.fits t under inside link' (same ∙ e)

  -- a scan is in the middle of what it returns to
  in_scan : {look : Bool} {phase back : Phase} {o q : ℕ} → Scans s.sizes look phase back o q → protecting phase ≡ protecting back
  in_scan {phase = phase} scans = scan_protects phase (rw scans.carries scans.some) ∙ ap protecting scans.returns

  pub remembers_kept : {o : Outcome} → Way s c o → Remembers o.state (after m c o)
  unfolding remembered numbers_of protecting
  remembers_kept (refused first) =
      rw (not_accepted s c first) v
  remembers_kept (takes d empty next free) = rw d.operation (kept d _ refl refl _ _ (v.fits t d.thread))
  remembers_kept (begins d idle slot link read) =
      rw d.operation
      (stored d s refl refl _ _ _
      (λ u ne. (put_other m.begun t 2 u ne, put_other m.slot t c.slot u ne, put_other m.link t c.link u ne))
      (λ inside link' e.
      let same : c.slot ≡ inside = cc in
      let same' : c.link ≡ link' = cc in
      (put_same m.begun t 2, put_same m.slot t c.slot ∙ same, put_same m.link t c.link ∙ same')))
  remembers_kept (swaps d link protected read same) = rw d.operation (kept d _ refl refl _ _ (v.fits t d.thread))
  remembers_kept (moves d link protected other) = rw d.operation v
  remembers_kept (reads d inside marked) = rw d.operation v
  remembers_kept (retires d idle full some) = rw d.operation (begun_other d s refl refl _ _ 5 refl)
  remembers_kept (clears d idle slot) = rw d.operation (begun_other d _ refl refl _ _ 6 refl)
  remembers_kept (publishes {slot = slot} {link = link} d was inside inside' most) =
      rw d.operation (kept d _ refl refl _ _ (goes_on (Sweeping slot link) d.thread (ap protecting was)))
  remembers_kept (protects d was inside inside' read same some) = rw d.operation (kept d _ refl refl _ _ (nothing_fits Idle _ _ _ refl))
  remembers_kept (finds_nothing d was inside inside' read nothing) = rw d.operation (kept d s refl refl _ _ (nothing_fits Idle _ _ _ refl))
  remembers_kept (loads_again {slot = slot} {link = link} {o = o} d was inside inside' read other) =
      rw d.operation (kept d s refl refl _ _ (goes_on (Loaded slot link o) d.thread (ap protecting was)))
  remembers_kept (finishes p d was inside empty) = rw d.operation (kept d _ refl refl _ _ (nothing_fits Idle _ _ _ refl))
  remembers_kept (sweeps p {slot} {link} d was inside empty inside' inside'') =
      rw d.operation (kept d _ refl refl _ _ (goes_on (Published slot link) d.thread was.protects))
  remembers_kept (drains p next d was inside full scans) =
      rw d.operation (kept d _ refl refl _ _ (goes_on next d.thread (was.protects ∙ sym (in_scan scans))))
  remembers_kept (meets next d was inside match scans) =
      rw d.operation (kept d s refl refl _ _ (goes_on next d.thread (in_scan was ∙ sym (in_scan scans))))
  remembers_kept (passes next d was inside other scans) =
      rw d.operation (kept d s refl refl _ _ (goes_on next d.thread (in_scan was ∙ sym (in_scan scans))))
  remembers_kept (frees next d was past ended fine) = rw d.operation (kept d _ refl refl _ _ (goes_on next d.thread (in_scan was)))
  remembers_kept (leaves next d was inside empty ended fine) = rw d.operation (kept d _ refl refl _ _ (goes_on next d.thread (in_scan was)))
  remembers_kept (displaces next d was inside full scans) =
      rw d.operation (kept d _ refl refl _ _ (goes_on next d.thread (in_scan was ∙ sym (in_scan scans))))
