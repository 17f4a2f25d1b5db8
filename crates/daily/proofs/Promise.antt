-- Request 2's promise, for all sizes in range and any calls in any order from the fresh machine. That demand 3 and its bound hold word for word is
-- in crate `promise`, whose statements did not change.
use Rattle.std.specs.Prelude.{ℕ, ◌+◌, ◌-◌, ◌<◌, ◌≡◌, true, List}
use Rattle.entries.specs.declared.Sizes.{Sizes}
use Rattle.machine.specs.declared.Call.{Call}
use Rattle.entries.specs.declared.Phase.{Phase}
use Rattle.entries.specs.Sizes.{in_range, positions}
use Rattle.entries.specs.PhaseFacts.{AtLook}
use Rattle.machine.specs.Parts.{slot_at, phase_of, position_of}
use Rattle.machine.specs.Step.{step_of}
use Rattle.promise.specs.History.{event_of, history, state_after}
use Rattle.promise.specs.Asked.{is_accepted}
use Rattle.promise.specs.Run.{state}
use Rattle.promise.proofs.Moments.{same_sizes, always_sound}
use Rattle.daily.specs.Swept.{own_steps, Publishes, Sweeps, Fate}
use Rattle.daily.proofs.Lemmas.Sweep as sweep
use Rattle.daily.proofs.Lemmas.Scan as scan
use Rattle.daily.proofs.Lemmas.Found as after

module _ (z : Sizes) (h : in_range z ≡ true) (calls : List Call) where
  -- After a publication the thread's next step, whatever other threads have done in between, sweeps that slot: it leaves the handover empty, and
  -- what stood there is carried by that thread and scanned from that position.
  pub next_step_sweeps : (publish : Call) (slot link : ℕ) → Publishes (state z calls) publish slot link → (between : List Call)
      → let first = (step_of (state z calls) publish).state in
      let s = state_after first between in
      own_steps publish.thread (history first between) ≡ 0 → (next : Call) → next.thread ≡ publish.thread
      → is_accepted (event_of s next) ≡ true → Sweeps s next slot link (step_of s next)
  next_step_sweeps publish slot link begun between = sweep.next_step (state z calls) (always_sound z h calls) publish slot link begun between

  -- "so anything left in its handover waits all day" is over: an object that stands in the handover of a slot when that slot publishes anew is
  -- no longer there after the thread's next step
  pub no_longer_there : (publish : Call) (slot link : ℕ) → Publishes (state z calls) publish slot link → (between : List Call)
      → let first = (step_of (state z calls) publish).state in
      let s = state_after first between in
      let p = position_of (state z calls) publish.thread slot in
      own_steps publish.thread (history first between) ≡ 0 → (next : Call) → next.thread ≡ publish.thread
      → is_accepted (event_of s next) ≡ true → (o : ℕ) → 0 < o → (slot_at (state z calls) p).handover ≡ o
      → (slot_at (step_of s next).state p).handover ≡ o → ⊥
  no_longer_there publish slot link begun between = sweep.gone (state z calls) (always_sound z h calls) publish slot link begun between

  -- what stood there is freed by that thread, or left by it at a position from there on, at the latest with its T × H − p + 1st step after that
  pub found_is_freed_or_left : (publish : Call) (slot link : ℕ) → Publishes (state z calls) publish slot link → (between : List Call)
      → let first = (step_of (state z calls) publish).state in
      let s = state_after first between in
      let p = position_of (state z calls) publish.thread slot in
      own_steps publish.thread (history first between) ≡ 0 → (next : Call) → next.thread ≡ publish.thread
      → is_accepted (event_of s next) ≡ true → (o : ℕ) → 0 < o → (slot_at s p).handover ≡ o → (more : List Call)
      → Fate (step_of s next).state publish.thread p o (positions z - p + 1) more
  found_is_freed_or_left publish slot link begun between =
      after.found_fate z (state z calls) (same_sizes z h calls) (always_sound z h calls) publish slot link begun between

  -- and so is whatever a thread carries, looking next at position p
  pub freed_or_left : (t p : ℕ) (back : Phase) (o : ℕ) → AtLook (state z calls).sizes (phase_of (state z calls) t) back o p → (more : List Call)
      → Fate (state z calls) t p o (positions (state z calls).sizes - p + 1) more
  freed_or_left = scan.fate (state z calls) (always_sound z h calls)
