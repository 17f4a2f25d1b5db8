-- A call stores no other thread's entry than its own thread's, and a refused one stores nothing.
use Rattle.std.specs.Prelude.{ℕ, ◌≡◌, refl, get_or, set}
use Rattle.std.proofs.Common.{get_or-set_other}
use Rattle.machine.specs.declared.State.{State}
use Rattle.machine.specs.declared.Call.{Call}
use Rattle.machine.specs.declared.Outcome.{Outcome}
use Rattle.entries.specs.declared.Phase.{Phase}
use Rattle.entries.specs.Entries.{thread, idle_thread}
use Rattle.machine.specs.Parts.{thread_at}
use Rattle.laws.specs.Ways.{Way, refused, takes, begins, swaps, moves, reads, retires, clears, publishes, protects, finds_nothing, loads_again, finishes, sweeps, drains, meets, passes, frees, leaves, displaces}

module _ (s : State) (c : Call) (t : ℕ) (other : t ≡ c.thread → ⊥) where
  -- whatever entry the caller's thread gets
  stored : (hand : ℕ) (phase : Phase) → get_or (set s.threads c.thread (thread hand phase)) t idle_thread ≡ thread_at s t
  stored hand phase = get_or-set_other s.threads c.thread t (thread hand phase) idle_thread other

  pub others_kept : {o : Outcome} → Way s c o → thread_at o.state t ≡ thread_at s t
  others_kept (refused first) = refl
  others_kept (takes d empty next free) = stored _ _
  others_kept (begins d idle slot link read) = stored _ _
  others_kept (swaps d link protected read same) = stored _ _
  others_kept (moves d link protected other') = refl
  others_kept (reads d inside marked) = refl
  others_kept (retires d idle full some) = stored _ _
  others_kept (clears d idle slot) = stored _ _
  others_kept (publishes d was inside inside' most) = stored _ _
  others_kept (protects d was inside inside' read same some) = stored _ _
  others_kept (finds_nothing d was inside inside' read none) = stored _ _
  others_kept (loads_again d was inside inside' read other') = stored _ _
  others_kept (finishes p d was inside empty) = stored _ _
  others_kept (sweeps p d was inside empty inside' inside'') = stored _ _
  others_kept (drains p next d was inside full scans) = stored _ _
  others_kept (meets next d was inside match scans) = stored _ _
  others_kept (passes next d was inside other' scans) = stored _ _
  others_kept (frees next d was past ended fine) = stored _ _
  others_kept (leaves next d was inside empty ended fine) = stored _ _
  others_kept (displaces next d was inside full scans) = stored _ _
