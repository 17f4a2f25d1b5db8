-- The five places of a sound state sum to N: summed over the objects, the places of each are the five counts, and each object has one.
use Rattle.std.specs.Prelude.{ℕ, suc}
use native.Mathlib.Omega.{arith}
use Rattle.machine.specs.declared.State.{State}
use Rattle.entries.specs.declared.Thread.{Thread}
use Rattle.entries.specs.declared.Slot.{Slot}
use Rattle.basics.specs.Counts.{bit, occurrences}
use Rattle.basics.specs.Sums.{sum_ones, sum_five, sum_occurrences}
use Rattle.entries.specs.Phases.{carried_by}
use Rattle.entries.specs.Entries.{idle_thread, empty_slot}
use Rattle.entries.specs.Facts.{link_most, hand_most, carries_most, handover_most}
use Rattle.pool.specs.Promise.{count_is_sum}
use Rattle.machine.specs.Parts.{free_at, link_at, thread_at, slot_at}
use Rattle.machine.specs.Soundness.{places_holding}
use Rattle.machine.specs.Sound.{Sound}
use Rattle.machine.specs.Count.{five_places}
use Rattle.laws.specs.Promise.{PlacesSum}

module _ (s : State) (h : Sound s) where
  pub five_sum : PlacesSum s
  unfolding five_places places_holding
  five_sum =
      let n = s.sizes.objects in
      let r = h.ranged in
      let z = s.sizes in
      let whole = sum_ones n (λ k. places_holding s (suc k)) h.placed in
      let free = count_is_sum n s.pool r.pool in
      let links =
      sum_occurrences (λ (x : ℕ). x) 0 n s.links
      (λ i less. link_most z i (link_at s i) (r.links i (rw r.shape.links at less)))
      in
      let hands =
      sum_occurrences (λ (x : Thread). x.hand) idle_thread n s.threads
      (λ i less. hand_most z i (thread_at s i) (r.threads i (rw r.shape.threads at less)))
      in
      let handovers =
      sum_occurrences (λ (x : Slot). x.handover) empty_slot n s.slots
      (λ i less. handover_most z i (slot_at s i) (r.slots i (rw r.shape.slots at less)))
      in
      let carried =
      sum_occurrences (λ (x : Thread). carried_by x.phase) idle_thread n s.threads
      (λ i less. carries_most z i (thread_at s i) (r.threads i (rw r.shape.threads at less)))
      in
      let parts =
      sum_five n (λ k. bit (free_at s (suc k))) (λ k. occurrences (λ (x : ℕ). x) (suc k) s.links)
      (λ k. occurrences (λ (x : Thread). x.hand) (suc k) s.threads)
      (λ k. occurrences (λ (x : Slot). x.handover) (suc k) s.slots)
      (λ k. occurrences (λ (x : Thread). carried_by x.phase) (suc k) s.threads)
      in
      omega arith
