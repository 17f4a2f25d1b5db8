-- A take that is refused 30: what the lines before it say of the state, and how many objects there is room for in it.
use Rattle.std.specs.Prelude.{ℕ, suc, ◌+◌, ◌*◌, ◌≤◌, ◌≡◌, not, ◌&&◌, List, [], ◌∷◌, ltb}
use native.Mathlib.Omega.{arith}
use Rattle.std.proofs.Math.Path.{refl, ap}
use Rattle.std.proofs.Common.{sym, ◌∙◌, subst, eqb-true, ltb-true, ltb-false}
use Rattle.std.proofs.Math.Bool.{true, false}
use Rattle.std.proofs.Math.ListN.{get_or-eq_default}
use Rattle.machine.specs.declared.State.{State}
use Rattle.entries.specs.declared.Sizes.{Sizes}
use Rattle.machine.specs.declared.Call.{Call}
use Rattle.machine.specs.declared.Answer.TheVariants.{Refused}
use Rattle.machine.specs.declared.refusal.Refusal.TheVariants.{NotProtected, NoneFree}
use Rattle.entries.specs.declared.Slot.{Slot}
use Rattle.entries.specs.declared.Thread.{Thread}
use Rattle.pool.specs.declared.Pool.{Pool}
use Rattle.basics.specs.Tests.{by_test, ands}
use Rattle.basics.specs.Counts.{bit, how_many_under, how_many_missing}
use Rattle.basics.specs.Sums.{sum_zeros}
use Rattle.basics.specs.Rows.{◌when◌, FirstIs, without}
use Rattle.basics.proofs.Rows.{first_split, only_line}
use Rattle.entries.specs.Sizes.{in_range, positions}
use Rattle.entries.specs.Phases.{is_idle, carried_by}
use Rattle.entries.specs.PhaseFacts.{idle_carries}
use Rattle.entries.specs.Entries.{idle_thread, empty_slot, is_object}
use Rattle.entries.specs.Facts.{link_empty, thread_empty_lem}
use Rattle.pool.specs.Pool.{is_free, next_of, free_count, pool_good}
use Rattle.pool.specs.Promise.{none_is_free, count_is_sum}
use Rattle.machine.specs.Parts.{link_at, thread_at, hand_of, slot_at, position_of}
use Rattle.machine.specs.Sound.{Ranged, Sound, from_sound}
use Rattle.machine.specs.Answers.{number_of}
use Rattle.machine.specs.Refusals.{reads_slot, state_rows, field_rows, thread_rows, object_rows, call_rows, refusals}
use Rattle.machine.specs.Accepted.{fields_pass, thread_pass}
use Rattle.machine.specs.Step.{step_of}
use Rattle.machine.specs.Count.{five_places}
use Rattle.laws.proofs.Promise.{refused_exactly, five_places_sum}
use Rattle.promise.specs.Run.{state}
use Rattle.promise.proofs.Moments.{same_sizes, always_sound}
use Rattle.promise.proofs.Lemmas.Waiting.{handovers_end, carried_end}

-- 30's own condition: a take, and nothing is free
thirty : (slot : Slot) (pool : Pool) (c : Call) → FirstIs (object_rows slot pool c) NoneFree → (c.operation ≡ 1) × (next_of pool ≡ 0)
unfolding object_rows without number_of
thirty slot pool c first =
    let on = only_line (first_split number_of ((NotProtected when (reads_slot c && not slot.mark)) ∷ []) refl first).1 in
    (eqb-true c.operation 1 (search ands), eqb-true (next_of pool) 0 (search ands))

none_free : (n : ℕ) (pool : Pool) → pool_good n pool ≡ true → next_of pool ≡ 0 → free_count pool ≡ 0
unfolding bit
none_free n pool good none =
    sym (count_is_sum n pool good) ∙
    sum_zeros n (λ k. bit (is_free pool (suc k))) (λ k. ap bit (none_is_free pool none (suc k)))

-- links and hands beyond the sizes hold nothing
module _ (s : State) (r : Ranged s) where
  links_end : (i : ℕ) → s.sizes.links ≤ i → is_object (link_at s i) ≡ false
  links_end i low =
      by_test (is_object (link_at s i) ≡ false) (ltb i 16)
      (λ inside. ap is_object (link_empty s.sizes i (link_at s i) low (r.links i (ltb-true i 16 inside))))
      (λ past. ap is_object (get_or-eq_default s.links 0 (rw r.shape.links (ltb-false i 16 past))))

  hands_end : (i : ℕ) → s.sizes.threads ≤ i → is_object (hand_of s i) ≡ false
  hands_end i low =
      by_test (is_object (hand_of s i) ≡ false) (ltb i 8)
      (λ inside. ap (λ (x : Thread). is_object x.hand) (thread_empty_lem s.sizes i (thread_at s i) low (r.threads i (ltb-true i 8 inside))))
      (λ past.
      ap (λ (x : Thread). is_object x.hand) (get_or-eq_default s.threads idle_thread (rw r.shape.threads (ltb-false i 8 past))))

module _ (s : State) (h : Sound s) (c : Call) where
  -- room for no more
  starved : FirstIs (refusals s c) NoneFree
      → s.sizes.objects + 2 ≤ s.sizes.links + 2 * s.sizes.threads + s.sizes.threads * s.sizes.slots
  unfolding refusals state_rows call_rows field_rows thread_rows without number_of five_places
  starved first =
      let t = c.thread in
      let x = thread_at s t in
      let after_state = (first_split number_of (state_rows s) refl first).1 in
      let fields = first_split number_of (field_rows s.sizes c) refl after_state in
      let thread = first_split number_of (thread_rows x c.operation) refl fields.1 in
      let under = (fields_pass s.sizes c fields.0).thread in
      let passed = thread_pass x c.operation thread.0 in
      let last = thirty (slot_at s (position_of s t c.slot)) s.pool c thread.1 in
      let op = last.0 in
      let empty : is_object x.hand ≡ false = ap is_object (passed.empty_hand op) in
      let idle : is_idle x.phase ≡ true = passed.idle (rw op) in
      let no_scan : is_object (carried_by x.phase) ≡ false = ap is_object (idle_carries x.phase idle) in
      let r = h.ranged in
      let free = none_free s.sizes.objects s.pool r.pool last.1 in
      let links = how_many_under is_object s.links s.sizes.links 0 (links_end s r) in
      let hands = how_many_missing (λ (y : Thread). is_object y.hand) s.threads s.sizes.threads t idle_thread under empty (hands_end s r) in
      let handovers = how_many_under (λ (y : Slot). is_object y.handover) s.slots (positions s.sizes) empty_slot (handovers_end s r) in
      let carried =
      how_many_missing (λ (y : Thread). is_object (carried_by y.phase)) s.threads s.sizes.threads t idle_thread under no_scan (carried_end s r)
      in
      let whole = five_places_sum s (from_sound s h) in
      omega arith

pub enough_records : (z : Sizes) → in_range z ≡ true → z.links + 2 * z.threads + z.threads * z.slots ≤ z.objects + 1
    → (calls : List Call) (next : Call) → (step_of (state z calls) next).answer ≡ Refused NoneFree → ⊥
enough_records z h enough calls next e =
    let s = state z calls in
    let room = starved s (always_sound z h calls) next ((refused_exactly s next NoneFree).0 e) in
    let room' =
    subst (λ (y : Sizes). y.objects + 2 ≤ y.links + 2 * y.threads + y.threads * y.slots) (same_sizes z h calls) room
    in
    omega arith
