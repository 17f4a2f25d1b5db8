-- "Our screen task protects record after record in one slot and clears only at night, so anything left in its handover waits all day. After each
-- publication the thread now takes one further step on that slot's handover." What that step leaves, and what becomes of what it found.
use Rattle.std.specs.Prelude.{ℕ, ◌<◌, ◌≤◌, ◌≡◌, Bool, true, ◌&&◌, List, ◌∷◌, ◌++◌, eqb}
use Rattle.machine.specs.declared.State.{State}
use Rattle.machine.specs.declared.Call.{Call}
use Rattle.machine.specs.declared.Outcome.{Outcome}
use Rattle.machine.specs.declared.Answer.TheVariants.{Freed}
use Rattle.entries.specs.declared.Phase.TheVariants.{Loaded, Published}
use Rattle.basics.specs.Counts.{how_many}
use Rattle.entries.specs.Sizes.{positions}
use Rattle.entries.specs.Phases.{carried_by, scans_at}
use Rattle.entries.specs.PhaseFacts.{AtLook}
use Rattle.machine.specs.Parts.{slot_at, phase_of, position_of}
use Rattle.machine.specs.Answers.{numbers, numbers_of}
use Rattle.machine.specs.Step.{step_of}
use Rattle.promise.specs.History.{Event, event_of, history, state_after}
use Rattle.promise.specs.Asked.{is_accepted}

-- an accepted call of this thread: a step of its own
abbrev pub is_step_of : ℕ → Event → Bool
is_step_of t e = is_accepted e && eqb e.call.thread t

abbrev pub own_steps : ℕ → List Event → ℕ
own_steps t events = how_many (is_step_of t) events

-- A thread publishes in its slot: an accepted go on out of Loaded. One that follows a failed second read is out of Loaded too.
pub record Publishes (s : State) (c : Call) (slot link : ℕ) : Type 0 where
  pub accepted : is_accepted (event_of s c) ≡ true
  pub operation : c.operation ≡ 7
  pub object : ℕ
  pub loaded : phase_of s c.thread ≡ Loaded slot link object

-- A call that sweeps its thread's slot, and its outcome. The handover is empty. Where there was nothing, the answer says so (3 with 7) and the second
-- read is next. Where there was something, the answer says so (3 with 6), and what stood there is carried by that thread and scanned from that
-- position, with the way back to the protect.
pub record Sweeps (s : State) (c : Call) (slot link : ℕ) (o : Outcome) : Type 0 where
  pub emptied : (slot_at o.state (position_of s c.thread slot)).handover ≡ 0
  pub found_nothing : (slot_at s (position_of s c.thread slot)).handover ≡ 0
      → (numbers_of o.answer ≡ numbers 3 7 (position_of s c.thread slot)) × (phase_of o.state c.thread ≡ Published slot link)
  pub found : (x : ℕ) → (slot_at s (position_of s c.thread slot)).handover ≡ x → 0 < x
      → (numbers_of o.answer ≡ numbers 3 6 (position_of s c.thread slot))
      × AtLook s.sizes (phase_of o.state c.thread) (Published slot link) x (position_of s c.thread slot)

-- What becomes, in any further calls, of an object that thread t carries at position p: it is freed by that thread, or left by it in a handover
-- from p on, in a step before which it carried it still, unless the thread has taken fewer than `most` steps of its own since. Until then it
-- carries it, at p or further on.
pub data Fate (s : State) (t p o most : ℕ) (calls : List Call) : Type 0 where
  carried : carried_by (phase_of (state_after s calls) t) ≡ o → p ≤ scans_at (phase_of (state_after s calls) t)
      → own_steps t (history s calls) < most → Fate s t p o most calls
  freed : (before after : List Call) (c : Call) → calls ≡ before ++ (c ∷ after) → c.thread ≡ t
      → carried_by (phase_of (state_after s before) t) ≡ o → own_steps t (history s before) < most
      → (step_of (state_after s before) c).answer ≡ Freed o → Fate s t p o most calls
  left : (before after : List Call) (c : Call) (q : ℕ) → calls ≡ before ++ (c ∷ after) → c.thread ≡ t
      → carried_by (phase_of (state_after s before) t) ≡ o → own_steps t (history s before) < most → p ≤ q → q < positions s.sizes
      → (slot_at (step_of (state_after s before) c).state q).handover ≡ o → Fate s t p o most calls
