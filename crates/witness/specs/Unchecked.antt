-- The machine with the first line of its table, 19, left out. It computes far sooner, since no step looks through all objects, and from a
-- sound state it is the same machine, because 19 never applies there. So a run of it from a fresh machine is a run of the machine. Nothing here
-- has to be believed.
use Rattle.std.specs.Prelude.{◌≡◌, refl, true, List, [], ◌∷◌}
use Rattle.entries.specs.declared.Sizes.{Sizes}
use Rattle.machine.specs.declared.State.{State}
use Rattle.machine.specs.declared.Call.{Call}
use Rattle.basics.specs.Rows.{first_of}
use Rattle.entries.specs.Sizes.{in_range}
use Rattle.machine.specs.Soundness.{sound}
use Rattle.machine.specs.Sound.{from_sound}
use Rattle.machine.specs.Fresh.{fresh_of}
use Rattle.machine.specs.Refusals.{call_rows}
use Rattle.machine.specs.Accepted.{else_the_rest}
use Rattle.machine.specs.Step.{done_of, refused_or, step_of}
use Rattle.laws.proofs.Promise.{fresh_is_sound, step_keeps_sound}
use Rattle.promise.specs.History.{Machine, history_by, state_by, history, state_after}
use Rattle.promise.specs.Run.{events, state}
use Rattle.promise.proofs.Moments.{always_sound}

unfoldable pub unchecked : Machine
unchecked s c = refused_or done_of s c (first_of (call_rows s c))

same_step : (s : State) (c : Call) → sound s ≡ true → unchecked s c ≡ step_of s c
unfolding unchecked step_of
same_step s c h = rw (else_the_rest s c h)

same_history : (s : State) → sound s ≡ true → (calls : List Call) → history_by unchecked s calls ≡ history s calls
unfolding history_by
same_history s h [] = refl
same_history s h (c ∷ calls) = rw (same_step s c h, same_history (step_of s c).state (step_keeps_sound s c h) calls)

same_state : (s : State) → sound s ≡ true → (calls : List Call) → state_by unchecked s calls ≡ state_after s calls
unfolding state_by
same_state s h [] = refl
same_state s h (c ∷ calls) = rw (same_step s c h) (same_state (step_of s c).state (step_keeps_sound s c h) calls)

-- of a run from the fresh machine: what happened, the state after it, and one call more
module _ (z : Sizes) (h : in_range z ≡ true) (calls : List Call) where
  pub same_events : history_by unchecked (fresh_of z) calls ≡ events z calls
  same_events = same_history (fresh_of z) (fresh_is_sound z h) calls

  pub same_end : state_by unchecked (fresh_of z) calls ≡ state z calls
  same_end = same_state (fresh_of z) (fresh_is_sound z h) calls

  pub same_next : (next : Call) → unchecked (state_by unchecked (fresh_of z) calls) next ≡ step_of (state z calls) next
  same_next next = rw same_end (same_step (state z calls) next (from_sound _ (always_sound z h calls)))
