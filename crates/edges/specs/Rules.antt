-- The machine with one rule changed: for some calls it does something else, and for all others what document 01 and requests 2 and 7 say.
use Rattle.std.specs.Prelude.{ℕ, ◌≡◌, refl, Bool, true, false, cond, ◌&&◌, eqb, Option, Some, None}
use Rattle.machine.specs.declared.State.{State}
use Rattle.machine.specs.declared.Call.{Call}
use Rattle.machine.specs.declared.Outcome.{Outcome}
use Rattle.machine.specs.declared.refusal.Refusal.{Refusal}
use Rattle.entries.specs.declared.Phase.{Phase}
use Rattle.entries.specs.declared.Phase.TheVariants.{Idle, Loaded, Sweeping, Published, Draining, Look, Swap, SweepLook, SweepSwap}
use Rattle.machine.specs.Parts.{phase_of}
use Rattle.machine.specs.Refusals.{refusal_of}
use Rattle.machine.specs.Step.{done_of, refused_or, step_of}
use Rattle.edges.specs.Runs.{Machine}

-- which accepted calls the rule is for, and what they do instead
pub record Change : Type 0 where
  pub is_for : State → Call → Bool
  pub does : State → Call → Outcome

unfoldable pub done_by : Change → State → Call → Outcome
done_by change s c = cond (change.is_for s c) (change.does s c) (done_of s c)

unfoldable pub machine_of : Change → Machine
machine_of change s c = refused_or (done_by change) s c (refusal_of s c)

-- A changed machine differs from the machine in the calls that the changed rule is for, and in no other.
pub one_rule_only : (change : Change) (s : State) (c : Call) → change.is_for s c ≡ false → machine_of change s c ≡ step_of s c
unfolding machine_of done_by step_of refused_or
one_rule_only change s c other = by_table (refusal_of s c)
  where
    by_table : (given : Option Refusal) → refused_or (done_by change) s c given ≡ refused_or done_of s c given
    by_table None = rw other
    by_table (Some refusal) = refl

-- no rule changed
abbrev pub base : Change
base = record { is_for = λ s c. false; does = done_of }

-- what an operation does
abbrev pub at_call : ℕ → (State → Call → Outcome) → Change
at_call operation does = record { is_for = λ s c. eqb c.operation operation; does = does }

-- what a phase holds, where it is the one that is meant; a look of the scan after a publication is a look, and a swap of it a swap

unfoldable pub when_loaded : {A : Type 0} → (ℕ → ℕ → ℕ → A) → A → Phase → A
when_loaded f other Idle = other
when_loaded f other (Loaded slot link object) = f slot link object
when_loaded f other (Sweeping slot link) = other
when_loaded f other (Published slot link) = other
when_loaded f other (Draining slot) = other
when_loaded f other (Look object p) = other
when_loaded f other (Swap object p) = other
when_loaded f other (SweepLook object p slot link) = other
when_loaded f other (SweepSwap object p slot link) = other

unfoldable pub when_draining : {A : Type 0} → (ℕ → A) → A → Phase → A
when_draining f other Idle = other
when_draining f other (Loaded slot link object) = other
when_draining f other (Sweeping slot link) = other
when_draining f other (Published slot link) = other
when_draining f other (Draining slot) = f slot
when_draining f other (Look object p) = other
when_draining f other (Swap object p) = other
when_draining f other (SweepLook object p slot link) = other
when_draining f other (SweepSwap object p slot link) = other

unfoldable pub when_look : {A : Type 0} → (ℕ → ℕ → A) → A → Phase → A
when_look f other Idle = other
when_look f other (Loaded slot link object) = other
when_look f other (Sweeping slot link) = other
when_look f other (Published slot link) = other
when_look f other (Draining slot) = other
when_look f other (Look object p) = f object p
when_look f other (Swap object p) = other
when_look f other (SweepLook object p slot link) = f object p
when_look f other (SweepSwap object p slot link) = other

unfoldable pub when_swap : {A : Type 0} → (ℕ → ℕ → A) → A → Phase → A
when_swap f other Idle = other
when_swap f other (Loaded slot link object) = other
when_swap f other (Sweeping slot link) = other
when_swap f other (Published slot link) = other
when_swap f other (Draining slot) = other
when_swap f other (Look object p) = other
when_swap f other (Swap object p) = f object p
when_swap f other (SweepLook object p slot link) = other
when_swap f other (SweepSwap object p slot link) = f object p

-- a go on of a thread in such a phase
abbrev pub goes_on : (Phase → Bool) → State → Call → Bool
goes_on meant s c = eqb c.operation 7 && meant (phase_of s c.thread)

-- go on from Loaded, from Look and from Swap: the state and the thread, then what the phase holds

abbrev pub at_loaded : (State → ℕ → ℕ → ℕ → ℕ → Outcome) → Change
at_loaded does =
    record {
      is_for = goes_on (when_loaded (λ slot link object. true) false);
      does = λ s c. when_loaded (does s c.thread) (done_of s c) (phase_of s c.thread);
    }

abbrev pub at_look : (State → ℕ → ℕ → ℕ → Outcome) → Change
at_look does =
    record {
      is_for = goes_on (when_look (λ object p. true) false);
      does = λ s c. when_look (does s c.thread) (done_of s c) (phase_of s c.thread);
    }

abbrev pub at_swap : (State → ℕ → ℕ → ℕ → Outcome) → Change
at_swap does =
    record {
      is_for = goes_on (when_swap (λ object p. true) false);
      does = λ s c. when_swap (does s c.thread) (done_of s c) (phase_of s c.thread);
    }
