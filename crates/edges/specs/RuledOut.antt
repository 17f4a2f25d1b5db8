-- "Ruled out by name: a machine that refuses all, one that answers 3 always, one that returns its state unchanged, and one that finishes a
-- whole scan in the retire step and then only answers Working". Each differs from the machine in some call after some calls:
-- proofs/RuledOut.
use Rattle.std.specs.Prelude.{ℕ, zero, suc, ◌≡◌, cond, ◌&&◌, List, eqb}
use Rattle.entries.specs.declared.Sizes.{Sizes}
use Rattle.machine.specs.declared.State.{State}
use Rattle.machine.specs.declared.Call.{Call}
use Rattle.machine.specs.declared.Answer.{Answer}
use Rattle.machine.specs.declared.Answer.TheVariants.{Refused, Begun, Working}
use Rattle.machine.specs.declared.refusal.Refusal.{Refusal}
use Rattle.machine.specs.declared.Work.{Work}
use Rattle.machine.specs.Parts.{hand_of, phase_of}
use Rattle.entries.specs.Phases.{is_idle}
use Rattle.machine.specs.Calls.{outcome, retire_of}
use Rattle.machine.specs.GoOn.{go_on_of}
use Rattle.machine.specs.Answers.{refusal_number}
use Rattle.machine.specs.Refusals.{refusal_of}
use Rattle.machine.specs.Step.{step_of}
use Rattle.edges.specs.Runs.{sizes, call, Machine, started, after}

-- "a machine that refuses all", for whatever reasons
unfoldable pub refuses_all : (State → Call → Refusal) → Machine
refuses_all refusal s c = outcome s (Refused (refusal s c))

-- "one that answers 3 always", to whatever state it goes and whatever it says that it did
unfoldable pub answers_working : (State → Call → State) → (State → Call → Work) → Machine
answers_working next work s c = outcome (next s c) (Working (work s c))

-- "one that returns its state unchanged", whatever it answers
unfoldable pub keeps_state : (State → Call → Answer) → Machine
keeps_state answer s c = outcome s (answer s c)

-- the thread goes on until it is idle, at most so many times
unfoldable pub whole_scan : ℕ → State → ℕ → State
whole_scan zero s t = s
whole_scan (suc most) s t = cond (is_idle (phase_of s t)) s (whole_scan most (go_on_of s t).state t)

-- "one that finishes a whole scan in the retire step and then only answers Working", whatever it says that it did: a go on of an idle thread is
-- no refusal there. Alone, a scan takes three steps at the most at each of 32 positions (a look, a swap, a look at what was displaced), and one
-- to free.
unfoldable pub scans_at_once : (State → Call → Work) → Machine
scans_at_once work s c =
    let refusal = refusal_number (refusal_of s c) in
    cond (eqb c.operation 5 && eqb refusal 0)
    (outcome (whole_scan 97 (retire_of s c.thread).state c.thread) (Begun (hand_of s c.thread)))
    (cond (eqb c.operation 7 && eqb refusal 27) (outcome s (Working (work s c))) (step_of s c))

-- The machine of document 01 is another: after some calls from a fresh machine there is a call with another outcome.
pub record Differs (machine : Machine) : Type 0 where
  pub sizes : Sizes
  pub before : List Call
  pub call : Call
  pub apart : machine (after step_of (started sizes) before) call ≡ step_of (after step_of (started sizes) before) call → ⊥

-- one of each size
abbrev pub smallest : Sizes
smallest = sizes 1 1 1 1

abbrev pub take : Call
take = call 0 1 0 0 7

abbrev pub retire : Call
retire = call 0 5 0 0 0
