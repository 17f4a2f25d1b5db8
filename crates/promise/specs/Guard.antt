-- Why freeing is safe: what a protected slot holds is not free, and if it has been retired it lies at or below that slot.
use Rattle.std.specs.Prelude.{ℕ, ◌<◌, ◌≤◌, ◌≡◌, true, false}
use Rattle.machine.specs.declared.State.{State}
use Rattle.entries.specs.Sizes.{positions}
use Rattle.entries.specs.Phases.{carried_by, scans_at}
use Rattle.machine.specs.Parts.{slot_at, phase_of, free_at}

-- object o is guarded from position p
pub record Guard (s : State) (p o : ℕ) : Type 0 where
  pub some : 0 < o
  pub kept : free_at s o ≡ false
  pub handed : (q : ℕ) → q < positions s.sizes → (slot_at s q).handover ≡ o → q ≤ p
  pub carried : (t : ℕ) → t < s.sizes.threads → carried_by (phase_of s t) ≡ o → scans_at (phase_of s t) ≤ p

-- and so is what every protected slot holds
abbrev pub Guarded : State → Type 0
Guarded s = (p : ℕ) → p < positions s.sizes → (slot_at s p).mark ≡ true → Guard s p (slot_at s p).hazard
