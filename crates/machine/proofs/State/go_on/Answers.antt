-- `go_on` picks the case by the phase. Soundness says that what the phase carries is in range, which is what each case asks.
use Prim.Native.Nat.{ℕ, ◌<◌, ◌≤◌}
use native.Mathlib.Omega.{arith}
use mathlib.Core.Path.{◌≡◌, subst}
use mathlib.Core.Bool.{true}
use mathlib.Core.Logic.{⊎_elim}
use Rattle.entries.specs.declared.Phase.{Phase}
use Rattle.entries.specs.Phases.{phase_in_range}
use Rattle.entries.specs.PhaseFacts.{loaded_facts, sweeping_facts, published_facts, draining_facts, look_facts, swap_facts, sweep_look_facts, sweep_swap_facts}
use Rattle.machine.specs.declared.State.{State}
use Rattle.machine.specs.Soundness.{sound}
use Rattle.machine.specs.Parts.{phase_of, position_of}
use Rattle.machine.specs.Sound.{Ranged, to_sound, limits, link_sixteen, position_32, position_fits, link_holds, its_phase}
use Rattle.machine.proofs.State.go_on.Goals as goal

-- What a sound state says of a thread of its own and of what it is in the middle of.
module _ (s : State) (t : ℕ) (good : sound s ≡ true) (inside : t < s.sizes.threads) where
  ranged : Ranged s
  ranged = (to_sound _ good).ranged

  has_slot : (slot : ℕ) → slot < s.sizes.slots → position_of s t slot < 32
  has_slot slot h = position_fits _ ranged _ slot inside h

  -- the phase is read at the index that the caller's number makes
  in_range : (i : ℕ) → i ≡ t → (phase : Phase) → phase_of s i ≡ phase → phase_in_range s.sizes phase ≡ true
  in_range i same phase e =
      let is : phase_of s t ≡ phase = subst (λ (k : ℕ). phase_of s k ≡ phase) same e in rw is at (its_phase _ ranged _ inside)

pub publish-requires : goal.publish-requires
publish-requires c =
    let h = c.requires in
    has_slot _ _ h.0 h.1 _ (loaded_facts _ _ _ _ (in_range _ _ h.0 h.1 _ c.from.ensures _ c.in-Loaded.is)).0

pub empty-requires : goal.empty-requires
empty-requires c =
    let h = c.requires in
    has_slot _ _ h.0 h.1 _ (sweeping_facts _ _ _ (in_range _ _ h.0 h.1 _ c.from.ensures _ c.in-Sweeping.is)).0

pub confirm-requires : goal.confirm-requires
confirm-requires c =
    let h = c.requires in
    let r = ranged _ _ h.0 h.1 in
    let facts = published_facts _ _ _ (in_range _ _ h.0 h.1 _ c.from.ensures _ c.in-Published.is) in
    let b = limits _ r in
    let held = link_holds _ r _ facts.1 in
    record { link_bound = link_sixteen _ r _ facts.1; slot_bound = has_slot _ _ h.0 h.1 _ facts.0; object_bound = omega arith }

pub empty-requires-in-Draining : goal.empty-requires-in-Draining
empty-requires-in-Draining c =
    let h = c.requires in
    has_slot _ _ h.0 h.1 _ (draining_facts _ _ (in_range _ _ h.0 h.1 _ c.from.ensures _ c.in-Draining.is))

-- the two kinds of scan come to one call: which of them it was says what is carried and where
pub hand_over-requires : goal.hand_over-requires
hand_over-requires c =
    let h = c.requires in
    let below =
    ⊎_elim
    (λ e. (swap_facts _ _ _ (in_range _ _ h.0 h.1 _ c.from.ensures _ e)).1)
    (λ w. (sweep_swap_facts _ _ _ _ _ (in_range _ _ h.0 h.1 _ c.from.ensures _ w.2)).1)
    c.in-Swap.is
    in
    position_32 _ (ranged _ _ h.0 h.1) _ below

pub look-requires : goal.look-requires
look-requires c =
    let h = c.requires in
    let b = limits _ (ranged _ _ h.0 h.1) in
    let inside : (0 < c.in-Look.object) × (c.in-Look.object ≤ c.args.self.sizes.objects) =
    ⊎_elim
    (λ e. let scan = (look_facts _ _ _ (in_range _ _ h.0 h.1 _ c.from.ensures _ e)).0 in (scan.some, scan.most))
    (λ w. let scan = (sweep_look_facts _ _ _ _ _ (in_range _ _ h.0 h.1 _ c.from.ensures _ w.2)).0 in (scan.some, scan.most))
    c.in-Look.is
    in
    record { positions_bound = b.positions; object_bound = (inside.0, omega arith) }
