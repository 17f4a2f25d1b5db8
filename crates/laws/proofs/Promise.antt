-- What holds of every call, on any state, and of every sound state. These are the statements to read; their proofs are names.
use Rattle.std.specs.Prelude.{ℕ, ◌≡◌, true, false, ◌↔◌}
use Rattle.machine.specs.declared.State.{State}
use Rattle.entries.specs.declared.Sizes.{Sizes}
use Rattle.machine.specs.declared.Call.{Call}
use Rattle.machine.specs.declared.Outcome.{Outcome}
use Rattle.machine.specs.declared.Answer.TheVariants.{Refused}
use Rattle.machine.specs.declared.refusal.Refusal.{Refusal}
use Rattle.machine.specs.declared.refusal.Refusal.TheVariants.{Unsound}
use Rattle.entries.specs.Sizes.{in_range}
use Rattle.machine.specs.Parts.{thread_at}
use Rattle.machine.specs.Soundness.{sound}
use Rattle.machine.specs.Fresh.{fresh_of, blank}
use Rattle.machine.specs.Refusals.{refusals}
use Rattle.machine.specs.Step.{step_of, done_of}
use Rattle.basics.specs.Rows.{FirstIs, NoneApplies}
use Rattle.laws.specs.Ways.{Way}
use Rattle.laws.specs.Promise.{RefusedKeepsState, FivePlacesSum}
use Rattle.laws.proofs.Lemmas.Inversion as inversion
use Rattle.laws.proofs.Lemmas.Kept as kept
use Rattle.laws.proofs.Lemmas.Others as others
use Rattle.laws.proofs.Lemmas.Refused as refused
use Rattle.laws.proofs.Lemmas.Starts as starts
use Rattle.laws.proofs.Lemmas.FivePlaces as five
use Rattle.machine.specs.Sound.{Sound, to_sound, from_sound}

-- Every call goes one of the ways that `Ways` lists.
pub way : (s : State) (c : Call) → Way s c (step_of s c)
way = inversion.way

-- "Refusals of a call return a = b = 0 and the same state."
pub refused_keeps_state : RefusedKeepsState
refused_keeps_state = refused.keeps_state_lem

-- "The first that applies is given, in this order, and never otherwise."
pub refused_exactly : (s : State) (c : Call) (refusal : Refusal) → (step_of s c).answer ≡ Refused refusal ↔ FirstIs (refusals s c) refusal
refused_exactly = refused.exactly

-- and a call that no line of the table refuses is done
pub otherwise_done : (s : State) (c : Call) → NoneApplies (refusals s c) → step_of s c ≡ done_of s c
otherwise_done = refused.otherwise_done

-- no call on a sound state is answered 19
pub sound_never_19 : (s : State) (c : Call) → sound s ≡ true → (step_of s c).answer ≡ Refused Unsound → ⊥
sound_never_19 = refused.sound_not_19

-- the fresh machine of any sizes in range is sound
pub fresh_is_sound : (z : Sizes) → in_range z ≡ true → sound (fresh_of z) ≡ true
fresh_is_sound = starts.fresh_sound

-- "The blank state, all sizes and entries 0, idle and unmarked, is sound too."
pub blank_is_sound : sound blank ≡ true
blank_is_sound = starts.blank_sound

-- and no other state with sizes out of range is
pub only_blank_besides : (s : State) → sound s ≡ true → in_range s.sizes ≡ false → s ≡ blank
only_blank_besides s h = starts.only_blank s (to_sound s h)

-- whichever way a call goes, it leaves a sound state sound
pub way_keeps_sound : (s : State) (c : Call) {o : Outcome} → Way s c o → Sound s → Sound o.state
way_keeps_sound = kept.kept

-- and the sizes as they were
pub way_keeps_sizes : (s : State) (c : Call) {o : Outcome} → Way s c o → o.state.sizes ≡ s.sizes
way_keeps_sizes = kept.sizes_kept

-- and what every other thread holds and is in the middle of
pub way_keeps_others : (s : State) (c : Call) (t : ℕ) → (t ≡ c.thread → ⊥) → {o : Outcome} → Way s c o → thread_at o.state t ≡ thread_at s t
way_keeps_others = others.others_kept

-- every call on a sound state leaves a sound state
pub step_keeps_sound : (s : State) (c : Call) → sound s ≡ true → sound (step_of s c).state ≡ true
step_keeps_sound s c h = from_sound (step_of s c).state (way_keeps_sound s c (way s c) (to_sound s h))

-- "The five places always sum to N."
pub five_places_sum : FivePlacesSum
five_places_sum s h = five.five_sum s (to_sound s h)
