-- The soundness check with its lists walked once, so that runs are computed in seconds. Nothing here has to be believed: it is shown to be the
-- definitions' own check, and the statements are over theirs.
use Rattle.std.specs.Prelude.{suc, ◌≡◌, Bool, cond, not, ◌&&◌, ◌∷◌, eqb, Option, Ok, Err}
use Rattle.machine.specs.declared.State.{State}
use Rattle.machine.specs.declared.Call.{Call}
use Rattle.machine.specs.declared.Outcome.{Outcome}
use Rattle.machine.specs.declared.Counted.{Counted}
use Rattle.machine.specs.declared.refusal.Refusal.{Refusal}
use Rattle.machine.specs.declared.refusal.Refusal.TheVariants.{Unsound}
use Rattle.basics.specs.Under.{all_under, walked, under_list}
use Rattle.basics.specs.Rows.{◌when◌, first_of}
use Rattle.entries.specs.Entries.{sizes_good, link_good, thread_good, slot_good, tag_good}
use Rattle.pool.specs.Quick.{quick_good, good_is_quick}
use Rattle.machine.specs.Parts.{link_at, thread_at, slot_at}
use Rattle.machine.specs.Soundness.{shaped, places_holding, sound}
use Rattle.machine.specs.Refusals.{state_rows, call_rows, refusals, refusal_of}
use Rattle.machine.specs.Step.{done_of, refused_or, step_of}
use Rattle.machine.specs.Count.{five_places, no_places, count_of}
use Rattle.edges.specs.Runs.{Machine}

unfoldable pub quick_sound : State → Bool
quick_sound s =
    shaped s &&
    sizes_good s.sizes &&
    all_under 16 (λ i. link_good s.sizes i (link_at s i)) &&
    all_under 8 (λ t. thread_good s.sizes t (thread_at s t)) &&
    all_under 32 (λ p. slot_good s.sizes p (slot_at s p)) &&
    walked (tag_good s.sizes) 0 0 240 s.tags &&
    quick_good s.sizes.objects s.pool &&
    all_under s.sizes.objects (λ k. eqb (places_holding s (suc k)) 1)

sound_is_quick : (s : State) → sound s ≡ quick_sound s
unfolding sound quick_sound
sound_is_quick s =
    λ i.
    shaped s &&
    sizes_good s.sizes &&
    all_under 16 (λ i. link_good s.sizes i (link_at s i)) &&
    all_under 8 (λ t. thread_good s.sizes t (thread_at s t)) &&
    all_under 32 (λ p. slot_good s.sizes p (slot_at s p)) &&
    under_list (tag_good s.sizes) 0 240 s.tags i &&
    good_is_quick s.sizes.objects s.pool i &&
    all_under s.sizes.objects (λ k. eqb (places_holding s (suc k)) 1)

-- the first line of the table by the quick check, the others as they are
unfoldable pub quick_refusal : State → Call → Option Refusal
quick_refusal s c = first_of ((Unsound when not (quick_sound s)) ∷ call_rows s c)

refusal_is_quick : (s : State) (c : Call) → refusal_of s c ≡ quick_refusal s c
unfolding refusal_of refusals state_rows quick_refusal
refusal_is_quick s c = λ i. first_of ((Unsound when not (sound_is_quick s i)) ∷ call_rows s c)

-- a step whose accepted calls are done by `done`
unfoldable pub quickly : (State → Call → Outcome) → Machine
quickly done s c = refused_or done s c (quick_refusal s c)

abbrev pub slowly : (State → Call → Outcome) → Machine
slowly done s c = refused_or done s c (refusal_of s c)

pub slow_is_quick : (done : State → Call → Outcome) → slowly done ≡ quickly done
unfolding quickly
slow_is_quick done = λ i s c. refused_or done s c (refusal_is_quick s c i)

pub step_is_quick : step_of ≡ quickly done_of
unfolding step_of
step_is_quick = slow_is_quick done_of

-- the count of the five places by the quick check
unfoldable pub quick_count : State → Counted
quick_count s =
    cond (quick_sound s)
    (record { places = five_places s; verdict = Ok tt })
    (record { places = no_places; verdict = Err Unsound })

pub count_is_quick : count_of ≡ quick_count
unfolding count_of quick_count
count_is_quick =
    λ i s.
    cond (sound_is_quick s i)
    (record { places = five_places s; verdict = Ok tt })
    (record { places = no_places; verdict = Err Unsound })

unfoldable pub quick_computes : Unit {0}
unfolding walked quick_good quick_sound quick_refusal quickly quick_count
quick_computes = tt
