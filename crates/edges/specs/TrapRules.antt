-- Document 01, "Traps": a changed rule for each trap; and two more that nobody would accept.
use Rattle.std.specs.Prelude.{ℕ, suc, ◌-◌, Bool, true, false, cond, not, ◌&&◌, ◌||◌, leb, ltb, eqb}
use Rattle.machine.specs.declared.State.{State}
use Rattle.machine.specs.declared.Call.{Call}
use Rattle.entries.specs.declared.Phase.TheVariants.{Idle, Draining, Look}
use Rattle.machine.specs.declared.Outcome.{Outcome}
use Rattle.machine.specs.declared.Answer.TheVariants.{Refused, Begun, Working, Protected, Nothing, Finished, Left, Freed}
use Rattle.machine.specs.declared.refusal.Refusal.TheVariants.{NoneFree}
use Rattle.machine.specs.declared.Work.TheVariants.{NoMatch, Match, Displacement}
use Rattle.entries.specs.Sizes.{positions}
use Rattle.machine.specs.Parts.{slot_at, hand_of, phase_of, position_of, free_at, tag_of, with_thread, with_slot, with_pool, become}
use Rattle.basics.specs.Under.{all_under}
use Rattle.entries.specs.Entries.{with_hazard, with_handover}
use Rattle.entries.specs.Phases.{returns_to, looking, swapping}
use Rattle.pool.specs.Pool.{next_of, taken_out, put_back}
use Rattle.machine.specs.Calls.{outcome, take_of, protect_of}
use Rattle.machine.specs.Step.{done_of}
use Rattle.edges.specs.Rules.{Change, when_draining, goes_on, at_call, at_loaded, at_look, at_swap}

-- "Moving on after a swap": the displaced object is looked for one position on.
unfoldable pub hand_over_and_move_on : State → ℕ → ℕ → ℕ → Outcome
hand_over_and_move_on s t object p =
    let back = returns_to (phase_of s t) in
    let old = (slot_at s p).handover in
    let left = with_slot s p (with_handover (slot_at s p) object) in
    cond (eqb old 0)
    (outcome (become left t back) (Left object p))
    (outcome (become left t (looking back old (suc p))) (Working (Displacement p)))

abbrev pub moves_on : Change
moves_on = at_swap hand_over_and_move_on

-- "Marking a slot at publication, without the second read of the link.": the protect ends there, so request 2's step on the handover, which
-- comes between the two, is left out with it.
unfoldable pub publish_and_mark : State → ℕ → ℕ → ℕ → ℕ → Outcome
publish_and_mark s t slot link object =
    let p = position_of s t slot in
    outcome
    (become (with_slot s p (with_hazard (slot_at s p) object (not (eqb object 0)))) t Idle)
    (cond (eqb object 0) Nothing (Protected object (tag_of s object)))

abbrev pub marks_at_once : Change
marks_at_once = at_loaded publish_and_mark

-- "Draining before the hazard is zeroed": the two steps of a clear in the other order. The clear takes the handover, with the mark off as
-- document 01 has it, and the step after it zeroes the hazard. Where there was an object to take along, the hazard is zeroed with it.
unfoldable pub drain_at_clear : State → ℕ → ℕ → Outcome
drain_at_clear s t slot =
    let p = position_of s t slot in
    let object = (slot_at s p).handover in
    cond (eqb object 0)
    (outcome (become (with_slot s p (with_hazard (slot_at s p) (slot_at s p).hazard false)) t (Draining slot)) (Begun 0))
    (outcome (become (with_slot s p (record { hazard = 0; mark = false; handover = 0 })) t (Look object p)) (Begun 0))

unfoldable pub zero_after_drain : State → ℕ → ℕ → Outcome
zero_after_drain s t slot =
    let p = position_of s t slot in
    outcome (become (with_slot s p (with_hazard (slot_at s p) 0 false)) t Idle) Finished

abbrev pub drains_first : Change
drains_first =
    record {
      is_for = λ s c. eqb c.operation 6 || goes_on (when_draining (λ slot. true) false) s c;
      does =
          λ s c.
          cond (eqb c.operation 6)
          (drain_at_clear s c.thread c.slot)
          (when_draining (zero_after_drain s c.thread) (done_of s c) (phase_of s c.thread));
    }

-- a look where a test says whether the hazard there counts as a match, and is told as one, and another whether the scan ends in this step
unfoldable pub look_by : (State → ℕ → ℕ → ℕ → Bool) → (State → ℕ → ℕ → ℕ → Bool) → State → ℕ → ℕ → ℕ → Outcome
look_by matches ends s t object p =
    let back = returns_to (phase_of s t) in
    cond (ends s t object p)
    (outcome (become (with_pool s (put_back s.pool object) object 0) t back) (Freed object))
    (cond (matches s t object p)
    (outcome (become s t (swapping back object p)) (Working (Match p)))
    (outcome (become s t (looking back object (suc p))) (Working (NoMatch p))))

-- the hazard at the position is the object
abbrev pub met : State → ℕ → ℕ → ℕ → Bool
met s t object p = eqb (slot_at s p).hazard object

abbrev pub at_end : State → ℕ → ℕ → ℕ → Bool
at_end s t object p = not (ltb p (positions s.sizes))

-- no position after this one holds the object
unfoldable pub last_met : State → ℕ → ℕ → ℕ → Bool
last_met s t object p = met s t object p && all_under (positions s.sizes) (λ q. leb q p || not (met s t object q))

-- "Freeing at the last match of a scan"
abbrev pub frees_at_last : Change
frees_at_last = at_look (look_by met (λ s t object p. at_end s t object p || last_met s t object p))

-- the position is one of the thread's own
abbrev pub own : State → ℕ → ℕ → Bool
own s t p = leb (position_of s t 0) p && ltb p (position_of s t s.sizes.slots)

-- "scanning only other threads' slots"
abbrev pub skips_own : Change
skips_own = at_look (look_by (λ s t object p. met s t object p && not (own s t p)) at_end)

-- It protects another link than the one it is asked for: link L − 1 − l in the place of l.
abbrev pub mirrors_links : Change
mirrors_links = at_call 2 (λ s c. protect_of s c.thread c.slot (s.sizes.links - 1 - c.link))

-- object N goes to the hand of the last thread, if it is free, that hand is empty and another thread calls
unfoldable pub parked : State → ℕ → State
parked s t =
    let n = s.sizes.objects in
    let last = s.sizes.threads - 1 in
    cond (free_at s n && eqb (hand_of s last) 0 && not (eqb t last))
    (with_thread (with_pool s (taken_out s.pool n) n 0) last n (phase_of s last))
    s

-- It never hands object N out, and parks it in a hand.
unfoldable pub take_and_park : State → Call → Outcome
take_and_park s c =
    cond (eqb (next_of s.pool) s.sizes.objects)
    (outcome s (Refused NoneFree))
    (take_of (parked s c.thread) c.thread c.tag)

abbrev pub parks_the_last : Change
parks_the_last = at_call 1 take_and_park
