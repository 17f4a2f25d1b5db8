-- "Go on": one step, by what the thread is in the middle of, as document 01 has it and request 2 changes it. A scan goes on and ends by what its
-- phase returns to: idle where a retire or a clear began it, Published where the step after a publication did. 3 Working says what was done and, by
-- request 7, "the position concerned, the one looked at and not the next".
use Rattle.std.specs.Prelude.{ℕ, suc, true, false, cond, ltb, eqb}
use Rattle.machine.specs.declared.State.{State}
use Rattle.machine.specs.declared.Outcome.{Outcome}
use Rattle.machine.specs.declared.Answer.{Answer}
use Rattle.machine.specs.declared.Answer.TheVariants.{Refused, Working, Protected, Nothing, Finished, Left, Freed}
use Rattle.machine.specs.declared.refusal.Refusal.TheVariants as refusal
use Rattle.machine.specs.declared.Work.TheVariants.{Publication, FailedRead, NoMatch, Match, Displacement, Found, FoundNothing}
use Rattle.entries.specs.declared.Phase.{Phase}
use Rattle.entries.specs.declared.Phase.TheVariants.{Idle, Loaded, Sweeping, Published, Draining, Look, Swap, SweepLook, SweepSwap}
use Rattle.entries.specs.Sizes.{positions}
use Rattle.entries.specs.Entries.{with_hazard, with_handover}
use Rattle.entries.specs.Phases.{is_idle, returns_to, looking, swapping}
use Rattle.pool.specs.Pool.{put_back}
use Rattle.machine.specs.Parts.{link_at, phase_of, slot_at, position_of, tag_of, with_slot, with_pool, become}
use Rattle.machine.specs.Calls.{outcome}

-- "Loaded: store the object in the hazard, mark off", 3. Published comes after "one further step on that slot's handover".
unfoldable pub publish_of : State → ℕ → ℕ → ℕ → ℕ → Outcome
publish_of s t slot link object =
    let p = position_of s t slot in
    let stored = with_slot s p (with_hazard (slot_at s p) object false) in
    outcome (become stored t (Sweeping slot link)) (Working (Publication p))

-- "Published: read the link again. Equal to the hazard and not 0: mark on, idle, 4 Protected (object, tag). Equal and 0: idle, 5 Nothing
-- (0, 0). Different: Loaded with the value read, 3."
unfoldable pub confirm_of : State → ℕ → ℕ → ℕ → Outcome
confirm_of s t slot link =
    let p = position_of s t slot in
    let object = link_at s link in
    let hazard = (slot_at s p).hazard in
    let marked = with_slot s p (with_hazard (slot_at s p) hazard true) in
    let protected = outcome (become marked t Idle) (Protected object (tag_of s object)) in
    let none = outcome (become s t Idle) Nothing in
    let again = outcome (become s t (Loaded slot link object)) (Working (FailedRead p)) in
    cond (eqb object hazard) (cond (eqb object 0) none protected) again

-- what is answered where there was nothing, by what the thread goes on to: "idle, 9 Finished (0, 0)", or "answer 3 and go to Published"
unfoldable pub nothing_found : Phase → ℕ → Answer
nothing_found back p = cond (is_idle back) Finished (Working (FoundNothing p))

-- "take the handover and put 0 there": it was 0, and the thread becomes `back`; otherwise what stood there is scanned from this slot's position, with
-- the way back to it, 3
unfoldable pub empty_of : State → ℕ → ℕ → Phase → Outcome
empty_of s t slot back =
    let p = position_of s t slot in
    let object = (slot_at s p).handover in
    let emptied = with_slot s p (with_handover (slot_at s p) 0) in
    cond (eqb object 0)
    (outcome (become emptied t back) (nothing_found back p))
    (outcome (become emptied t (looking back object p)) (Working (Found p)))

-- "After each publication the thread now takes one further step on that slot's handover, as Draining does: it found 0, answer 3 and go to
-- Published; otherwise it scans from that position, and the answer 10 or 11 returns the thread to Published and not to idle."
unfoldable pub sweep_of : State → ℕ → ℕ → ℕ → Outcome
sweep_of s t slot link = empty_of s t slot (Published slot link)

-- "Draining: take the handover and put 0 there. It was 0: idle, 9 Finished (0, 0). Otherwise Look(that object, this slot's position), 3."
unfoldable pub drain_of : State → ℕ → ℕ → Outcome
drain_of s t slot = empty_of s t slot Idle

-- "Look, position below T × H: if the hazard there is the object, Swap at that position; otherwise Look one position on. 3 both times.
-- Look at T × H: object becomes free, tag 0, idle, 11 Freed (object, 0)." In place of idle: what the scan returns to.
unfoldable pub look_of : State → ℕ → ℕ → ℕ → Outcome
look_of s t object p =
    let back = returns_to (phase_of s t) in
    let met = outcome (become s t (swapping back object p)) (Working (Match p)) in
    let passed = outcome (become s t (looking back object (suc p))) (Working (NoMatch p)) in
    let freed = become (with_pool s (put_back s.pool object) object 0) t back in
    cond (ltb p (positions s.sizes))
    (cond (eqb (slot_at s p).hazard object) met passed)
    (outcome freed (Freed object))

-- "Swap: put the object in that handover. It held 0 before: idle, 10 Left (object, position). Otherwise Look(the old one, the same
-- position), 3." In place of idle: what the scan returns to.
unfoldable pub hand_over_of : State → ℕ → ℕ → ℕ → Outcome
hand_over_of s t object p =
    let back = returns_to (phase_of s t) in
    let old = (slot_at s p).handover in
    let left = with_slot s p (with_handover (slot_at s p) object) in
    cond (eqb old 0)
    (outcome (become left t back) (Left object p))
    (outcome (become left t (looking back old p)) (Working (Displacement p)))

-- An idle thread has nothing to go on with; refusal 27 comes before this case is reached.
unfoldable pub go_on_from : State → ℕ → Phase → Outcome
go_on_from s t Idle = outcome s (Refused refusal.Idle)
go_on_from s t (Loaded slot link object) = publish_of s t slot link object
go_on_from s t (Sweeping slot link) = sweep_of s t slot link
go_on_from s t (Published slot link) = confirm_of s t slot link
go_on_from s t (Draining slot) = drain_of s t slot
go_on_from s t (Look object p) = look_of s t object p
go_on_from s t (Swap object p) = hand_over_of s t object p
go_on_from s t (SweepLook object p slot link) = look_of s t object p
go_on_from s t (SweepSwap object p slot link) = hand_over_of s t object p

unfoldable pub go_on_of : State → ℕ → Outcome
go_on_of s t = go_on_from s t (phase_of s t)
