-- The table of calls: what each does to the state when it is accepted, and its answer. Operation 7 is in GoOn.
use Rattle.std.specs.Prelude.{ℕ, false, cond, eqb}
use Rattle.machine.specs.declared.State.{State}
use Rattle.machine.specs.declared.Outcome.{Outcome}
use Rattle.machine.specs.declared.Answer.{Answer}
use Rattle.machine.specs.declared.Answer.TheVariants.{Taken, Begun, Swapped, Moved, Tag}
use Rattle.entries.specs.declared.Phase.TheVariants.{Loaded, Draining, Look}
use Rattle.entries.specs.Entries.{with_hazard}
use Rattle.pool.specs.Pool.{next_of, taken_out}
use Rattle.machine.specs.Parts.{link_at, hand_of, phase_of, slot_at, position_of, tag_of, with_link, with_thread, with_slot, with_pool, become}

abbrev pub outcome : State → Answer → Outcome
outcome s a = record { state = s; answer = a }

-- take: "lowest-numbered free object goes to the hand with this tag", Taken (object, 0)
unfoldable pub take_of : State → ℕ → ℕ → Outcome
take_of s t tag =
    let object = next_of s.pool in
    let taken = with_pool s (taken_out s.pool object) object tag in
    outcome (with_thread taken t object (phase_of s t)) (Taken object)

-- protect: "read the link; become Loaded", Begun (object read or 0, 0)
unfoldable pub protect_of : State → ℕ → ℕ → ℕ → Outcome
protect_of s t slot link =
    let object = link_at s link in
    outcome (become s t (Loaded slot link object)) (Begun object)

-- what the link must hold for a swap: "the slot's object (255: holds 0)"
unfoldable pub expected : State → ℕ → ℕ → ℕ
expected s t slot = cond (eqb slot 255) 0 (slot_at s (position_of s t slot)).hazard

-- swap: "if the link holds the slot's object (255: holds 0), link and hand change places", Swapped (object now in hand or 0, 0);
-- "otherwise 7 Moved (0, 0), nothing changed"
unfoldable pub swap_of : State → ℕ → ℕ → ℕ → Outcome
swap_of s t slot link =
    let object = link_at s link in
    let swapped = with_thread (with_link s link (hand_of s t)) t object (phase_of s t) in
    cond (eqb object (expected s t slot))
    (outcome swapped (Swapped object))
    (outcome s Moved)

-- read: no effect, Tag (tag, 0)
unfoldable pub read_of : State → ℕ → ℕ → Outcome
read_of s t slot =
    let object = (slot_at s (position_of s t slot)).hazard in
    outcome s (Tag (tag_of s object))

-- retire: "hand is emptied; become Look(that object, 0)", Begun (object, 0)
unfoldable pub retire_of : State → ℕ → Outcome
retire_of s t =
    let object = hand_of s t in
    outcome (with_thread s t 0 (Look object 0)) (Begun object)

-- clear: "hazard 0, mark off; become Draining", Begun (0, 0)
unfoldable pub clear_of : State → ℕ → ℕ → Outcome
clear_of s t slot =
    let p = position_of s t slot in
    let cleared = with_slot s p (with_hazard (slot_at s p) 0 false) in
    outcome (become cleared t (Draining slot)) (Begun 0)
