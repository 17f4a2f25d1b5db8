-- A state as numbers, every entry of it, so that two states are told apart and a whole one is written down.
use Rattle.std.specs.Prelude.{ℕ, zero, suc, List, [], ◌∷◌, ◌++◌}
use Rattle.machine.specs.declared.State.{State}
use Rattle.entries.specs.declared.Thread.{Thread}
use Rattle.entries.specs.declared.Slot.{Slot}
use Rattle.entries.specs.declared.Phase.{Phase}
use Rattle.entries.specs.declared.Phase.TheVariants.{Idle, Loaded, Sweeping, Published, Draining, Look, Swap, SweepLook, SweepSwap}
use Rattle.machine.specs.declared.Started.{Started}
use Rattle.basics.specs.Counts.{bit}
use Rattle.machine.specs.Parts.{free_at}
use Rattle.machine.specs.Answers.{verdict_number}
use Rattle.edges.specs.Runs.{sizes_line}

-- the number of the case, in document 01's order and then those of request 2, and its fields, four at the most; 0 for idle
unfoldable pub phase_numbers : Phase → List ℕ
phase_numbers Idle = 0 ∷ 0 ∷ 0 ∷ 0 ∷ 0 ∷ []
phase_numbers (Loaded slot link object) = 1 ∷ slot ∷ link ∷ object ∷ 0 ∷ []
phase_numbers (Published slot link) = 2 ∷ slot ∷ link ∷ 0 ∷ 0 ∷ []
phase_numbers (Draining slot) = 3 ∷ slot ∷ 0 ∷ 0 ∷ 0 ∷ []
phase_numbers (Look object position) = 4 ∷ object ∷ position ∷ 0 ∷ 0 ∷ []
phase_numbers (Swap object position) = 5 ∷ object ∷ position ∷ 0 ∷ 0 ∷ []
phase_numbers (Sweeping slot link) = 6 ∷ slot ∷ link ∷ 0 ∷ 0 ∷ []
phase_numbers (SweepLook object position slot link) = 7 ∷ object ∷ position ∷ slot ∷ link ∷ []
phase_numbers (SweepSwap object position slot link) = 8 ∷ object ∷ position ∷ slot ∷ link ∷ []

-- six numbers for a thread
unfoldable pub thread_numbers : List Thread → List ℕ
thread_numbers [] = []
thread_numbers (thread ∷ threads) = (thread.hand ∷ phase_numbers thread.phase) ++ thread_numbers threads

-- three numbers for a slot
unfoldable pub slot_numbers : List Slot → List ℕ
slot_numbers [] = []
slot_numbers (slot ∷ slots) = slot.hazard ∷ bit slot.mark ∷ slot.handover ∷ slot_numbers slots

-- 1 for a free object, 0 for another, for n objects from o on
unfoldable pub free_numbers : State → ℕ → ℕ → List ℕ
free_numbers s o zero = []
free_numbers s o (suc n) = bit (free_at s o) ∷ free_numbers s (suc o) n

-- six lines: sizes, links, threads, slots, which objects are free, tags
unfoldable pub picture : State → List (List ℕ)
picture s =
    sizes_line s.sizes ∷
    s.links ∷
    thread_numbers s.threads ∷
    slot_numbers s.slots ∷
    free_numbers s 1 240 ∷
    s.tags ∷
    []

-- what start gives: its verdict's number, 0 for good, and the state
unfoldable pub start_picture : Started → List (List ℕ)
start_picture st = (verdict_number st.verdict ∷ []) ∷ picture st.state
