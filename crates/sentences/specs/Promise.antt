-- What is promised of the text beside the contract of `tell`; which state it tells is said in crate `printed`. Each proof is a name; the lemmas
-- are in `Lemmas`.
use Rattle.std.specs.Prelude.{ℕ, ◌+◌, ◌*◌, ◌<◌, ◌≡◌, List, take}
use Rattle.schedule.specs.Input.{input_for_all}
use Rattle.sentences.specs.Sentence.{thread_of, slot_of}
use Rattle.sentences.specs.Told.{text_of}
use Rattle.sentences.specs.Lemmas.Positions as positions
use Rattle.sentences.specs.Lemmas.Enough as enough

-- "A slot's position is thread × H + slot": the thread and the slot that are told are those of the position.
pub position_told :
    (slots position : ℕ) → 0 < slots →
    (thread_of slots position * slots + slot_of slots position ≡ position) × (slot_of slots position < slots)
position_told = positions.position_told

-- The 60,020 bytes that decide the run's lines decide the sentences: what comes after them is never looked at.
pub enough_read : (input : List ℕ) → text_of (take input_for_all input) ≡ text_of input
enough_read = enough.enough_read
