-- A position is its thread's slots and the slot's own number.
use Rattle.std.specs.Prelude.{ℕ, ◌+◌, ◌*◌, ◌<◌, ◌≡◌}
use Rattle.std.proofs.Common.{div-add-mod', mod-lt, arith, ne_eqb}
use Rattle.sentences.specs.Sentence.{thread_of, slot_of}

pub position_told :
    (slots position : ℕ) → 0 < slots →
    (thread_of slots position * slots + slot_of slots position ≡ position) × (slot_of slots position < slots)
unfolding thread_of slot_of
position_told slots position some =
    let there = ne_eqb slots 0 (λ e. omega arith) in
    (simp there (div-add-mod' position slots), simp there (mod-lt position some))
