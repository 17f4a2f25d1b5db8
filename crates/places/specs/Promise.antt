-- Of a state whose entries are good, an object stands in the row as often as in its links, hands, handovers and carried objects together.
use Rattle.std.specs.Prelude.{ℕ, suc, ◌+◌, ◌≡◌, List, length, get_or, eqb}
use Rattle.basics.specs.Counts.{count_under, occurrences}
use Rattle.basics.specs.Lists.{Each}
use Rattle.entries.specs.declared.Sizes.{Sizes}
use Rattle.entries.specs.declared.Thread.{Thread}
use Rattle.entries.specs.declared.Slot.{Slot}
use Rattle.entries.specs.Phases.{carried_by}
use Rattle.entries.specs.Entries.{idle_thread, empty_slot, link_good, thread_good, slot_good}
use Rattle.places.specs.Row.{row_of}
use Rattle.places.specs.Lemmas.Laying as laying

pub row_holds : (z : Sizes) (links : List ℕ) (threads : List Thread) (slots : List Slot)
    → length links ≡ 16 → length threads ≡ 8 → length slots ≡ 32
    → Each 16 (link_good z) 0 links → Each 8 (thread_good z) idle_thread threads → Each 32 (slot_good z) empty_slot slots
    → (k : ℕ)
    → count_under 64 (λ i. eqb (get_or (row_of z links threads slots) i 0) (suc k))
    ≡ occurrences (λ link. link) (suc k) links +
    occurrences (λ thread. thread.hand) (suc k) threads +
    occurrences (λ slot. slot.handover) (suc k) slots +
    occurrences (λ thread. carried_by thread.phase) (suc k) threads
row_holds = laying.row_holds
