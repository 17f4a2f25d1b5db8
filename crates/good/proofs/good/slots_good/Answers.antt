-- `slots_good` meets its contract: those within the sizes are in range, and those beyond them empty.
use Rattle.std.proofs.Common.{◌≡◌, refl, min, length, take, drop, rules, tests, ◌∙◌, sym}
use Rattle.std.specs.List.{list_all}
use Rattle.std.proofs.lemmas.Iterator.{YieldsList-from_slice}
use Rattle.std.proofs.lemmas.Iterator.Search.{all_from_yields_List}
use Rattle.basics.specs.Under.{under_sides_least}
use Rattle.basics.specs.Tests.{and_not, and_then}
use Rattle.entries.specs.declared.Slot.{Slot}
use Rattle.entries.specs.Sizes.{positions}
use Rattle.entries.specs.Entries.{empty_slot, slot_in_range, slot_empty, slot_good}
use Rattle.good.proofs.good.slots_good.Goals as goal

pub returns-then-all : goal.returns-then-all
unfolding slot_good
returns-then-all c =
    let a = c.args in
    let m = c.min.result in
    let within = (λ (slot : Slot). slot_in_range a.z.objects slot) in
    let beyond = (λ (slot : Slot). slot_empty slot) in
    let long : length a.slots ≡ 32 = search rules in
    let end : m ≡ min (positions a.z) 32 = search rules in
    let first : c.all.result ≡ list_all within (take m a.slots) =
    all_from_yields_List within _ _ c.all.result c.all.ensures.ran (YieldsList-from_slice (take m a.slots) cc) (λ x b q k. search (rules, tests))
    in
    let second : c.all-then-all.result ≡ list_all beyond (drop m a.slots) =
    all_from_yields_List beyond _ _ c.all-then-all.result c.all-then-all.ensures.ran (YieldsList-from_slice (drop m a.slots) cc) (λ x b q k. search (rules, tests))
    in
    second ∙ sym (and_then (sym first ∙ c.if-all.true) refl) ∙ rw end (under_sides_least within beyond empty_slot (positions a.z) 32 a.slots long)

pub returns-else-all : goal.returns-else-all
unfolding slot_good
returns-else-all c =
    let a = c.args in
    let m = c.min.result in
    let within = (λ (slot : Slot). slot_in_range a.z.objects slot) in
    let beyond = (λ (slot : Slot). slot_empty slot) in
    let long : length a.slots ≡ 32 = search rules in
    let end : m ≡ min (positions a.z) 32 = search rules in
    let first : c.all.result ≡ list_all within (take m a.slots) =
    all_from_yields_List within _ _ c.all.result c.all.ensures.ran (YieldsList-from_slice (take m a.slots) cc) (λ x b q k. search (rules, tests))
    in
    c.if-all.false ∙ sym (and_not (list_all beyond (drop m a.slots)) (sym first ∙ c.if-all.false)) ∙
    rw end (under_sides_least within beyond empty_slot (positions a.z) 32 a.slots long)
