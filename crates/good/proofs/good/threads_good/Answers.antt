-- `threads_good` meets its contract: those within the sizes are in range, and those beyond them empty.
use Rattle.std.proofs.Common.{◌≡◌, refl, min, length, take, drop, rules, tests, ◌∙◌, sym}
use Rattle.std.specs.List.{list_all}
use Rattle.std.proofs.lemmas.Iterator.{YieldsList-from_slice}
use Rattle.std.proofs.lemmas.Iterator.Search.{all_from_yields_List}
use Rattle.basics.specs.Under.{under_sides_least}
use Rattle.basics.specs.Tests.{and_not, and_then}
use Rattle.entries.specs.declared.Thread.{Thread}
use Rattle.entries.specs.Entries.{idle_thread, thread_in_range, thread_empty, thread_good}
use Rattle.good.proofs.good.threads_good.Goals as goal

pub returns-then-all : goal.returns-then-all
unfolding thread_good
returns-then-all c =
    let a = c.args in
    let m = c.min.result in
    let within = (λ (thread : Thread). thread_in_range a.z thread) in
    let beyond = (λ (thread : Thread). thread_empty thread) in
    let long : length a.threads ≡ 8 = search rules in
    let end : m ≡ min a.z.threads 8 = search rules in
    let first : c.all.result ≡ list_all within (take m a.threads) =
    all_from_yields_List within _ _ c.all.result c.all.ensures.ran (YieldsList-from_slice (take m a.threads) cc) (λ x b q k. search (rules, tests))
    in
    let second : c.all-then-all.result ≡ list_all beyond (drop m a.threads) =
    all_from_yields_List beyond _ _ c.all-then-all.result c.all-then-all.ensures.ran (YieldsList-from_slice (drop m a.threads) cc) (λ x b q k. search (rules, tests))
    in
    second ∙ sym (and_then (sym first ∙ c.if-all.true) refl) ∙ rw end (under_sides_least within beyond idle_thread a.z.threads 8 a.threads long)

pub returns-else-all : goal.returns-else-all
unfolding thread_good
returns-else-all c =
    let a = c.args in
    let m = c.min.result in
    let within = (λ (thread : Thread). thread_in_range a.z thread) in
    let beyond = (λ (thread : Thread). thread_empty thread) in
    let long : length a.threads ≡ 8 = search rules in
    let end : m ≡ min a.z.threads 8 = search rules in
    let first : c.all.result ≡ list_all within (take m a.threads) =
    all_from_yields_List within _ _ c.all.result c.all.ensures.ran (YieldsList-from_slice (take m a.threads) cc) (λ x b q k. search (rules, tests))
    in
    c.if-all.false ∙ sym (and_not (list_all beyond (drop m a.threads)) (sym first ∙ c.if-all.false)) ∙
    rw end (under_sides_least within beyond idle_thread a.z.threads 8 a.threads long)
