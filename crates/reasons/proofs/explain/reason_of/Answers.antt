-- `reason_of` meets its contract: each return is what the searches up to there pick.
use native.Mathlib.Omega.{arith}
use Rattle.std.proofs.Common.{ap, ◌∙◌, eqb, rules}
use borrow.Author.Tests.{tests}
use Rattle.entries.specs.Sizes.{positions}
use Rattle.entries.specs.Phases.{carried_by, scans_at}
use Rattle.entries.specs.Entries.{idle_thread, empty_slot}
use Rattle.entries.specs.declared.Slot.{Slot}
use Rattle.entries.specs.declared.Thread.{Thread}
use Rattle.reasons.specs.Reasons.{guard_of}
use Rattle.reasons.proofs.Found.{found_beside, number_of, some_number}
use Rattle.reasons.proofs.Picks.{row_limited, links_fit, threads_fit, slots_fit, in_link, in_hand, is_carried, left_there, in_handover}
use Rattle.reasons.proofs.explain.reason_of.Goals as goal

pub returns-in-Some : goal.returns-in-Some
returns-in-Some c =
    let link = found_beside c.args.state.sizes.links c.args.state.links 0 (λ held. eqb held c.args.object) (links_fit _ _ c.requires) {s = c.zip.result} c.find.new.self c.zip.ensures.first c.zip.ensures.second.0 c.find.ensures.ran (λ x b q k. search (rules, tests)) in
    in_link _ _ _ link.0 _ (ap number_of c.in-Some.is)

pub returns-in-Some-find : goal.returns-in-Some-find
returns-in-Some-find c =
    let link = found_beside c.args.state.sizes.links c.args.state.links 0 (λ held. eqb held c.args.object) (links_fit _ _ c.requires) {s = c.zip.result} c.find.new.self c.zip.ensures.first c.zip.ensures.second.0 c.find.ensures.ran (λ x b q k. search (rules, tests)) in
    let hand = found_beside c.args.state.sizes.threads c.args.state.threads idle_thread (λ thread. eqb thread.hand c.args.object) (threads_fit _ _ c.requires) {s = c.zip-2.result} c.find-2.new.self c.zip-2.ensures.first c.zip-2.ensures.second.0 c.find-2.ensures.ran (λ x b q k. search (rules, tests)) in
    in_hand _ _ _ link.0 (ap number_of c.in_default.is) _ hand.0 _ (ap number_of c.in-Some-find.is)

pub returns-in-Some-carrier : goal.returns-in-Some-carrier
returns-in-Some-carrier c =
    let link = found_beside c.args.state.sizes.links c.args.state.links 0 (λ held. eqb held c.args.object) (links_fit _ _ c.requires) {s = c.zip.result} c.find.new.self c.zip.ensures.first c.zip.ensures.second.0 c.find.ensures.ran (λ x b q k. search (rules, tests)) in
    let hand = found_beside c.args.state.sizes.threads c.args.state.threads idle_thread (λ thread. eqb thread.hand c.args.object) (threads_fit _ _ c.requires) {s = c.zip-2.result} c.find-2.new.self c.zip-2.ensures.first c.zip-2.ensures.second.0 c.find-2.ensures.ran (λ x b q k. search (rules, tests)) in
    let carrier = found_beside c.args.state.sizes.threads c.args.state.threads idle_thread (λ thread. eqb (carried_by thread.phase) c.args.object) (threads_fit _ _ c.requires) {s = c.zip-3.result} c.find-carrier.new.self c.zip-3.ensures.first c.zip-3.ensures.second.0 c.find-carrier.ensures.ran (λ x b q k. search (rules, tests)) in
    is_carried _ _ _ link.0 (ap number_of c.in_default.is) _ hand.0 (ap number_of c.in_default-find.is) _ carrier.0 _ (ap number_of c.in-Some-carrier.is)
    _ (c.scan_position-position.ensures ∙ ap (λ (thread : Thread). scans_at thread.phase) (carrier.1 _ c.in-Some-carrier.is))

pub overflow_mul-positions : goal.overflow_mul-positions
overflow_mul-positions c =
    let most = row_limited _ _ c.requires in
    record { fits = omega arith }

pub unwrap-position-requires : goal.unwrap-position-requires
unwrap-position-requires c =
    let link = found_beside c.args.state.sizes.links c.args.state.links 0 (λ held. eqb held c.args.object) (links_fit _ _ c.requires) {s = c.zip.result} c.find.new.self c.zip.ensures.first c.zip.ensures.second.0 c.find.ensures.ran (λ x b q k. search (rules, tests)) in
    let hand = found_beside c.args.state.sizes.threads c.args.state.threads idle_thread (λ thread. eqb thread.hand c.args.object) (threads_fit _ _ c.requires) {s = c.zip-2.result} c.find-2.new.self c.zip-2.ensures.first c.zip-2.ensures.second.0 c.find-2.ensures.ran (λ x b q k. search (rules, tests)) in
    let carrier = found_beside c.args.state.sizes.threads c.args.state.threads idle_thread (λ thread. eqb (carried_by thread.phase) c.args.object) (threads_fit _ _ c.requires) {s = c.zip-3.result} c.find-carrier.new.self c.zip-3.ensures.first c.zip-3.ensures.second.0 c.find-carrier.ensures.ran (λ x b q k. search (rules, tests)) in
    let left = found_beside (positions c.args.state.sizes) c.args.state.slots empty_slot (λ slot. eqb slot.handover c.args.object) (slots_fit _ _ c.requires) {s = c.zip-4.result} c.find-left_with.new.self c.zip-4.ensures.first c.zip-4.ensures.second.0 c.find-left_with.ensures.ran (λ x b q k. search (rules, tests)) in
    some_number _ (left_there _ _ _ link.0 (ap number_of c.in_default.is) _ hand.0 (ap number_of c.in_default-find.is) _ carrier.0 (ap number_of c.in_default-carrier.is) _ left.0 c.requires)

pub returns : goal.returns
returns c =
    let link = found_beside c.args.state.sizes.links c.args.state.links 0 (λ held. eqb held c.args.object) (links_fit _ _ c.requires) {s = c.zip.result} c.find.new.self c.zip.ensures.first c.zip.ensures.second.0 c.find.ensures.ran (λ x b q k. search (rules, tests)) in
    let hand = found_beside c.args.state.sizes.threads c.args.state.threads idle_thread (λ thread. eqb thread.hand c.args.object) (threads_fit _ _ c.requires) {s = c.zip-2.result} c.find-2.new.self c.zip-2.ensures.first c.zip-2.ensures.second.0 c.find-2.ensures.ran (λ x b q k. search (rules, tests)) in
    let carrier = found_beside c.args.state.sizes.threads c.args.state.threads idle_thread (λ thread. eqb (carried_by thread.phase) c.args.object) (threads_fit _ _ c.requires) {s = c.zip-3.result} c.find-carrier.new.self c.zip-3.ensures.first c.zip-3.ensures.second.0 c.find-carrier.ensures.ran (λ x b q k. search (rules, tests)) in
    let left = found_beside (positions c.args.state.sizes) c.args.state.slots empty_slot (λ slot. eqb slot.handover c.args.object) (slots_fit _ _ c.requires) {s = c.zip-4.result} c.find-left_with.new.self c.zip-4.ensures.first c.zip-4.ensures.second.0 c.find-left_with.ensures.ran (λ x b q k. search (rules, tests)) in
    in_handover _ _ _ link.0 (ap number_of c.in_default.is) _ hand.0 (ap number_of c.in_default-find.is) _ carrier.0 (ap number_of c.in_default-carrier.is) _ left.0 _ (ap number_of c.unwrap-position.ensures)
    _ (c.guard_of-guard.ensures ∙ ap (λ (slot : Slot). guard_of slot c.args.object) (left.1 _ c.unwrap-position.ensures))
