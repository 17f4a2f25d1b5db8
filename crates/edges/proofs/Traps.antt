-- The calls of specs/Traps, computed: each changed rule fails on them, and the machine does not.
use Rattle.std.specs.Prelude.{◌≡◌, refl}
use Rattle.std.proofs.Math.Path.{subst⁻¹, fun_ext}
use Rattle.machine.specs.Step.{done_of, step_of}
use Rattle.edges.specs.Lemmas.Computing.{computing}
use Rattle.edges.specs.Runs.{Machine}
use Rattle.edges.specs.Lemmas.Quick.{quickly, slow_is_quick, step_is_quick, quick_computes}
use Rattle.edges.specs.Rules.{Change, when_loaded, when_draining, when_look, when_swap, done_by, machine_of}
use Rattle.edges.specs.TrapRules.{hand_over_and_move_on, publish_and_mark, drain_at_clear, zero_after_drain, look_by, last_met}
use Rattle.edges.specs.Traps.{AreTraps, draining_first, end_of, foretold, free_yet_protected, freeing_at_last, left_behind, marking_at_once, moving_on, shown_on, skipping_own, swap_after_drain, traps}

shown_quickly : AreTraps (λ rules. quickly (done_by rules)) (quickly done_of)
unfolding traps moving_on marking_at_once draining_first freeing_at_last skipping_own shown_on foretold end_of free_yet_protected left_behind when_loaded when_draining when_look when_swap done_by hand_over_and_move_on publish_and_mark drain_at_clear zero_after_drain look_by last_met computing quick_computes
shown_quickly = record { fail = refl; hold = refl }

pub traps_are_traps : AreTraps machine_of step_of
unfolding machine_of
traps_are_traps =
    subst⁻¹ (λ (changed : Change → Machine). AreTraps changed step_of)
    (fun_ext (λ rules. slow_is_quick (done_by rules)))
    (subst⁻¹ (λ (machine : Machine). AreTraps (λ rules. quickly (done_by rules)) machine) step_is_quick shown_quickly)

left_behind_quickly : shown_on (quickly done_of) swap_after_drain ≡ foretold swap_after_drain
unfolding swap_after_drain shown_on foretold end_of free_yet_protected left_behind computing quick_computes
left_behind_quickly = refl

pub left_behind_all_the_same : shown_on step_of swap_after_drain ≡ foretold swap_after_drain
left_behind_all_the_same =
    subst⁻¹ (λ (machine : Machine). shown_on machine swap_after_drain ≡ foretold swap_after_drain) step_is_quick left_behind_quickly
