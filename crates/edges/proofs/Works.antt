-- The run of specs/Works, computed.
use Rattle.std.specs.Prelude.{◌≡◌, refl}
use Rattle.std.proofs.Math.Path.{subst⁻¹}
use Rattle.machine.specs.declared.State.{State}
use Rattle.machine.specs.declared.Counted.{Counted}
use Rattle.machine.specs.Step.{done_of, step_of}
use Rattle.machine.specs.Count.{count_of}
use Rattle.edges.specs.Lemmas.Computing.{computing}
use Rattle.edges.specs.Lemmas.Quick.{quickly, quick_count, step_is_quick, count_is_quick, quick_computes}
use Rattle.edges.specs.Runs.{sizes, Machine, printed, lines_from}
use Rattle.edges.specs.Works.{calls, said}

quickly_said : printed (quickly done_of) quick_count (sizes 2 2 1 2) calls ≡ said
unfolding calls said computing quick_computes printed lines_from
quickly_said = refl

pub works_are_said : printed step_of count_of (sizes 2 2 1 2) calls ≡ said
works_are_said =
    subst⁻¹ (λ (machine : Machine). printed machine count_of (sizes 2 2 1 2) calls ≡ said)
    step_is_quick
    (subst⁻¹ (λ (count : State → Counted). printed (quickly done_of) count (sizes 2 2 1 2) calls ≡ said) count_is_quick quickly_said)
