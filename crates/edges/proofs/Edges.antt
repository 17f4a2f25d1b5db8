-- The table of specs/Edges, computed: the definitions give what document 01 says.
use Rattle.std.specs.Prelude.{◌≡◌, refl, [], ◌∷◌, map}
use Rattle.std.proofs.Math.Path.{subst⁻¹}
use Rattle.machine.specs.declared.State.{State}
use Rattle.machine.specs.declared.Counted.{Counted}
use Rattle.machine.specs.Step.{done_of}
use Rattle.machine.specs.Count.{count_of}
use Rattle.edges.specs.Lemmas.Computing.{computing}
use Rattle.edges.specs.Runs.{Machine, printed, lines_from}
use Rattle.edges.specs.Lemmas.Quick.{quickly, quick_count, step_is_quick, count_is_quick, quick_computes}
use Rattle.edges.specs.Pictures.{phase_numbers, thread_numbers, slot_numbers, free_numbers, picture, start_picture}
use Rattle.edges.specs.Bytes.{read_picture, written_picture}
use Rattle.edges.specs.Edges.{Agree, edges, edges_of}

agree_quickly : Agree (edges_of (quickly done_of) quick_count)
unfolding edges_of computing quick_computes printed lines_from phase_numbers thread_numbers slot_numbers free_numbers picture start_picture read_picture written_picture
agree_quickly = refl

-- The twelve are all there.
pub twelve_edges : map (λ row. row.number) edges ≡ 1 ∷ 2 ∷ 3 ∷ 4 ∷ 5 ∷ 6 ∷ 7 ∷ 8 ∷ 9 ∷ 10 ∷ 11 ∷ 12 ∷ []
unfolding edges edges_of
twelve_edges = refl

-- Every edge is as document 01 says, with request 2's steps and request 7's numbers.
pub edges_hold : map (λ row. row.computed) edges ≡ map (λ row. row.expected) edges
unfolding edges
edges_hold =
    subst⁻¹ (λ (machine : Machine). Agree (edges_of machine count_of))
    step_is_quick
    (subst⁻¹ (λ (count : State → Counted). Agree (edges_of (quickly done_of) count)) count_is_quick agree_quickly)
