-- The four machines of specs/RuledOut differ from the machine, each in some call after some calls.
use Rattle.std.specs.Prelude.{ℕ, ◌≡◌, refl, not, [], ◌∷◌, T, eqb}
use Rattle.std.proofs.Common.{subst, T_not}
use Rattle.std.proofs.Math.Dec.{eqb_refl}
use Rattle.machine.specs.declared.State.{State}
use Rattle.machine.specs.declared.Call.{Call}
use Rattle.machine.specs.declared.Answer.{Answer}
use Rattle.machine.specs.declared.refusal.Refusal.{Refusal}
use Rattle.machine.specs.declared.Work.{Work}
use Rattle.machine.specs.declared.Outcome.{Outcome}
use Rattle.machine.specs.Parts.{hand_of, free_at}
use Rattle.basics.specs.Counts.{bit}
use Rattle.machine.specs.Answers.{work_of, numbers_of}
use Rattle.machine.specs.Count.{count_of}
use Rattle.edges.specs.Lemmas.Computing.{computing}
use Rattle.edges.specs.Runs.{four, six, sizes, call, on, started, after, printed, lines_from}
use Rattle.edges.specs.RuledOut.{Differs, answers_working, keeps_state, refuses_all, retire, scans_at_once, smallest, take, whole_scan}

-- `scans_at_once` does what is said of it: the object is free after the retire, and the two steps of the scan, 3 and 11 in edge 5, are answered 3 with the
-- same work, since nothing changes any more.
scans_then_works : (work : State → Call → Work)
    → let said = work_of (work (after (scans_at_once work) (started (sizes 1 1 1 1)) (call 0 1 0 0 7 ∷ call 0 5 0 0 0 ∷ [])) (on 0)) in
    printed (scans_at_once work) count_of (sizes 1 1 1 1) (call 0 1 0 0 7 ∷ call 0 5 0 0 0 ∷ on 0 ∷ on 0 ∷ []) ≡
    four 1 1 1 1 ∷ six 1 0 1 1 1 0 ∷ six 2 0 5 2 1 0 ∷ six 3 0 7 3 said.0 said.1 ∷ six 4 0 7 3 said.0 said.1 ∷ six 4 1 0 0 0 0 ∷ []
unfolding scans_at_once whole_scan after printed lines_from computing
scans_then_works work = refl

-- two outcomes of which one number differs are not the same
apart_by : (view : Outcome → ℕ) (x y : Outcome) → T (not (eqb (view x) (view y))) → x ≡ y → ⊥
apart_by view x y different same =
    T_not (eqb (view x) (view y)) different (subst (λ (z : Outcome). T (eqb (view x) (view z))) same (eqb_refl (view x)))

-- The first take gives object 1, where a refusal gives 0.
refusing : (refusal : State → Call → Refusal) → Differs (refuses_all refusal)
unfolding refuses_all after computing
refusing refusal =
    record {
      sizes = smallest;
      before = [];
      call = take;
      apart = apart_by (λ o. (numbers_of o.answer).a) _ _ tt;
    }

-- The first take is answered 1.
working : (next : State → Call → State) (work : State → Call → Work) → Differs (answers_working next work)
unfolding answers_working after computing
working next work =
    record {
      sizes = smallest;
      before = [];
      call = take;
      apart = apart_by (λ o. (numbers_of o.answer).number) _ _ tt;
    }

-- The first take fills thread 0's hand.
keeping : (answer : State → Call → Answer) → Differs (keeps_state answer)
unfolding keeps_state after computing
keeping answer =
    record { sizes = smallest; before = []; call = take; apart = apart_by (λ o. hand_of o.state 0) _ _ tt }

-- The retire after a take leaves object 1 carried, not free.
scanning : (work : State → Call → Work) → Differs (scans_at_once work)
unfolding scans_at_once whole_scan after computing
scanning work =
    record {
      sizes = smallest;
      before = take ∷ [];
      call = retire;
      apart = apart_by (λ o. bit (free_at o.state 1)) _ _ tt;
    }

pub four_are_ruled_out :
    ((refusal : State → Call → Refusal) → Differs (refuses_all refusal)) ×
    ((next : State → Call → State) (work : State → Call → Work) → Differs (answers_working next work)) ×
    ((answer : State → Call → Answer) → Differs (keeps_state answer)) ×
    ((work : State → Call → Work) → Differs (scans_at_once work))
four_are_ruled_out = (refusing, working, keeping, scanning)
