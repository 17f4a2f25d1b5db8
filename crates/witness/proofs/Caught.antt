-- The rows of specs/Caught, computed: each changed machine breaks the promise on its run.
use Rattle.std.specs.Prelude.{◌≡◌, refl, true, false, List, [], ◌∷◌}
use Rattle.std.proofs.Common.{arith, sym, ◌∙◌, subst, eq-eqb, ltb-true, leb-true}
use Rattle.std.proofs.Math.Path.{subst⁻¹, fun_ext}
use Rattle.std.proofs.lemmas.Bool.{false≢true}
use Rattle.entries.specs.declared.Sizes.{Sizes}
use Rattle.machine.specs.declared.Call.{Call}
use Rattle.machine.specs.Answers.{Numbers}
use Rattle.edges.specs.Rules.{Change, machine_of, done_by, when_loaded, when_look, when_swap}
use Rattle.edges.specs.TrapRules.{hand_over_and_move_on, publish_and_mark, look_by, last_met, parked, take_and_park}
use Rattle.edges.specs.Traps.{moving_on, marking_at_once, freeing_at_last, skipping_own}
use Rattle.edges.specs.Lemmas.Computing.{computing}
use Rattle.edges.specs.Lemmas.Quick.{quickly, slow_is_quick, quick_computes}
use Rattle.basics.specs.Functions.{put}
use Rattle.promise.specs.Store.{tag_of_record, says, next, store_says}
use Rattle.promise.specs.History.{Machine, history_by, state_by}
use Rattle.promise.specs.Reading.{noted, reading_after, record_of, renamed}
use Rattle.promise.specs.Asked.{remembered}
use Rattle.promise.specs.Listing.{at_once, listed_of, listing, machine_says}
use Rattle.promise.specs.Promise.{Promised}
use Rattle.witness.specs.Caught.{Broken, Each, Fault, Row, ShownBy, Shows, alike, answers, frees, rows, untaken}

alike_self : (xs : List Numbers) → alike xs xs ≡ true
unfolding alike
alike_self [] = refl
alike_self (x ∷ xs) = rw (eq-eqb x.number x.number refl, eq-eqb x.a x.a refl, eq-eqb x.b x.b refl) (alike_self xs)

differ : (xs ys : List Numbers) → alike xs ys ≡ false → xs ≡ ys → ⊥
differ xs ys h e = false≢true (sym h ∙ subst (λ (zs : List Numbers). alike xs zs ≡ true) e (alike_self xs))

shown_quickly : Each (ShownBy (λ change. quickly (done_by change))) rows
unfolding rows Shows alike moving_on marking_at_once freeing_at_last skipping_own done_by when_loaded when_look when_swap hand_over_and_move_on publish_and_mark look_by last_met parked take_and_park put tag_of_record says next store_says history_by state_by noted reading_after record_of renamed remembered at_once listed_of listing machine_says computing quick_computes
shown_quickly =
    ((refl, refl, refl, refl), (refl, ((refl, refl, refl, refl), (refl, ((refl, refl, refl, refl), (refl, ((refl, refl, refl, refl), (refl, (refl, ((refl, refl, refl, refl), tt))))))))))

shown : Each (ShownBy machine_of) rows
unfolding machine_of
shown =
    subst⁻¹ (λ (machine : Change → Machine). Each (ShownBy machine) rows)
    (fun_ext (λ change. slow_is_quick (done_by change)))
    shown_quickly

-- each fault is a part of the promise that fails
broken : (machine : Machine) (z : Sizes) (calls : List Call) (fault : Fault) → Shows machine z calls fault → Promised machine z calls → ⊥
unfolding Shows
broken machine z calls answers differs kept = differ _ _ differs kept.same_answers
broken machine z calls (frees last object p) (freed, inside, marked, held) kept =
    (kept.freed_unheld last object freed).0.slots p (ltb-true _ _ inside) marked held
broken machine z calls (untaken object) (some, most, taken, none) kept =
    let known = kept.same_records.recorded object (record { some = ltb-true _ _ some; most = leb-true _ _ most; kept = taken }) in
    let some' = known.0 in
    omega arith

each_broken : (rs : List Row) → Each (ShownBy machine_of) rs → Each Broken rs
each_broken [] tt = tt
each_broken (r ∷ rs) (this, others) = (broken _ _ _ r.fault this, each_broken rs others)

pub none_keeps_the_promise : Each Broken rows
none_keeps_the_promise = each_broken rows shown
