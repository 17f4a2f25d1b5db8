-- How a slot guards an object.
use Rattle.std.specs.Prelude.{ℕ, ◌≡◌, true, false, eqb}
use Rattle.std.proofs.Common.{sym, subst, ⊎_elim, eq-eqb, ne_eqb, eqb-true}
use Rattle.std.proofs.lemmas.Bool.{eqb-false}
use Rattle.entries.specs.declared.Slot.{Slot}
use Rattle.basics.specs.Tests.{tested}
use Rattle.reasons.specs.declared.Guard.{Guard}
use Rattle.reasons.specs.declared.Guard.TheVariants as guard
use Rattle.reasons.specs.Reasons.{guard_of}
use Rattle.reasons.specs.Applies.{Guards}

pub guarding : (slot : Slot) (o : ℕ) → Guards slot o (guard_of slot o)
unfolding guard_of
guarding slot o =
    ⊎_elim
    (λ (e : eqb slot.hazard o ≡ true).
    ⊎_elim
    (λ (m : slot.mark ≡ true).
    let g : guard_of slot o ≡ guard.Protected = rw (e, m) in
    subst (Guards slot o) (sym g) (eqb-true _ _ e, m))
    (λ (m : slot.mark ≡ false).
    let g : guard_of slot o ≡ guard.Published = rw (e, m) in
    subst (Guards slot o) (sym g) (eqb-true _ _ e, m))
    (tested slot.mark))
    (λ (e : eqb slot.hazard o ≡ false).
    let g : guard_of slot o ≡ guard.Otherwise = rw e in
    subst (Guards slot o) (sym g) (eqb-false _ _ e))
    (tested (eqb slot.hazard o))

pub guard_is : (slot : Slot) (o : ℕ) (g : Guard) → Guards slot o g → g ≡ guard_of slot o
unfolding guard_of
guard_is slot o guard.Protected h = rw (eq-eqb _ _ h.0, h.1)
guard_is slot o guard.Published h = rw (eq-eqb _ _ h.0, h.1)
guard_is slot o guard.Otherwise h = rw (ne_eqb _ _ h)
