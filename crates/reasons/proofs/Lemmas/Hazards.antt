-- The hazard that is named is the first, and none is named exactly where there is none.
use Rattle.std.specs.Prelude.{ℕ, ◌≡◌, Bool, true, false, ◌↔◌, eqb, Option, None, Some}
use Rattle.std.proofs.Common.{arith, sym}
use Rattle.std.proofs.Math.Path.{subst}
use Rattle.std.proofs.Math.Logic.{⊎_elim}
use Rattle.std.proofs.Math.Dec.{ltb}
use borrow.Author.Tests.{lt-ltb, le-ltb, ltb-true, ltb-false, eq-eqb, ne_eqb, eqb-true, eqb-false}
use Rattle.machine.specs.declared.State.{State}
use Rattle.entries.specs.Sizes.{positions}
use Rattle.machine.specs.Parts.{slot_at}
use Rattle.basics.specs.Tests.{tested}
use Rattle.reasons.specs.Reasons.{hazard_at, hazard_of}
use Rattle.reasons.specs.Applies.{NoHazard, FirstHazard}
use Rattle.basics.specs.First.{first_is, first_none, first_passes, first_before, none_before}

module _ (s : State) (o : ℕ) where
  test : ℕ → Bool
  test p = eqb (slot_at s p).hazard o

  pub first_hazard : FirstHazard s o (hazard_of s o)
  unfolding hazard_of hazard_at test
  first_hazard =
      ⊎_elim
      (λ (e : ltb (hazard_at s o) (positions s.sizes) ≡ true).
      let less = ltb-true _ _ e in
      let there : hazard_of s o ≡ Some (hazard_at s o) = rw e in
      subst (FirstHazard s o) (sym there) (
        less,
        (
          eqb-true _ _ (first_passes test (positions s.sizes) less),
          λ q before.
              eqb-false _ _ (first_before test (positions s.sizes) q before),
        ),
      ))
      (λ (e : ltb (hazard_at s o) (positions s.sizes) ≡ false).
      let there : hazard_of s o ≡ None = rw e in
      subst (FirstHazard s o) (sym there)
      (λ q less. eqb-false _ _ (none_before test (positions s.sizes) q (ltb-false _ _ e) less)))
      (tested (ltb (hazard_at s o) (positions s.sizes)))

  pub only_hazard : (h : Option ℕ) → FirstHazard s o h → h ≡ hazard_of s o
  unfolding hazard_of hazard_at test
  only_hazard (Some p) a =
      let e : hazard_at s o ≡ p =
      first_is test (positions s.sizes) p a.0 (eq-eqb _ _ a.1.0) (λ q before. ne_eqb _ _ (a.1.1 q before))
      in
      rw (e, lt-ltb _ _ a.0)
  only_hazard None a =
      let e : hazard_at s o ≡ positions s.sizes =
      first_none test (positions s.sizes) (λ q less. ne_eqb _ _ (a q less))
      in
      rw (e, le-ltb (positions s.sizes) (positions s.sizes) (omega arith))

  pub nowhere_exactly : hazard_of s o ≡ None ↔ NoHazard s o (positions s.sizes)
  nowhere_exactly =
      ((λ e. subst (FirstHazard s o) e first_hazard), (λ none. sym (only_hazard None none)))
