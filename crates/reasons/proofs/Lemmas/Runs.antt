-- An object that a slot protects, in any run: kept, and at or below that slot.
use Rattle.std.specs.Prelude.{ℕ, ◌<◌, ◌≤◌, ◌≡◌, true, false, List, Option, None, Some}
use native.Mathlib.Omega.{arith}
use Rattle.std.proofs.Math.Path.{refl}
use Rattle.std.proofs.Common.{sym, subst}
use Rattle.std.proofs.Math.Logic.{⊎_elim}
use Rattle.std.proofs.Math.Dec.{ltb}
use borrow.Author.Tests.{ltb-true, ltb-false}
use Rattle.entries.specs.declared.Sizes.{Sizes}
use Rattle.machine.specs.declared.State.{State}
use Rattle.machine.specs.declared.Call.{Call}
use Rattle.entries.specs.Sizes.{in_range, positions}
use Rattle.machine.specs.Parts.{slot_at}
use Rattle.basics.specs.Tests.{tested}
use Rattle.machine.specs.Sound.{from_sound, marked_object}
use Rattle.promise.specs.Run.{state}
use Rattle.promise.specs.Guard.{Guard}
use Rattle.promise.proofs.Moments.{same_sizes, always_sound, always_guarded}
use Rattle.reasons.specs.declared.Reason.{Reason}
use Rattle.reasons.specs.declared.Reason.TheVariants.{Link, Hand, Carried, Handover}
use Rattle.reasons.specs.Reasons.{reason_of, hazard_of, why_of}
use Rattle.reasons.specs.Numbers.{reason_number, reason_a, reason_b, hazard_number, hazard_position, numbers_of, Sheltered}
use Rattle.reasons.specs.Applies.{Stays, Applies, FirstHazard}
use Rattle.reasons.proofs.Lemmas.Named.{named_applies}
use Rattle.reasons.proofs.Lemmas.Hazards.{first_hazard}
use Rattle.reasons.proofs.Lemmas.Told.{explained}

module _ (s : State) (p : ℕ) (inside : p < positions s.sizes) (g : Guard s p (slot_at s p).hazard) where
  abbrev o : ℕ
  o = (slot_at s p).hazard

  reason_number_lem : (r : Reason) → (0 < reason_number r) × (reason_number r ≤ 4)
  unfolding reason_number
  reason_number_lem (Link i) = (omega arith, omega arith)
  reason_number_lem (Hand t) = (omega arith, omega arith)
  reason_number_lem (Carried t q) = (omega arith, omega arith)
  reason_number_lem (Handover q guard) = (omega arith, omega arith)

  handed_below : (r : Reason) → Applies s o r → reason_number r ≡ 4 → reason_a r ≤ p
  unfolding reason_number reason_a
  handed_below (Link i) a e = absurd (omega arith)
  handed_below (Hand t) a e = absurd (omega arith)
  handed_below (Carried t q) a e = absurd (omega arith)
  handed_below (Handover q guard) a e = g.handed q a.0 a.1.0

  carried_below : (r : Reason) → Applies s o r → reason_number r ≡ 3 → reason_b r ≤ p
  unfolding reason_number reason_b
  carried_below (Link i) a e = absurd (omega arith)
  carried_below (Hand t) a e = absurd (omega arith)
  carried_below (Carried t q) a e =
      let at = a.1.1 in
      let below = g.carried t a.0 a.1.0 in
      omega arith
  carried_below (Handover q guard) a e = absurd (omega arith)

  hazard_below : (h : Option ℕ) → FirstHazard s o h → (hazard_number h ≡ 1) × (hazard_position h ≤ p)
  unfolding hazard_number hazard_position
  hazard_below (Some q) a = (
    refl,
    ⊎_elim
        (λ (e : ltb p q ≡ true). absurd (a.1.1 p (ltb-true _ _ e) refl))
        (λ (e : ltb p q ≡ false). ltb-false _ _ e)
        (tested (ltb p q)),
  )
  hazard_below None a = absurd (a p inside refl)

  pub read : Stays s o → Sheltered (numbers_of (why_of s o)) p
  unfolding numbers_of
  read stays =
      let r = named_applies s o stays in
      let h = first_hazard s o in
      rw (explained s o stays)
      (record {
        kept = reason_number_lem (reason_of s o);
        handover = handed_below (reason_of s o) r;
        carried = carried_below (reason_of s o) r;
        hazard = hazard_below (hazard_of s o) h;
      })

pub sheltered : (z : Sizes) → in_range z ≡ true → (calls : List Call) (p : ℕ) → p < positions z
    → (slot_at (state z calls) p).mark ≡ true
    → Sheltered (numbers_of (why_of (state z calls) (slot_at (state z calls) p).hazard)) p
sheltered z h calls p less marked =
    let s = state z calls in
    let fine = always_sound z h calls in
    let inside : p < positions s.sizes = subst (λ (y : Sizes). p < positions y) (sym (same_sizes z h calls)) less in
    let g = always_guarded z h calls p inside marked in
    let object = marked_object s fine.ranged p inside marked in
    read s p inside g
    (record { sound = from_sound s (fine); some = object.0; most = object.1; kept = g.kept })
