-- A refused call is answered with a number that is no answer's: it is not accepted, no retire and no Freed.
use Rattle.std.specs.Prelude.{ℕ, ◌≤◌, ◌≡◌, refl, Bool, true, false, ◌&&◌, eqb, leb}
use Rattle.std.proofs.Common.{arith, ne_eqb}
use Rattle.std.proofs.lemmas.Bool.{lt-leb}
use Rattle.machine.specs.declared.State.{State}
use Rattle.machine.specs.declared.Call.{Call}
use Rattle.basics.specs.Rows.{FirstIs}
use Rattle.basics.proofs.Rows.{first_from_lem}
use Rattle.machine.specs.declared.refusal.Refusal.{Refusal}
use Rattle.machine.specs.Answers.{number_of}
use Rattle.machine.specs.Refusals.{refusals}
use Rattle.machine.specs.Accepted.{refusals_high}

pub both_off : (b : Bool) → (b && false) ≡ false
both_off true = refl
both_off false = refl

module _ (s : State) (c : Call) {k : Refusal} (first : FirstIs (refusals s c) k) where
  pub no_answer : (n : ℕ) → n ≤ 11 → eqb (number_of k) n ≡ false
  no_answer n most = let high = first_from_lem number_of (refusals_high s c) first in ne_eqb (number_of k) n (λ e. omega arith)

  pub not_accepted : (leb 1 (number_of k) && leb (number_of k) 11) ≡ false
  not_accepted =
      let high = first_from_lem number_of (refusals_high s c) first in
      rw (lt-leb (number_of k) 11 high) (both_off (leb 1 (number_of k)))
