-- Document 01's machine keeps demand 3, which specs/Promise says of whatever machine takes the steps.
use Rattle.std.specs.Prelude.{◌≡◌, true, List}
use Rattle.entries.specs.declared.Sizes.{Sizes}
use Rattle.machine.specs.declared.Call.{Call}
use Rattle.entries.specs.Sizes.{in_range}
use Rattle.machine.specs.Step.{step_of}
use Rattle.promise.proofs.Lemmas.Parts as parts
use Rattle.promise.specs.Promise.{Promised}

pub promise : (z : Sizes) → in_range z ≡ true → (calls : List Call) → Promised step_of z calls
promise z h calls =
    record {
      same_answers = parts.same_answers z h calls;
      same_holdings = parts.same_holdings z h calls;
      same_records = parts.same_records z h calls;
      given_up = parts.given_up z h calls;
      as_many = parts.as_many z h calls;
      bound = parts.bound z h calls;
      places_sum = parts.places_sum z h calls;
      never_unsound = parts.never_unsound z h calls;
      freed_unheld = parts.freed_unheld z h calls;
      protected_kept = parts.protected_kept z h calls;
    }
