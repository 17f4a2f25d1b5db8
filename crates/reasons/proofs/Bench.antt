-- What the bench can read off the numbers of an object that some slot protects, in any run from a fresh machine.
use Rattle.std.specs.Prelude.{ℕ, ◌<◌, ◌≡◌, true, List}
use Rattle.entries.specs.declared.Sizes.{Sizes}
use Rattle.machine.specs.declared.Call.{Call}
use Rattle.entries.specs.Sizes.{in_range, positions}
use Rattle.machine.specs.Parts.{slot_at}
use Rattle.promise.specs.Run.{state}
use Rattle.reasons.specs.Reasons.{why_of}
use Rattle.reasons.specs.Numbers.{numbers_of, Sheltered}
use Rattle.reasons.proofs.Lemmas.Runs as runs

-- for all sizes in range, any calls in any order, and every slot with the mark on
pub protected_is_sheltered : (z : Sizes) → in_range z ≡ true → (calls : List Call) (p : ℕ) → p < positions z
    → (slot_at (state z calls) p).mark ≡ true
    → Sheltered (numbers_of (why_of (state z calls) (slot_at (state z calls) p).hazard)) p
protected_is_sheltered = runs.sheltered
