-- Request 7's promise to the technicians, for all sizes in range and any calls in any order from the fresh machine.
use Rattle.std.specs.Prelude.{ℕ, ◌<◌, ◌≡◌, true, List}
use Rattle.entries.specs.declared.Sizes.{Sizes}
use Rattle.machine.specs.declared.Call.{Call}
use Rattle.entries.specs.Sizes.{in_range, positions}
use Rattle.machine.specs.Answers.{numbers, numbers_of}
use Rattle.machine.specs.Step.{step_of}
use Rattle.promise.specs.Run.{state}
use Rattle.promise.proofs.Moments.{same_sizes, always_sound}
use Rattle.work.specs.Seven.{Did}
use Rattle.work.proofs.Lemmas.Steps as steps

-- Whatever call comes next: if it is answered 3 with a and b, then b is a position that exists, and what a says is what that step changed there.
pub what_was_done : (z : Sizes) → in_range z ≡ true → (calls : List Call) (next : Call) (a b : ℕ)
    → numbers_of (step_of (state z calls) next).answer ≡ numbers 3 a b
    → (b < positions z) × Did (state z calls) next.thread (step_of (state z calls) next).state a b
what_was_done z h calls next a b told =
    steps.in_a_run z (state z calls) (same_sizes z h calls) (always_sound z h calls) next a b told
