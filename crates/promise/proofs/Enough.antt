-- How many objects are enough, so that a take never finds all of them gone: N ≥ L + 2 × T + T × H − 1.
-- Where a take finds nothing free, each object is in a link, a hand or a handover, or is carried. There is room for L in links, for T × H in
-- handovers, and for T in hands and T carried; but the thread that takes is idle with its hand empty, or it would be refused 26 or 28 first,
-- so one hand holds nothing and one thread carries nothing. That is room for L + T × H + 2 × (T − 1), one fewer than N.
use Rattle.std.specs.Prelude.{◌+◌, ◌*◌, ◌≤◌, ◌≡◌, true, List}
use Rattle.entries.specs.declared.Sizes.{Sizes}
use Rattle.machine.specs.declared.Call.{Call}
use Rattle.machine.specs.declared.Answer.TheVariants.{Refused}
use Rattle.machine.specs.declared.refusal.Refusal.TheVariants.{NoneFree}
use Rattle.entries.specs.Sizes.{in_range}
use Rattle.machine.specs.Step.{step_of}
use Rattle.promise.specs.Run.{state}
use Rattle.promise.proofs.Lemmas.Enough as enough

-- no call of any run is refused 30, "take: no object free"
pub enough_records : (z : Sizes) → in_range z ≡ true → z.links + 2 * z.threads + z.threads * z.slots ≤ z.objects + 1
    → (calls : List Call) (next : Call) → (step_of (state z calls) next).answer ≡ Refused NoneFree → ⊥
enough_records = enough.enough_records
