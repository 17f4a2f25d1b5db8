-- The seven operations by 01's numbers.
use Rattle.std.specs.Prelude.{ℕ, ◌≡◌, true, false, Result, MatchResult}
use Rattle.machine.specs.declared.operation.Operation.{Operation}
use Rattle.machine.specs.declared.operation.Operation.TheVariants.{Take, Protect, Swap, Read, Retire, Clear, GoOn}
use Rattle.machine.specs.declared.refusal.Refusal.{Refusal}
use Rattle.machine.specs.declared.refusal.Refusal.TheVariants.{NoSuchOperation}
use Rattle.entries.specs.Sizes.{within}

unfoldable pub operation_number : Operation → ℕ
operation_number Take = 1
operation_number Protect = 2
operation_number Swap = 3
operation_number Read = 4
operation_number Retire = 5
operation_number Clear = 6
operation_number GoOn = 7

-- the operation with this number, or refusal 22 where it is not 1 to 7
abbrev pub Names : ℕ → Result Operation Refusal → Type 0
Names number r =
    MatchResult r
    (λ operation. (operation_number operation ≡ number) × (within 1 7 number ≡ true))
    (λ refusal. (refusal ≡ NoSuchOperation) × (within 1 7 number ≡ false))
