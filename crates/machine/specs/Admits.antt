-- What a table of refusals gives, as the code answers it.
use Rattle.std.specs.Prelude.{◌≡◌, Option, Some, None, Result, MatchResult}
use Rattle.machine.specs.declared.Call.{Call}
use Rattle.machine.specs.declared.refusal.Refusal.{Refusal}
use Rattle.machine.specs.declared.request.Request.{Request}

-- the line that applies is the error, and where none does it is `Ok`
abbrev pub Refuses : Option Refusal → Result (Unit {0}) Refusal → Type 0
Refuses refusal r = MatchResult r (λ done. refusal ≡ None) (λ e. refusal ≡ Some e)

-- and then it is the call with its operation
abbrev pub Admits : Call → Option Refusal → Result Request Refusal → Type 0
Admits call refusal r = MatchResult r (λ request. (refusal ≡ None) × (request.call ≡ call)) (λ e. refusal ≡ Some e)
