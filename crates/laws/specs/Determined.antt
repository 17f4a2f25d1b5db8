-- The contracts of `machine` determine their results: any two results that one of them allows are the same, by one law.
use Rattle.std.specs.Prelude.{◌≡◌, Bool}
use Rattle.machine.specs.declared.State.{State}
use Rattle.entries.specs.declared.Sizes.{Sizes}
use Rattle.machine.specs.declared.Call.{Call}
use Rattle.machine.specs.declared.Started.{Started}
use Rattle.machine.specs.declared.Outcome.{Outcome}
use Rattle.machine.specs.declared.Counted.{Counted}
use Rattle.machine.specs.Fresh.{start_of}
use Rattle.machine.specs.Soundness.{sound}
use Rattle.machine.specs.Step.{step_of}
use Rattle.machine.specs.Count.{count_of}
use Rattle.basics.specs.Functions.{allowed_once}

pub start_once : (z : Sizes) (r r' : Started) → r ≡ start_of z → r' ≡ start_of z → r ≡ r'
start_once = allowed_once start_of

pub sound_once : (s : State) (r r' : Bool) → r ≡ sound s → r' ≡ sound s → r ≡ r'
sound_once = allowed_once sound

pub step_once : (s : State) (c : Call) (r r' : Outcome) → r ≡ step_of s c → r' ≡ step_of s c → r ≡ r'
step_once s = allowed_once (step_of s)

pub count_once : (s : State) (r r' : Counted) → r ≡ count_of s → r' ≡ count_of s → r ≡ r'
count_once = allowed_once count_of
