-- What holds of the state after every call of a run from a fresh machine, for those who build on it; demand 3 itself is in Promise.
use Rattle.std.specs.Prelude.{◌≡◌, true, List}
use Rattle.entries.specs.declared.Sizes.{Sizes}
use Rattle.machine.specs.declared.Call.{Call}
use Rattle.entries.specs.Sizes.{in_range}
use Rattle.machine.specs.Sound.{Sound}
use Rattle.promise.specs.Run.{state}
use Rattle.promise.specs.Guard.{Guarded}
use Rattle.promise.proofs.Lemmas.Parts as parts

module _ (z : Sizes) (h : in_range z ≡ true) (calls : List Call) where
  pub same_sizes : (state z calls).sizes ≡ z
  same_sizes = parts.same_sizes z h calls

  pub always_sound : Sound (state z calls)
  always_sound = (parts.invariant z h calls).sound

  pub always_guarded : Guarded (state z calls)
  always_guarded = (parts.invariant z h calls).guarded
