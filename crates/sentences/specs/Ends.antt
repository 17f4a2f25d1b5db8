-- How the run that an input says ends: with a state, or with a stop.
use Rattle.std.specs.Prelude.{ℕ, List}
use Rattle.machine.specs.declared.State.{State}
use Rattle.machine.specs.Fresh.{fresh_of}
use Rattle.promise.specs.History.{state_after}
use Rattle.schedule.specs.Input as input
use Rattle.schedule.specs.Asked.{Found}

pub data End : Type 0 where
  ended : State → End
  stopped : End

-- in this state
unfoldable pub end_at : State → input.Ending → End
end_at s input.ended = ended s
end_at s (input.stopped number) = stopped

-- an input that says no run stops at its first record
unfoldable pub end_in : input.Input → End
end_in (input.run z calls ending) = end_at (state_after (fresh_of z) calls) ending
end_in (input.no_run number) = stopped

unfoldable pub end_of : List ℕ → End
end_of bytes = end_in (input.input_of bytes)

-- from this state on, by what is found
unfoldable pub end_found : State → Found → End
end_found s found = end_at (state_after s found.calls) found.ending
