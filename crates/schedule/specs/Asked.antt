-- A run as whoever asks what stands next until there is no call finds it, and as its bytes say it.
use Rattle.std.specs.Prelude.{ℕ, zero, suc, ◌+◌, List, [], ◌∷◌, length, Ok, Err, Some, None}
use Rattle.machine.specs.declared.Call.{Call}
use Rattle.records.specs.Reading.{read_of}
use Rattle.records.specs.Rest.{rest_of}
use Rattle.schedule.specs.Input.{after, Ending, ended, stopped, ending_at}
use Rattle.schedule.specs.Going.{Next, next_of}
use Rattle.schedule.specs.Stopping.{stop_number}

-- the calls, how they end, and the bytes from there on
pub record Found : Type 0 where
  pub calls : List Call
  pub ending : Ending
  pub left : List ℕ

unfoldable pub found_at : Next → Found → List ℕ → Found
found_at (Ok (Some c)) more left = record { calls = c ∷ more.calls; ending = more.ending; left = more.left }
found_at (Ok None) more left = record { calls = []; ending = ended; left = left }
found_at (Err why) more left = record { calls = []; ending = stopped (stop_number why); left = left }

-- by at most so many questions, from so many steps on; the bytes after a call are those after its record
unfoldable pub found_from : ℕ → ℕ → List ℕ → Found
found_from zero steps left = record { calls = []; ending = ended; left = left }
found_from (suc asked) steps left = found_at (next_of steps left) (found_from asked (steps + 1) (rest_of left)) left

-- from the bytes after the sizes record on: the 6,001st question is never answered with a call
unfoldable pub found_of : List ℕ → Found
found_of left = found_from 6001 0 left

-- these calls at the front of the bytes, one record each, and what stands after them
unfoldable pub found_in : List ℕ → List Call → Found
found_in bytes calls =
    let left = after (length calls) bytes in
    record { calls = calls; ending = ending_at (read_of left); left = left }
