-- One question after the other finds the calls that the bytes say, and how they end.
use Rattle.std.specs.Prelude.{ℕ, zero, suc, ◌+◌, ◌≡◌, refl, true, false, List, [], ltb, Ok, Err, Some, None}
use Rattle.std.proofs.Common.{arith, lt-ltb, le-ltb}
use Rattle.machine.specs.declared.Call.{Call}
use Rattle.records.specs.declared.Record.TheVariants as record_of
use Rattle.records.specs.Reading.{Read, read_of}
use Rattle.records.specs.Rest.{rest_of}
use Rattle.schedule.specs.Input.{calls_at, calls_up_to, after, ending_at}
use Rattle.schedule.specs.Going.{next_at, next_of}
use Rattle.schedule.specs.Stopping.{stop_number}
use Rattle.schedule.specs.Asked.{Found, found_at, found_from, found_of, found_in}

-- no call
alone : (bytes : List ℕ) (found : Read) → read_of bytes ≡ found → record { calls = []; ending = ending_at found; left = bytes } ≡ found_in bytes []
unfolding found_in after
alone bytes found e = rw e

-- a 6,001st step is no call
at_limit : (steps : ℕ) → ltb steps 6000 ≡ false → (more : Found) (bytes : List ℕ) (found : Read) → read_of bytes ≡ found → found_at (next_at steps found) more bytes ≡ found_in bytes []
unfolding next_at found_at ending_at stop_number
at_limit steps full more bytes (Ok (Some (record_of.Sizes r))) e = alone bytes (Ok (Some (record_of.Sizes r))) e
at_limit steps full more bytes (Ok (Some (record_of.Step r))) e = rw full (alone bytes (Ok (Some (record_of.Step r))) e)
at_limit steps full more bytes (Ok None) e = alone bytes (Ok None) e
at_limit steps full more bytes (Err why) e = alone bytes (Err why) e

module _ (steps : ℕ) (room : ltb steps 6000 ≡ true) (bytes : List ℕ) (calls : List Call) where
  at_found : (found : Read) → read_of bytes ≡ found → found_at (next_at steps found) (found_in (rest_of bytes) calls) bytes ≡ found_in bytes (calls_at found calls)
  unfolding next_at found_at calls_at found_in after ending_at stop_number
  at_found (Ok (Some (record_of.Sizes r))) e = alone bytes (Ok (Some (record_of.Sizes r))) e
  at_found (Ok (Some (record_of.Step r))) e = rw room
  at_found (Ok None) e = alone bytes (Ok None) e
  at_found (Err why) e = alone bytes (Err why) e

from : (most steps : ℕ) → steps + most ≡ 6000 → (bytes : List ℕ) → found_from (suc most) steps bytes ≡ found_in bytes (calls_up_to most bytes)
unfolding found_from calls_up_to next_of
from zero steps all bytes = at_limit steps (le-ltb steps 6000 (omega arith)) _ bytes (read_of bytes) refl
from (suc most) steps all bytes =
    rw (from most (steps + 1) (omega arith) (rest_of bytes))
    (at_found steps (lt-ltb steps 6000 (omega arith)) bytes (calls_up_to most (rest_of bytes)) (read_of bytes) refl)

pub asked : (bytes : List ℕ) → found_of bytes ≡ found_in bytes (calls_up_to 6000 bytes)
unfolding found_of
asked bytes = from 6000 0 refl bytes
