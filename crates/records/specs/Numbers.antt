-- The numbers of every case of an answer. A record is its mark and its values, the end is nothing, and a refusal is its number.
use Rattle.std.specs.Prelude.{ℕ, List, [], ◌∷◌, Ok, Err, Some, None}
use Rattle.records.specs.declared.Record.TheVariants.{Sizes, Step}
use Rattle.records.specs.declared.Malformed.{Malformed}
use Rattle.records.specs.declared.Malformed.TheVariants.{Short, OtherMark, NotZero}
use Rattle.records.specs.declared.NoRoom.{NoRoom}
use Rattle.records.specs.Reading.{Read}
use Rattle.records.specs.Writing.{Written}

-- "1 to 9 bytes is 40; another mark is 41; a sizes record whose last four bytes are not all 0 is 44"
unfoldable pub malformed_number : Malformed → ℕ
malformed_number Short = 40
malformed_number OtherMark = 41
malformed_number NotZero = 44

-- "Writing into fewer than 10 bytes is refused 45"
unfoldable pub no_room_number : NoRoom → ℕ
no_room_number none = 45

-- what reading answers: mark and T H L N; mark, thread, operation, slot, link and tag; none; 40, 41 or 44
unfoldable pub numbers_of : Read → List ℕ
numbers_of (Ok (Some (Sizes r))) = 84 ∷ 83 ∷ r.threads ∷ r.slots ∷ r.links ∷ r.objects ∷ []
numbers_of (Ok (Some (Step r))) = 84 ∷ 75 ∷ r.thread ∷ r.operation ∷ r.slot ∷ r.link ∷ r.tag ∷ []
numbers_of (Ok None) = []
numbers_of (Err why) = malformed_number why ∷ []

-- what writing answers: none, or 45
unfoldable pub numbers_of_written : Written → List ℕ
numbers_of_written (Ok done) = []
numbers_of_written (Err why) = no_room_number why ∷ []
