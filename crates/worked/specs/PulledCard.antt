-- The pulled card (`schedules/pulled-card.txt`) up to the moment at which the till is done with the old record and the payment task still reads
-- it, computed.
use Rattle.std.specs.Prelude.{ℕ, List, [], ◌∷◌, ◌++◌}
use Rattle.basics.specs.Ascii.{ascii}

-- sizes 2 1 1 2, then the first 18 steps as records
unfoldable pub schedule : List ℕ
schedule =
    84 ∷ 83 ∷ 2 ∷ 1 ∷ 1 ∷ 2 ∷ 0 ∷ 0 ∷ 0 ∷ 0 ∷
    84 ∷ 75 ∷ 0 ∷ 1 ∷ 0 ∷ 0 ∷ 89 ∷ 27 ∷ 0 ∷ 0 ∷
    84 ∷ 75 ∷ 0 ∷ 3 ∷ 255 ∷ 0 ∷ 0 ∷ 0 ∷ 0 ∷ 0 ∷
    84 ∷ 75 ∷ 1 ∷ 2 ∷ 0 ∷ 0 ∷ 0 ∷ 0 ∷ 0 ∷ 0 ∷
    84 ∷ 75 ∷ 1 ∷ 7 ∷ 0 ∷ 0 ∷ 0 ∷ 0 ∷ 0 ∷ 0 ∷
    84 ∷ 75 ∷ 1 ∷ 7 ∷ 0 ∷ 0 ∷ 0 ∷ 0 ∷ 0 ∷ 0 ∷
    84 ∷ 75 ∷ 1 ∷ 7 ∷ 0 ∷ 0 ∷ 0 ∷ 0 ∷ 0 ∷ 0 ∷
    84 ∷ 75 ∷ 0 ∷ 1 ∷ 0 ∷ 0 ∷ 90 ∷ 27 ∷ 0 ∷ 0 ∷
    84 ∷ 75 ∷ 0 ∷ 2 ∷ 0 ∷ 0 ∷ 0 ∷ 0 ∷ 0 ∷ 0 ∷
    84 ∷ 75 ∷ 0 ∷ 7 ∷ 0 ∷ 0 ∷ 0 ∷ 0 ∷ 0 ∷ 0 ∷
    84 ∷ 75 ∷ 0 ∷ 7 ∷ 0 ∷ 0 ∷ 0 ∷ 0 ∷ 0 ∷ 0 ∷
    84 ∷ 75 ∷ 0 ∷ 7 ∷ 0 ∷ 0 ∷ 0 ∷ 0 ∷ 0 ∷ 0 ∷
    84 ∷ 75 ∷ 0 ∷ 3 ∷ 0 ∷ 0 ∷ 0 ∷ 0 ∷ 0 ∷ 0 ∷
    84 ∷ 75 ∷ 0 ∷ 6 ∷ 0 ∷ 0 ∷ 0 ∷ 0 ∷ 0 ∷ 0 ∷
    84 ∷ 75 ∷ 0 ∷ 7 ∷ 0 ∷ 0 ∷ 0 ∷ 0 ∷ 0 ∷ 0 ∷
    84 ∷ 75 ∷ 0 ∷ 5 ∷ 0 ∷ 0 ∷ 0 ∷ 0 ∷ 0 ∷ 0 ∷
    84 ∷ 75 ∷ 0 ∷ 7 ∷ 0 ∷ 0 ∷ 0 ∷ 0 ∷ 0 ∷ 0 ∷
    84 ∷ 75 ∷ 0 ∷ 7 ∷ 0 ∷ 0 ∷ 0 ∷ 0 ∷ 0 ∷ 0 ∷
    84 ∷ 75 ∷ 0 ∷ 7 ∷ 0 ∷ 0 ∷ 0 ∷ 0 ∷ 0 ∷ 0 ∷
    []

-- what is said: the old record waits for the payment task, the next order is in the link
unfoldable pub said : List ℕ
said =
    ascii "object 1 was left in the handover of position 1 (thread 1, slot 0), whose hazard is this object, protected; first hazard: position 1 (thread 1, slot 0)\n" ++
    ascii "object 2 is in link 0; no hazard\n"
