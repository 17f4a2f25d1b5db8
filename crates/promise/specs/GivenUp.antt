-- Which records were given up and not freed since, each by the number of its take, worked out from the calls and their answers; and which
-- objects wait to be freed. They are the same.
use Rattle.std.specs.Prelude.{ℕ, ◌<◌, ◌≡◌, Bool, true, false, cond, List, [], ◌∷◌}
use Rattle.machine.specs.declared.State.{State}
use Rattle.basics.specs.Functions.{put}
use Rattle.entries.specs.Sizes.{positions}
use Rattle.entries.specs.Phases.{carried_by}
use Rattle.machine.specs.Parts.{slot_at, phase_of}
use Rattle.machine.specs.Answers.{numbers_of}
use Rattle.promise.specs.History.{Event, is_retire, is_freed}
use Rattle.promise.specs.Reading.{Reading, noted, record_of}

-- yes for a take that was retired and not freed since
abbrev pub GivenUp : Type 0
GivenUp = ℕ → Bool

abbrev pub none_given_up : GivenUp
none_given_up = λ take. false

-- the record of the object that an answer names first
abbrev pub record_named : Reading → Event → ℕ
record_named r e = record_of r (numbers_of e.answer).a

unfoldable pub given_by : Reading → GivenUp → Event → GivenUp
given_by r given e =
    cond (is_retire e) (put given (record_named r e) true)
    (cond (is_freed e) (put given (record_named r e) false) given)

unfoldable pub given_after : Reading → GivenUp → List Event → GivenUp
given_after r given [] = given
given_after r given (e ∷ events) = given_after (noted r e.answer) (given_by r given e) events

-- where an object waits: in a handover, or carried by a thread
pub data Waits (s : State) (object : ℕ) : Type 0 where
  handed : (p : ℕ) → p < positions s.sizes → (slot_at s p).handover ≡ object → Waits s object
  carried : (t : ℕ) → t < s.sizes.threads → carried_by (phase_of s t) ≡ object → Waits s object

-- an object that waits, of the take with this number
pub record WaitsAs (s : State) (r : Reading) (take : ℕ) : Type 0 where
  pub object : ℕ
  pub some : 0 < object
  pub waits : Waits s object
  pub is : record_of r object ≡ take

pub record SameGivenUp (s : State) (r : Reading) (given : GivenUp) : Type 0 where
  -- what waits was given up and not freed since
  pub given_up : (object : ℕ) → 0 < object → Waits s object → given (record_of r object) ≡ true
  -- and what was given up and not freed since waits
  pub waiting : (take : ℕ) → given take ≡ true → WaitsAs s r take
