-- "an object's number being read as the take that last handed it out", worked out from the answers and nothing else
use Rattle.std.specs.Prelude.{ℕ, suc, cond, List, [], ◌∷◌, eqb}
use Rattle.machine.specs.declared.Answer.{Answer}
use Rattle.machine.specs.declared.Answer.TheVariants.{Refused, Taken, Begun, Working, Protected, Nothing, Swapped, Moved, Tag, Finished, Left, Freed}
use Rattle.basics.specs.Functions.{put}
use Rattle.promise.specs.History.{Event}

-- how many takes there were, and the number of the one that last handed each object out
pub record Reading : Type 0 where
  pub takes : ℕ
  pub last : ℕ → ℕ

abbrev pub no_takes : Reading
no_takes = record { takes = 0; last = λ object. 0 }

-- a Taken answer is the next take, of that object
unfoldable pub noted : Reading → Answer → Reading
noted r (Taken object) = record { takes = suc r.takes; last = put r.last object (suc r.takes) }
noted r (Refused refusal) = r
noted r (Begun object) = r
noted r (Working work) = r
noted r (Protected object tag) = r
noted r Nothing = r
noted r (Swapped object) = r
noted r Moved = r
noted r (Tag tag) = r
noted r Finished = r
noted r (Left object position) = r
noted r (Freed object) = r

unfoldable pub reading_after : Reading → List Event → Reading
reading_after r [] = r
reading_after r (e ∷ events) = reading_after (noted r e.answer) events

-- "0 means no object", and no record
unfoldable pub record_of : Reading → ℕ → ℕ
record_of r object = cond (eqb object 0) 0 (r.last object)

-- an answer with the record's number in the place of the object's
unfoldable pub renamed : Reading → Answer → Answer
renamed r (Refused refusal) = Refused refusal
renamed r (Taken object) = Taken (record_of r object)
renamed r (Begun object) = Begun (record_of r object)
renamed r (Working work) = Working work
renamed r (Protected object tag) = Protected (record_of r object) tag
renamed r Nothing = Nothing
renamed r (Swapped object) = Swapped (record_of r object)
renamed r Moved = Moved
renamed r (Tag tag) = Tag tag
renamed r Finished = Finished
renamed r (Left object position) = Left (record_of r object) position
renamed r (Freed object) = Freed (record_of r object)
