-- "Calls are listed at these moments: take, swap, read, retire and clear when accepted; protect when it answers 4 or 5." "Refused calls and
-- unfinished protects are not listed." Worked out from the calls and their answers: no state is looked at.
use Rattle.std.specs.Prelude.{cond, ◌||◌, List, [], ◌∷◌, ◌++◌, map, eqb}
use Rattle.machine.specs.declared.Call.{Call}
use Rattle.machine.specs.Answers.{Numbers, numbers_of}
use Rattle.promise.specs.Store.{PlainCall, take, protect, swap, read, retire, clear}
use Rattle.promise.specs.History.{Event, answer_number}
use Rattle.promise.specs.Asked.{Memory, is_accepted, remembered}
use Rattle.promise.specs.Reading.{Reading, noted, renamed}

-- operations 1 and 3 to 6, when accepted, by their numbers
unfoldable pub at_once : Call → List PlainCall
at_once c =
    cond (eqb c.operation 1) (take c.thread c.tag ∷ [])
    (cond (eqb c.operation 3) (swap c.thread c.slot c.link ∷ [])
    (cond (eqb c.operation 4) (read c.thread c.slot ∷ [])
    (cond (eqb c.operation 5) (retire c.thread ∷ [])
    (cond (eqb c.operation 6) (clear c.thread c.slot ∷ []) []))))

-- the call that is listed at this event, or none: a go on that answers 4 or 5 ends the protect that its thread last asked for
unfoldable pub listed_of : Memory → Event → List PlainCall
listed_of m e =
    cond (is_accepted e)
    (cond (eqb e.call.operation 7)
    (cond (eqb (answer_number e) 4 || eqb (answer_number e) 5)
    (protect e.call.thread (m.slot e.call.thread) (m.link e.call.thread) ∷ [])
    [])
    (at_once e.call))
    []

unfoldable pub listing : Memory → List Event → List PlainCall
listing m [] = []
listing m (e ∷ events) = listed_of m e ++ listing (remembered m e) events

-- what the machine answered at each listed call, its objects read as records
unfoldable pub machine_says : Memory → Reading → List Event → List Numbers
machine_says m r [] = []
machine_says m r (e ∷ events) =
    map (λ call. numbers_of (renamed (noted r e.answer) e.answer)) (listed_of m e) ++
    machine_says (remembered m e) (noted r e.answer) events
