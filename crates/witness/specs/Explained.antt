-- The explaining tool's definition computed on runs, one row for each reason, guard and refusal. What is expected was worked out from
-- document 01's text; each row says how. So none of the promises of crate `reasons` is true for want of such a state.
use Rattle.std.specs.Prelude.{ℕ, ◌≡◌, List, [], ◌∷◌, ◌++◌, map}
use Rattle.machine.specs.declared.Call.{Call}
use Rattle.machine.specs.Fresh.{fresh_of}
use Rattle.machine.specs.Parts.{with_link}
use Rattle.edges.specs.Runs.{sizes, call, on}
use Rattle.promise.specs.History.{Machine, state_by}
use Rattle.reasons.specs.Reasons.{why_of}
use Rattle.reasons.specs.Numbers.{Numbers, numbers_of}

-- a row: the numbers that the definition gives, and those that are expected
pub record Row : Type 0 where
  pub computed : Numbers
  pub expected : Numbers

-- "its reason for being kept", what it names, and the hazard
abbrev numbers : ℕ → ℕ → ℕ → ℕ → ℕ → Numbers
numbers number a b hazard first = record { number = number; a = a; b = b; hazard = hazard; first = first }

-- the run of document 01 with request 2's go ons, cut where a row asks about it: object 1 is taken, put into the link, protected by thread 1 and
-- by thread 0, taken out, and thread 0's slot is cleared and drained

abbrev taken : List Call
taken = call 0 1 0 0 501 ∷ []

abbrev linked : List Call
linked = taken ++ call 0 3 255 0 0 ∷ []

abbrev protected : List Call
protected = linked ++ (call 1 2 0 0 0 ∷ on 1 ∷ on 1 ∷ on 1 ∷ [])

abbrev taken_out : List Call
taken_out = protected ++ (call 0 2 0 0 0 ∷ on 0 ∷ on 0 ∷ on 0 ∷ call 0 3 0 0 0 ∷ [])

abbrev retired : List Call
retired = taken_out ++ (call 0 6 0 0 0 ∷ on 0 ∷ call 0 5 0 0 0 ∷ [])

abbrev left : List Call
left = retired ++ (on 0 ∷ on 0 ∷ on 0 ∷ [])

abbrev cleared : List Call
cleared = left ++ call 1 6 0 0 0 ∷ []

-- thread 1 publishes object 1 and goes no further; thread 0 takes it out and retires it, and its scan leaves it with thread 1
abbrev published : List Call
published =
    linked ++
    (call 1 2 0 0 0 ∷
    on 1 ∷
    call 0 2 0 0 0 ∷
    on 0 ∷
    on 0 ∷
    on 0 ∷
    call 0 3 0 0 0 ∷
    call 0 6 0 0 0 ∷
    on 0 ∷
    call 0 5 0 0 0 ∷
    on 0 ∷
    on 0 ∷
    on 0 ∷
    [])

-- the table, over what takes a step
unfoldable pub rows_of : Machine → List Row
rows_of machine =
    -- in the hand of thread 0
    row taken 1 (numbers 2 0 0 0 0) ∷
    -- in link 0, and no slot names it
    row linked 1 (numbers 1 0 0 0 0) ∷
    -- still in link 0, and thread 1's slot, position 1, has it
    row protected 1 (numbers 1 0 0 1 1) ∷
    -- in thread 0's hand; both slots have it, and position 0 is the first
    row taken_out 1 (numbers 2 0 0 1 0) ∷
    -- carried by thread 0, its scan at position 0
    row retired 1 (numbers 3 0 0 1 1) ∷
    -- it looked at position 0, and then at position 1, where it will swap
    row (retired ++ (on 0 ∷ on 0 ∷ [])) 1 (numbers 3 0 1 1 1) ∷
    -- left in the handover of position 1, protected there
    row left 1 (numbers 4 1 1 1 1) ∷
    -- left in the handover of position 1, only published there
    row published 1 (numbers 4 1 2 1 1) ∷
    -- request 2: thread 1 goes on and takes it along, its scan at position 1; it meets its own slot, where it will swap; and leaves it there
    -- again
    row (published ++ (on 1 ∷ [])) 1 (numbers 3 1 1 1 1) ∷
    row (published ++ (on 1 ∷ on 1 ∷ [])) 1 (numbers 3 1 1 1 1) ∷
    row (published ++ (on 1 ∷ on 1 ∷ on 1 ∷ [])) 1 (numbers 4 1 2 1 1) ∷
    -- thread 1 has cleared its slot and not drained it: the hazard is nothing
    row cleared 1 (numbers 4 1 3 0 0) ∷
    -- object 2 was never taken, and there are no objects 0 and 3
    row left 2 (numbers 61 0 0 0 0) ∷
    row left 0 (numbers 60 0 0 0 0) ∷
    row left 3 (numbers 60 0 0 0 0) ∷
    -- object 2 both free and in a link
    (record { computed = numbers_of (why_of (with_link (fresh_of (sizes 2 1 1 2)) 0 2) 2); expected = numbers 19 0 0 0 0 }) ∷
    []
  where
    row : List Call → ℕ → Numbers → Row
    row calls o expected =
        record { computed = numbers_of (why_of (state_by machine (fresh_of (sizes 2 1 1 2)) calls) o); expected = expected }

abbrev pub AsExpected : Machine → Type 0
AsExpected machine = map (λ (r : Row). r.computed) (rows_of machine) ≡ map (λ (r : Row). r.expected) (rows_of machine)
