-- Document 01, "Edges to prove", as one table. What is expected was worked out from the texts of document 01 and of requests 2 and 7; each row
-- says how. By request 2 the go on that publishes is followed by one that takes what is in the slot's handover along. In these runs it finds
-- nothing and answers 3, so that a protect has 3 twice: "the run in document 01 gets one go on more after steps 4 and 7, and edge 9 a second 3".
-- By request 7 a 3 says what was done and at which position p: 3 1 p and 3 7 p in a protect, 3 3 p and 3 4 p in looks without and with a match,
-- 3 6 p in a drain that found something.
use Rattle.std.specs.Prelude.{ℕ, ◌≡◌, List, [], ◌∷◌, ◌++◌, map, replicate}
use Rattle.machine.specs.declared.State.{State}
use Rattle.machine.specs.declared.Counted.{Counted}
use Rattle.machine.specs.Fresh.{start_of}
use Rattle.machine.specs.Step.{step_of}
use Rattle.machine.specs.Count.{count_of}
use Rattle.edges.specs.Runs.{sizes, call, on, one, four, six, zeros, Machine, printed}
use Rattle.edges.specs.Pictures.{start_picture}
use Rattle.edges.specs.Bytes.{largest_tag, read_picture, written_picture}

-- a row: the edge's number in document 01, what the definitions give, and what document 01 says
pub record Edge : Type 0 where
  pub number : ℕ
  pub computed : List (List ℕ)
  pub expected : List (List ℕ)

abbrev pub edge : ℕ → List (List ℕ) → List (List ℕ) → Edge
edge number computed expected = record { number = number; computed = computed; expected = expected }

-- "A fresh machine has every object free, tags 0, all else 0 and idle": verdict 0, sizes, 16 links, 8 threads of 6 numbers, 32 slots of 3
-- numbers, the free marks, 240 tags
abbrev pub fresh_picture : List ℕ → List ℕ → List (List ℕ)
fresh_picture sizes free = one 0 ∷ sizes ∷ zeros 16 ∷ zeros 48 ∷ zeros 96 ∷ free ∷ zeros 240 ∷ []

-- "refused 20 and returns the blank state"
abbrev pub refused_picture : List (List ℕ)
refused_picture = one 20 ∷ zeros 4 ∷ zeros 16 ∷ zeros 48 ∷ zeros 96 ∷ zeros 240 ∷ zeros 240 ∷ []

-- nine bytes of the ten of a step
abbrev pub nine_of_step : List ℕ
nine_of_step = 84 ∷ 75 ∷ 0 ∷ 1 ∷ 0 ∷ 0 ∷ 245 ∷ 1 ∷ 0 ∷ []

-- the table, over what takes a step and what counts the places
unfoldable pub edges_of : Machine → (State → Counted) → List Edge
edges_of machine count =
    -- "(1) the run above", line by line. Request 2's go ons are steps 5 and 9. Thread 1's slot is at position 1, thread 0's at position 0: 15 looks
    -- at 0 and 16 at 1, where the hazard is the object; 20 drains position 1, and 21 looks there, where the hazard is 0 by then.
    edge 1
    (printed machine count (sizes 2 1 1 2)
    (call 0 1 0 0 501 ∷
    call 0 3 255 0 0 ∷
    call 1 2 0 0 0 ∷
    on 1 ∷
    on 1 ∷
    on 1 ∷
    call 0 2 0 0 0 ∷
    on 0 ∷
    on 0 ∷
    on 0 ∷
    call 0 3 0 0 0 ∷
    call 0 6 0 0 0 ∷
    on 0 ∷
    call 0 5 0 0 0 ∷
    on 0 ∷
    on 0 ∷
    on 0 ∷
    call 1 4 0 0 0 ∷
    call 1 6 0 0 0 ∷
    on 1 ∷
    on 1 ∷
    on 1 ∷
    call 0 1 0 0 502 ∷
    []))
    (four 2 1 1 2 ∷
    six 1 0 1 1 1 0 ∷
    six 2 0 3 6 0 0 ∷
    six 3 1 2 2 1 0 ∷
    six 4 1 7 3 1 1 ∷
    six 5 1 7 3 7 1 ∷
    six 6 1 7 4 1 501 ∷
    six 7 0 2 2 1 0 ∷
    six 8 0 7 3 1 0 ∷
    six 9 0 7 3 7 0 ∷
    six 10 0 7 4 1 501 ∷
    six 11 0 3 6 1 0 ∷
    six 12 0 6 2 0 0 ∷
    six 13 0 7 9 0 0 ∷
    six 14 0 5 2 1 0 ∷
    six 15 0 7 3 3 0 ∷
    six 16 0 7 3 4 1 ∷
    six 17 0 7 10 1 1 ∷
    six 18 1 4 8 501 0 ∷
    six 19 1 6 2 0 0 ∷
    six 20 1 7 3 6 1 ∷
    six 21 1 7 3 3 1 ∷
    six 22 1 7 11 1 0 ∷
    six 23 0 1 1 1 0 ∷
    six 23 1 0 1 0 0 ∷
    []) ∷
    -- "(2) T = 8 starts, T = 9 is 20": T is 1 to 8
    edge 2
    (start_picture (start_of (sizes 8 1 1 1)) ++ start_picture (start_of (sizes 9 1 1 1)))
    (fresh_picture (four 8 1 1 1) (1 ∷ zeros 239) ++ refused_picture) ∷
    -- "(3) N = 240 starts, 0 is 20": N is 1 to 240
    edge 3
    (start_picture (start_of (sizes 1 1 1 240)) ++ start_picture (start_of (sizes 1 1 1 0)))
    (fresh_picture (four 1 1 1 240) (replicate 240 1) ++ refused_picture) ∷
    -- "(4) N = 1: take, retire, take by the same thread is 26": the retire left the thread in Look(1, 0), so it is not idle, and 26 stands before
    -- 30 in the table; object 1 is carried
    edge 4
    (printed machine count (sizes 1 1 1 1)
    (call 0 1 0 0 7 ∷
    call 0 5 0 0 0 ∷
    call 0 1 0 0 8 ∷
    []))
    (four 1 1 1 1 ∷
    six 1 0 1 1 1 0 ∷
    six 2 0 5 2 1 0 ∷
    six 3 0 1 26 0 0 ∷
    six 3 0 0 0 0 1 ∷
    []) ∷
    -- "(5) the same with the scan run to Freed first: the second take gives object 1": T × H is 1, so one look finds no hazard at position 0,
    -- 3 3 0, and the next, at position 1, frees
    edge 5
    (printed machine count (sizes 1 1 1 1)
    (call 0 1 0 0 7 ∷
    call 0 5 0 0 0 ∷
    on 0 ∷
    on 0 ∷
    call 0 1 0 0 8 ∷
    []))
    (four 1 1 1 1 ∷
    six 1 0 1 1 1 0 ∷
    six 2 0 5 2 1 0 ∷
    six 3 0 7 3 3 0 ∷
    six 4 0 7 11 1 0 ∷
    six 5 0 1 1 1 0 ∷
    six 5 0 0 1 0 0 ∷
    []) ∷
    -- "(6) hand full and none free: 28": both 28 and 30 apply, and 28 is the first of them
    edge 6
    (printed machine count (sizes 1 1 1 1)
    (call 0 1 0 0 7 ∷
    call 0 1 0 0 8 ∷
    []))
    (four 1 1 1 1 ∷
    six 1 0 1 1 1 0 ∷
    six 2 0 1 28 0 0 ∷
    six 2 0 0 1 0 0 ∷
    []) ∷
    -- "(7) slot 255 in clear: 24": "255 is good in swap only"
    edge 7
    (printed machine count (sizes 1 1 1 1)
    (call 0 6 255 0 0 ∷
    []))
    (four 1 1 1 1 ∷
    six 1 0 6 24 0 0 ∷
    six 1 1 0 0 0 0 ∷
    []) ∷
    -- "(8) swap with 255 on an empty link with an empty hand: 6 (0, 0)": the link holds 0 as asked, and 0 comes to the hand
    edge 8
    (printed machine count (sizes 1 1 1 1)
    (call 0 3 255 0 0 ∷
    []))
    (four 1 1 1 1 ∷
    six 1 0 3 6 0 0 ∷
    six 1 1 0 0 0 0 ∷
    []) ∷
    -- "(9) protect of an empty link: 2, 3, 5", with "a second 3" by request 2: Loaded with 0; the hazard 0 is published, 3 1 0; the
    -- handover has nothing, 3 7 0; the link still holds 0
    edge 9
    (printed machine count (sizes 1 1 1 1)
    (call 0 2 0 0 0 ∷
    on 0 ∷
    on 0 ∷
    on 0 ∷
    []))
    (four 1 1 1 1 ∷
    six 1 0 2 2 0 0 ∷
    six 2 0 7 3 1 0 ∷
    six 3 0 7 3 7 0 ∷
    six 4 0 7 5 0 0 ∷
    six 4 1 0 0 0 0 ∷
    []) ∷
    -- "(10) slots 0 and 1 of thread 0 on one object, retired and Left at slot 0: clearing slot 0 ends in Left at slot 1". Steps 1 and 2 put
    -- object 1 into the link, 3 to 10 protect it in both slots, 11 takes it out by slot 0, 12 to 14 retire it, meet the hazard at position 0 and
    -- leave it there. 15 zeroes that hazard and 16 takes the object up at position 0, which 17 passes; 18 meets the hazard at position 1.
    -- Request 2's go ons are steps 5 and 9.
    edge 10
    (printed machine count (sizes 1 2 1 1)
    (call 0 1 0 0 9 ∷
    call 0 3 255 0 0 ∷
    call 0 2 0 0 0 ∷
    on 0 ∷
    on 0 ∷
    on 0 ∷
    call 0 2 1 0 0 ∷
    on 0 ∷
    on 0 ∷
    on 0 ∷
    call 0 3 0 0 0 ∷
    call 0 5 0 0 0 ∷
    on 0 ∷
    on 0 ∷
    call 0 6 0 0 0 ∷
    on 0 ∷
    on 0 ∷
    on 0 ∷
    on 0 ∷
    []))
    (four 1 2 1 1 ∷
    six 1 0 1 1 1 0 ∷
    six 2 0 3 6 0 0 ∷
    six 3 0 2 2 1 0 ∷
    six 4 0 7 3 1 0 ∷
    six 5 0 7 3 7 0 ∷
    six 6 0 7 4 1 9 ∷
    six 7 0 2 2 1 0 ∷
    six 8 0 7 3 1 1 ∷
    six 9 0 7 3 7 1 ∷
    six 10 0 7 4 1 9 ∷
    six 11 0 3 6 1 0 ∷
    six 12 0 5 2 1 0 ∷
    six 13 0 7 3 4 0 ∷
    six 14 0 7 10 1 0 ∷
    six 15 0 6 2 0 0 ∷
    six 16 0 7 3 6 0 ∷
    six 17 0 7 3 3 0 ∷
    six 18 0 7 3 4 1 ∷
    six 19 0 7 10 1 1 ∷
    six 19 0 0 0 1 0 ∷
    []) ∷
    -- "(11) nine bytes: 40": a step's first nine bytes, and nine that bear no mark, for 40 stands before 41. The whole input is given back.
    edge 11
    (read_picture nine_of_step ++ read_picture (zeros 9))
    (one 40 ∷
    nine_of_step ∷
    one 40 ∷
    zeros 9 ∷
    []) ∷
    -- "(12) tag 4294967295 written and read": four bytes of 255, into the first ten of twelve bytes. Then the same tag taken and read in the
    -- machine; request 2's go on is step 5.
    edge 12
    (written_picture largest_tag (replicate 12 7) ++
    printed machine count (sizes 1 1 1 1)
    (call 0 1 0 0 4294967295 ∷
    call 0 3 255 0 0 ∷
    call 0 2 0 0 0 ∷
    on 0 ∷
    on 0 ∷
    on 0 ∷
    call 0 4 0 0 0 ∷
    []))
    ([] ∷
    (84 ∷ 75 ∷ 0 ∷ 1 ∷ 0 ∷ 0 ∷ 255 ∷ 255 ∷ 255 ∷ 255 ∷ 7 ∷ 7 ∷ []) ∷
    (84 ∷ 75 ∷ 0 ∷ 1 ∷ 0 ∷ 0 ∷ 4294967295 ∷ []) ∷
    (7 ∷ 7 ∷ []) ∷
    four 1 1 1 1 ∷
    six 1 0 1 1 1 0 ∷
    six 2 0 3 6 0 0 ∷
    six 3 0 2 2 1 0 ∷
    six 4 0 7 3 1 0 ∷
    six 5 0 7 3 7 0 ∷
    six 6 0 7 4 1 4294967295 ∷
    six 7 0 4 8 4294967295 0 ∷
    six 7 0 1 0 0 0 ∷
    []) ∷
    []

-- the table of the machine itself
unfoldable pub edges : List Edge
edges = edges_of step_of count_of

abbrev pub Agree : List Edge → Type 0
Agree rows = map (λ row. row.computed) rows ≡ map (λ row. row.expected) rows
