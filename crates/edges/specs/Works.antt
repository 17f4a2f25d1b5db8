-- Request 7, "Say what "Working" did": one run in which a 3 says each of the seven, computed. The edges have no failed second read and no swap that
-- displaces. What is expected was worked out from the texts of document 01 and of requests 2 and 7. Each thread has two slots and uses its slot
-- 1, so the positions concerned are 1 for thread 0 and 3 for thread 1, and those that a scan looks at are 0 to 3.
use Rattle.std.specs.Prelude.{ℕ, List, [], ◌∷◌}
use Rattle.machine.specs.declared.Call.{Call}
use Rattle.edges.specs.Runs.{call, on, four, six}

unfoldable pub calls : List Call
calls =
    -- thread 0 puts object 1 into the link, and thread 1 protects it
    call 0 1 0 0 11 ∷
    call 0 3 255 0 0 ∷
    call 1 2 1 0 0 ∷
    on 1 ∷
    on 1 ∷
    on 1 ∷
    -- thread 0 puts object 2 in its place and retires object 1, up to the match at position 3
    call 0 1 0 0 12 ∷
    call 0 2 1 0 0 ∷
    on 0 ∷
    on 0 ∷
    on 0 ∷
    call 0 3 1 0 0 ∷
    call 0 6 1 0 0 ∷
    on 0 ∷
    call 0 5 0 0 0 ∷
    on 0 ∷
    on 0 ∷
    on 0 ∷
    on 0 ∷
    -- thread 1 publishes object 2 in the same slot and finds nothing in its handover; then thread 0 leaves object 1 there
    call 1 2 1 0 0 ∷
    on 1 ∷
    on 1 ∷
    on 0 ∷
    -- thread 0 takes object 2 out of the link and retires it: its swap at position 3 displaces object 1, which is looked for there and freed
    call 0 2 1 0 0 ∷
    on 0 ∷
    on 0 ∷
    on 0 ∷
    call 0 3 1 0 0 ∷
    call 0 6 1 0 0 ∷
    on 0 ∷
    call 0 5 0 0 0 ∷
    on 0 ∷
    on 0 ∷
    on 0 ∷
    on 0 ∷
    on 0 ∷
    on 0 ∷
    on 0 ∷
    -- thread 1 reads the link again, which is empty now. It publishes 0 in its slot and takes object 2 along, which is freed
    on 1 ∷
    on 1 ∷
    on 1 ∷
    on 1 ∷
    on 1 ∷
    on 1 ∷
    []

-- 3 1 3 in steps 4, 21 and 40, 3 2 3 in 39, 3 3 p in 16 to 18 and later, 3 4 3 in 19 and 35, 3 5 3 in 36, 3 6 3 in 41, 3 7 3 in 5 and 22
unfoldable pub said : List (List ℕ)
said =
    four 2 2 1 2 ∷
    six 1 0 1 1 1 0 ∷
    six 2 0 3 6 0 0 ∷
    six 3 1 2 2 1 0 ∷
    six 4 1 7 3 1 3 ∷
    six 5 1 7 3 7 3 ∷
    six 6 1 7 4 1 11 ∷
    six 7 0 1 1 2 0 ∷
    six 8 0 2 2 1 0 ∷
    six 9 0 7 3 1 1 ∷
    six 10 0 7 3 7 1 ∷
    six 11 0 7 4 1 11 ∷
    six 12 0 3 6 1 0 ∷
    six 13 0 6 2 0 0 ∷
    six 14 0 7 9 0 0 ∷
    six 15 0 5 2 1 0 ∷
    six 16 0 7 3 3 0 ∷
    six 17 0 7 3 3 1 ∷
    six 18 0 7 3 3 2 ∷
    six 19 0 7 3 4 3 ∷
    six 20 1 2 2 2 0 ∷
    six 21 1 7 3 1 3 ∷
    six 22 1 7 3 7 3 ∷
    six 23 0 7 10 1 3 ∷
    six 24 0 2 2 2 0 ∷
    six 25 0 7 3 1 1 ∷
    six 26 0 7 3 7 1 ∷
    six 27 0 7 4 2 12 ∷
    six 28 0 3 6 2 0 ∷
    six 29 0 6 2 0 0 ∷
    six 30 0 7 9 0 0 ∷
    six 31 0 5 2 2 0 ∷
    six 32 0 7 3 3 0 ∷
    six 33 0 7 3 3 1 ∷
    six 34 0 7 3 3 2 ∷
    six 35 0 7 3 4 3 ∷
    six 36 0 7 3 5 3 ∷
    six 37 0 7 3 3 3 ∷
    six 38 0 7 11 1 0 ∷
    six 39 1 7 3 2 3 ∷
    six 40 1 7 3 1 3 ∷
    six 41 1 7 3 6 3 ∷
    six 42 1 7 3 3 3 ∷
    six 43 1 7 11 2 0 ∷
    six 44 1 7 5 0 0 ∷
    six 44 2 0 0 0 0 ∷
    []
