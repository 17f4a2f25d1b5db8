-- The bound of demand 3 is no smaller number: for all T threads and H slots in range a run that has T × (H + 1) given up and not yet freed. One
-- link suffices, and T × (H + 1) objects.
use Rattle.std.specs.Prelude.{ℕ, zero, suc, ◌*◌, ◌+◌, ◌-◌, Bool, ◌&&◌, List, [], ◌∷◌, ◌++◌, eqb, replicate}
use Rattle.entries.specs.declared.Sizes.{Sizes}
use Rattle.machine.specs.declared.Call.{Call}
use Rattle.machine.specs.Fresh.{fresh_of}
use Rattle.entries.specs.Sizes.{in_range}
use Rattle.edges.specs.Runs.{sizes, call, on}
use Rattle.promise.specs.History.{Event, history_by, retires, freed}
use Rattle.promise.specs.Run.{events}
use Rattle.witness.specs.Unchecked.{unchecked}

-- the calls of each number under n, in order
unfoldable pub each : ℕ → (ℕ → List Call) → List Call
each zero calls = []
each (suc n) calls = each n calls ++ calls n

-- The thread takes an object, puts it into the link, protects it in the slot, takes it out again and retires it. Its scan looks at each position
-- up to the slot's, and then leaves it in the handover there. The slot's handover is empty before that, so request 2's go on finds nothing;
-- and as long as the thread publishes nothing else in this slot, the object stays there.
abbrev pub leave : ℕ → ℕ → ℕ → List Call
leave slots thread slot =
    call thread 1 0 0 0 ∷
    call thread 3 255 0 0 ∷
    call thread 2 slot 0 0 ∷
    on thread ∷
    on thread ∷
    on thread ∷
    call thread 3 slot 0 0 ∷
    call thread 5 0 0 0 ∷
    replicate (thread * slots + slot + 2) (on thread)

-- every slot's handover gets an object, and then every thread takes one more and retires it, and so carries it
unfoldable pub reaching : ℕ → ℕ → List Call
reaching t h =
    each t (λ thread. each h (λ slot. leave h thread slot)) ++
    each t (λ thread. call thread 1 0 0 0 ∷ call thread 5 0 0 0 ∷ [])

abbrev pub sizes_for : ℕ → ℕ → Sizes
sizes_for t h = sizes t h 1 (t * (h + 1))

-- accepted retires less Freed answers
abbrev pub unfreed : List Event → ℕ
unfreed events = retires events - freed events

-- the sizes are in range and the run reaches the bound, on the machine that does not look for 19
abbrev pub reaches : ℕ → ℕ → Bool
reaches t h = in_range (sizes_for t h) && eqb (unfreed (history_by unchecked (fresh_of (sizes_for t h)) (reaching t h))) (t * (h + 1))
