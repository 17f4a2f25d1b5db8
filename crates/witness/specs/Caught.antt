-- Machines of which the promise does not hold, each with one rule changed, and the run on which it fails: for each of document 01's traps but
-- one, and for two machines that nobody would accept. Draining before the hazard is zeroed is not among them: of that one it is shown, in the
-- traps of crate edges, that on some calls it leaves an object in the handover of a slot without hazard where document 01's machine leaves
-- none. Nothing is freed too early there, and neither that the promise holds of it nor that it fails is shown.
use Rattle.std.specs.Prelude.{ℕ, ◌≡◌, Bool, true, false, ◌&&◌, List, [], ◌∷◌, ◌++◌, eqb, ltb, leb, take}
use Rattle.entries.specs.declared.Sizes.{Sizes}
use Rattle.machine.specs.declared.Call.{Call}
use Rattle.machine.specs.declared.Answer.TheVariants.{Freed}
use Rattle.entries.specs.Sizes.{positions}
use Rattle.machine.specs.Parts.{slot_at, free_at}
use Rattle.machine.specs.Answers.{Numbers}
use Rattle.edges.specs.Runs.{sizes, call, on}
use Rattle.edges.specs.Rules.{Change, machine_of}
use Rattle.edges.specs.TrapRules.{marks_at_once, mirrors_links, parks_the_last}
use Rattle.edges.specs.Traps.{Trap, moving_on, marking_at_once, freeing_at_last, skipping_own}
use Rattle.promise.specs.Store.{empty_store, store_says}
use Rattle.promise.specs.History.{Machine}
use Rattle.promise.specs.Reading.{no_takes, record_of}
use Rattle.promise.specs.Asked.{none_asked}
use Rattle.promise.specs.Listing.{listing, machine_says}
use Rattle.promise.specs.Run.{events_of, end_of, reading_of}
use Rattle.promise.specs.Promise.{Promised}

-- what goes wrong after a row's calls
pub data Fault : Type 0 where
  -- the store's answers to the listed calls are not the machine's
  answers : Fault
  -- this call frees an object that the slot at this position protects
  frees : Call → ℕ → ℕ → Fault
  -- this object is not free, and no take has handed it out
  untaken : ℕ → Fault

pub record Row : Type 0 where
  pub change : Change
  pub sizes : Sizes
  pub calls : List Call
  pub fault : Fault

abbrev row : Change → Sizes → List Call → Fault → Row
row change z calls fault = record { change = change; sizes = z; calls = calls; fault = fault }

-- a trap's calls with the last one; and after them: a thread that may do so takes the freed object with tag 33, and thread 0 reads its slot

abbrev whole : Trap → List Call
whole trap = trap.calls ++ (trap.final ∷ [])

abbrev taken_anew : ℕ → Trap → List Call
taken_anew taker trap = whole trap ++ (call taker 1 0 0 33 ∷ call 0 4 0 0 0 ∷ [])

-- the last call of the trap frees the object that thread 0's slot, position 0, protects
abbrev too_early : Trap → ℕ → Row
too_early trap object = row trap.rules trap.sizes trap.calls (frees trap.final object 0)

-- and who then reads the slot is given the tag of another record
abbrev misread : Trap → ℕ → Row
misread trap taker = row trap.rules trap.sizes (taken_anew taker trap) answers

unfoldable pub rows : List Row
rows =
    too_early moving_on 2 ∷
    misread moving_on 1 ∷
    too_early marking_at_once 1 ∷
    -- its protect ends with object 1 protected, which another thread has taken out of the link meanwhile: the store finds nothing there
    row marks_at_once marking_at_once.sizes (take 13 marking_at_once.calls) answers ∷
    too_early freeing_at_last 1 ∷
    misread freeing_at_last 0 ∷
    too_early skipping_own 1 ∷
    misread skipping_own 0 ∷
    -- asked to protect link 1, which is empty, it protects what is in link 0
    row mirrors_links (sizes 1 1 2 1) (call 0 1 0 0 11 ∷ call 0 3 255 0 0 ∷ call 0 2 0 1 0 ∷ on 0 ∷ on 0 ∷ on 0 ∷ []) answers ∷
    -- while thread 0 takes object 1, object 2 comes into thread 1's hand
    row parks_the_last (sizes 2 1 1 2) (call 0 1 0 0 11 ∷ []) (untaken 2) ∷
    []

-- two lists of answers, compared number by number
unfoldable pub alike : List Numbers → List Numbers → Bool
alike [] [] = true
alike [] (y ∷ ys) = false
alike (x ∷ xs) [] = false
alike (x ∷ xs) (y ∷ ys) = eqb x.number y.number && eqb x.a y.a && eqb x.b y.b && alike xs ys

-- the fault, as the checker computes it
unfoldable pub Shows : Machine → Sizes → List Call → Fault → Type 0
Shows machine z calls answers =
    alike
    (store_says z.slots empty_store (listing none_asked (events_of machine z calls)))
    (machine_says none_asked no_takes (events_of machine z calls))
    ≡ false
Shows machine z calls (frees last object p) =
    ((machine (end_of machine z calls) last).answer ≡ Freed object) ×
    (ltb p (positions (end_of machine z calls).sizes) ≡ true) ×
    ((slot_at (end_of machine z calls) p).mark ≡ true) ×
    ((slot_at (end_of machine z calls) p).hazard ≡ object)
Shows machine z calls (untaken object) =
    (ltb 0 object ≡ true) ×
    (leb object (end_of machine z calls).sizes.objects ≡ true) ×
    (free_at (end_of machine z calls) object ≡ false) ×
    (record_of (reading_of machine z calls) object ≡ 0)

-- it holds of each row
abbrev pub Each : (Row → Type 0) → List Row → Type 0
Each holds [] = Unit {0}
Each holds (r ∷ rs) = holds r × Each holds rs

abbrev pub ShownBy : (Change → Machine) → Row → Type 0
ShownBy machine r = Shows (machine r.change) r.sizes r.calls r.fault

-- the changed machine of the row breaks the promise on the row's calls
abbrev pub Broken : Row → Type 0
Broken r = Promised (machine_of r.change) r.sizes r.calls → ⊥
