-- Demand 3. For all sizes in range and any calls in any order, each on the state that the last one handed back, from the fresh machine.
-- `Promised` says it of whatever machine takes the steps; `promise`, in proofs/Promise, is that document 01's keeps it, and crate `witness` has
-- machines that do not.
use Rattle.std.specs.Prelude.{ℕ, ◌+◌, ◌*◌, ◌-◌, ◌<◌, ◌≤◌, ◌≡◌, true, List}
use Rattle.entries.specs.declared.Sizes.{Sizes}
use Rattle.machine.specs.declared.Call.{Call}
use Rattle.machine.specs.declared.Answer.TheVariants.{Refused, Freed}
use Rattle.machine.specs.declared.refusal.Refusal.TheVariants.{Unsound}
use Rattle.entries.specs.Sizes.{positions}
use Rattle.machine.specs.Parts.{slot_at}
use Rattle.machine.specs.Count.{five_places}
use Rattle.basics.specs.Counts.{how_many}
use Rattle.promise.specs.Store.{empty_store, store_says}
use Rattle.promise.specs.History.{Event, Machine, history_by, state_by, retires, freed}
use Rattle.promise.specs.Reading.{no_takes}
use Rattle.promise.specs.Asked.{none_asked}
use Rattle.promise.specs.Listing.{listing, machine_says}
use Rattle.promise.specs.Holdings.{SameHoldings, SameRecords, Unheld, waiting, renewals, hands_out}
use Rattle.promise.specs.GivenUp.{SameGivenUp}
use Rattle.promise.specs.Run.{events_of, end_of, memory_of, store_of, reading_of, given_of}

-- accepted retires less Freed answers are at most T × (H + 1)
abbrev pub WithinBound : Sizes → List Event → Type 0
WithinBound z events = retires events - freed events ≤ z.threads * (z.slots + 1)

pub record Promised (machine : Machine) (z : Sizes) (calls : List Call) : Type 0 where
  -- the store, given the listed calls in their order, answers each as the machine did
  pub same_answers :
      store_says z.slots empty_store (listing none_asked (events_of machine z calls)) ≡
      machine_says none_asked no_takes (events_of machine z calls)
  -- every link, every hand and every slot with the mark on hold the same record in both
  pub same_holdings : SameHoldings (end_of machine z calls) (reading_of machine z calls) (store_of machine z calls)
  -- every object that is not free has a record of its own, and that record's tag
  pub same_records : SameRecords (end_of machine z calls) (reading_of machine z calls) (store_of machine z calls)
  -- the takes that were retired and not freed since are those of the objects in a handover or carried
  pub given_up : SameGivenUp (end_of machine z calls) (reading_of machine z calls) (given_of machine z calls)
  -- accepted retires less Freed answers are the non-zero handovers plus the carried objects
  pub as_many : freed (events_of machine z calls) + waiting (end_of machine z calls) ≡ retires (events_of machine z calls)
  -- and are at most T × (H + 1)
  pub bound : WithinBound z (events_of machine z calls)
  -- the five places sum to N
  pub places_sum :
      let p = five_places (end_of machine z calls) in
      p.free + p.links + p.hands + p.handovers + p.carried ≡ z.objects
  -- no call is answered 19
  pub never_unsound : (next : Call) → (machine (end_of machine z calls) next).answer ≡ Refused Unsound → ⊥
  -- when an object is freed, no link, no hand and no protected slot holds it
  pub freed_unheld : (next : Call) (object : ℕ) → (machine (end_of machine z calls) next).answer ≡ Freed object
      → Unheld (end_of machine z calls) object × Unheld (machine (end_of machine z calls) next).state object
  -- from when a slot is protected until it is cleared or published anew, it keeps its object, which is not handed out again
  pub protected_kept : (p : ℕ) → p < positions z → (slot_at (end_of machine z calls) p).mark ≡ true → (more : List Call)
      → renewals z.slots p (memory_of machine z calls) (history_by machine (end_of machine z calls) more) ≡ 0
      → ((slot_at (state_by machine (end_of machine z calls) more) p).mark ≡ true)
      × ((slot_at (state_by machine (end_of machine z calls) more) p).hazard ≡ (slot_at (end_of machine z calls) p).hazard)
      × (how_many (hands_out (slot_at (end_of machine z calls) p).hazard) (history_by machine (end_of machine z calls) more) ≡ 0)
