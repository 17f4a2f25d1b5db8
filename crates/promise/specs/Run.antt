-- A run of any calls from the fresh machine, and what stands beside it, as they are after the last of the calls. `Of` a machine that takes the
-- steps, which may be another than document 01's.
use Rattle.std.specs.Prelude.{List}
use Rattle.entries.specs.declared.Sizes.{Sizes}
use Rattle.machine.specs.declared.State.{State}
use Rattle.machine.specs.declared.Call.{Call}
use Rattle.machine.specs.Fresh.{fresh_of}
use Rattle.machine.specs.Step.{step_of}
use Rattle.promise.specs.Store.{Store, empty_store, store_after}
use Rattle.promise.specs.History.{Machine, Event, history_by, state_by}
use Rattle.promise.specs.Reading.{Reading, no_takes, reading_after}
use Rattle.promise.specs.Asked.{Memory, none_asked, memory_after}
use Rattle.promise.specs.Listing.{listing}
use Rattle.promise.specs.GivenUp.{GivenUp, none_given_up, given_after}

module _ (machine : Machine) (z : Sizes) (calls : List Call) where
  -- what happened
  abbrev pub events_of : List Event
  events_of = history_by machine (fresh_of z) calls

  -- the state of the machine
  abbrev pub end_of : State
  end_of = state_by machine (fresh_of z) calls

  -- what each thread has asked for
  abbrev pub memory_of : Memory
  memory_of = memory_after none_asked events_of

  -- the store, having done the listed calls whole
  abbrev pub store_of : Store
  store_of = store_after z.slots empty_store (listing none_asked events_of)

  -- which take last handed each object out
  abbrev pub reading_of : Reading
  reading_of = reading_after no_takes events_of

  -- which takes were given up and not freed since
  abbrev pub given_of : GivenUp
  given_of = given_after no_takes none_given_up events_of

-- the same of document 01's machine

module _ (z : Sizes) (calls : List Call) where
  abbrev pub events : List Event
  events = events_of step_of z calls

  abbrev pub state : State
  state = end_of step_of z calls

  abbrev pub memory : Memory
  memory = memory_of step_of z calls

  abbrev pub store : Store
  store = store_of step_of z calls

  abbrev pub reading : Reading
  reading = reading_of step_of z calls

  abbrev pub given : GivenUp
  given = given_of step_of z calls
