-- The five places, counted: free, in links, in hands, in handovers, carried. "The count of the five places on an unsound state is refused
-- 19 with five zeros."
use Rattle.std.specs.Prelude.{cond, Ok, Err}
use Rattle.machine.specs.declared.State.{State}
use Rattle.machine.specs.declared.Places.{Places}
use Rattle.machine.specs.declared.Counted.{Counted}
use Rattle.machine.specs.declared.refusal.Refusal.TheVariants.{Unsound}
use Rattle.entries.specs.Phases.{carried_by}
use Rattle.machine.specs.Soundness.{sound}
use Rattle.basics.specs.Counts.{how_many}
use Rattle.entries.specs.Entries.{is_object}
use Rattle.pool.specs.Pool.{free_count}

unfoldable pub five_places : State → Places
five_places s =
    record {
      free = free_count s.pool;
      links = how_many is_object s.links;
      hands = how_many (λ thread. is_object thread.hand) s.threads;
      handovers = how_many (λ slot. is_object slot.handover) s.slots;
      carried = how_many (λ thread. is_object (carried_by thread.phase)) s.threads;
    }

abbrev pub no_places : Places
no_places = record { free = 0; links = 0; hands = 0; handovers = 0; carried = 0 }

unfoldable pub count_of : State → Counted
count_of s =
    cond (sound s)
    (record { places = five_places s; verdict = Ok tt })
    (record { places = no_places; verdict = Err Unsound })
