-- The parts of a state, read and stored.
-- "Threads, slots and links are numbered from 0, objects from 1; 0 means no object."
use Rattle.std.specs.Prelude.{ℕ, ◌+◌, ◌*◌, ◌-◌, Bool, List, get_or, set}
use Rattle.machine.specs.declared.State.{State}
use Rattle.entries.specs.declared.Sizes.{Sizes}
use Rattle.entries.specs.declared.Thread.{Thread}
use Rattle.entries.specs.declared.Slot.{Slot}
use Rattle.entries.specs.declared.Phase.{Phase}
use Rattle.pool.specs.declared.Pool.{Pool}
use Rattle.entries.specs.Entries.{thread, idle_thread, empty_slot}
use Rattle.pool.specs.Pool.{pool_of, is_free}

-- a state of these parts, the pool by its marks
abbrev pub of_parts : Sizes → List ℕ → List Thread → List Slot → List Bool → List ℕ → State
of_parts z links threads slots marks tags =
    record { sizes = z; links = links; threads = threads; slots = slots; pool = pool_of marks; tags = tags }

-- "per link: an object or 0"
abbrev pub link_at : State → ℕ → ℕ
link_at s i = get_or s.links i 0

-- "per thread: a hand (an object or 0) and what each thread is in the middle of"
abbrev pub thread_at : State → ℕ → Thread
thread_at s t = get_or s.threads t idle_thread

abbrev pub hand_of : State → ℕ → ℕ
hand_of s t = (thread_at s t).hand

abbrev pub phase_of : State → ℕ → Phase
phase_of s t = (thread_at s t).phase

-- "per slot: a hazard (an object or 0), a protected mark, a handover (an object or 0)"; p is the slot's position
abbrev pub slot_at : State → ℕ → Slot
slot_at s p = get_or s.slots p empty_slot

-- "A slot's position is thread × H + slot"
abbrev pub position_of : State → ℕ → ℕ → ℕ
position_of s t slot = t * s.sizes.slots + slot

-- "per object: a free mark and a tag"; objects are numbered from 1
abbrev pub free_at : State → ℕ → Bool
free_at s o = is_free s.pool o

abbrev pub tag_of : State → ℕ → ℕ
tag_of s o = get_or s.tags (o - 1) 0

-- one part stored anew, all others as they were

abbrev pub with_link : State → ℕ → ℕ → State
with_link s i o =
    record {
      sizes = s.sizes;
      links = set s.links i o;
      threads = s.threads;
      slots = s.slots;
      pool = s.pool;
      tags = s.tags;
    }

abbrev pub with_thread : State → ℕ → ℕ → Phase → State
with_thread s t hand phase =
    record {
      sizes = s.sizes;
      links = s.links;
      threads = set s.threads t (thread hand phase);
      slots = s.slots;
      pool = s.pool;
      tags = s.tags;
    }

abbrev pub with_slot : State → ℕ → Slot → State
with_slot s p slot =
    record {
      sizes = s.sizes;
      links = s.links;
      threads = s.threads;
      slots = set s.slots p slot;
      pool = s.pool;
      tags = s.tags;
    }

-- the pool and an object's tag together: both change when it is handed out and when it becomes free
abbrev pub with_pool : State → Pool → ℕ → ℕ → State
with_pool s pool o tag =
    record {
      sizes = s.sizes;
      links = s.links;
      threads = s.threads;
      slots = s.slots;
      pool = pool;
      tags = set s.tags (o - 1) tag;
    }

-- the thread's hand kept, its phase another
abbrev pub become : State → ℕ → Phase → State
become s t phase = with_thread s t (hand_of s t) phase
