-- "A fresh machine has every object free, tags 0, all else 0 and idle." "Starting with a size out of range is refused 20 and returns the
-- blank state."
use Rattle.std.specs.Prelude.{cond, replicate, Ok, Err}
use Rattle.entries.specs.declared.Sizes.{Sizes}
use Rattle.machine.specs.declared.State.{State}
use Rattle.machine.specs.declared.Started.{Started}
use Rattle.machine.specs.declared.refusal.Refusal.TheVariants.{SizeOutOfRange}
use Rattle.entries.specs.Sizes.{in_range}
use Rattle.entries.specs.Entries.{idle_thread, empty_slot}
use Rattle.pool.specs.Pool.{fresh_pool}

unfoldable pub fresh_of : Sizes → State
fresh_of z =
    record {
      sizes = z;
      links = replicate 16 0;
      threads = replicate 8 idle_thread;
      slots = replicate 32 empty_slot;
      pool = fresh_pool z.objects;
      tags = replicate 240 0;
    }

-- "The blank state, all sizes and entries 0, idle and unmarked"
unfoldable pub blank : State
blank =
    record {
      sizes = record { threads = 0; slots = 0; links = 0; objects = 0 };
      links = replicate 16 0;
      threads = replicate 8 idle_thread;
      slots = replicate 32 empty_slot;
      pool = fresh_pool 0;
      tags = replicate 240 0;
    }

unfoldable pub start_of : Sizes → Started
start_of z =
    cond (in_range z)
    (record { state = fresh_of z; verdict = Ok tt })
    (record { state = blank; verdict = Err SizeOutOfRange })
