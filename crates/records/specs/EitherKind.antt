-- A record of either kind, as reading answers it.
use Rattle.std.specs.Prelude.{ℕ, ◌^◌, ◌<◌, List, [], Ok, Err, Some, None}
use Rattle.records.specs.declared.Record.{Record}
use Rattle.records.specs.declared.Record.TheVariants.{Sizes, Step}
use Rattle.records.specs.Reading.{Read}
use Rattle.records.specs.Bytes.{sizes_bytes, step_bytes}

-- the ten bytes of a record
abbrev pub record_bytes : Record → List ℕ
record_bytes (Sizes r) = sizes_bytes r
record_bytes (Step r) = step_bytes r

-- the ten bytes of what was read; the end and a refusal are no record and have none
abbrev pub read_bytes : Read → List ℕ
read_bytes (Ok (Some r)) = record_bytes r
read_bytes (Ok None) = []
read_bytes (Err why) = []

-- a record whose fields fit: "the tag 32 bits, the others one byte each, as the four sizes are"
unfoldable pub GoodRecord : Record → Type 0
GoodRecord (Sizes r) = (r.threads < 256) × (r.slots < 256) × (r.links < 256) × (r.objects < 256)
GoodRecord (Step r) = (r.thread < 256) × (r.operation < 256) × (r.slot < 256) × (r.link < 256) × (r.tag < 2 ^ 32)
