-- What a record says, to the machine.
use Rattle.entries.specs.declared.Sizes.{Sizes}
use Rattle.machine.specs.declared.Call.{Call}
use Rattle.records.specs.declared.SizesRecord.{SizesRecord}
use Rattle.records.specs.declared.StepRecord.{StepRecord}

abbrev pub sizes_of : SizesRecord → Sizes
sizes_of r = record { threads = r.threads; slots = r.slots; links = r.links; objects = r.objects }

abbrev pub call_of : StepRecord → Call
call_of r =
    record { thread = r.thread; operation = r.operation; slot = r.slot; link = r.link; tag = r.tag }
