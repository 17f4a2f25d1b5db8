-- A record that `Promise` in proofs/ states something of.
use Rattle.records.specs.declared.StepRecord.{StepRecord}

-- "(12) tag 4294967295 written and read": a take with this tag
abbrev pub largest_tag : StepRecord
largest_tag = record { thread = 0; operation = 1; slot = 0; link = 0; tag = 4294967295 }
