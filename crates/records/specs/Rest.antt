-- What is left of the input after reading.
use Rattle.std.specs.Prelude.{ℕ, List, drop, Ok, Err, Some, None}
use Rattle.records.specs.Reading.{Read, read_of}

-- "After a good record, the bytes after the record are given back as the rest of the same input; at End or a refusal, the whole input is."
unfoldable pub rest_after : Read → List ℕ → List ℕ
rest_after (Ok (Some r)) bytes = drop 10 bytes
rest_after (Ok None) bytes = bytes
rest_after (Err why) bytes = bytes

-- what is left of this input
unfoldable pub rest_of : List ℕ → List ℕ
rest_of bytes = rest_after (read_of bytes) bytes
