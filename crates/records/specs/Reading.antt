-- What reading answers. "Reading looks at the front of the input".
use Rattle.std.specs.Prelude.{ℕ, List, [], ◌∷◌, Bool, cond, not, ◌&&◌, ◌||◌, length, get_or, ltb, eqb, Result, Ok, Err, Option, Some, None}
use Rattle.records.specs.declared.SizesRecord.{SizesRecord}
use Rattle.records.specs.declared.StepRecord.{StepRecord}
use Rattle.records.specs.declared.Record.{Record}
use Rattle.records.specs.declared.Record.TheVariants.{Sizes, Step}
use Rattle.records.specs.declared.Malformed.{Malformed}
use Rattle.records.specs.declared.Malformed.TheVariants.{Short, OtherMark, NotZero}
use Rattle.records.specs.Marks.{sizes_mark, step_mark, marked}
use Rattle.records.specs.Bytes.{number_of}

-- a record, none at the end of the input, or why the bytes are no record
abbrev pub Read : Type 0
Read = Result (Option Record) Malformed

-- "then T, H, L, N one byte each"
unfoldable pub sizes_at : List ℕ → SizesRecord
sizes_at bytes =
    record {
      threads = get_or bytes 2 0;
      slots = get_or bytes 3 0;
      links = get_or bytes 4 0;
      objects = get_or bytes 5 0;
    }

-- "thread, operation, slot, link, one byte each, then tag, low byte first"
unfoldable pub step_at : List ℕ → StepRecord
step_at bytes =
    record {
      thread = get_or bytes 2 0;
      operation = get_or bytes 3 0;
      slot = get_or bytes 4 0;
      link = get_or bytes 5 0;
      tag = number_of (get_or bytes 6 0 ∷ get_or bytes 7 0 ∷ get_or bytes 8 0 ∷ get_or bytes 9 0 ∷ []);
    }

-- a record's last four bytes are all 0
unfoldable pub zeros_at_end : List ℕ → Bool
zeros_at_end bytes =
    eqb (get_or bytes 6 0) 0 && (eqb (get_or bytes 7 0) 0 && (eqb (get_or bytes 8 0) 0 && eqb (get_or bytes 9 0) 0))

-- "no bytes is End; 1 to 9 bytes is 40; another mark is 41; a sizes record whose last four bytes are not all 0 is 44, in that order.
-- Values are not judged at reading."
unfoldable pub read_of : List ℕ → Read
read_of bytes =
    cond (eqb (length bytes) 0) (Ok None)
    (cond (ltb (length bytes) 10) (Err Short)
    (cond (not (marked sizes_mark bytes || marked step_mark bytes)) (Err OtherMark)
    (cond (marked sizes_mark bytes && not (zeros_at_end bytes)) (Err NotZero)
    (Ok (Some (cond (marked sizes_mark bytes) (Sizes (sizes_at bytes)) (Step (step_at bytes))))))))
