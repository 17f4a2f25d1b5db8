-- What a whole line says.
use Rattle.std.specs.Prelude.{ℕ, List, Bool, cond, eqb, Option, Some, None, Result, Ok, Err}
use Rattle.records.specs.declared.SizesRecord.{SizesRecord}
use Rattle.records.specs.declared.StepRecord.{StepRecord}
use Rattle.records.specs.declared.Record.{Record}
use Rattle.records.specs.declared.Record.TheVariants.{Sizes, Step}
use Rattle.script.specs.declared.Place.TheVariants as place
use Rattle.script.specs.declared.Fault.{Fault}
use Rattle.words.specs.Words.{word_at}
use Rattle.script.specs.Reading.{◌>>=◌, after, byte_at, operation_at, slot_at, link_at, tag_at, ended_of}

-- nothing, a record, or a fault
abbrev pub Line : Type 0
Line = Result (Option Record) Fault

-- "a line of four sizes"
unfoldable pub sizes_line : List ℕ → ℕ → Result SizesRecord Fault
sizes_line text at = do
  threads ← byte_at text at place.Threads
  let at = after text at
  slots ← byte_at text at place.Slots
  let at = after text at
  links ← byte_at text at place.Links
  let at = after text at
  objects ← byte_at text at place.Objects
  ended ← ended_of text (after text at) place.AfterSizes
  Ok (record { threads = threads; slots = slots; links = links; objects = objects })

-- "a line a step with thread, operation and, where not 0, slot, link, tag"
unfoldable pub step_line : List ℕ → ℕ → Result StepRecord Fault
step_line text at = do
  thread ← byte_at text at place.Thread
  let at = after text at
  operation ← operation_at text at
  let at = after text at
  slot ← slot_at text at operation
  let at = after text at
  link ← link_at text at
  let at = after text at
  tag ← tag_at text at
  ended ← ended_of text (after text at) place.AfterStep
  Ok (record { thread = thread; operation = operation; slot = slot; link = link; tag = tag })

-- a line that says a record of one kind
unfoldable pub lined : {A : Type 0} → (A → Record) → Result A Fault → Line
lined kind (Ok said) = Ok (Some (kind said))
lined kind (Err first) = Err first

-- "blank lines and comments allowed"; the first line that says something has the sizes
unfoldable pub line_of : List ℕ → ℕ → Bool → Line
line_of text at sizes =
    let first = word_at text at in
    cond (eqb first.from first.to) (Ok None) (cond sizes (lined Sizes (sizes_line text at)) (lined Step (step_line text at)))
