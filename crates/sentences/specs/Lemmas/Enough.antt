-- Bytes past those that a run can look at make no difference to how it ends.
use Rattle.std.specs.Prelude.{ℕ, ◌≡◌, List, take}
use Rattle.schedule.specs.Input.{input_for_all}
use Rattle.schedule.proofs.Promise as schedule
use Rattle.sentences.specs.Ends.{end_of}
use Rattle.sentences.specs.Told.{text_of}

pub enough_read : (input : List ℕ) → text_of (take input_for_all input) ≡ text_of input
unfolding text_of end_of
enough_read input = rw (schedule.enough_read input)
