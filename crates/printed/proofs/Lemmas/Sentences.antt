-- The state with which the run over an input's bytes ends is that after the calls that the bytes say.
use Rattle.std.specs.Prelude.{ℕ, ◌≡◌, refl, List}
use Rattle.schedule.specs.Input.{Input, run, no_run, ended, stopped, input_of}
use Rattle.sentences.specs.Ends.{end_at, end_in, end_of}
use Rattle.sentences.specs.Told.{text_at, text_of}
use Rattle.printed.specs.Printed.{sentences_of_input}

said_text : (said : Input) → text_at (end_in said) ≡ sentences_of_input said
unfolding end_in end_at text_at sentences_of_input
said_text (run z calls ended) = refl
said_text (run z calls (stopped number)) = refl
said_text (no_run number) = refl

pub sentences_of_state : (bytes : List ℕ) → text_of bytes ≡ sentences_of_input (input_of bytes)
unfolding text_of end_of
sentences_of_state bytes = said_text (input_of bytes)
