-- What is printed of an input, by the machine that does not look for 19: the same lines, computed in moments. Nothing here has to be believed.
use Rattle.std.specs.Prelude.{ℕ, ◌≡◌, refl, true, List, []}
use Rattle.std.proofs.Common.{◌∙◌}
use Rattle.entries.specs.declared.Sizes.{Sizes}
use Rattle.entries.specs.Sizes.{in_range}
use Rattle.machine.specs.declared.Call.{Call}
use Rattle.machine.specs.Step.{step_of}
use Rattle.machine.specs.Computing.{machine_computes}
use Rattle.records.specs.Marks as marks
use Rattle.records.specs.Bytes.{number_of}
use Rattle.records.specs.Numbers.{malformed_number}
use Rattle.records.specs.Reading as reading
use Rattle.records.specs.Rest.{rest_after, rest_of}
use Rattle.promise.specs.History.{history_by, state_by}
use Rattle.lines.specs.Line.{Line}
use Rattle.lines.specs.Run.{lines_of}
use Rattle.sentences.specs.Told as told
use Rattle.promise.specs.Run.{end_of}
use Rattle.schedule.specs.Input.{Ending, ended, stopped, Input, run, no_run, calls_at, calls_up_to, after, ending_at, sized, begun, input_of}
use Rattle.printed.specs.Printed.{event_line, event_lines, ending_line, lines_of_run, lines_of_input, sentences_of_input}
use Rattle.printed.proofs.Promise.{lines_are_events, sentences_of_state, sizes_in_range}
use Rattle.witness.specs.Unchecked.{unchecked, same_events, same_end}

unfoldable pub quick_lines : Input → List Line
quick_lines (run z calls ending) = lines_of_run unchecked z calls ending
quick_lines (no_run number) = lines_of_input (no_run number)

same_run : (z : Sizes) → in_range z ≡ true → (calls : List Call) (ending : Ending) → lines_of_run step_of z calls ending ≡ lines_of_run unchecked z calls ending
unfolding lines_of_run ending_line
same_run z h calls ended = rw (same_events z h calls, same_end z h calls)
same_run z h calls (stopped number) = rw (same_events z h calls)

same_input : (input : List ℕ) (said : Input) → input_of input ≡ said → lines_of_input said ≡ quick_lines said
unfolding quick_lines lines_of_input
same_input input (run z calls ending) e = same_run z (sizes_in_range input z calls ending e) calls ending
same_input input (no_run number) e = refl

pub lines_quick : (input : List ℕ) → lines_of input ≡ quick_lines (input_of input)
lines_quick input = lines_are_events input ∙ same_input input (input_of input) refl

-- and what is told of the state in which its run ends

unfoldable pub quick_sentences : Input → List ℕ
quick_sentences (run z calls ended) = told.lines_of (end_of unchecked z calls)
quick_sentences (run z calls (stopped number)) = []
quick_sentences (no_run number) = []

same_sentences : (input : List ℕ) (said : Input) → input_of input ≡ said → sentences_of_input said ≡ quick_sentences said
unfolding quick_sentences sentences_of_input
same_sentences input (run z calls ended) e = rw (same_end z (sizes_in_range input z calls ended e) calls)
same_sentences input (run z calls (stopped number)) e = refl
same_sentences input (no_run number) e = refl

pub sentences_quick : (input : List ℕ) → told.text_of input ≡ quick_sentences (input_of input)
sentences_quick input = sentences_of_state input ∙ same_sentences input (input_of input) refl

-- the definitions that such lines are computed by
unfoldable pub printing : Unit {0}
unfolding machine_computes unchecked marks.marked number_of malformed_number reading.sizes_at reading.step_at reading.zeros_at_end reading.read_of rest_after rest_of calls_at calls_up_to after ending_at sized begun input_of history_by state_by event_line event_lines ending_line lines_of_run lines_of_input quick_lines quick_sentences
printing = tt
