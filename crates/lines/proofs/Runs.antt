-- What a run writes from a state and the bytes that are left, by what stands next there.
use Prim.Native.Nat.{ℕ, ◌+◌, ◌-◌, ◌≤◌}
use mathlib.Core.Path.{◌≡◌}
use Rattle.std.specs.Prelude.{Ok, Err, Some, None}
use mathlib.Core.List.{List, [], ◌∷◌, ◌++◌, append-nil}
use Rattle.machine.specs.declared.State.{State}
use Rattle.machine.specs.declared.Call.{Call}
use Rattle.machine.specs.Step.{step_of}
use Rattle.machine.specs.Count.{count_of}
use Rattle.records.specs.Rest.{rest_of}
use Rattle.schedule.specs.declared.Opened.{Opened}
use Rattle.schedule.specs.declared.Stop.{Stop}
use Rattle.schedule.specs.Stopping.{stop_number}
use Rattle.schedule.specs.Going.{next_of}
use Rattle.schedule.specs.Opening.{opened_of}
use Rattle.schedule.specs.Asked.{found_at, found_from, found_of, found_in}
use Rattle.schedule.proofs.Promise.{asking_finds}
use Rattle.schedule.proofs.Turns.{found_next, good_says, refused_says}
use Rattle.lines.specs.Line.{Line, bytes_of, text}
use Rattle.lines.specs.Run.{sizes_line, step_line, end_line, stop_line, last_line, lines_from, lines_in, lines_of, text_of, lines_found}

one_line : (line : Line) → text (line ∷ []) ≡ bytes_of line
unfolding text
one_line line = append-nil (bytes_of line)

module _ (steps : ℕ) (s : State) (left : List ℕ) (l : steps ≤ 6000) where
  pub step_text :
      (c : Call) → next_of steps left ≡ Ok (Some c) →
      text (lines_found steps s (found_from (6001 - steps) steps left)) ≡
      bytes_of (step_line (steps + 1) c (step_of s c).answer) ++
      text (lines_found (steps + 1) (step_of s c).state (found_from (6001 - (steps + 1)) (steps + 1) (rest_of left)))
  unfolding lines_found lines_from found_at text
  step_text c e = rw (found_next steps left (Ok (Some c)) e l)

  pub end_text :
      next_of steps left ≡ Ok None →
      text (lines_found steps s (found_from (6001 - steps) steps left)) ≡ bytes_of (end_line steps (count_of s).places)
  unfolding lines_found lines_from found_at last_line
  end_text e = rw (found_next steps left (Ok None) e l) (one_line (end_line steps (count_of s).places))

  pub stop_text :
      (why : Stop) → next_of steps left ≡ Err why →
      text (lines_found steps s (found_from (6001 - steps) steps left)) ≡ bytes_of (stop_line (steps + 1) (stop_number why))
  unfolding lines_found lines_from found_at last_line
  stop_text why e = rw (found_next steps left (Err why) e l) (one_line (stop_line (steps + 1) (stop_number why)))

-- an input that opens a machine, and one that does not
module _ (input : List ℕ) (by : Opened) (is : by ≡ opened_of input) where
  pub good_text_lem :
      by.verdict ≡ Ok tt →
      text_of input ≡ bytes_of (sizes_line by.state.sizes) ++ text (lines_found 0 by.state (found_of (rest_of input)))
  unfolding text_of lines_of lines_in lines_found text found_in
  good_text_lem g =
      let says = good_says input by is g in
      rw (says.0, asking_finds (rest_of input), ← says.1)

  pub refused_text : (why : Stop) → by.verdict ≡ Err why → text_of input ≡ bytes_of (stop_line 0 (stop_number why))
  unfolding text_of lines_of lines_in
  refused_text why g = rw (refused_says input by is why g) (one_line (stop_line 0 (stop_number why)))
