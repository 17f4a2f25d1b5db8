-- How a run ends from a state and the bytes that are left, by what stands next there.
use Rattle.std.proofs.Common.{ℕ, ◌+◌, ◌-◌, ◌≤◌, ◌≡◌, List, Ok, Err, Some, None}
use Rattle.machine.specs.declared.State.{State}
use Rattle.machine.specs.declared.Call.{Call}
use Rattle.machine.specs.Step.{step_of}
use Rattle.promise.specs.History.{state_by}
use Rattle.records.specs.Rest.{rest_of}
use Rattle.schedule.specs.declared.Opened.{Opened}
use Rattle.schedule.specs.declared.Stop.{Stop}
use Rattle.schedule.specs.Going.{next_of}
use Rattle.schedule.specs.Asked.{found_at, found_from, found_of, found_in}
use Rattle.schedule.specs.Opening.{opened_of}
use Rattle.schedule.proofs.Promise.{asking_finds}
use Rattle.schedule.proofs.Turns.{found_next, good_says, refused_says}
use Rattle.sentences.specs.Ends.{ended, stopped, end_at, end_found, end_in, end_of}

module _ (steps : ℕ) (s : State) (left : List ℕ) (l : steps ≤ 6000) where
  pub step_end :
      (c : Call) → next_of steps left ≡ Ok (Some c) →
      end_found s (found_from (6001 - steps) steps left) ≡
      end_found (step_of s c).state (found_from (6001 - (steps + 1)) (steps + 1) (rest_of left))
  unfolding end_found found_at state_by
  step_end c e = rw (found_next steps left (Ok (Some c)) e l)

  pub well_end : next_of steps left ≡ Ok None → end_found s (found_from (6001 - steps) steps left) ≡ ended s
  unfolding end_found found_at state_by end_at
  well_end e = rw (found_next steps left (Ok None) e l)

  pub stop_end : (why : Stop) → next_of steps left ≡ Err why → end_found s (found_from (6001 - steps) steps left) ≡ stopped
  unfolding end_found found_at state_by end_at
  stop_end why e = rw (found_next steps left (Err why) e l)

-- an input that opens a machine, and one that does not
module _ (input : List ℕ) (by : Opened) (is : by ≡ opened_of input) where
  pub good_end : by.verdict ≡ Ok tt → end_of input ≡ end_found by.state (found_of (rest_of input))
  unfolding end_of end_in end_found found_in
  good_end g =
      let says = good_says input by is g in
      rw (says.0, asking_finds (rest_of input), ← says.1)

  pub refused_end : (why : Stop) → by.verdict ≡ Err why → end_of input ≡ stopped
  unfolding end_of end_in
  refused_end why g = rw (refused_says input by is why g)
