-- What a loop over a run needs to know of one turn, and of its start.
use Prim.Native.Nat.{ℕ, suc, ◌+◌, ◌-◌, ◌≤◌, ◌<◌}
use native.Mathlib.Omega.{arith}
use Rattle.std.specs.Prelude.{◌≡◌, refl, List, length, ltb, Result, Ok, Err, Some, None}
use Rattle.std.proofs.Common.{ltb-true, sym, ◌∙◌}
use Rattle.basics.specs.Tests.{by_test, clash}
use Rattle.entries.specs.Sizes.{in_range}
use Rattle.machine.specs.declared.State.{State}
use Rattle.machine.specs.declared.Call.{Call}
use Rattle.machine.specs.Answers.{number_of}
use Rattle.machine.specs.Fresh.{fresh_of, start_of}
use Rattle.records.specs.declared.SizesRecord.{SizesRecord}
use Rattle.records.specs.declared.Record.TheVariants as record_of
use Rattle.records.specs.Reading.{Read, read_of}
use Rattle.records.specs.Rest.{rest_of}
use Rattle.schedule.specs.declared.Opened.{Opened}
use Rattle.schedule.specs.declared.Stop.{Stop}
use Rattle.schedule.specs.declared.Stop.TheVariants.{TooManySteps}
use Rattle.schedule.specs.Said.{sizes_of}
use Rattle.schedule.specs.Input.{calls_up_to, after, ending_at, Input, run, no_run, sized, begun, input_of}
use Rattle.schedule.specs.Opening.{unopened, first_at, first_of, verdict_of, opened_by, opened_of}
use Rattle.schedule.specs.Going.{Next, next_at, next_of, left_after, steps_after}
use Rattle.schedule.specs.Stopping.{stop_number}
use Rattle.schedule.specs.Asked.{found_at, found_from}

-- a call comes only while fewer than 6,000 were done
step_room : (steps : ℕ) (c : Call) (found : Read) → next_at steps found ≡ Ok (Some c) → steps < 6000
unfolding next_at
step_room steps c (Ok (Some (record_of.Sizes r))) e = clash (cc)
step_room steps c (Ok (Some (record_of.Step r))) e =
    by_test (steps < 6000) (ltb steps 6000) (λ room. ltb-true steps 6000 room)
    (λ full. let stop : ◌≡◌ {A = Next} (Err TooManySteps) (Ok (Some c)) = rw full at e in clash (cc))
step_room steps c (Ok None) e = clash (cc)
step_room steps c (Err why) e = clash (cc)

module _ (steps : ℕ) (left : List ℕ) where
  pub call_room : (c : Call) → next_of steps left ≡ Ok (Some c) → steps < 6000
  unfolding next_of
  call_room c e = step_room steps c (read_of left) e

  -- one question more
  pub found_next :
      (stands : Next) → next_of steps left ≡ stands → steps ≤ 6000 →
      found_from (6001 - steps) steps left ≡ found_at stands (found_from (6001 - (steps + 1)) (steps + 1) (rest_of left)) left
  unfolding found_from
  found_next stands e l =
      let asked : 6001 - steps ≡ suc (6001 - (steps + 1)) = omega arith in
      rw (asked, e)

steps_within : (steps : ℕ) (left : List ℕ) (found : Next) → next_of steps left ≡ found → steps ≤ 6000 → steps_after found steps ≤ 6000
unfolding steps_after
steps_within steps left (Ok (Some c)) e l = omega (arith, call_room steps left c e)
steps_within steps left (Ok None) e l = l
steps_within steps left (Err why) e l = l

-- what a cursor over the calls gives, and where it stands then
module _ (steps then : ℕ) (left rest : List ℕ) (found : Next) (gives : found ≡ next_of steps left) (on : rest ≡ left_after found left) (count : then ≡ steps_after found steps) where
  pub count_within : steps ≤ 6000 → then ≤ 6000
  count_within l = rw count (steps_within steps left found (sym gives) l)

  pub call_passed : (c : Call) → found ≡ Ok (Some c) → (next_of steps left ≡ Ok (Some c)) × (rest ≡ rest_of left) × (then ≡ steps + 1)
  unfolding left_after steps_after
  call_passed c e = (sym gives ∙ e, rw e at on, rw e at count)

  pub end_stays : found ≡ Ok None → (next_of steps left ≡ Ok None) × (then ≡ steps)
  unfolding steps_after
  end_stays e = (sym gives ∙ e, rw e at count)

  pub stop_stays : (why : Stop) → found ≡ Err why → (next_of steps left ≡ Err why) × (then ≡ steps)
  unfolding steps_after
  stop_stays why e = (sym gives ∙ e, rw e at count)

-- what an input says, by what was opened
abbrev SaysAt : Result (Unit {0}) Stop → State → Input → List ℕ → Type 0
SaysAt (Ok done) s said rest =
    let calls = calls_up_to 6000 rest in
    (said ≡ run s.sizes calls (ending_at (read_of (after (length calls) rest)))) × (s ≡ fresh_of s.sizes)
SaysAt (Err why) s said rest = said ≡ no_run (stop_number why)

abbrev Says : Opened → Input → List ℕ → Type 0
Says by said rest = SaysAt by.verdict by.state said rest

sized_says : (r : SizesRecord) (rest : List ℕ) → Says (opened_by (Ok r)) (sized (sizes_of r) rest) rest
unfolding sized start_of fresh_of opened_by verdict_of stop_number number_of
sized_says r rest =
    by_test (Says (opened_by (Ok r)) (sized (sizes_of r) rest) rest) (in_range (sizes_of r)) (λ good. rw good (refl, refl)) (λ bad. rw bad refl)

begun_says : (found : Read) (rest : List ℕ) → Says (opened_by (first_at found)) (begun found rest) rest
unfolding begun first_at opened_by unopened stop_number
begun_says (Ok (Some (record_of.Sizes r))) rest = sized_says r rest
begun_says (Ok (Some (record_of.Step r))) rest = refl
begun_says (Ok None) rest = refl
begun_says (Err why) rest = refl

says : (input : List ℕ) (by : Opened) → by ≡ opened_of input → Says by (input_of input) (rest_of input)
unfolding input_of opened_of first_of
says input by e = rw e (begun_says (read_of input) (rest_of input))

module _ (input : List ℕ) (by : Opened) (is : by ≡ opened_of input) where
  pub good_says :
      by.verdict ≡ Ok tt →
      let calls = calls_up_to 6000 (rest_of input) in
      (input_of input ≡ run by.state.sizes calls (ending_at (read_of (after (length calls) (rest_of input))))) ×
      (by.state ≡ fresh_of by.state.sizes)
  good_says g = rw g at (says input by is)

  pub refused_says : (why : Stop) → by.verdict ≡ Err why → input_of input ≡ no_run (stop_number why)
  refused_says why g = rw g at (says input by is)
