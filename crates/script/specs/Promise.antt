-- What is promised of a packed text: it is a schedule, one sizes record first and then steps alone. So the program that runs it never stops at
-- a record that is cut short, has another mark or comes in the wrong place.
use Prim.Native.Nat.{ℕ, zero, suc, ◌-◌}
use Rattle.std.proofs.Math.Path.{◌≡◌, refl}
use Rattle.std.specs.Prelude.{Some, None, Result, Ok, Err, Bool, true, false, cond, List, [], ◌∷◌, ◌++◌, ◌⊎◌, length, eqb, ltb}
use Rattle.std.proofs.Common.{append-nil, inl, inr, ⊎_elim, arith, ne_eqb, length-append}
use Rattle.records.specs.declared.SizesRecord.{SizesRecord}
use Rattle.records.specs.declared.StepRecord.{StepRecord}
use Rattle.records.specs.declared.Record.{Record}
use Rattle.records.specs.declared.Record.TheVariants.{Sizes, Step}
use Rattle.records.specs.Bytes.{sizes_bytes, step_bytes, low_first}
use Rattle.script.specs.declared.Fault.{Fault}
use Rattle.words.specs.Words.{word_at}
use Rattle.script.specs.declared.Place.{Place}
use Rattle.script.specs.Reading.{◌>>=◌, without_more, ended_of}
use Rattle.script.specs.Lines.{Line, lined, sizes_line, step_line, line_of}
use Rattle.script.specs.Packing.{Took, added_by, took_of, Outcome, finish, go_on, pack_from, pack_of}

-- the bytes of a schedule: a sizes record, and steps after it
pub data Schedule : List ℕ → Type 0 where
  sizes : (r : SizesRecord) → Schedule (sizes_bytes r)
  step : {bytes : List ℕ} → Schedule bytes → (r : StepRecord) → Schedule (bytes ++ step_bytes r)

-- the first line that says something says sizes and no step, and every later one a step and no sizes

NoStep : Line → Type 0
NoStep (Ok None) = Unit {0}
NoStep (Ok (Some (Sizes r))) = Unit {0}
NoStep (Ok (Some (Step r))) = ⊥
NoStep (Err fault) = Unit {0}

NoSizes : Line → Type 0
NoSizes (Ok None) = Unit {0}
NoSizes (Ok (Some (Sizes r))) = ⊥
NoSizes (Ok (Some (Step r))) = Unit {0}
NoSizes (Err fault) = Unit {0}

module _ (P : Line → Type 0) (wrong_is : (fault : Fault) → P (Err fault)) where
  by_test : (t : Bool) (yes_line no_line : Line) → P yes_line → P no_line → P (cond t yes_line no_line)
  by_test true a b p q = p
  by_test false a b p q = q

  by_end : (text : List ℕ) (at : ℕ) (place : Place) (said : Line) → P said → P (ended_of text at place >>= (λ ended. said))
  unfolding ended_of without_more
  by_end text at place said h = after_test (ltb (word_at text at).from (word_at text at).to) _
    where
      after_test : (t : Bool) (first : Fault) → P (cond t (Err first) (Ok (tt {0})) >>= (λ ended. said))
      after_test true first = wrong_is first
      after_test false first = h

  by_kind : {A : Type 0} (kind : A → Record) (said : Result A Fault) → ((r : A) → P (Ok (Some (kind r)))) → P (lined kind said)
  unfolding lined
  by_kind kind (Ok r) h = h r
  by_kind kind (Err first) h = wrong_is first

sizes_no_step : (text : List ℕ) (at : ℕ) → NoStep (lined Sizes (sizes_line text at))
unfolding NoStep
sizes_no_step text at = by_kind NoStep (λ f. tt) Sizes (sizes_line text at) (λ r. tt)

step_no_sizes : (text : List ℕ) (at : ℕ) → NoSizes (lined Step (step_line text at))
unfolding NoSizes
step_no_sizes text at = by_kind NoSizes (λ f. tt) Step (step_line text at) (λ r. tt)

first_no_step : (text : List ℕ) (at : ℕ) → NoStep (line_of text at true)
unfolding line_of NoStep
first_no_step text at =
    by_test NoStep (λ f. tt) (eqb (word_at text at).from (word_at text at).to) (Ok None) (lined Sizes (sizes_line text at)) tt (sizes_no_step text at)

later_no_sizes : (text : List ℕ) (at : ℕ) → NoSizes (line_of text at false)
unfolding line_of NoSizes
later_no_sizes text at =
    by_test NoSizes (λ f. tt) (eqb (word_at text at).from (word_at text at).to) (Ok None) (lined Step (step_line text at)) tt (step_no_sizes text at)

-- what was packed so far: nothing yet, or a schedule
abbrev SoFar : List ℕ → Type 0
SoFar done = (done ≡ []) ⊎ Schedule done

schedule_long : (done : List ℕ) → Schedule done → eqb (length done) 0 ≡ false
unfolding sizes_bytes step_bytes low_first
schedule_long done (sizes r) = refl
schedule_long done (step {bytes = bytes} s r) = ne_eqb _ 0 (λ (e : length (bytes ++ step_bytes r) ≡ 0). omega (arith, length-append bytes (step_bytes r)))

-- a record that had room: where it had none, nothing is full

sizes_on : (t : Bool) (m more : ℕ) (fault : Fault) (done : List ℕ) (r : SizesRecord) → done ≡ [] → cond t (Err fault) (Ok more) ≡ Ok m → Schedule (done ++ cond t [] (sizes_bytes r))
sizes_on true m more fault done r e took = let z : ◌≡◌ {A = ℕ} 0 1 = cc in absurd (omega arith)
sizes_on false m more fault done r e took = rw e (sizes r)

step_on : (t : Bool) (m more : ℕ) (fault : Fault) (done : List ℕ) (r : StepRecord) → Schedule done → cond t (Err fault) (Ok more) ≡ Ok m → Schedule (done ++ cond t [] (step_bytes r))
step_on true m more fault done r s took = let z : ◌≡◌ {A = ℕ} 0 1 = cc in absurd (omega arith)
step_on false m more fault done r s took = step s r

-- one line more
grown : (room full m : ℕ) (done : List ℕ) (said : Line) → SoFar done → (done ≡ [] → NoStep said) → (Schedule done → NoSizes said) → took_of room full said ≡ Ok m → SoFar (done ++ added_by room full said)
unfolding added_by took_of NoStep NoSizes
grown room full m done (Ok None) so f g took = rw append-nil so
grown room full m done (Ok (Some (Sizes r))) so f g took =
    ⊎_elim (λ e. inr (sizes_on (ltb (room - full) 10) m _ _ done r e took)) (λ s. absurd (g s)) so
grown room full m done (Ok (Some (Step r))) so f g took =
    ⊎_elim (λ e. absurd (f e)) (λ s. inr (step_on (ltb (room - full) 10) m _ _ done r s took)) so
grown room full m done (Err fault) so f g took = let z : ◌≡◌ {A = ℕ} 0 1 = cc in absurd (omega arith)

-- the text's end
finish_none : (number n : ℕ) (done : List ℕ) → done ≡ [] → (finish number done).said ≡ Ok n → ⊥
unfolding finish
finish_none number n [] e h = let z : ◌≡◌ {A = ℕ} 0 1 = cc in omega arith
finish_none number n (b ∷ bs) e h = let z : ◌≡◌ {A = ℕ} 0 1 = cc in omega arith

finished : (number n : ℕ) (done : List ℕ) → SoFar done → (finish number done).said ≡ Ok n → Schedule (finish number done).bytes
unfolding finish
finished number n done so h = ⊎_elim (λ e. absurd (finish_none number n done e h)) (λ s. s) so

module _ (n : ℕ) where
  on_or_end : (t : Bool) (a b : Outcome) → (a.said ≡ Ok n → Schedule a.bytes) → (b.said ≡ Ok n → Schedule b.bytes) → (cond t a b).said ≡ Ok n → Schedule (cond t a b).bytes
  on_or_end true a b f g h = f h
  on_or_end false a b f g h = g h

  on_took : (took : Took) (number : ℕ) (done : List ℕ) (next : List ℕ → Outcome) → ((m : ℕ) → took ≡ Ok m → (next done).said ≡ Ok n → Schedule (next done).bytes) → (go_on number done next took).said ≡ Ok n → Schedule (go_on number done next took).bytes
  unfolding go_on
  on_took (Ok m) number done next f h = f m refl h
  on_took (Err fault) number done next f h = let z : ◌≡◌ {A = ℕ} 0 1 = cc in absurd (omega arith)

  from_here : (lines room : ℕ) (text : List ℕ) (at number : ℕ) (done : List ℕ) → SoFar done → (pack_from lines room text at number done).said ≡ Ok n → Schedule (pack_from lines room text at number done).bytes
  unfolding pack_from
  from_here zero room text at number done so h = finished number n done so h
  from_here (suc lines) room text at number done so h =
      let said = line_of text at (eqb (length done) 0) in
      on_or_end (ltb at (length text)) _ _
      (on_took (took_of room (length done) said) number _ _
      (λ m took. from_here lines room text _ _ _ (grown room (length done) m done said so (λ e. rw e (first_no_step text at)) (λ s. rw (schedule_long done s) (later_no_sizes text at)) took)))
      (finished number n done so)
      h

-- A text that is packed is a schedule: its sizes first, and then steps alone.
pub packed_is_schedule : (room n : ℕ) (text : List ℕ) → (pack_of room text).said ≡ Ok n → Schedule (pack_of room text).bytes
unfolding pack_of
packed_is_schedule room n text h = from_here n (length text) room text 0 1 [] (inl refl) h
