-- What the printed lines count is what the history counts.
use Rattle.std.specs.Prelude.{ℕ, ◌+◌, ◌≡◌, refl}
use Rattle.std.proofs.Common.{sym, ◌∙◌}
use Rattle.std.proofs.Math.Path.{ap}
use mathlib.Core.List.{List, [], ◌∷◌, ◌++◌}
use Rattle.basics.specs.Counts.{bit, how_many}
use Rattle.basics.specs.Tests.{clash}
use Rattle.entries.specs.declared.Sizes.{Sizes}
use Rattle.machine.specs.declared.Call.{Call}
use Rattle.machine.specs.Count.{five_places}
use Rattle.promise.specs.History.{Event, is_retire, is_freed, retires, freed}
use Rattle.promise.specs.Run.{events, state}
use Rattle.machine.specs.Step.{step_of}
use Rattle.promise.specs.Promise.{Promised}
use Rattle.promise.proofs.Promise.{promise}
use Rattle.lines.specs.Line.{Line, numbers, end}
use Rattle.lines.specs.Run.{lines_of}
use Rattle.schedule.specs.Input.{Ending, ended, stopped, Input, run, no_run, input_of}
use Rattle.printed.specs.Printed.{event_line, event_lines, ending_line, lines_of_run, lines_of_input}
use Rattle.printed.specs.Counting.{fields_of, is_retire_line, is_freed_line, AddsUp}
use Rattle.printed.proofs.Lemmas.Lines.{lines_are_events}
use Rattle.printed.proofs.Lemmas.Ranged.{in_range_lem}

retire_lines : (number : ℕ) (es : List Event) → how_many is_retire_line (event_lines number es) ≡ retires es
unfolding how_many event_lines retires is_retire_line is_retire fields_of event_line
retire_lines number [] = refl
retire_lines number (e ∷ es) = ap (λ (n : ℕ). bit (is_retire e) + n) (retire_lines (number + 1) es)

freed_lines : (number : ℕ) (es : List Event) → how_many is_freed_line (event_lines number es) ≡ freed es
unfolding how_many event_lines freed is_freed_line is_freed fields_of event_line
freed_lines number [] = refl
freed_lines number (e ∷ es) = ap (λ (n : ℕ). bit (is_freed e) + n) (freed_lines (number + 1) es)

-- two lists that end in one line more
module _ {A : Type 0} where
  not_empty : (xs : List A) (a : A) → [] ≡ xs ++ a ∷ [] → ◌≡◌ {A = ℕ} 0 1
  not_empty [] a h = cc
  not_empty (x ∷ xs) a h = cc

  same_last : (xs ys : List A) (a b : A) → xs ++ a ∷ [] ≡ ys ++ b ∷ [] → (xs ≡ ys) × (a ≡ b)
  same_last [] [] a b h = (refl, cc)
  same_last [] (y ∷ ys) a b h = let e : [] ≡ ys ++ b ∷ [] = cc in clash (not_empty ys b e)
  same_last (x ∷ xs) [] a b h = let e : [] ≡ xs ++ a ∷ [] = cc in clash (not_empty xs a e)
  same_last (x ∷ xs) (y ∷ ys) a b h =
      let e : xs ++ a ∷ [] ≡ ys ++ b ∷ [] = cc in
      let rest = same_last xs ys a b e in
      let head : x ≡ y = cc in
      let tail : xs ≡ ys = rest.0 in
      (cc, rest.1)

module _ (t h l n : ℕ) (lines : List Line) (steps free links hands handovers carried : ℕ) where
  abbrev last : Line
  last = end (steps ∷ free ∷ links ∷ hands ∷ handovers ∷ carried ∷ [])

  abbrev whole : List Line
  whole = numbers (t ∷ h ∷ l ∷ n ∷ []) ∷ lines ++ last ∷ []

  at_ending : (z : Sizes) (calls : List Call) → Promised step_of z calls → (ending : Ending) → lines_of_run step_of z calls ending ≡ whole → AddsUp t h n lines free links hands handovers carried
  unfolding lines_of_run ending_line
  at_ending z calls p ended e =
      let five = five_places (state z calls) in
      let told = ending_line step_of z calls ended in
      let tails : event_lines 1 (events z calls) ++ told ∷ [] ≡ lines ++ last ∷ [] = cc in
      let both = same_last (event_lines 1 (events z calls)) lines told last tails in
      let same : event_lines 1 (events z calls) ≡ lines = both.0 in
      let lasts : told ≡ last = both.1 in
      let retired : how_many is_retire_line lines ≡ retires (events z calls) = ap (how_many is_retire_line) (sym same) ∙ retire_lines 1 (events z calls) in
      let gone : how_many is_freed_line lines ≡ freed (events z calls) = ap (how_many is_freed_line) (sym same) ∙ freed_lines 1 (events z calls) in
      let threads : t ≡ z.threads = cc in
      let slots : h ≡ z.slots = cc in
      let objects : n ≡ z.objects = cc in
      let in_free : free ≡ five.free = cc in
      let in_links_holds : links ≡ five.links = cc in
      let in_hands_holds : hands ≡ five.hands = cc in
      let in_handovers_holds : handovers ≡ five.handovers = cc in
      let in_carried : carried ≡ five.carried = cc in
      record {
        as_many = rw (retired, gone, in_handovers_holds, in_carried) p.as_many;
        bound = rw (retired, gone, threads, slots) p.bound;
        places_sum = rw (in_free, in_links_holds, in_hands_holds, in_handovers_holds, in_carried, objects) p.places_sum;
      }
  at_ending z calls p (stopped number) e =
      let told = ending_line step_of z calls (stopped number) in
      let tails : event_lines 1 (events z calls) ++ told ∷ [] ≡ lines ++ last ∷ [] = cc in
      let both = same_last (event_lines 1 (events z calls)) lines told last tails in
      let lasts : told ≡ last = both.1 in
      clash (cc)

  at_input : (input : List ℕ) (said : Input) → input_of input ≡ said → lines_of_input said ≡ whole → AddsUp t h n lines free links hands handovers carried
  unfolding lines_of_input
  at_input input (run z calls ending) is e = at_ending z calls (promise z (in_range_lem input z calls ending is) calls) ending e
  at_input input (no_run number) is e = clash (cc)

  pub adds_up : (input : List ℕ) → lines_of input ≡ whole → AddsUp t h n lines free links hands handovers carried
  adds_up input e = at_input input (input_of input) refl (sym (lines_are_events input) ∙ e)
