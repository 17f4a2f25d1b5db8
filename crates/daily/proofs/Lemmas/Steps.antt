-- A thread that takes no step of its own stays as it is, whatever the others do.
use Rattle.std.specs.Prelude.{ℕ, ◌<◌, ◌≡◌, true, false, eqb, get_or, set}
use Rattle.std.proofs.Common.{arith, sym, ap, ◌∙◌, get_or-set_same, leb-true}
use Rattle.std.proofs.Math.Path.{refl}
use Rattle.std.proofs.lemmas.Bool.{false≢true, eqb-false}
use mathlib.Core.List.{List, [], ◌∷◌}
use Rattle.machine.specs.declared.State.{State}
use Rattle.machine.specs.declared.Call.{Call}
use Rattle.machine.specs.declared.Outcome.{Outcome}
use Rattle.machine.specs.declared.Answer.{Answer}
use Rattle.machine.specs.declared.Answer.TheVariants.{Refused, Taken, Begun, Working, Protected, Nothing, Swapped, Moved, Tag, Finished, Left, Freed}
use Rattle.entries.specs.declared.Thread.{Thread}
use Rattle.entries.specs.declared.Phase.{Phase}
use Rattle.basics.specs.Tests.{ands, by_test}
use Rattle.basics.specs.Rows.{FirstIs}
use Rattle.machine.specs.declared.refusal.Refusal.{Refusal}
use Rattle.basics.proofs.Rows.{first_from_lem}
use Rattle.basics.specs.Counts.{bit, how_many, none_passed}
use Rattle.entries.specs.Sizes.{within}
use Rattle.entries.specs.Entries.{thread, idle_thread}
use Rattle.machine.specs.Answers.{number_of, numbers_of}
use Rattle.machine.specs.Parts.{thread_at}
use Rattle.machine.specs.Sound.{Sound, thread_long}
use Rattle.machine.specs.Refusals.{refusals}
use Rattle.machine.specs.Accepted.{refusals_high}
use Rattle.machine.specs.Step.{step_of}
use Rattle.laws.proofs.Promise.{way, way_keeps_sound, way_keeps_sizes, way_keeps_others, refused_keeps_state}
use Rattle.promise.specs.History.{Event, history_by, state_by, event_of, history, state_after}
use Rattle.promise.specs.Asked.{is_accepted}
use Rattle.daily.specs.Swept.{is_step_of, own_steps}

abbrev pub event_by : Call → Outcome → Event
event_by c o = record { call = c; answer = o.answer }

-- the phase that the caller's thread is left in
pub its_new_phase : (s : State) (c : Call) (hand : ℕ) (phase : Phase) → Sound s → c.thread < s.sizes.threads
    → (get_or (set s.threads c.thread (thread hand phase)) c.thread idle_thread).phase ≡ phase
its_new_phase s c hand phase h under =
    ap (λ (x : Thread). x.phase)
    (get_or-set_same s.threads c.thread (thread hand phase) idle_thread (thread_long s h.ranged c.thread under))

-- what is not accepted is a refusal
pub record IsRefused (a : Answer) : Type 0 where
  pub why : Refusal
  pub is : a ≡ Refused why

refusal : (a : Answer) → within 1 11 (numbers_of a).number ≡ false → IsRefused a
unfolding numbers_of
refusal (Refused k) off = record { why = k; is = refl }
refusal (Taken o) off = absurd (false≢true (sym off))
refusal (Begun o) off = absurd (false≢true (sym off))
refusal (Working work) off = absurd (false≢true (sym off))
refusal (Protected o tag) off = absurd (false≢true (sym off))
refusal Nothing off = absurd (false≢true (sym off))
refusal (Swapped o) off = absurd (false≢true (sym off))
refusal Moved off = absurd (false≢true (sym off))
refusal (Tag tag) off = absurd (false≢true (sym off))
refusal Finished off = absurd (false≢true (sym off))
refusal (Left o p) off = absurd (false≢true (sym off))
refusal (Freed o) off = absurd (false≢true (sym off))

-- the other way: what is accepted is none
pub refused_not : (s : State) (c : Call) {k : Refusal} {A : Type 0} → FirstIs (refusals s c) k → within 1 11 (number_of k) ≡ true → A
refused_not s c {k} first took =
    let high = first_from_lem number_of (refusals_high s c) first in
    let most = leb-true (number_of k) 11 (search (ands, took)) in
    absurd (omega arith)

module _ (t : ℕ) where
  -- one call that is no step of the thread
  pub unmoved : (s : State) (c : Call) → is_step_of t (event_of s c) ≡ false → thread_at (step_of s c).state t ≡ thread_at s t
  unmoved s c off =
      by_test (thread_at (step_of s c).state t ≡ thread_at s t) (eqb c.thread t)
      (λ own.
      let no : is_accepted (event_of s c) ≡ false = by_test (is_accepted (event_of s c) ≡ false) (is_accepted (event_of s c)) (λ took. absurd (false≢true (sym (rw (took, own) at off)))) (λ no. no) in
      let r = refusal (step_of s c).answer no in
      ap (λ (x : State). thread_at x t) (refused_keeps_state s c r.why r.is).0)
      (λ another. way_keeps_others s c t (λ e. eqb-false _ _ another (sym e)) (way s c))

  -- any number of them
  pub all_unmoved : (s : State) (calls : List Call) → own_steps t (history s calls) ≡ 0 → thread_at (state_after s calls) t ≡ thread_at s t
  unfolding history_by state_by how_many bit
  all_unmoved s [] none = refl
  all_unmoved s (c ∷ calls) none =
      let split = none_passed (is_step_of t (event_of s c)) (own_steps t (history (step_of s c).state calls)) none in
      all_unmoved (step_of s c).state calls split.1 ∙ unmoved s c split.0

-- and the machine stays sound meanwhile, with its sizes
pub sizes_stay : (s : State) (calls : List Call) → (state_after s calls).sizes ≡ s.sizes
unfolding state_by
sizes_stay s [] = refl
sizes_stay s (c ∷ calls) = sizes_stay (step_of s c).state calls ∙ way_keeps_sizes s c (way s c)

pub stays_sound : (s : State) → Sound s → (calls : List Call) → Sound (state_after s calls)
unfolding state_by
stays_sound s h [] = h
stays_sound s h (c ∷ calls) = stays_sound (step_of s c).state (way_keeps_sound s c (way s c) h) calls
