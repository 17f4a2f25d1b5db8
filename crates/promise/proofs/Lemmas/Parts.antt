-- The parts of the promise, from the invariant at the end of a run.
use Rattle.std.specs.Prelude.{ℕ, ◌+◌, ◌*◌, ◌<◌, ◌≤◌, ◌≡◌, true, List}
use Rattle.std.proofs.Common.{arith, sym, ap, ◌∙◌, subst}
use Rattle.entries.specs.declared.Sizes.{Sizes}
use Rattle.machine.specs.declared.Call.{Call}
use Rattle.machine.specs.declared.Answer.TheVariants.{Refused, Freed}
use Rattle.machine.specs.declared.refusal.Refusal.TheVariants.{Unsound}
use Rattle.entries.specs.Sizes.{in_range, positions}
use Rattle.machine.specs.Parts.{slot_at}
use Rattle.machine.specs.Fresh.{fresh_of}
use Rattle.machine.specs.Step.{step_of}
use Rattle.machine.specs.Count.{five_places}
use Rattle.basics.specs.Counts.{how_many}
use Rattle.machine.specs.Sound.{from_sound}
use Rattle.laws.proofs.Promise.{way, sound_never_19, five_places_sum}
use Rattle.promise.specs.Store.{empty_store, store_says}
use Rattle.promise.specs.History.{history, state_after, retires, freed}
use Rattle.promise.specs.Reading.{no_takes}
use Rattle.promise.specs.Asked.{none_asked}
use Rattle.promise.specs.Listing.{listing, machine_says}
use Rattle.promise.specs.Holdings.{SameHoldings, SameRecords, Unheld, waiting, renewals, hands_out}
use Rattle.promise.specs.GivenUp.{SameGivenUp, none_given_up}
use Rattle.promise.specs.Run.{events, state, memory, store, reading, given}
use Rattle.promise.specs.Promise.{WithinBound}
use Rattle.promise.proofs.Lemmas.Invariant.{Invariant}
use Rattle.promise.proofs.Lemmas.Waiting.{waiting_most}
use Rattle.promise.proofs.Lemmas.Runs.{Run, run}
use Rattle.promise.proofs.Lemmas.Begin.{start_invariant, start_waiting}
use Rattle.promise.proofs.Lemmas.Same.{records_same}
use Rattle.promise.proofs.Lemmas.GivenUp.{given_kept, start_given}
use Rattle.promise.proofs.Lemmas.FreedUnheld.{freeing}
use Rattle.promise.proofs.Lemmas.ProtectedKept as slots

module _ (z : Sizes) (h : in_range z ≡ true) (calls : List Call) where
  ended : Run (fresh_of z) none_asked no_takes empty_store calls
  ended = run (fresh_of z) none_asked no_takes empty_store (start_invariant z h) calls

  pub same_sizes : (state z calls).sizes ≡ z
  unfolding fresh_of
  same_sizes = ended.sizes

  pub invariant : Invariant (state z calls) (memory z calls) (reading z calls) (store z calls)
  unfolding fresh_of
  invariant = ended.holds

  pub same_answers : store_says z.slots empty_store (listing none_asked (events z calls)) ≡ machine_says none_asked no_takes (events z calls)
  unfolding fresh_of
  same_answers = ended.says

  pub same_holdings : SameHoldings (state z calls) (reading z calls) (store z calls)
  same_holdings = invariant.same.holdings

  pub same_records : SameRecords (state z calls) (reading z calls) (store z calls)
  same_records = records_same (state z calls) (reading z calls) (store z calls) invariant.same

  pub given_up : SameGivenUp (state z calls) (reading z calls) (given z calls)
  given_up = given_kept (fresh_of z) none_asked no_takes empty_store none_given_up (start_invariant z h) (start_given z h) calls

  pub as_many : freed (events z calls) + waiting (state z calls) ≡ retires (events z calls)
  as_many = let count = ended.count in let none = start_waiting z in omega arith

  pub bound : WithinBound z (events z calls)
  bound =
      let sum = as_many in
      let most : waiting (state z calls) ≤ z.threads * (z.slots + 1) =
      subst (λ (y : Sizes). waiting (state z calls) ≤ y.threads * (y.slots + 1)) same_sizes
      (waiting_most (state z calls) invariant.sound.ranged)
      in
      omega arith

  pub places_sum : let p = five_places (state z calls) in p.free + p.links + p.hands + p.handovers + p.carried ≡ z.objects
  places_sum = five_places_sum (state z calls) (from_sound (state z calls) invariant.sound) ∙ ap (λ (y : Sizes). y.objects) same_sizes

  pub never_unsound : (next : Call) → (step_of (state z calls) next).answer ≡ Refused Unsound → ⊥
  never_unsound next e = sound_never_19 (state z calls) next (from_sound (state z calls) invariant.sound) e

  pub freed_unheld : (next : Call) (object : ℕ) → (step_of (state z calls) next).answer ≡ Freed object
      → Unheld (state z calls) object × Unheld (step_of (state z calls) next).state object
  freed_unheld next = freeing (state z calls) next invariant.sound invariant.guarded (way (state z calls) next)

  pub protected_kept : (p : ℕ) → p < positions z → (slot_at (state z calls) p).mark ≡ true → (more : List Call)
      → renewals z.slots p (memory z calls) (history (state z calls) more) ≡ 0
      → ((slot_at (state_after (state z calls) more) p).mark ≡ true)
      × ((slot_at (state_after (state z calls) more) p).hazard ≡ (slot_at (state z calls) p).hazard)
      × (how_many (hands_out (slot_at (state z calls) p).hazard) (history (state z calls) more) ≡ 0)
  protected_kept p less marked more none =
      slots.protected_kept (state z calls) (memory z calls) (reading z calls) (store z calls) invariant p
      (subst (λ (y : Sizes). p < positions y) (sym same_sizes) less)
      marked more
      (subst (λ (y : Sizes). renewals y.slots p (memory z calls) (history (state z calls) more) ≡ 0) (sym same_sizes) none)
