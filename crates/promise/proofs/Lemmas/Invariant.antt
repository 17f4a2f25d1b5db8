-- What every moment of a run satisfies, and what has to be shown of one call.
use Rattle.std.specs.Prelude.{ℕ, ◌<◌, ◌≡◌, refl, true, [], ◌∷◌, map}
use Rattle.std.proofs.Common.{ap}
use Rattle.machine.specs.declared.State.{State}
use Rattle.machine.specs.declared.Call.{Call}
use Rattle.machine.specs.declared.Outcome.{Outcome}
use Rattle.entries.specs.Sizes.{positions}
use Rattle.machine.specs.Parts.{link_at, slot_at, hand_of}
use Rattle.machine.specs.Sound.{Sound, link_holds, its_hand, marked_object}
use Rattle.machine.specs.Answers.{Numbers, numbers_of}
use Rattle.laws.specs.OnePlace.{link_not_free, hand_not_free}
use Rattle.promise.specs.Store.{Store, PlainCall, says, next, store_says, store_after}
use Rattle.promise.specs.History.{Event}
use Rattle.promise.specs.Reading.{Reading, noted, renamed}
use Rattle.promise.specs.Asked.{Memory}
use Rattle.promise.specs.Listing.{listed_of}
use Rattle.promise.specs.Guard.{Guarded}
use Rattle.promise.proofs.Lemmas.Same.{Same, Held}
use Rattle.promise.proofs.Lemmas.Remembers.{Remembers}

pub record Invariant (s : State) (m : Memory) (r : Reading) (store : Store) : Type 0 where
  pub sound : Sound s
  pub guarded : Guarded s
  pub remembers : Remembers s m
  pub same : Same s r store

-- what is in a link, a hand or a protected slot is not free
module _ (s : State) (h : Sound s) where
  pub links_held : (i : ℕ) → i < s.sizes.links → Held s.sizes.objects s.pool (link_at s i)
  links_held i less some =
      let most = link_holds s h.ranged i less in
      (some, most, link_not_free s h (link_at s i) some most i less refl)

  pub hands_held : (u : ℕ) → u < s.sizes.threads → Held s.sizes.objects s.pool (hand_of s u)
  hands_held u under some =
      let most = its_hand s h.ranged u under in
      (some, most, hand_not_free s h (hand_of s u) some most u under refl)

  pub slots_held : Guarded s → (p : ℕ) → p < positions s.sizes → (slot_at s p).mark ≡ true
      → Held s.sizes.objects s.pool (slot_at s p).hazard
  slots_held g p under marked some = (some, (marked_object s h.ranged p under marked).1, (g p under marked).kept)

-- one call, with outcome o: the store gives the same answer where it is listed, and holds the same records afterwards
module _ (s : State) (c : Call) (m : Memory) (r : Reading) (store : Store) (o : Outcome) where
  abbrev pub event : Event
  event = record { call = c; answer = o.answer }

  pub record Matches : Type 0 where
    pub says : store_says s.sizes.slots store (listed_of m event)
        ≡ map (λ (call : PlainCall). numbers_of (renamed (noted r o.answer) o.answer)) (listed_of m event)
    pub same : Same o.state (noted r o.answer) (store_after s.sizes.slots store (listed_of m event))

  pub one_listed : (call : PlainCall) → listed_of m event ≡ call ∷ []
      → says s.sizes.slots store call ≡ numbers_of (renamed (noted r o.answer) o.answer)
      → Same o.state (noted r o.answer) (next s.sizes.slots store call) → Matches
  unfolding store_says store_after
  one_listed call listed answer after =
      record { says = rw listed (ap (λ (n : Numbers). n ∷ []) answer); same = rw listed after }

  pub none_listed : listed_of m event ≡ [] → Same o.state (noted r o.answer) store → Matches
  unfolding store_says store_after
  none_listed listed after = record { says = rw listed refl; same = rw listed after }
