-- "After every call, links, hands and slots with the mark on also hold the same records as the store's; a slot with the mark off is not
-- compared, since its protect may be unfinished."
use Rattle.std.specs.Prelude.{ℕ, ◌+◌, ◌<◌, ◌≤◌, ◌≡◌, Bool, true, false, cond, ◌&&◌, List, [], ◌∷◌, length, eqb}
use Rattle.machine.specs.declared.State.{State}
use Rattle.basics.specs.Counts.{bit}
use Rattle.entries.specs.Sizes.{positions}
use Rattle.machine.specs.Parts.{link_at, hand_of, slot_at, free_at, tag_of}
use Rattle.machine.specs.Answers.{numbers_of}
use Rattle.machine.specs.Count.{five_places}
use Rattle.promise.specs.Store.{Store, at, tag_of_record}
use Rattle.promise.specs.History.{Event, answer_number}
use Rattle.promise.specs.Reading.{Reading, record_of}
use Rattle.promise.specs.Asked.{Memory, remembered}

pub record SameHoldings (s : State) (r : Reading) (store : Store) : Type 0 where
  pub links : (i : ℕ) → i < s.sizes.links → store.links i ≡ record_of r (link_at s i)
  pub hands : (t : ℕ) → t < s.sizes.threads → store.hands t ≡ record_of r (hand_of s t)
  pub slots : (p : ℕ) → p < positions s.sizes → (slot_at s p).mark ≡ true → store.slots p ≡ record_of r (slot_at s p).hazard

-- an object of the machine that is not free
pub record IsKept (s : State) (object : ℕ) : Type 0 where
  pub some : 0 < object
  pub most : object ≤ s.sizes.objects
  pub kept : free_at s object ≡ false

-- That the holdings are read as records is no empty saying: every object that is not free has a record in the store, no two have the same, and
-- its tag is its record's.
pub record SameRecords (s : State) (r : Reading) (store : Store) : Type 0 where
  pub recorded : (object : ℕ) → IsKept s object → (0 < record_of r object) × (record_of r object ≤ length store.tags)
  pub apart : (object other : ℕ) → IsKept s object → IsKept s other → record_of r object ≡ record_of r other → object ≡ other
  pub tagged : (object : ℕ) → IsKept s object → tag_of_record store (record_of r object) ≡ tag_of s object

-- "non-zero handovers plus carried objects": given up and not yet freed
abbrev pub waiting : State → ℕ
waiting s = (five_places s).handovers + (five_places s).carried

-- no link, no hand and no protected slot holds the object
pub record Unheld (s : State) (object : ℕ) : Type 0 where
  pub links : (i : ℕ) → i < s.sizes.links → link_at s i ≡ object → ⊥
  pub hands : (t : ℕ) → t < s.sizes.threads → hand_of s t ≡ object → ⊥
  pub slots : (p : ℕ) → p < positions s.sizes → (slot_at s p).mark ≡ true → (slot_at s p).hazard ≡ object → ⊥

-- The slot at p "is cleared or published anew" by this event, as far as the calls and their answers say it: an accepted clear of it (answered
-- 2), or a go on (answered 3) of a thread that is in the middle of a protect into it. The publication is the first of these; the sweep after it, its
-- scan and a failed second read answer 3 too, and the mark is off by then.
module _ (per_thread p : ℕ) where
  unfoldable pub renews : Memory → Event → Bool
  renews m e =
      cond (eqb e.call.operation 6)
      (eqb (answer_number e) 2 && eqb (at per_thread e.call.thread e.call.slot) p)
      (eqb e.call.operation 7 &&
      eqb (answer_number e) 3 &&
      eqb (m.begun e.call.thread) 2 &&
      eqb (at per_thread e.call.thread (m.slot e.call.thread)) p)

  unfoldable pub renewals : Memory → List Event → ℕ
  renewals m [] = 0
  renewals m (e ∷ events) = bit (renews m e) + renewals (remembered m e) events

-- the event hands the object out: answer 1 Taken (object, 0)
unfoldable pub hands_out : ℕ → Event → Bool
hands_out object e = eqb (answer_number e) 1 && eqb (numbers_of e.answer).a object
