-- The machine and the store hold the same records, and why that can be told from the objects' numbers: objects that are not free were
-- handed out by different takes, and have the tags of their records.
use Rattle.std.specs.Prelude.{ℕ, zero, suc, ◌-◌, ◌<◌, ◌≤◌, ◌≡◌, refl, true, false, List, length, get_or, set, eqb}
use Rattle.std.proofs.Common.{arith, sym, ap, ◌∙◌, get_or-set_other, eq-eqb, ne_eqb}
use Rattle.std.proofs.lemmas.Bool.{false≢true}
use Rattle.machine.specs.declared.State.{State}
use Rattle.entries.specs.declared.Slot.{Slot}
use Rattle.entries.specs.declared.Thread.{Thread}
use Rattle.entries.specs.declared.Phase.{Phase}
use Rattle.pool.specs.declared.Pool.{Pool}
use Rattle.basics.specs.Tests.{same_or_not}
use Rattle.basics.specs.Lists.{at_set}
use Rattle.entries.specs.Sizes.{positions}
use Rattle.entries.specs.Entries.{thread, idle_thread, empty_slot}
use Rattle.pool.specs.Pool.{is_free}
use Rattle.machine.specs.Parts.{with_link, with_thread, with_slot, with_pool}
use Rattle.promise.specs.Store.{Store, tag_of_record}
use Rattle.promise.specs.Reading.{Reading, record_of}
use Rattle.promise.specs.Holdings.{SameHoldings, IsKept, SameRecords}

-- an object of n that is not free
abbrev pub Live : ℕ → Pool → ℕ → Type 0
Live n pool o = (0 < o) × (o ≤ n) × (is_free pool o ≡ false)

-- 0, or an object that is not free
abbrev pub Held : ℕ → Pool → ℕ → Type 0
Held n pool x = 0 < x → Live n pool x

-- what the reading says of every object that is not free: `tags` are the objects', `records` the records'
pub record Named (n : ℕ) (pool : Pool) (tags : List ℕ) (r : Reading) (records : List ℕ) : Type 0 where
  pub tagged : (o : ℕ) → Live n pool o → get_or records (r.last o - 1) 0 ≡ get_or tags (o - 1) 0
  pub apart : (o o' : ℕ) → Live n pool o → Live n pool o' → r.last o ≡ r.last o' → o ≡ o'
  pub known : (o : ℕ) → Live n pool o → (0 < r.last o) × (r.last o ≤ r.takes)
  pub count : length records ≡ r.takes

pub record Same (s : State) (r : Reading) (store : Store) : Type 0 where
  pub holdings : SameHoldings s r store
  pub names : Named s.sizes.objects s.pool s.tags r store.tags

pub record_none : (r : Reading) → record_of r 0 ≡ 0
unfolding record_of
record_none r = refl

pub record_some : (r : Reading) (o : ℕ) → 0 < o → record_of r o ≡ r.last o
unfolding record_of
record_some r o some = rw (ne_eqb o 0 (λ e. omega arith))

-- the tag of a record is the one that its take gave
pub record_tag : (store : Store) (n : ℕ) → 0 < n → tag_of_record store n ≡ get_or store.tags (n - 1) 0
unfolding tag_of_record
record_tag store n some = rw (ne_eqb n 0 (λ e. omega arith))

-- equal objects are equal records, and different ones different
module _ {n : ℕ} {pool : Pool} {tags : List ℕ} {r : Reading} {records : List ℕ} (m : Named n pool tags r records) where
  some_record : (x : ℕ) → Held n pool x → 0 < x → 0 < record_of r x
  some_record x live some =
      let l = m.known x (live some) in
      rw (record_some r x some) l.0

  same_compare : (x y : ℕ) → Held n pool x → Held n pool y → record_of r x ≡ record_of r y → x ≡ y
  same_compare zero zero hx hy e = refl
  same_compare zero (suc y) hx hy e =
      let some = some_record (suc y) hy (omega arith) in
      let none = record_none r in
      absurd (omega arith)
  same_compare (suc x) zero hx hy e =
      let some = some_record (suc x) hx (omega arith) in
      let none = record_none r in
      absurd (omega arith)
  same_compare (suc x) (suc y) hx hy e =
      m.apart (suc x) (suc y) (hx (omega arith)) (hy (omega arith))
      (sym (record_some r (suc x) (omega arith)) ∙ e ∙ record_some r (suc y) (omega arith))

  pub compare_records : (x y : ℕ) → Held n pool x → Held n pool y → eqb (record_of r x) (record_of r y) ≡ eqb x y
  compare_records x y hx hy =
      same_or_not (eqb (record_of r x) (record_of r y) ≡ eqb x y) x y
      (λ e. eq-eqb _ _ (ap (record_of r) e) ∙ sym (eq-eqb x y e))
      (λ ne. ne_eqb _ _ (λ e. ne (same_compare x y hx hy e)) ∙ sym (ne_eqb x y ne))

  pub compare_none : (x : ℕ) → Held n pool x → eqb (record_of r x) 0 ≡ eqb x 0
  compare_none x hx =
      let none = record_none r in
      ap (λ (k : ℕ). eqb (record_of r x) k) (sym none) ∙ compare_records x 0 hx (λ less. absurd (omega arith))

  -- an object becomes free: there is one fewer to speak of
  pub named_freed : (pool' : Pool) (o : ℕ) → 0 < o → is_free pool' o ≡ true → ((x : ℕ) → (x ≡ o → ⊥) → is_free pool' x ≡ is_free pool x)
      → Named n pool' (set tags (o - 1) 0) r records
  named_freed pool' o some free others =
      record {
        tagged = λ x live. m.tagged x (before x live) ∙ sym (get_or-set_other tags (o - 1) (x - 1) 0 0 (λ e. apart_from x live e));
        apart = λ x y live live'. m.apart x y (before x live) (before y live');
        known = λ x live. m.known x (before x live);
        count = m.count;
      }
    where
      other : (x : ℕ) → Live n pool' x → x ≡ o → ⊥
      other x live e = false≢true (sym live.2 ∙ rw e free)

      before : (x : ℕ) → Live n pool' x → Live n pool x
      before x live = (live.0, live.1, sym (others x (other x live)) ∙ live.2)

      apart_from : (x : ℕ) → Live n pool' x → x - 1 ≡ o - 1 → ⊥
      apart_from x live e = let ne = other x live in let low = live.0 in ne (omega arith)

-- the holdings after one store
module _ (s : State) (r : Reading) (store : Store) (m : SameHoldings s r store) where
  pub same_hand : (t hand : ℕ) (phase : Phase) (hands : ℕ → ℕ) → t < length s.threads
      → ((u : ℕ) → (u ≡ t → ⊥) → hands u ≡ store.hands u) → hands t ≡ record_of r hand
      → SameHoldings (with_thread s t hand phase) r (record { links = store.links; hands = hands; slots = store.slots; tags = store.tags })
  same_hand t hand phase hands long others this =
      record {
        links = m.links;
        hands =
            at_set (λ (u : ℕ) (x : Thread). u < s.sizes.threads → hands u ≡ record_of r x.hand) s.threads t (thread hand phase) idle_thread long
            (λ under. this)
            (λ u ne under. others u ne ∙ m.hands u under);
        slots = m.slots;
      }

  pub same_link : (i o : ℕ) (links : ℕ → ℕ) → i < length s.links → ((j : ℕ) → (j ≡ i → ⊥) → links j ≡ store.links j)
      → links i ≡ record_of r o
      → SameHoldings (with_link s i o) r (record { links = links; hands = store.hands; slots = store.slots; tags = store.tags })
  same_link i o links long others this =
      record {
        links =
            at_set (λ (j : ℕ) (x : ℕ). j < s.sizes.links → links j ≡ record_of r x) s.links i o 0 long
            (λ under. this)
            (λ j ne under. others j ne ∙ m.links j under);
        hands = m.hands;
        slots = m.slots;
      }

  -- a slot changes; where its mark is on, the store's slot holds the record
  pub same_slot : (p : ℕ) (slot : Slot) (slots : ℕ → ℕ) → p < length s.slots → ((q : ℕ) → (q ≡ p → ⊥) → slots q ≡ store.slots q)
      → (p < positions s.sizes → slot.mark ≡ true → slots p ≡ record_of r slot.hazard)
      → SameHoldings (with_slot s p slot) r (record { links = store.links; hands = store.hands; slots = slots; tags = store.tags })
  same_slot p slot slots long others this =
      record {
        links = m.links;
        hands = m.hands;
        slots =
            at_set (λ (q : ℕ) (x : Slot). q < positions s.sizes → x.mark ≡ true → slots q ≡ record_of r x.hazard) s.slots p slot empty_slot long
            this
            (λ q ne under marked. others q ne ∙ m.slots q under marked);
      }

  -- the pool is not looked at
  pub same_pool : (pool : Pool) (o tag : ℕ) → SameHoldings (with_pool s pool o tag) r store
  same_pool pool o tag = record { links = m.links; hands = m.hands; slots = m.slots }

-- what is said of the records, by the reading's own numbers
pub records_same : (s : State) (r : Reading) (store : Store) → Same s r store → SameRecords s r store
records_same s r store same =
    let live : (o : ℕ) → IsKept s o → Live s.sizes.objects s.pool o = λ o k. (k.some, k.most, k.kept) in
    let is : (o : ℕ) → IsKept s o → record_of r o ≡ r.last o = λ o k. record_some r o k.some in
    let count = same.names.count in
    record {
      recorded =
          λ o k.
          let known = same.names.known o (live o k) in
          rw (is o k) (known.0, omega arith);
      apart = λ o o' k k' e. same.names.apart o o' (live o k) (live o' k') (sym (is o k) ∙ e ∙ is o' k');
      tagged =
          λ o k.
          let known = same.names.known o (live o k) in
          rw (is o k) (record_tag store (r.last o) known.0 ∙ same.names.tagged o (live o k));
    }
