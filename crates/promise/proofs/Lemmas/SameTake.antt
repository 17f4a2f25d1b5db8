-- A take: the object was free, so no link, hand or protected slot held it, and its new record is unlike every other.
use Rattle.std.specs.Prelude.{ℕ, zero, suc, ◌-◌, ◌<◌, ◌≤◌, ◌≡◌, true, List, [], ◌∷◌, ◌++◌, length, get_or, set}
use Rattle.std.proofs.Common.{arith, sym, ap, ◌∙◌, subst, length-append, get_or-set_same, get_or-set_other}
use Rattle.std.proofs.lemmas.Bool.{false≢true}
use Rattle.std.proofs.Math.ListN.{get_or-append}
use Rattle.std.proofs.Math.Seq.{get_or-append_seam}
use Rattle.machine.specs.declared.State.{State}
use Rattle.entries.specs.declared.Thread.{Thread}
use Rattle.entries.specs.declared.Phase.{Phase}
use Rattle.pool.specs.declared.Pool.{Pool}
use Rattle.basics.specs.Tests.{same_or_not}
use Rattle.basics.specs.Lists.{at_set}
use Rattle.basics.specs.Functions.{put, put_same, put_other}
use Rattle.entries.specs.Sizes.{positions}
use Rattle.entries.specs.Entries.{thread, idle_thread}
use Rattle.pool.specs.Pool.{is_free}
use Rattle.machine.specs.Parts.{link_at, slot_at, hand_of, with_thread, with_pool}
use Rattle.promise.specs.Store.{Store}
use Rattle.promise.specs.Reading.{Reading, record_of}
use Rattle.promise.specs.Holdings.{SameHoldings}
use Rattle.promise.proofs.Lemmas.Same.{Live, Held, Named, record_none, record_some}

-- the tag of a record made before is the same after one more is made, and the new one has the new tag
module _ (tags : List ℕ) (tag : ℕ) where
  old_tag : (n : ℕ) → 0 < n → n ≤ length tags → get_or (tags ++ (tag ∷ [])) (n - 1) 0 ≡ get_or tags (n - 1) 0
  old_tag n some most = get_or-append tags (tag ∷ []) 0 (n - 1) (omega arith)

  new_tag : (n : ℕ) → length tags ≡ n → get_or (tags ++ (tag ∷ [])) (suc n - 1) 0 ≡ tag
  new_tag n long =
      let e : suc n - 1 ≡ length tags = omega arith in
      ap (λ (i : ℕ). get_or (tags ++ (tag ∷ [])) i 0) e ∙ get_or-append_seam tags tag [] 0

  one_more : length (tags ++ (tag ∷ [])) ≡ suc (length tags)
  one_more = length-append tags (tag ∷ []) ∙ omega arith

-- the reading after a take of o
abbrev pub taking : Reading → ℕ → Reading
taking r o = record { takes = suc r.takes; last = put r.last o (suc r.takes) }

module _ (n : ℕ) (pool pool' : Pool) (tags : List ℕ) (r : Reading) (records : List ℕ) (m : Named n pool tags r records) (o tag : ℕ)
    (some : 0 < o) (less : o - 1 < length tags) (free : is_free pool o ≡ true)
    (others : (x : ℕ) → (x ≡ o → ⊥) → is_free pool' x ≡ is_free pool x) where
  last_new : (taking r o).last o ≡ suc r.takes
  last_new = put_same r.last o (suc r.takes)

  last_old : (x : ℕ) → (x ≡ o → ⊥) → (taking r o).last x ≡ r.last x
  last_old x ne = put_other r.last o (suc r.takes) x ne

  -- what was held is read as before
  pub held_same : (x : ℕ) → Held n pool x → record_of r x ≡ record_of (taking r o) x
  held_same zero held = record_none r ∙ sym (record_none (taking r o))
  held_same (suc x) held =
      let live = held (omega arith) in
      record_some r (suc x) (omega arith) ∙
      sym (last_old (suc x) (λ e. false≢true (sym live.2 ∙ rw e free))) ∙
      sym (record_some (taking r o) (suc x) (omega arith))

  pub taken_record : record_of (taking r o) o ≡ suc r.takes
  taken_record = record_some (taking r o) o some ∙ last_new

  -- an object that is not free afterwards is the one taken, or was not free before
  before : (x : ℕ) → Live n pool' x → (x ≡ o → ⊥) → Live n pool x
  before x live ne = (live.0, live.1, sym (others x ne) ∙ live.2)

  tagged : (x : ℕ) → Live n pool' x → get_or (records ++ (tag ∷ [])) ((taking r o).last x - 1) 0 ≡ get_or (set tags (o - 1) tag) (x - 1) 0
  tagged x live =
      same_or_not (get_or (records ++ (tag ∷ [])) ((taking r o).last x - 1) 0 ≡ get_or (set tags (o - 1) tag) (x - 1) 0) x o
      (λ e.
      subst (λ (k : ℕ). get_or (records ++ (tag ∷ [])) ((taking r o).last k - 1) 0 ≡ get_or (set tags (o - 1) tag) (k - 1) 0) (sym e)
      (ap (λ (k : ℕ). get_or (records ++ (tag ∷ [])) (k - 1) 0) last_new ∙
      new_tag records tag r.takes m.count ∙
      sym (get_or-set_same tags (o - 1) tag 0 less)))
      (λ ne.
      let old = before x live ne in
      let known = m.known x old in
      let count = m.count in
      let low = live.0 in
      ap (λ (k : ℕ). get_or (records ++ (tag ∷ [])) (k - 1) 0) (last_old x ne) ∙
      old_tag records tag (r.last x) known.0 (omega arith) ∙
      m.tagged x old ∙
      sym (get_or-set_other tags (o - 1) (x - 1) tag 0 (λ e. ne (omega arith))))

  known : (x : ℕ) → Live n pool' x → (0 < (taking r o).last x) × ((taking r o).last x ≤ suc r.takes)
  known x live =
      same_or_not ((0 < (taking r o).last x) × ((taking r o).last x ≤ suc r.takes)) x o
      (λ e. let n : (taking r o).last x ≡ suc r.takes = ap (taking r o).last e ∙ last_new in (omega arith, omega arith))
      (λ ne.
      let known = m.known x (before x live ne) in
      let same = last_old x ne in
      (omega arith, omega arith))

  -- the new record is unlike every other
  new : (x : ℕ) → Live n pool' x → (x ≡ o → ⊥) → (taking r o).last x ≡ (taking r o).last o → ⊥
  new x live ne e =
      let known = m.known x (before x live ne) in
      let same = last_old x ne in
      let this = last_new in
      omega arith

  apart : (x y : ℕ) → Live n pool' x → Live n pool' y → (taking r o).last x ≡ (taking r o).last y → x ≡ y
  apart x y live live' e =
      same_or_not (x ≡ y) x o
      (λ ex.
      same_or_not (x ≡ y) y o
      (λ ey. ex ∙ sym ey)
      (λ ney. absurd (new y live' ney (sym e ∙ ap (taking r o).last ex))))
      (λ nex.
      same_or_not (x ≡ y) y o
      (λ ey. absurd (new x live nex (e ∙ ap (taking r o).last ey)))
      (λ ney. m.apart x y (before x live nex) (before y live' ney) (sym (last_old x nex) ∙ e ∙ last_old y ney)))

  pub named_taken : Named n pool' (set tags (o - 1) tag) (taking r o) (records ++ (tag ∷ []))
  named_taken = record { tagged = tagged; apart = apart; known = known; count = one_more records tag ∙ ap suc m.count }

-- the holdings, of which only the hand that takes is another
pub holdings_taken : (s : State) (r r' : Reading) (store : Store) → SameHoldings s r store → (t o tag : ℕ) (phase : Phase) (pool : Pool) (number : ℕ)
    → t < length s.threads → number ≡ record_of r' o
    → ((i : ℕ) → i < s.sizes.links → record_of r (link_at s i) ≡ record_of r' (link_at s i))
    → ((u : ℕ) → u < s.sizes.threads → record_of r (hand_of s u) ≡ record_of r' (hand_of s u))
    → ((p : ℕ) → p < positions s.sizes → (slot_at s p).mark ≡ true → record_of r (slot_at s p).hazard ≡ record_of r' (slot_at s p).hazard)
    → SameHoldings (with_thread (with_pool s pool o tag) t o phase) r'
    (record { links = store.links; hands = put store.hands t number; slots = store.slots; tags = store.tags ++ (tag ∷ []) })
holdings_taken s r r' store m t o tag phase pool number long this links hands slots =
    record {
      links = λ i under. m.links i under ∙ links i under;
      hands =
          at_set (λ (u : ℕ) (x : Thread). u < s.sizes.threads → put store.hands t number u ≡ record_of r' x.hand) s.threads t (thread o phase) idle_thread long
          (λ under. put_same store.hands t number ∙ this)
          (λ u ne under. put_other store.hands t number u ne ∙ m.hands u under ∙ hands u under);
      slots = λ p under marked. m.slots p under marked ∙ slots p under marked;
    }
