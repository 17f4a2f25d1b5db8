-- Whichever way a call goes, it matches what the store does: the listed call whole, or nothing.
use Prim.Native.Nat.{ℕ, suc, ◌<◌}
use Rattle.std.proofs.Common.{arith, ◌∙◌, subst}
use Rattle.std.specs.Prelude.{◌≡◌, Bool, cond, length}
use Rattle.std.proofs.Math.Path.{refl, sym, ap}
use Rattle.std.proofs.Math.Bool.{true, false}
use Rattle.std.proofs.lemmas.Bool.{false≢true}
use Rattle.std.proofs.Math.Dec.{eqb}
use borrow.Author.Tests.{eq-eqb, ne_eqb}
use Rattle.machine.specs.declared.State.{State}
use Rattle.machine.specs.declared.Call.{Call}
use Rattle.machine.specs.declared.Outcome.{Outcome}
use Rattle.entries.specs.declared.Phase.{Phase}
use Rattle.entries.specs.declared.Phase.TheVariants.{Published}
use Rattle.basics.specs.Tests.{same_or_not}
use Rattle.basics.specs.Functions.{put, put_same, put_other}
use Rattle.entries.specs.Sizes.{positions}
use Rattle.entries.specs.Entries.{with_hazard, with_handover}
use Rattle.entries.specs.Phases.{protecting}
use Rattle.pool.specs.Promise.{free_is_object, taken_out_lem, put_back_lem}
use Rattle.machine.specs.Parts.{link_at, slot_at, hand_of, phase_of, position_of, tag_of, with_thread, with_slot, become}
use Rattle.machine.specs.Sound.{limits, thread_long, link_long, slot_long, tag_long, its_position, marked_object, its_slot}
use Rattle.machine.specs.Answers.{numbers_of, numbers}
use Rattle.machine.specs.Calls.{expected}
use Rattle.laws.specs.OnePlace.{carried_not_free}
use Rattle.laws.specs.Ways.{named, Does, NamesProtected, Way, refused, takes, begins, swaps, moves, reads, retires, clears, publishes, protects, finds_nothing, loads_again, finishes, sweeps, drains, meets, passes, frees, leaves, displaces}
use Rattle.promise.specs.Store.{Store, take, protect, swap, read, retire, clear, says, next, tag_of_record}
use Rattle.promise.specs.Reading.{Reading, noted, renamed, record_of}
use Rattle.promise.specs.Asked.{Memory}
use Rattle.promise.specs.Listing.{listed_of, at_once}
use Rattle.promise.specs.Holdings.{SameHoldings}
use Rattle.promise.proofs.Lemmas.Refusing.{not_accepted}
use Rattle.promise.proofs.Lemmas.Same.{Held, Same, record_none, record_some, compare_records, compare_none, record_tag, named_freed, same_hand, same_link, same_slot, same_pool}
use Rattle.promise.proofs.Lemmas.SameTake.{taking, held_same, taken_record, named_taken, holdings_taken}
use Rattle.promise.proofs.Lemmas.Invariant.{Invariant, Matches, one_listed, none_listed, links_held, hands_held, slots_held}

module _ (s : State) (c : Call) (m : Memory) (r : Reading) (store : Store) (v : Invariant s m r store) where
  abbrev t : ℕ
  t = c.thread

  -- the thread's store, its hand kept, after one that the store of records does not notice, or that `mid` describes
  pub becoming : {n : ℕ} → Does s c n → (mid : State) (after : Store) (phase : Phase) → SameHoldings mid r after
      → mid.threads ≡ s.threads → mid.sizes ≡ s.sizes → after.hands ≡ store.hands
      → SameHoldings (with_thread mid t (hand_of s t) phase) r after
  becoming d mid after phase same threads sizes hands =
      same_hand mid r after same t (hand_of s t) phase after.hands (rw threads (thread_long s v.sound.ranged t d.thread)) (λ u ne. refl)
      (rw hands (v.same.holdings.hands t d.thread))

  -- only the thread changed
  thread_same : {n : ℕ} → Does s c n → (phase : Phase) → Same (become s t phase) r store
  thread_same d phase =
      record { holdings = becoming d s store phase v.same.holdings refl refl refl; names = v.same.names }

  -- a slot's hazard and mark changed, and with it the store's slot
  hazard_same : {n : ℕ} → Does s c n → (p hazard : ℕ) (mark : Bool) (phase : Phase) (slots : ℕ → ℕ) → p < positions s.sizes
      → ((q : ℕ) → (q ≡ p → ⊥) → slots q ≡ store.slots q) → (mark ≡ true → slots p ≡ record_of r hazard)
      → Same (become (with_slot s p (with_hazard (slot_at s p) hazard mark)) t phase) r
      (record { links = store.links; hands = store.hands; slots = slots; tags = store.tags })
  hazard_same d p hazard mark phase slots inside others this =
      record {
        holdings =
            becoming d _ _ phase
            (same_slot s r store v.same.holdings p (with_hazard (slot_at s p) hazard mark) slots (slot_long s v.sound.ranged p inside) others (λ under. this))
            refl refl refl;
        names = v.same.names;
      }

  -- a handover changed
  handover_same : {n : ℕ} → Does s c n → (p left : ℕ) (phase : Phase) → p < positions s.sizes
      → Same (become (with_slot s p (with_handover (slot_at s p) left)) t phase) r store
  handover_same d p left phase inside =
      record {
        holdings =
            becoming d _ store phase
            (same_slot s r store v.same.holdings p (with_handover (slot_at s p) left) store.slots (slot_long s v.sound.ranged p inside) (λ q ne. refl)
            (v.same.holdings.slots p))
            refl refl refl;
        names = v.same.names;
      }

  -- what a swap compares: the store's record is that of the machine's object
  record Compared : Type 0 where
    held : Held s.sizes.objects s.pool (expected s t c.slot)
    record_is : cond (eqb c.slot 255) 0 (store.slots (named s c)) ≡ record_of r (expected s t c.slot)

  compared : NamesProtected s c → Compared
  unfolding expected
  compared protected =
      same_or_not Compared c.slot 255
      (λ e.
      let yes' : eqb c.slot 255 ≡ true = eq-eqb _ _ e in
      record { held = rw yes' (λ less. absurd (omega arith)); record_is = rw yes' (sym (record_none r)) })
      (λ ne.
      let no' : eqb c.slot 255 ≡ false = ne_eqb _ _ ne in
      let at = protected ne in
      record {
        held = rw no' (slots_held s v.sound v.guarded (named s c) at.0 at.1);
        record_is = rw no' (v.same.holdings.slots (named s c) at.0 at.1);
      })

  -- both compare alike
  swap_alike : c.link < s.sizes.links → NamesProtected s c
      → eqb (store.links c.link) (cond (eqb c.slot 255) 0 (store.slots (named s c))) ≡ eqb (link_at s c.link) (expected s t c.slot)
  swap_alike inside protected =
      let k = compared protected in
      rw (v.same.holdings.links c.link inside, k.record_is)
      (compare_records v.same.names (link_at s c.link) (expected s t c.slot) (links_held s v.sound c.link inside) k.held)

  -- the tag of the record of an object that is held is the object's
  tag_same : (o : ℕ) → Held s.sizes.objects s.pool o → 0 < o → tag_of_record store (record_of r o) ≡ tag_of s o
  tag_same o held some =
      let known = v.same.names.known o (held some) in
      ap (tag_of_record store) (record_some r o some) ∙ record_tag store (r.last o) known.0 ∙ v.same.names.tagged o (held some)

  -- a slot that is not protected may hold anything in the store
  slot_forgotten : (p x : ℕ) → ((slot_at s p).mark ≡ true → ⊥)
      → SameHoldings s r (record { links = store.links; hands = store.hands; slots = put store.slots p x; tags = store.tags })
  slot_forgotten p x unmarked =
      let same = v.same.holdings in
      record {
        links = same.links;
        hands = same.hands;
        slots =
            λ q under marked.
            same_or_not (put store.slots p x q ≡ record_of r (slot_at s q).hazard) q p
            (λ e. absurd (unmarked (subst (λ (k : ℕ). (slot_at s k).mark ≡ true) e marked)))
            (λ ne. put_other store.slots p x q ne ∙ same.slots q under marked);
      }

  -- what the store's link holds is the record of what the machine's holds
  link_record : {link o : ℕ} → link < s.sizes.links → link_at s link ≡ o → store.links link ≡ record_of r o
  link_record {link} {o} inside e = v.same.holdings.links link inside ∙ ap (record_of r) e

  link_held : {link o : ℕ} → link < s.sizes.links → link_at s link ≡ o → Held s.sizes.objects s.pool o
  link_held {link} {o} inside e = subst (Held s.sizes.objects s.pool) e (links_held s v.sound link inside)

  -- the protect that a thread in Published ends is the one that it asked for
  asked_for : {slot link : ℕ} → t < s.sizes.threads → phase_of s t ≡ Published slot link → (m.slot t ≡ slot) × (m.link t ≡ link)
  unfolding protecting
  asked_for {slot} {link} under was = let asked = v.remembers.fits t under slot link (ap protecting was) in (asked.1, asked.2)

  pub matches : {o : Outcome} → Way s c o → Matches s c m r store o
  unfolding listed_of at_once numbers_of noted renamed says next
  matches (refused first) =
      none_listed s c m r store _ (rw (not_accepted s c first)) v.same
  matches (takes {o = o} d empty is free) =
      let n = s.sizes.objects in
      let ranged = v.sound.ranged in
      let b = limits s ranged in
      let names = v.same.names in
      let object = free_is_object n s.pool ranged.pool o free in
      let out = taken_out_lem n s.pool b.objects ranged.pool o free in
      let less = tag_long s ranged o object.0 object.1 in
      let record_is = taken_record n s.pool _ s.tags r store.tags names o c.tag object.0 less free out.others in
      let same = held_same n s.pool _ s.tags r store.tags names o c.tag object.0 less free out.others in
      let number : suc (length store.tags) ≡ record_of (taking r o) o = ap suc names.count ∙ sym record_is in
      one_listed s c m r store _ (take t c.tag) (rw d.operation) (ap (λ (k : ℕ). numbers 1 k 0) number)
      (record {
        holdings =
            holdings_taken s r (taking r o) store v.same.holdings t o c.tag (phase_of s t) _ _ (thread_long s v.sound.ranged t d.thread) number
            (λ i under. same (link_at s i) (links_held s v.sound i under))
            (λ u under. same (hand_of s u) (hands_held s v.sound u under))
            (λ p under marked. same (slot_at s p).hazard (slots_held s v.sound v.guarded p under marked));
        names = named_taken n s.pool _ s.tags r store.tags names o c.tag object.0 less free out.others;
      })
  matches (begins d idle slot link is) = none_listed s c m r store _ (rw d.operation) (thread_same d _)
  matches (swaps {o = o} d link protected is same) =
      let both : eqb (store.links c.link) (cond (eqb c.slot 255) 0 (store.slots (named s c))) ≡ true =
      swap_alike link protected ∙ eq-eqb _ _ (is ∙ same)
      in
      let links = link_record link is in
      let mid =
      same_link s r store v.same.holdings c.link (hand_of s t) (put store.links c.link (store.hands t))
      (link_long s v.sound.ranged c.link link)
      (λ j ne. put_other store.links c.link (store.hands t) j ne)
      (put_same store.links c.link (store.hands t) ∙ v.same.holdings.hands t d.thread)
      in
      one_listed s c m r store _ (swap t c.slot c.link) (rw d.operation)
      (rw both (ap (λ (k : ℕ). numbers 6 k 0) links))
      (rw both
      (record {
        holdings =
            same_hand _ r _ mid t o (phase_of s t) (put store.hands t (store.links c.link)) (thread_long s v.sound.ranged t d.thread)
            (λ u ne. put_other store.hands t (store.links c.link) u ne)
            (put_same store.hands t (store.links c.link) ∙ links);
        names = v.same.names;
      }))
  matches (moves d link protected other) =
      let both : eqb (store.links c.link) (cond (eqb c.slot 255) 0 (store.slots (named s c))) ≡ false =
      swap_alike link protected ∙ ne_eqb _ _ other
      in
      one_listed s c m r store _ (swap t c.slot c.link) (rw d.operation) (rw both) (rw both v.same)
  matches (reads d inside marked) =
      let hazard = (slot_at s (named s c)).hazard in
      let some = (marked_object s v.sound.ranged (named s c) inside marked).0 in
      let tag =
      ap (tag_of_record store) (v.same.holdings.slots (named s c) inside marked) ∙
      tag_same hazard (slots_held s v.sound v.guarded (named s c) inside marked) some
      in
      one_listed s c m r store _ (read t c.slot) (rw d.operation) (ap (λ (k : ℕ). numbers 8 k 0) tag) v.same
  matches (retires {o = o} d idle full some) =
      one_listed s c m r store _ (retire t) (rw d.operation)
      (ap (λ (k : ℕ). numbers 2 k 0) (v.same.holdings.hands t d.thread ∙ ap (record_of r) full))
      (record {
        holdings =
            same_hand s r store v.same.holdings t 0 _ (put store.hands t 0) (thread_long s v.sound.ranged t d.thread)
            (λ u ne. put_other store.hands t 0 u ne)
            (put_same store.hands t 0 ∙ sym (record_none r));
        names = v.same.names;
      })
  matches (clears d idle slot) =
      one_listed s c m r store _ (clear t c.slot) (rw d.operation) (ap (λ (k : ℕ). numbers 2 k 0) (sym (record_none r)))
      (hazard_same d _ 0 false _ (put store.slots (named s c) 0) (its_position s v.sound.ranged t c.slot d.thread slot)
      (λ q ne. put_other store.slots (named s c) 0 q ne)
      (λ on. absurd (false≢true on)))
  matches (publishes {slot = slot} {o = o} d was inside inside' most) =
      none_listed s c m r store _ (rw d.operation)
      (hazard_same d _ o false _ store.slots (its_position s v.sound.ranged t slot d.thread inside) (λ q ne. refl)
      (λ on. absurd (false≢true on)))
  matches (protects {slot = slot} {link = link} {o = o} d was inside inside' is same some) =
      let p = position_of s t slot in
      let links = link_record inside' is in
      let held = link_held inside' is in
      let there : eqb (store.links link) 0 ≡ false =
      rw links (compare_none v.same.names o held ∙ ne_eqb o 0 (λ e. omega arith))
      in
      let asked = asked_for d.thread was in
      one_listed s c m r store _ (protect t slot link) (rw (d.operation, asked.0, asked.1))
      (rw there
      (ap (λ (k : ℕ). numbers 4 k (tag_of_record store k)) links ∙ ap (numbers 4 (record_of r o)) (tag_same o held some)))
      (hazard_same d p _ true _ (put store.slots p (store.links link)) (its_position s v.sound.ranged t slot d.thread inside)
      (λ q ne. put_other store.slots p (store.links link) q ne)
      (λ on. put_same store.slots p (store.links link) ∙ links ∙ ap (record_of r) same))
  matches (finds_nothing {slot = slot} {link = link} d was inside inside' is none) =
      let p = position_of s t slot in
      let at = its_position s v.sound.ranged t slot d.thread inside in
      let links = link_record inside' is ∙ record_none r in
      let there : eqb (store.links link) 0 ≡ true = eq-eqb _ _ links in
      let asked = asked_for d.thread was in
      one_listed s c m r store _ (protect t slot link) (rw (d.operation, asked.0, asked.1)) (rw there)
      (record {
        holdings =
            becoming d s _ _
            (slot_forgotten p (store.links link) (λ marked. (its_slot s v.sound.ranged p at).marked marked none))
            refl refl refl;
        names = v.same.names;
      })
  matches (loads_again d was inside inside' is other) = none_listed s c m r store _ (rw d.operation) (thread_same d _)
  matches (finishes p d was inside empty) = none_listed s c m r store _ (rw d.operation) (handover_same d p 0 _ inside)
  matches (sweeps p d was inside empty inside' inside'') = none_listed s c m r store _ (rw d.operation) (handover_same d p 0 _ inside)
  matches (drains p next' d was inside full scans) = none_listed s c m r store _ (rw d.operation) (handover_same d p 0 next' inside)
  matches (meets next' d was inside match scans) = none_listed s c m r store _ (rw d.operation) (thread_same d next')
  matches (passes next' d was inside other scans) = none_listed s c m r store _ (rw d.operation) (thread_same d next')
  matches (frees {o = o} next' d was past ended fine) =
      let ranged = v.sound.ranged in
      let taken = carried_not_free s v.sound o was.some was.most t d.thread was.carries in
      let back = put_back_lem s.sizes.objects s.pool (limits s ranged).objects ranged.pool o was.some was.most taken in
      none_listed s c m r store _ (rw d.operation)
      (record {
        holdings = becoming d _ store next' (same_pool s r store v.same.holdings _ o 0) refl refl refl;
        names = named_freed v.same.names _ o was.some back.this back.others;
      })
  matches (leaves {o = o} {q = q} next' d was inside empty ended fine) =
      none_listed s c m r store _ (rw d.operation) (handover_same d q o next' inside)
  matches (displaces {o = o} {q = q} next' d was inside full scans) =
      none_listed s c m r store _ (rw d.operation) (handover_same d q o next' inside)
