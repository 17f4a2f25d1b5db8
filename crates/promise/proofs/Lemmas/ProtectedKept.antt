-- A protected slot that is neither cleared nor published anew keeps its mark and its hazard, and its object is not handed out.
use Rattle.std.specs.Prelude.{ℕ, ◌<◌, ◌≡◌, Bool, true, List, [], ◌∷◌, get_or, set}
use Rattle.std.proofs.Common.{arith, sym, ◌∙◌, subst}
use Rattle.std.proofs.Math.Path.{refl, ap}
use Rattle.std.proofs.Math.Bool.{false, false≢true}
use Rattle.std.proofs.Math.Dec.{eqb}
use borrow.Author.Tests.{eqb-false, ne_eqb}
use Rattle.machine.specs.declared.State.{State}
use Rattle.entries.specs.declared.Slot.{Slot}
use Rattle.entries.specs.declared.Sizes.{Sizes}
use Rattle.machine.specs.declared.Call.{Call}
use Rattle.machine.specs.declared.Outcome.{Outcome}
use Rattle.basics.specs.Counts.{bit, how_many, none_passed}
use Rattle.basics.specs.Lists.{at_set}
use Rattle.basics.proofs.Rows.{first_from_lem}
use Rattle.entries.specs.Sizes.{positions}
use Rattle.entries.specs.Entries.{empty_slot, with_hazard, with_handover}
use Rattle.entries.specs.Phases.{protecting}
use Rattle.machine.specs.Parts.{slot_at, position_of}
use Rattle.machine.specs.Sound.{Sound, slot_long, its_position}
use Rattle.machine.specs.Answers.{number_of, numbers_of}
use Rattle.machine.specs.Accepted.{refusals_high}
use Rattle.machine.specs.Step.{step_of}
use Rattle.laws.proofs.Promise.{way}
use Rattle.laws.specs.Ways.{named, Way, refused, takes, begins, swaps, moves, reads, retires, clears, publishes, protects, finds_nothing, loads_again, finishes, sweeps, drains, meets, passes, frees, leaves, displaces}
use Rattle.promise.specs.Store.{Store}
use Rattle.promise.specs.History.{history_by, state_by, event_of, history, state_after}
use Rattle.promise.specs.Reading.{Reading}
use Rattle.promise.specs.Asked.{Memory, remembered}
use Rattle.promise.specs.Holdings.{renews, renewals, hands_out}
use Rattle.promise.specs.Guard.{Guarded}
use Rattle.promise.proofs.Lemmas.Remembers.{Remembers}
use Rattle.promise.proofs.Lemmas.Invariant.{Invariant}
use Rattle.promise.proofs.Lemmas.Runs.{moment}

-- the slot keeps its mark and hazard, and the object is not handed out
record Stays (s : State) (c : Call) (p : ℕ) (o : Outcome) : Type 0 where
  mark : (slot_at o.state p).mark ≡ true
  hazard : (slot_at o.state p).hazard ≡ (slot_at s p).hazard
  kept : hands_out (slot_at s p).hazard (record { call = c; answer = o.answer }) ≡ false

abbrev Renewed : State → Memory → Call → ℕ → Outcome → Bool
Renewed s m c p o = renews s.sizes.slots p m (record { call = c; answer = o.answer })

module _ (s : State) (c : Call) (m : Memory) (h : Sound s) (g : Guarded s) (asked : Remembers s m) (p : ℕ) (less : p < positions s.sizes) (marked : (slot_at s p).mark ≡ true) where
  -- an answer with another number than 1 hands nothing out
  untouched : (o : Outcome) → slot_at o.state p ≡ slot_at s p → ((numbers_of o.answer).number ≡ 1 → ⊥) → Stays s c p o
  unfolding hands_out
  untouched o same ne =
      record {
        mark = ap (λ (x : Slot). x.mark) same ∙ marked;
        hazard = ap (λ (x : Slot). x.hazard) same;
        kept = rw (ne_eqb (numbers_of o.answer).number 1 ne);
      }

  -- a slot is stored: another than this, or one that keeps mark and hazard
  stored : (q : ℕ) (slot : Slot) (o : Outcome) → q < positions s.sizes
      → ((k : ℕ) → slot_at o.state k ≡ get_or (set s.slots q slot) k empty_slot) → ((numbers_of o.answer).number ≡ 1 → ⊥)
      → (q ≡ p → (slot.mark ≡ true) × (slot.hazard ≡ (slot_at s p).hazard)) → Stays s c p o
  unfolding hands_out
  stored q slot o inside is ne this =
      let long = slot_long s h.ranged q inside in
      let there =
      at_set (λ (k : ℕ) (x : Slot). k ≡ p → (x.mark ≡ true) × (x.hazard ≡ (slot_at s p).hazard)) s.slots q slot empty_slot long
      this
      (λ k other e. (rw e marked, rw e))
      p refl
      in
      record {
        mark = rw (is p) there.0;
        hazard = rw (is p) there.1;
        kept = rw (ne_eqb (numbers_of o.answer).number 1 ne);
      }

  stays : {o : Outcome} → Way s c o → Renewed s m c p o ≡ false → Stays s c p o
  unfolding renews hands_out numbers_of protecting
  stays (refused first) still =
      let high = first_from_lem number_of (refusals_high s c) first in
      untouched _ refl (λ n. omega arith)
  stays (takes {o = o} d empty next free) still =
      record {
        mark = marked;
        hazard = refl;
        kept = ne_eqb o (slot_at s p).hazard (λ e. false≢true (sym (g p less marked).kept ∙ rw (← e) free));
      }
  stays (begins d idle slot link read) still = untouched _ refl (λ n. omega arith)
  stays (swaps d link protected read same) still = untouched _ refl (λ n. omega arith)
  stays (moves d link protected other) still = untouched _ refl (λ n. omega arith)
  stays (reads d inside mark) still = untouched _ refl (λ n. omega arith)
  stays (retires d idle full some) still = untouched _ refl (λ n. omega arith)
  stays (clears d idle slot) still =
      let other : eqb (named s c) p ≡ false = rw d.operation at still in
      stored (named s c) (with_hazard (slot_at s (named s c)) 0 false) _ (its_position s h.ranged c.thread c.slot d.thread slot)
      (λ k. refl)
      (λ n. omega arith)
      (λ e. absurd (eqb-false _ _ other e))
  stays (publishes {slot = slot} {link = link} {o = o} d was inside inside' most) still =
      let q = position_of s c.thread slot in
      let its = asked.fits c.thread d.thread slot link (ap protecting was) in
      let other : eqb q p ≡ false = rw (d.operation, its.0, its.1) at still in
      stored q (with_hazard (slot_at s q) o false) _ (its_position s h.ranged c.thread slot d.thread inside)
      (λ k. refl)
      (λ n. omega arith)
      (λ e. absurd (eqb-false _ _ other e))
  stays (protects {slot = slot} d was inside inside' read same some) still =
      let q = position_of s c.thread slot in
      stored q (with_hazard (slot_at s q) (slot_at s q).hazard true) _ (its_position s h.ranged c.thread slot d.thread inside)
      (λ k. refl)
      (λ n. omega arith)
      (λ e. (refl, rw e))
  stays (finds_nothing d was inside inside' read none) still = untouched _ refl (λ n. omega arith)
  stays (loads_again d was inside inside' read other) still = untouched _ refl (λ n. omega arith)
  stays (finishes q d was inside empty) still =
      stored q (with_handover (slot_at s q) 0) _ inside (λ k. refl) (λ n. omega arith) (λ e. (rw e marked, rw e))
  stays (sweeps q d was inside empty inside' inside'') still =
      stored q (with_handover (slot_at s q) 0) _ inside (λ k. refl) (λ n. omega arith) (λ e. (rw e marked, rw e))
  stays (drains q next d was inside full scans) still =
      stored q (with_handover (slot_at s q) 0) _ inside (λ k. refl) (λ n. omega arith) (λ e. (rw e marked, rw e))
  stays (meets next d was inside match scans) still = untouched _ refl (λ n. omega arith)
  stays (passes next d was inside other scans) still = untouched _ refl (λ n. omega arith)
  stays (frees next d was past ended fine) still = untouched _ refl (λ n. omega arith)
  stays (leaves {o = o} {q = q} next d was inside empty ended fine) still =
      stored q (with_handover (slot_at s q) o) _ inside (λ k. refl) (λ n. omega arith) (λ e. (rw e marked, rw e))
  stays (displaces {o = o} {q = q} next d was inside full scans) still =
      stored q (with_handover (slot_at s q) o) _ inside (λ k. refl) (λ n. omega arith) (λ e. (rw e marked, rw e))

pub protected_kept : (s : State) (m : Memory) (r : Reading) (store : Store) → Invariant s m r store → (p : ℕ) → p < positions s.sizes
    → (slot_at s p).mark ≡ true → (calls : List Call) → renewals s.sizes.slots p m (history s calls) ≡ 0
    → ((slot_at (state_after s calls) p).mark ≡ true)
    × ((slot_at (state_after s calls) p).hazard ≡ (slot_at s p).hazard)
    × (how_many (hands_out (slot_at s p).hazard) (history s calls) ≡ 0)
unfolding history_by state_by renewals how_many bit
protected_kept s m r store v p less marked [] none = (marked, refl, refl)
protected_kept s m r store v p less marked (c ∷ calls) none =
    let one = moment s c m r store v in
    let s' = (step_of s c).state in
    let m' = remembered m (event_of s c) in
    let split = none_passed (renews s.sizes.slots p m (event_of s c)) (renewals s.sizes.slots p m' (history s' calls)) none in
    let now = stays s c m v.sound v.guarded v.remembers p less marked (way s c) split.0 in
    let inside : p < positions s'.sizes = subst (λ (z : Sizes). p < positions z) (sym one.sizes) less in
    let still : renewals s'.sizes.slots p m' (history s' calls) ≡ 0 =
    subst (λ (z : Sizes). renewals z.slots p m' (history s' calls) ≡ 0) (sym one.sizes) split.1
    in
    let rest = protected_kept s' m' _ _ one.holds p inside now.mark calls still in
    let later =
    subst (λ (o : ℕ). how_many (hands_out o) (history s' calls) ≡ 0) now.hazard rest.2
    in
    (rest.0, rest.1 ∙ now.hazard, rw now.kept (omega arith))
