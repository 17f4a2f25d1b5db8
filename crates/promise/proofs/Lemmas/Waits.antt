-- Who waits after one store: a thread's entry and a slot's are all that matters, and what leaves one of them is in the other.
use Rattle.std.specs.Prelude.{ℕ, ◌<◌, ◌≤◌, ◌≡◌, refl, false, length}
use Rattle.std.proofs.Common.{sym, ap, ◌∙◌, subst, get_or-set_same, get_or-set_other}
use Rattle.machine.specs.declared.State.{State}
use Rattle.entries.specs.declared.Sizes.{Sizes}
use Rattle.entries.specs.declared.Slot.{Slot}
use Rattle.entries.specs.declared.Thread.{Thread}
use Rattle.entries.specs.declared.Phase.{Phase}
use Rattle.basics.specs.Tests.{same_or_not}
use Rattle.basics.specs.Lists.{at_set}
use Rattle.entries.specs.Sizes.{positions}
use Rattle.entries.specs.Entries.{thread, idle_thread, empty_slot}
use Rattle.entries.specs.Phases.{carried_by}
use Rattle.entries.specs.PhaseFacts.{carried_most}
use Rattle.machine.specs.Parts.{slot_at, phase_of, free_at, with_thread, with_slot}
use Rattle.machine.specs.Sound.{Sound, its_slot, its_phase}
use Rattle.laws.specs.OnePlace.{handover_not_free, carried_not_free}
use Rattle.promise.specs.GivenUp.{Waits, handed, carried}

-- what waits is an object, and not free
module _ (s : State) (h : Sound s) where
  pub waits_most : (o : ℕ) → Waits s o → o ≤ s.sizes.objects
  waits_most o (handed p less is) = subst (λ (k : ℕ). k ≤ s.sizes.objects) is (its_slot s h.ranged p less).handover
  waits_most o (carried t less is) =
      subst (λ (k : ℕ). k ≤ s.sizes.objects) is (carried_most s.sizes (phase_of s t) (its_phase s h.ranged t less))

  pub waits_not_free : (o : ℕ) → 0 < o → Waits s o → free_at s o ≡ false
  waits_not_free o some (handed p less is) = handover_not_free s h o some (waits_most o (handed p less is)) p less is
  waits_not_free o some (carried t less is) = carried_not_free s h o some (waits_most o (carried t less is)) t less is

-- Two states that differ, as far as waiting goes, in what thread t carries and what stands in the handover of p.
pub record Apart (s s' : State) (t p : ℕ) : Type 0 where
  pub sizes : s'.sizes ≡ s.sizes
  pub threads : (u : ℕ) → (u ≡ t → ⊥) → carried_by (phase_of s' u) ≡ carried_by (phase_of s u)
  pub slots : (q : ℕ) → (q ≡ p → ⊥) → (slot_at s' q).handover ≡ (slot_at s q).handover

pub turned : {s s' : State} {t p : ℕ} → Apart s s' t p → Apart s' s t p
turned a = record { sizes = sym a.sizes; threads = λ u ne. sym (a.threads u ne); slots = λ q ne. sym (a.slots q ne) }

-- what waits in one waits in the other, if what t carries and what stands at p does
pub passed : {s s' : State} {t p : ℕ} → Apart s s' t p → (x : ℕ) → (t < s.sizes.threads → carried_by (phase_of s t) ≡ x → Waits s' x)
    → (p < positions s.sizes → (slot_at s p).handover ≡ x → Waits s' x) → Waits s x → Waits s' x
passed {s} {s'} {t} {p} a x thread' slot' (handed q less is) =
    same_or_not (Waits s' x) q p
    (λ e. slot' (subst (λ (k : ℕ). k < positions s.sizes) e less) (subst (λ (k : ℕ). (slot_at s k).handover ≡ x) e is))
    (λ ne. handed q (subst (λ (z : Sizes). q < positions z) (sym a.sizes) less) (a.slots q ne ∙ is))
passed {s} {s'} {t} {p} a x thread' slot' (carried u less is) =
    same_or_not (Waits s' x) u t
    (λ e. thread' (subst (λ (k : ℕ). k < s.sizes.threads) e less) (subst (λ (k : ℕ). carried_by (phase_of s k) ≡ x) e is))
    (λ ne. carried u (subst (λ (z : Sizes). u < z.threads) (sym a.sizes) less) (a.threads u ne ∙ is))

-- the same objects wait in both
pub record SameWaits (s s' : State) : Type 0 where
  pub there : (x : ℕ) → Waits s x → Waits s' x
  pub back : (x : ℕ) → Waits s' x → Waits s x

-- A thread's entry is stored in a state that may differ from s in one handover.
module _ (s mid : State) (t hand : ℕ) (phase : Phase) (threads : mid.threads ≡ s.threads) (sizes : mid.sizes ≡ s.sizes) (long : t < length s.threads) where
  abbrev s' : State
  s' = with_thread mid t hand phase

  pub now_carried : carried_by (phase_of s' t) ≡ carried_by phase
  now_carried = rw threads (ap (λ (x : Thread). carried_by x.phase) (get_or-set_same s.threads t (thread hand phase) idle_thread long))

  pub thread_apart : (p : ℕ) → ((q : ℕ) → (q ≡ p → ⊥) → (slot_at mid q).handover ≡ (slot_at s q).handover) → Apart s s' t p
  thread_apart p slots =
      record {
        sizes = sizes;
        threads =
            λ u ne.
            rw threads (ap (λ (x : Thread). carried_by x.phase) (get_or-set_other s.threads t u (thread hand phase) idle_thread ne));
        slots = slots;
      }

  -- no handover changes
  module _ (slots : (q : ℕ) → (slot_at mid q).handover ≡ (slot_at s q).handover) where
    pub only_thread : Apart s s' t 0
    only_thread = thread_apart 0 (λ q ne. slots q)

    pub still_handed : (x : ℕ) → 0 < positions s.sizes → (slot_at s 0).handover ≡ x → Waits s' x
    still_handed x less is = handed 0 (subst (λ (z : Sizes). 0 < positions z) (sym sizes) less) (slots 0 ∙ is)

    pub handed_still : (x : ℕ) → 0 < positions s'.sizes → (slot_at s' 0).handover ≡ x → Waits s x
    handed_still x less is = handed 0 (subst (λ (z : Sizes). 0 < positions z) sizes less) (sym (slots 0) ∙ is)

    -- and the thread carries what it carried
    pub nothing_moved : carried_by phase ≡ carried_by (phase_of s t) → SameWaits s s'
    nothing_moved same =
        record {
          there =
              λ x.
              passed only_thread x
              (λ under is. carried t (subst (λ (z : Sizes). t < z.threads) (sym sizes) under) (now_carried ∙ same ∙ is))
              (still_handed x);
          back =
              λ x.
              passed (turned only_thread) x
              (λ under is. carried t (subst (λ (z : Sizes). t < z.threads) sizes under) (sym same ∙ sym now_carried ∙ is))
              (handed_still x);
        }

-- a store of a slot that keeps its handover
pub handovers_same : (s : State) (p : ℕ) (slot : Slot) → p < length s.slots → slot.handover ≡ (slot_at s p).handover → (q : ℕ)
    → (slot_at (with_slot s p slot) q).handover ≡ (slot_at s q).handover
handovers_same s p slot long same =
    at_set (λ (q : ℕ) (x : Slot). x.handover ≡ (slot_at s q).handover) s.slots p slot empty_slot long same (λ q ne. refl)

-- a thread and a slot exchange what the one carries and the other has been handed
pub exchanged : (s : State) (t hand p : ℕ) (slot : Slot) (phase : Phase) → t < length s.threads → p < length s.slots
    → t < s.sizes.threads → p < positions s.sizes → carried_by phase ≡ (slot_at s p).handover
    → slot.handover ≡ carried_by (phase_of s t) → SameWaits s (with_thread (with_slot s p slot) t hand phase)
exchanged s t hand p slot phase long long' under inside now now' =
    let mid = with_slot s p slot in
    let apart =
    thread_apart s mid t hand phase refl refl long p
    (λ q ne. ap (λ (x : Slot). x.handover) (get_or-set_other s.slots p q slot empty_slot ne))
    in
    let carries = now_carried s mid t hand phase refl refl long in
    let stands : (slot_at (with_thread mid t hand phase) p).handover ≡ slot.handover =
    ap (λ (x : Slot). x.handover) (get_or-set_same s.slots p slot empty_slot long')
    in
    record {
      there =
          λ x.
          passed apart x
          (λ less is. handed p inside (stands ∙ now' ∙ is))
          (λ less is. carried t under (carries ∙ now ∙ is));
      back =
          λ x.
          passed (turned apart) x
          (λ less is. handed p inside (sym now ∙ sym carries ∙ is))
          (λ less is. carried t under (sym now' ∙ sym stands ∙ is));
    }
