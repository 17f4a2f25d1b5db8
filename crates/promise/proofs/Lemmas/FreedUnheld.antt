-- When an object is freed, no link, no hand and no protected slot holds it.
use Rattle.std.specs.Prelude.{ℕ, ◌*◌, ◌<◌, ◌≡◌, true}
use Rattle.std.proofs.Common.{arith, sym, subst, ◌∙◌}
use Rattle.machine.specs.declared.State.{State}
use Rattle.machine.specs.declared.Call.{Call}
use Rattle.machine.specs.declared.Outcome.{Outcome}
use Rattle.machine.specs.declared.Answer.TheVariants.{Freed}
use Rattle.entries.specs.declared.Thread.{Thread}
use Rattle.basics.specs.Tests.{clash}
use Rattle.basics.specs.Lists.{at_set}
use Rattle.entries.specs.Entries.{thread, idle_thread}
use Rattle.pool.specs.Pool.{put_back}
use Rattle.machine.specs.Parts.{link_at, slot_at, hand_of, with_pool, become}
use Rattle.machine.specs.Sound.{Sound, thread_long}
use Rattle.laws.specs.OnePlace.{link_not_carried, hand_not_carried}
use Rattle.laws.specs.Ways.{Way, refused, takes, begins, swaps, moves, reads, retires, clears, publishes, protects, finds_nothing, loads_again, finishes, sweeps, drains, meets, passes, frees, leaves, displaces}
use Rattle.promise.specs.Holdings.{Unheld}
use Rattle.promise.specs.Guard.{Guarded}

module _ (s : State) (c : Call) (h : Sound s) (g : Guarded s) where
  pub freeing : {o : Outcome} → Way s c o → (object : ℕ) → o.answer ≡ Freed object → Unheld s object × Unheld o.state object
  freeing (refused first) x e = clash (cc)
  freeing (takes d empty next free) x e = clash (cc)
  freeing (begins d idle slot link read) x e = clash (cc)
  freeing (swaps d link protected read same) x e = clash (cc)
  freeing (moves d link protected other) x e = clash (cc)
  freeing (reads d inside marked) x e = clash (cc)
  freeing (retires d idle full some) x e = clash (cc)
  freeing (clears d idle slot) x e = clash (cc)
  freeing (publishes d was inside inside' most) x e = clash (cc)
  freeing (protects d was inside inside' read same some) x e = clash (cc)
  freeing (finds_nothing d was inside inside' read none) x e = clash (cc)
  freeing (loads_again d was inside inside' read other) x e = clash (cc)
  freeing (finishes p d was inside empty) x e = clash (cc)
  freeing (sweeps p d was inside empty inside' inside'') x e = clash (cc)
  freeing (drains p next d was inside full scans) x e = clash (cc)
  freeing (meets next d was inside match scans) x e = clash (cc)
  freeing (passes next d was inside other scans) x e = clash (cc)
  freeing (frees {o = o} {q = q} next d was past ended fine) x e =
      let is : o ≡ x = cc in
      let t = c.thread in
      let links : (i : ℕ) → i < s.sizes.links → link_at s i ≡ o → ⊥ =
      λ i less there. link_not_carried s h o was.some was.most i t less d.thread there was.carries
      in
      let hands : (u : ℕ) → u < s.sizes.threads → hand_of s u ≡ o → ⊥ =
      λ u less there. hand_not_carried s h o was.some was.most u t less d.thread there was.carries
      in
      let slots : (p : ℕ) → p < s.sizes.threads * s.sizes.slots → (slot_at s p).mark ≡ true → (slot_at s p).hazard ≡ o → ⊥ =
      λ p less marked there.
      let below = (g p less marked).carried t d.thread (was.carries ∙ sym there) in
      let at = was.at in
      omega arith
      in
      subst (λ (k : ℕ). Unheld s k × Unheld (become (with_pool s (put_back s.pool o) o 0) t next) k) is (
        record { links = links; hands = hands; slots = slots },
        record {
          links = links;
          hands =
              at_set (λ (u : ℕ) (y : Thread). u < s.sizes.threads → y.hand ≡ o → ⊥) s.threads t (thread (hand_of s t) next) idle_thread
              (thread_long s h.ranged t d.thread)
              (hands t)
              (λ u ne. hands u);
          slots = slots;
        },
      )
  freeing (leaves next d was inside empty ended fine) x e = clash (cc)
  freeing (displaces next d was inside full scans) x e = clash (cc)
