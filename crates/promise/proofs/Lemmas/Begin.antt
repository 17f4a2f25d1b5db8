-- The fresh machine and the empty store satisfy the invariant.
use Rattle.std.specs.Prelude.{ℕ, ◌<◌, ◌≡◌, refl, true, replicate}
use Rattle.std.proofs.Common.{arith, ◌∙◌}
use Rattle.std.proofs.Math.Path.{sym, ap}
use Rattle.std.proofs.Math.Bool.{false≢true}
use Rattle.std.proofs.Math.ListN.{get_or, get_or-replicate}
use Rattle.entries.specs.declared.Slot.{Slot}
use Rattle.entries.specs.declared.Thread.{Thread}
use Rattle.entries.specs.declared.Sizes.{Sizes}
use Rattle.entries.specs.Sizes.{in_range, positions}
use Rattle.machine.specs.Parts.{slot_at, phase_of}
use Rattle.basics.specs.Counts.{bit, how_many}
use Rattle.entries.specs.Entries.{idle_thread, empty_slot}
use Rattle.pool.specs.Promise.{fresh_pool_lem}
use Rattle.entries.specs.Phases.{carried_by, none, protecting}
use Rattle.machine.specs.Count.{five_places}
use Rattle.machine.specs.Fresh.{fresh_of}
use Rattle.entries.specs.Facts.{bounds}
use Rattle.machine.specs.Sound.{Sound, to_sound}
use Rattle.laws.proofs.Promise.{fresh_is_sound}
use Rattle.promise.specs.Store.{empty_store}
use Rattle.promise.specs.Reading.{no_takes, record_of}
use Rattle.promise.specs.Asked.{none_asked}
use Rattle.promise.specs.Holdings.{waiting}
use Rattle.promise.proofs.Lemmas.Same.{Same, Live, record_none}
use Rattle.promise.proofs.Lemmas.Remembers.{nothing_fits}
use Rattle.promise.proofs.Lemmas.Invariant.{Invariant}

module _ (z : Sizes) (h : in_range z ≡ true) where
  start_sound : Sound (fresh_of z)
  start_sound = to_sound (fresh_of z) (fresh_is_sound z h)

  no_mark : (p : ℕ) → p < positions z → (slot_at (fresh_of z) p).mark ≡ true → ⊥
  unfolding fresh_of
  no_mark p less marked =
      let b = bounds z start_sound.ranged.sizes in
      let there : get_or (replicate 32 empty_slot) p empty_slot ≡ empty_slot = get_or-replicate 32 p empty_slot empty_slot (omega arith) in
      false≢true (sym (ap (λ (x : Slot). x.mark) there) ∙ marked)

  all_free : (o : ℕ) → Live z.objects (fresh_of z).pool o → ⊥
  unfolding fresh_of
  all_free o live =
      let b = bounds z start_sound.ranged.sizes in
      false≢true (sym live.2 ∙ (fresh_pool_lem z.objects b.objects).1 o live.0 live.1)

  start_same : Same (fresh_of z) no_takes empty_store
  unfolding fresh_of
  start_same =
      let b = bounds z start_sound.ranged.sizes in
      record {
        holdings =
            record {
              links =
                  λ i less.
                  sym (ap (record_of no_takes) (get_or-replicate {A = ℕ} 16 i 0 0 (omega arith)) ∙ record_none no_takes);
              hands =
                  λ t less.
                  sym
                  (ap (λ (x : Thread). record_of no_takes x.hand) (get_or-replicate 8 t idle_thread idle_thread (omega arith)) ∙
                  record_none no_takes);
              slots = λ p less marked. absurd (no_mark p less marked);
            };
        names =
            record {
              tagged = λ o live. absurd (all_free o live);
              apart = λ o o' live live' e. absurd (all_free o live);
              known = λ o live. absurd (all_free o live);
              count = refl;
            };
      }

  none_asks : (t : ℕ) → t < z.threads → protecting (phase_of (fresh_of z) t) ≡ none
  unfolding fresh_of protecting
  none_asks t less =
      let b = bounds z start_sound.ranged.sizes in
      ap (λ (x : Thread). protecting x.phase) (get_or-replicate 8 t idle_thread idle_thread (omega arith))

  pub start_invariant : Invariant (fresh_of z) none_asked no_takes empty_store
  unfolding fresh_of
  start_invariant =
      record {
        sound = start_sound;
        guarded = λ p less marked. absurd (no_mark p less marked);
        remembers = record { fits = λ t less. nothing_fits (phase_of (fresh_of z) t) 0 0 0 (none_asks t less) };
        same = start_same;
      }

pub start_waiting : (z : Sizes) → waiting (fresh_of z) ≡ 0
unfolding fresh_of five_places how_many bit carried_by
start_waiting z = refl
