-- From one call to a run, by going through its calls.
use Rattle.std.specs.Prelude.{ℕ, ◌+◌, ◌≡◌}
use Rattle.std.proofs.Common.{arith, sym, ap₂, ◌∙◌, subst}
use Rattle.std.proofs.Math.Path.{refl, ap}
use mathlib.Core.List.{List, [], ◌∷◌, ◌++◌, map}
use Rattle.machine.specs.declared.State.{State}
use Rattle.entries.specs.declared.Sizes.{Sizes}
use Rattle.machine.specs.declared.Call.{Call}
use Rattle.machine.specs.Answers.{Numbers, numbers_of}
use Rattle.basics.specs.Counts.{bit, how_many}
use Rattle.laws.proofs.Promise.{way, way_keeps_sound, way_keeps_sizes}
use Rattle.machine.specs.Step.{step_of}
use Rattle.promise.specs.Store.{Store, PlainCall, says, next, store_says, store_after}
use Rattle.promise.specs.History.{history_by, state_by, event_of, history, state_after, is_retire, is_freed, retires, freed}
use Rattle.promise.specs.Reading.{Reading, noted, renamed, reading_after}
use Rattle.promise.specs.Asked.{Memory, remembered, memory_after}
use Rattle.promise.specs.Listing.{listed_of, listing, machine_says}
use Rattle.promise.specs.Holdings.{waiting}
use Rattle.promise.proofs.Lemmas.Invariant.{Invariant}
use Rattle.promise.proofs.Lemmas.Guarded.{guarded_kept}
use Rattle.promise.proofs.Lemmas.Waiting.{waiting_kept}
use Rattle.promise.proofs.Lemmas.Remembers.{remembers_kept}
use Rattle.promise.proofs.Lemmas.Step.{matches}

-- one call, listed or not
pub record Moment (s : State) (c : Call) (m : Memory) (r : Reading) (store : Store) : Type 0 where
  pub sizes : (step_of s c).state.sizes ≡ s.sizes
  pub says : store_says s.sizes.slots store (listed_of m (event_of s c))
      ≡ map (λ (call : PlainCall). numbers_of (renamed (noted r (step_of s c).answer) (step_of s c).answer)) (listed_of m (event_of s c))
  pub holds : Invariant (step_of s c).state (remembered m (event_of s c)) (noted r (step_of s c).answer) (store_after s.sizes.slots store (listed_of m (event_of s c)))
  pub count : waiting (step_of s c).state + bit (is_freed (event_of s c)) ≡ waiting s + bit (is_retire (event_of s c))

pub moment : (s : State) (c : Call) (m : Memory) (r : Reading) (store : Store) → Invariant s m r store → Moment s c m r store
moment s c m r store v =
    let w = way s c in
    let both = matches s c m r store v w in
    record {
      sizes = way_keeps_sizes s c w;
      says = both.says;
      holds =
          record {
            sound = way_keeps_sound s c w v.sound;
            guarded = guarded_kept s c v.sound v.guarded w;
            remembers = remembers_kept s c m v.sound v.remembers w;
            same = both.same;
          };
      count = waiting_kept s c v.sound w;
    }

module _ (per_thread : ℕ) where
  says_append : (store : Store) (xs ys : List PlainCall)
      → store_says per_thread store (xs ++ ys) ≡ store_says per_thread store xs ++ store_says per_thread (store_after per_thread store xs) ys
  unfolding store_says store_after
  says_append store [] ys = refl
  says_append store (x ∷ xs) ys = ap (λ (l : List Numbers). says per_thread store x ∷ l) (says_append (next per_thread store x) xs ys)

  after_append : (store : Store) (xs ys : List PlainCall)
      → store_after per_thread store (xs ++ ys) ≡ store_after per_thread (store_after per_thread store xs) ys
  unfolding store_after
  after_append store [] ys = refl
  after_append store (x ∷ xs) ys = after_append (next per_thread store x) xs ys

pub record Run (s : State) (m : Memory) (r : Reading) (store : Store) (calls : List Call) : Type 0 where
  pub sizes : (state_after s calls).sizes ≡ s.sizes
  pub says : store_says s.sizes.slots store (listing m (history s calls)) ≡ machine_says m r (history s calls)
  pub holds :
      Invariant (state_after s calls) (memory_after m (history s calls)) (reading_after r (history s calls))
      (store_after s.sizes.slots store (listing m (history s calls)))
  pub count : freed (history s calls) + waiting (state_after s calls) ≡ waiting s + retires (history s calls)

pub run : (s : State) (m : Memory) (r : Reading) (store : Store) → Invariant s m r store → (calls : List Call) → Run s m r store calls
unfolding history_by state_by store_says store_after listing machine_says memory_after reading_after retires freed how_many
run s m r store v [] = record { sizes = refl; says = refl; holds = v; count = omega arith }
run s m r store v (c ∷ calls) =
    let one = moment s c m r store v in
    let s' = (step_of s c).state in
    let e = event_of s c in
    let m' = remembered m e in
    let r' = noted r e.answer in
    let h = s.sizes.slots in
    let store' = store_after h store (listed_of m e) in
    let rest = run s' m' r' store' one.holds calls in
    let slots : s'.sizes.slots ≡ h = ap (λ (z : Sizes). z.slots) one.sizes in
    let says' =
    subst (λ (k : ℕ). store_says k store' (listing m' (history s' calls)) ≡ machine_says m' r' (history s' calls)) slots rest.says
    in
    let End : Store → Type 0 = Invariant (state_after s' calls) (memory_after m' (history s' calls)) (reading_after r' (history s' calls)) in
    let holds' = subst (λ (k : ℕ). End (store_after k store' (listing m' (history s' calls)))) slots rest.holds in
    record {
      sizes = rest.sizes ∙ one.sizes;
      says = says_append h store (listed_of m e) (listing m' (history s' calls)) ∙ ap₂ (λ (a b : List Numbers). a ++ b) one.says says';
      holds = subst End (sym (after_append h store (listed_of m e) (listing m' (history s' calls)))) holds';
      count = let now = one.count in let more = rest.count in omega arith;
    }
