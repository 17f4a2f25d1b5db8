-- What becomes of an object that a thread carries: every step of that thread's own brings it nearer to where it is freed or left.
use Prim.Native.Nat.{ℕ, suc, ◌+◌, ◌-◌, ◌<◌, ◌≤◌}
use Rattle.std.proofs.Common.{arith, le_refl, sym, ◌∙◌, get_or-set_same}
use Rattle.std.specs.Prelude.{◌≡◌, Bool, get_or, set}
use Rattle.std.proofs.Math.Path.{refl, ap, subst}
use Rattle.std.proofs.Math.Bool.{true, false}
use mathlib.Core.List.{List, [], ◌∷◌}
use borrow.Author.Tests.{eqb-true}
use Rattle.machine.specs.declared.State.{State}
use Rattle.machine.specs.declared.Call.{Call}
use Rattle.machine.specs.declared.Outcome.{Outcome}
use Rattle.machine.specs.declared.Answer.TheVariants.{Freed}
use Rattle.entries.specs.declared.Sizes.{Sizes}
use Rattle.entries.specs.declared.Slot.{Slot}
use Rattle.entries.specs.declared.Thread.{Thread}
use Rattle.entries.specs.declared.Phase.{Phase}
use Rattle.basics.specs.Tests.{ands, by_test}
use Rattle.basics.specs.Counts.{bit, how_many}
use Rattle.entries.specs.Sizes.{positions}
use Rattle.entries.specs.Entries.{empty_slot, with_handover}
use Rattle.entries.specs.Phases.{carried_by}
use Rattle.entries.specs.PhaseFacts.{Scans, AtLook, idle_carries}
use Rattle.machine.specs.Parts.{slot_at, phase_of, become}
use Rattle.machine.specs.Sound.{Sound, slot_long}
use Rattle.machine.specs.Answers.{numbers_of}
use Rattle.machine.specs.Step.{step_of}
use Rattle.laws.proofs.Promise.{way, way_keeps_sound, way_keeps_sizes}
use Rattle.laws.specs.Ways.{Does, Way, refused, takes, begins, swaps, moves, reads, retires, clears, publishes, protects, finds_nothing, loads_again, finishes, sweeps, drains, meets, passes, frees, leaves, displaces}
use Rattle.promise.specs.History.{history_by, state_by, event_of}
use Rattle.promise.specs.Asked.{is_accepted}
use Rattle.daily.specs.Swept.{is_step_of, Fate, carried, freed, left}
use Rattle.daily.specs.StepsLeft.{steps_left}
use Rattle.daily.proofs.Lemmas.Steps.{event_by, its_new_phase, refused_not, unmoved}

-- a step of the thread that carries o at q
data Turn (s : State) (c : Call) (o q : ℕ) (look : Bool) (back : Phase) (out : Outcome) : Type 0 where
  to_swap : look ≡ true → q < positions s.sizes → Scans s.sizes false (phase_of out.state c.thread) back o q → Turn s c o q look back out
  to_look : look ≡ true → q < positions s.sizes → Scans s.sizes true (phase_of out.state c.thread) back o (suc q) → Turn s c o q look back out
  let_go : out.answer ≡ Freed o → Turn s c o q look back out
  left_there : q < positions s.sizes → (slot_at out.state q).handover ≡ o → Turn s c o q look back out

module _ (s : State) (c : Call) (h : Sound s) (o q : ℕ) (look : Bool) (back : Phase) (at : Scans s.sizes look (phase_of s c.thread) back o q) where
  -- what the phase carries and where, said twice, is the same
  same_scan : {look' : Bool} {back' : Phase} {o' q' : ℕ} → Scans s.sizes look' (phase_of s c.thread) back' o' q'
      → (o' ≡ o) × (q' ≡ q) × (look' ≡ look) × (back' ≡ back)
  same_scan was =
      (sym was.carries ∙ at.carries, sym was.at ∙ at.at, sym was.step ∙ at.step, sym was.returns ∙ at.returns)

  carries_something : {A : Type 0} → carried_by (phase_of s c.thread) ≡ 0 → A
  carries_something none = let some = at.some in let e = at.carries in absurd (omega arith)

  busy : {n : ℕ} {A : Type 0} → Does s c n → n ≤ 6 → A
  busy d most = carries_something (idle_carries _ (d.idle most))

  -- the thread goes on to a scan of the same object
  goes_on : {look' : Bool} {back' : Phase} {o' q' : ℕ} (next : Phase) {n : ℕ} → Does s c n
      → Scans s.sizes look' next back' o' q' → o' ≡ o → back' ≡ back → (to : ℕ) → q' ≡ to
      → Scans s.sizes look' (phase_of (become s c.thread next) c.thread) back o to
  goes_on {look'} {back'} {o'} {q'} next d scans e e' to e'' =
      let one = subst (λ (k : ℕ). Scans s.sizes look' next back' k q') e scans in
      let two = subst (λ (b : Phase). Scans s.sizes look' next b o q') e' one in
      let three = subst (λ (k : ℕ). Scans s.sizes look' next back o k) e'' two in
      subst (λ (x : Phase). Scans s.sizes look' x back o to) (sym (its_new_phase s c _ next h d.thread)) three

  -- it stands in the handover that it was put in
  put_there : (q' o' : ℕ) → q' < positions s.sizes → o' ≡ o → q' ≡ q
      → (get_or (set s.slots q' (with_handover (slot_at s q') o')) q empty_slot).handover ≡ o
  put_there q' o' inside e e' =
      rw (← e', ← e) (ap (λ (x : Slot). x.handover) (get_or-set_same s.slots q' (with_handover (slot_at s q') o') empty_slot (slot_long s h.ranged q' inside)))

  turn : {out : Outcome} → Way s c out → is_accepted (event_by c out) ≡ true → Turn s c o q look back out
  unfolding carried_by numbers_of
  turn (refused first) took = refused_not s c first took
  turn (takes d empty next free) took = busy d (omega arith)
  turn (begins d idle slot link read) took = busy d (omega arith)
  turn (swaps d link protected read same) took = busy d (omega arith)
  turn (moves d link protected other) took = busy d (omega arith)
  turn (reads d inside marked) took = busy d (omega arith)
  turn (retires d idle full some) took = busy d (omega arith)
  turn (clears d idle slot) took = busy d (omega arith)
  turn (publishes d was inside inside' most) took = carries_something (ap carried_by was)
  turn (protects d was inside inside' read same some) took = carries_something (ap carried_by was)
  turn (finds_nothing d was inside inside' read none) took = carries_something (ap carried_by was)
  turn (loads_again d was inside inside' read other) took = carries_something (ap carried_by was)
  turn (finishes p d was inside empty) took = carries_something was.carries
  turn (sweeps p d was inside empty inside' inside'') took = carries_something was.carries
  turn (drains p next d was inside full scans) took = carries_something was.carries
  turn (meets next d was inside match scans) took =
      let its = same_scan was in
      to_swap (sym its.2) (rw (← its.1) inside) (goes_on next d scans its.0 its.3 q its.1)
  turn (passes next d was inside other scans) took =
      let its = same_scan was in
      to_look (sym its.2) (rw (← its.1) inside) (goes_on next d scans its.0 its.3 (suc q) (ap suc its.1))
  turn (frees next d was past ended fine) took = let its = same_scan was in let_go (ap Freed its.0)
  turn (leaves {o = o'} {q = q'} next d was inside empty ended fine) took =
      let its = same_scan was in
      left_there (rw (← its.1) inside) (put_there q' o' inside its.0 its.1)
  turn (displaces {o = o'} {q = q'} next d was inside full scans) took =
      let its = same_scan was in
      left_there (rw (← its.1) inside) (put_there q' o' inside its.0 its.1)

some_left : (z : Sizes) (look : Bool) (q : ℕ) → 0 < steps_left z look q
unfolding steps_left
some_left z true q = omega arith
some_left z false q = omega arith

module _ (t p o : ℕ) where
  -- what is so after the other calls, with one call before them
  one_before : (s : State) (c : Call) (calls : List Call) (most most' : ℕ) → bit (is_step_of t (event_of s c)) + most' ≤ most
      → (step_of s c).state.sizes ≡ s.sizes → Fate (step_of s c).state t p o most' calls → Fate s t p o most (c ∷ calls)
  unfolding history_by state_by how_many
  one_before s c calls most most' fits sizes (carried is at few) = carried is at (omega arith)
  one_before s c calls most most' fits sizes (freed before after d split own had few is) =
      freed (c ∷ before) after d (ap (λ (l : List Call). c ∷ l) split) own had (omega arith) is
  one_before s c calls most most' fits sizes (left before after d q split own had few low inside is) =
      left (c ∷ before) after d q (ap (λ (l : List Call). c ∷ l) split) own had (omega arith) low (rw (← sizes) inside) is

  -- a scan in the next state, whose sizes are the same
  pub moved : (s s' : State) {look : Bool} {back : Phase} {q : ℕ} → s'.sizes ≡ s.sizes → {u : ℕ} → u ≡ t
      → Scans s.sizes look (phase_of s' u) back o q → Scans s'.sizes look (phase_of s' t) back o q
  moved s s' {look} {back} {q} sizes e scans =
      subst (λ (z : Sizes). Scans z look (phase_of s' t) back o q) (sym sizes)
      (subst (λ (u : ℕ). Scans s.sizes look (phase_of s' u) back o q) e scans)

  -- a step of the thread's own, where the rest of the calls is known
  stepped : (s : State) (c : Call) (calls : List Call) (look : Bool) (back : Phase) (q : ℕ) → (step_of s c).state.sizes ≡ s.sizes
      → is_step_of t (event_of s c) ≡ true → c.thread ≡ t → carried_by (phase_of s t) ≡ o → p ≤ q
      → ((look' : Bool) (q' : ℕ) → Scans (step_of s c).state.sizes look' (phase_of (step_of s c).state t) back o q' → p ≤ q'
      → Fate (step_of s c).state t p o (steps_left (step_of s c).state.sizes look' q') calls)
      → Turn s c o q look back (step_of s c) → Fate s t p o (steps_left s.sizes look q) (c ∷ calls)
  unfolding steps_left bit history_by state_by how_many
  stepped s c calls look back q sizes own is had low later (to_swap l inside scans) =
      one_before s c calls _ _ (rw (own, l) (omega arith)) sizes (later false q (moved s (step_of s c).state sizes is scans) low)
  stepped s c calls look back q sizes own is had low later (to_look l inside scans) =
      one_before s c calls _ _ (rw (own, l, sizes) (omega arith)) sizes (later true (suc q) (moved s (step_of s c).state sizes is scans) (omega arith))
  stepped s c calls look back q sizes own is had low later (let_go gone) =
      freed [] calls c refl is had (some_left s.sizes look q) gone
  stepped s c calls look back q sizes own is had low later (left_there inside there) =
      left [] calls c q refl is had (some_left s.sizes look q) low inside there

  from_here : (calls : List Call) (s : State) → Sound s → (look : Bool) (back : Phase) (q : ℕ) → Scans s.sizes look (phase_of s t) back o q
      → p ≤ q → Fate s t p o (steps_left s.sizes look q) calls
  unfolding history_by state_by how_many bit
  from_here [] s h look back q at low =
      carried at.carries (let is = at.at in omega arith) (some_left s.sizes look q)
  from_here (c ∷ calls) s h look back q at low =
      let w = way s c in
      let sizes = way_keeps_sizes s c w in
      let s' = (step_of s c).state in
      let sound' = way_keeps_sound s c w h in
      by_test (Fate s t p o (steps_left s.sizes look q) (c ∷ calls)) (is_step_of t (event_of s c))
      (λ own.
      let is : c.thread ≡ t = eqb-true _ _ (search (ands, own)) in
      stepped s c calls look back q sizes own is at.carries low
      (λ look' q' at' low'. from_here calls s' sound' look' back q' at' low')
      (turn s c h o q look back (subst (λ (u : ℕ). Scans s.sizes look (phase_of s u) back o q) (sym is) at) w (search (ands, own))))
      (λ other.
      let same = ap (λ (x : Thread). x.phase) (unmoved t s c other) in
      let at' = subst (λ (x : Phase). Scans s.sizes look x back o q) (sym same) at in
      one_before s c calls _ (steps_left s'.sizes look q) (rw (other, sizes) (omega arith)) sizes
      (from_here calls s' sound' look back q (moved s s' sizes refl at') low))

pub fate : (s : State) → Sound s → (t p : ℕ) (back : Phase) (o : ℕ) → AtLook s.sizes (phase_of s t) back o p
    → (more : List Call) → Fate s t p o (positions s.sizes - p + 1) more
unfolding steps_left
fate s h t p back o at more = from_here t p o more s h true back p at (le_refl p)
