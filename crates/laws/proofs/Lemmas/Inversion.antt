-- Every call goes one of the ways: the one place that unfolds the rules.
use Rattle.std.specs.Prelude.{ℕ, suc, ◌<◌, ◌≤◌, ◌≡◌, Bool, true, cond, ltb, Option, Some, None}
use Rattle.std.proofs.Common.{arith, sym, ◌∙◌, subst}
use Rattle.std.proofs.Math.Path.{refl}
use Rattle.std.proofs.Math.Bool.{false}
use Rattle.std.proofs.lemmas.Bool.{false≢true}
use Rattle.std.proofs.Math.Dec.{eqb}
use borrow.Author.Tests.{eqb-true, eqb-false, ne_eqb, le-leb, ltb-true, ltb-false}
use Rattle.machine.specs.declared.State.{State}
use Rattle.machine.specs.declared.Call.{Call}
use Rattle.machine.specs.declared.Outcome.{Outcome}
use Rattle.machine.specs.declared.refusal.Refusal.{Refusal}
use Rattle.entries.specs.declared.Phase.{Phase}
use Rattle.entries.specs.declared.Phase.TheVariants.{Idle, Loaded, Sweeping, Published, Draining, Look, Swap, SweepLook, SweepSwap}
use Rattle.basics.proofs.Rows.{first_some}
use Rattle.entries.specs.Sizes.{positions}
use Rattle.entries.specs.Entries.{with_handover}
use Rattle.entries.specs.Phases.{is_idle, carried_by, returns_to, protecting, phase_in_range}
use Rattle.entries.specs.PhaseFacts.{Scans, AtLook, AtSwap, Back, to_idle, to_published, returns_back, back_carries, loaded_facts, sweeping_facts, published_facts, draining_facts, idle_good, published_good, look_facts, swap_facts, sweep_look_facts, sweep_swap_facts, look_scans, swap_scans}
use Rattle.pool.specs.Promise.{next_is_free}
use Rattle.machine.specs.Parts.{link_at, phase_of, slot_at, position_of, with_slot, become}
use Rattle.machine.specs.Sound.{its_phase, its_slot, its_position}
use Rattle.machine.specs.Calls.{outcome, expected, take_of, protect_of, swap_of, read_of, retire_of, clear_of}
use Rattle.machine.specs.GoOn.{publish_of, confirm_of, nothing_found, empty_of, sweep_of, drain_of, look_of, hand_over_of, go_on_from, go_on_of}
use Rattle.machine.specs.Refusals.{uses_slot, uses_link, without_slot, reads_slot, refusal_of}
use Rattle.machine.specs.Accepted.{Accepted, accepted, by_operation}
use Rattle.machine.specs.Step.{done_of, refused_or, step_of}
use Rattle.laws.specs.Ways.{named, phase, Does, by_drain, by_sweep, Drains, NamesProtected, Way, refused, takes, begins, swaps, moves, reads, retires, clears, publishes, protects, finds_nothing, loads_again, finishes, sweeps, drains, meets, passes, frees, leaves, displaces}

-- an outcome that a test chooses
chosen : (s : State) (c : Call) (test : Bool) (x y : Outcome) → (test ≡ true → Way s c x) → (test ≡ false → Way s c y) → Way s c (cond test x y)
chosen s c true x y p q = p refl
chosen s c false x y p q = q refl

module _ (s : State) (c : Call) (a : Accepted s c) where
  idle : c.operation ≤ 6 → is_idle (phase s c) ≡ true
  idle most = a.thread.idle (rw (le-leb 1 c.operation a.fields.operation.0, le-leb c.operation 6 most))

  does : (n : ℕ) → c.operation ≡ n → Does s c n
  does n op = record { sound = a.sound; thread = a.fields.thread; operation = op; idle = λ most. idle (omega arith) }

  position : c.slot < s.sizes.slots → named s c < positions s.sizes
  position = its_position s a.sound.ranged c.thread c.slot a.fields.thread

  take_way : c.operation ≡ 1 → Way s c (take_of s c.thread c.tag)
  unfolding take_of
  take_way op = takes (does 1 op) (a.thread.empty_hand op) refl (next_is_free s.pool (a.objects.free op))

  protect_way : c.operation ≡ 2 → Way s c (protect_of s c.thread c.slot c.link)
  unfolding protect_of uses_slot uses_link without_slot
  protect_way op =
      begins (does 2 op) (idle (omega arith)) (a.fields.slot (rw op) (rw op)) (a.fields.link (rw op)) refl

  named_protected : c.operation ≡ 3 → NamesProtected s c
  unfolding uses_slot without_slot reads_slot
  named_protected op ne =
      let no' : eqb c.slot 255 ≡ false = ne_eqb c.slot 255 ne in
      (position (a.fields.slot (rw op) (rw (op, no'))), a.objects.marked (rw (op, no')))

  swap_way : c.operation ≡ 3 → Way s c (swap_of s c.thread c.slot c.link)
  unfolding swap_of uses_link
  swap_way op =
      let link = a.fields.link (rw op) in
      chosen s c (eqb (link_at s c.link) (expected s c.thread c.slot)) _ _
      (λ same. swaps (does 3 op) link (named_protected op) refl (eqb-true _ _ same))
      (λ other. moves (does 3 op) link (named_protected op) (eqb-false _ _ other))

  read_way : c.operation ≡ 4 → Way s c (read_of s c.thread c.slot)
  unfolding read_of uses_slot without_slot reads_slot
  read_way op = reads (does 4 op) (position (a.fields.slot (rw op) (rw op))) (a.objects.marked (rw op))

  retire_way : c.operation ≡ 5 → Way s c (retire_of s c.thread)
  unfolding retire_of
  retire_way op =
      let full = a.thread.full_hand op in
      retires (does 5 op) (idle (omega arith)) refl (omega arith)

  clear_way : c.operation ≡ 6 → Way s c (clear_of s c.thread c.slot)
  unfolding clear_of uses_slot without_slot
  clear_way op = clears (does 6 op) (idle (omega arith)) (a.fields.slot (rw op) (rw op))

  -- go on, by the phase
  module _ (op : c.operation ≡ 7) where
    abbrev t : ℕ
    t = c.thread

    on : Does s c 7
    on = does 7 op

    in_range_lem : (now : Phase) → phase_of s t ≡ now → phase_in_range s.sizes now ≡ true
    in_range_lem now e = rw e at (its_phase s a.sound.ranged t a.fields.thread)

    -- what is known of the phase is known of the thread
    scanning : {look : Bool} {now back : Phase} {o q : ℕ} → phase_of s t ≡ now → Scans s.sizes look now back o q
        → Scans s.sizes look (phase s c) (returns_to (phase s c)) o q
    scanning {look} {now} {back} {o} {q} e scans =
        let its = subst (λ (x : Phase). Scans s.sizes look x back o q) (sym e) scans in
        subst (λ (x : Phase). Scans s.sizes look (phase s c) x o q) (sym its.returns) its

    publish_way : (slot link o : ℕ) → phase_of s t ≡ Loaded slot link o → Way s c (publish_of s t slot link o)
    unfolding publish_of
    publish_way slot link o e =
        let f = loaded_facts s.sizes slot link o (in_range_lem (Loaded slot link o) e) in
        publishes on e f.0 f.1 f.2

    confirm_way : (slot link : ℕ) → phase_of s t ≡ Published slot link → Way s c (confirm_of s t slot link)
    unfolding confirm_of
    confirm_way slot link e =
        let f = published_facts s.sizes slot link (in_range_lem (Published slot link) e) in
        let hazard = (slot_at s (position_of s t slot)).hazard in
        chosen s c (eqb (link_at s link) hazard) _ _
        (λ same.
        let is = eqb-true (link_at s link) hazard same in
        chosen s c (eqb (link_at s link) 0) _ _
        (λ zero. let none = eqb-true (link_at s link) 0 zero in finds_nothing on e f.0 f.1 none (sym is ∙ none))
        (λ some. let ne = eqb-false (link_at s link) 0 some in protects on e f.0 f.1 refl is (omega arith)))
        (λ other. loads_again on e f.0 f.1 refl (eqb-false _ _ other))

    -- a handover is taken, by a drain or by a sweep
    module _ (slot : ℕ) (back : Phase) (within_slots : slot < s.sizes.slots) (kind : Back back)
        (fine : phase_in_range s.sizes back ≡ true) (was : Drains s c back (position_of s t slot)) where
      abbrev p : ℕ
      p = position_of s t slot

      empty_way : ((slot_at s p).handover ≡ 0 → p < positions s.sizes
          → Way s c (outcome (become (with_slot s p (with_handover (slot_at s p) 0)) t back) (nothing_found back p)))
          → Way s c (empty_of s t slot back)
      unfolding empty_of
      empty_way nothing =
          let inside = its_position s a.sound.ranged t slot a.fields.thread within_slots in
          let facts = its_slot s a.sound.ranged p inside in
          chosen s c (eqb (slot_at s p).handover 0) _ _
          (λ none. nothing (eqb-true _ _ none) inside)
          (λ some.
          let ne = eqb-false (slot_at s p).handover 0 some in
          drains p _ on was inside refl (look_scans s.sizes kind _ p fine (omega arith) facts.handover (omega arith)))

    sweep_way : (slot link : ℕ) → phase_of s t ≡ Sweeping slot link → Way s c (sweep_of s t slot link)
    unfolding sweep_of nothing_found is_idle carried_by protecting
    sweep_way slot link e =
        let f = sweeping_facts s.sizes slot link (in_range_lem (Sweeping slot link) e) in
        let was : Drains s c (Published slot link) (position_of s t slot) =
        record { slot = slot; at = refl; empties = by_sweep link e refl; carries = rw e; protects = rw e }
        in
        empty_way slot (Published slot link) f.0 (to_published slot link) (published_good s.sizes slot link f.0 f.1) was
        (λ none inside. sweeps _ on was inside none f.0 f.1)

    drain_way : (slot : ℕ) → phase_of s t ≡ Draining slot → Way s c (drain_of s t slot)
    unfolding drain_of nothing_found is_idle carried_by protecting
    drain_way slot e =
        let was : Drains s c Idle (position_of s t slot) =
        record { slot = slot; at = refl; empties = by_drain e refl; carries = rw e; protects = rw e }
        in
        empty_way slot Idle (draining_facts s.sizes slot (in_range_lem (Draining slot) e)) to_idle (idle_good s.sizes) was
        (λ none inside. finishes _ on was inside none)

    look_way : {now back : Phase} (o q : ℕ) → phase_of s t ≡ now → AtLook s.sizes now back o q → Way s c (look_of s t o q)
    unfolding look_of
    look_way o q e scans =
        let its = scanning e scans in
        let kind = returns_back (phase_of s t) in
        chosen s c (ltb q (positions s.sizes)) _ _
        (λ under.
        let inside = ltb-true q (positions s.sizes) under in
        chosen s c (eqb (slot_at s q).hazard o) _ _
        (λ match. meets _ on its inside (eqb-true _ _ match) (swap_scans s.sizes kind o q its.good_back its.some its.most inside))
        (λ other. passes _ on its inside (eqb-false _ _ other) (look_scans s.sizes kind o (suc q) its.good_back its.some its.most inside)))
        (λ past. frees _ on its (ltb-false _ _ past) (back_carries kind) its.good_back)

    hand_over_way : {now back : Phase} (o q : ℕ) → phase_of s t ≡ now → AtSwap s.sizes now back o q → q < positions s.sizes
        → Way s c (hand_over_of s t o q)
    unfolding hand_over_of
    hand_over_way o q e scans inside =
        let its = scanning e scans in
        let kind = returns_back (phase_of s t) in
        let facts = its_slot s a.sound.ranged q inside in
        chosen s c (eqb (slot_at s q).handover 0) _ _
        (λ none. leaves _ on its inside (eqb-true _ _ none) (back_carries kind) its.good_back)
        (λ some.
        let ne = eqb-false (slot_at s q).handover 0 some in
        displaces _ on its inside refl (look_scans s.sizes kind _ q its.good_back (omega arith) facts.handover (omega arith)))

    from_way : (now : Phase) → phase_of s t ≡ now → is_idle now ≡ false → Way s c (go_on_from s t now)
    unfolding go_on_from is_idle
    from_way Idle e busy = absurd (false≢true (sym busy))
    from_way (Loaded slot link o) e busy = publish_way slot link o e
    from_way (Sweeping slot link) e busy = sweep_way slot link e
    from_way (Published slot link) e busy = confirm_way slot link e
    from_way (Draining slot) e busy = drain_way slot e
    from_way (Look o q) e busy = look_way o q e (look_facts s.sizes o q (in_range_lem (Look o q) e)).0
    from_way (Swap o q) e busy = let f = swap_facts s.sizes o q (in_range_lem (Swap o q) e) in hand_over_way o q e f.0 f.1
    from_way (SweepLook o q slot link) e busy =
        look_way o q e (sweep_look_facts s.sizes o q slot link (in_range_lem (SweepLook o q slot link) e)).0
    from_way (SweepSwap o q slot link) e busy =
        let f = sweep_swap_facts s.sizes o q slot link (in_range_lem (SweepSwap o q slot link) e) in
        hand_over_way o q e f.0 f.1

    go_on_way : Way s c (go_on_of s t)
    unfolding go_on_of
    go_on_way = from_way (phase_of s t) refl (a.thread.busy op)

  -- the call's rule, by its operation's number
  is_done : (o : Outcome) → done_of s c ≡ o → Way s c o → Way s c (done_of s c)
  is_done o is w = subst (Way s c) (sym is) w

  done_way : Way s c (done_of s c)
  unfolding done_of
  done_way =
      by_operation s c a (Way s c (done_of s c))
      (λ op. is_done _ (rw op) (take_way op))
      (λ op. is_done _ (rw op) (protect_way op))
      (λ op. is_done _ (rw op) (swap_way op))
      (λ op. is_done _ (rw op) (read_way op))
      (λ op. is_done _ (rw op) (retire_way op))
      (λ op. is_done _ (rw op) (clear_way op))
      (λ op. is_done _ (rw op) (go_on_way op))

-- by what the table gives
by_table : (s : State) (c : Call) (given : Option Refusal) → refusal_of s c ≡ given → Way s c (refused_or done_of s c given)
unfolding refused_or refusal_of
by_table s c None e = done_way s c (accepted s c e)
by_table s c (Some refusal) e = refused (first_some e)

pub way : (s : State) (c : Call) → Way s c (step_of s c)
unfolding step_of
way s c = by_table s c (refusal_of s c) refl
