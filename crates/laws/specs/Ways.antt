-- How one call can go. Each case says what led there, and its outcome is the state with the new entries stored and every other as it was, and
-- the answer. Whoever builds on the machine goes by these cases and looks into none of its rules.
use Rattle.std.specs.Prelude.{ℕ, suc, ◌<◌, ◌≤◌, ◌≡◌, true, false}
use Rattle.machine.specs.declared.State.{State}
use Rattle.machine.specs.declared.Call.{Call}
use Rattle.machine.specs.declared.Outcome.{Outcome}
use Rattle.machine.specs.declared.Answer.TheVariants.{Refused, Taken, Begun, Working, Protected, Nothing, Swapped, Moved, Tag, Finished, Left, Freed}
use Rattle.machine.specs.declared.refusal.Refusal.{Refusal}
use Rattle.machine.specs.declared.Work.TheVariants.{Publication, FailedRead, NoMatch, Match, Displacement, Found, FoundNothing}
use Rattle.entries.specs.declared.Phase.{Phase}
use Rattle.entries.specs.declared.Phase.TheVariants.{Idle, Loaded, Sweeping, Published, Draining, Look}
use Rattle.basics.specs.Rows.{FirstIs}
use Rattle.entries.specs.Sizes.{positions}
use Rattle.entries.specs.Entries.{with_hazard, with_handover}
use Rattle.entries.specs.Phases.{is_idle, carried_by, protecting, phase_in_range}
use Rattle.entries.specs.PhaseFacts.{AtLook, AtSwap}
use Rattle.pool.specs.Pool.{next_of, taken_out, put_back}
use Rattle.machine.specs.Parts.{link_at, hand_of, phase_of, slot_at, position_of, free_at, tag_of, with_link, with_thread, with_slot, with_pool, become}
use Rattle.machine.specs.Sound.{Sound}
use Rattle.machine.specs.Calls.{outcome, expected}
use Rattle.machine.specs.Refusals.{refusals}

-- the hand and the phase of the thread that calls, the position of a slot of its own, and of the one that the call names

abbrev pub hand : State → Call → ℕ
hand s c = hand_of s c.thread

abbrev pub phase : State → Call → Phase
phase s c = phase_of s c.thread

abbrev pub own : State → Call → ℕ → ℕ
own s c slot = position_of s c.thread slot

abbrev pub named : State → Call → ℕ
named s c = own s c c.slot

-- an accepted call of operation n; all but go on are an idle thread's
pub record Does (s : State) (c : Call) (n : ℕ) : Type 0 where
  pub sound : Sound s
  pub thread : c.thread < s.sizes.threads
  pub operation : c.operation ≡ n
  pub idle : n ≤ 6 → is_idle (phase s c) ≡ true

-- what has the handover taken in the next step, and what the thread goes on to when that is dealt with: a drain, or the sweep after a publication
pub data Empties (phase : Phase) (slot : ℕ) (back : Phase) : Type 0 where
  by_drain : phase ≡ Draining slot → back ≡ Idle → Empties phase slot back
  by_sweep : (link : ℕ) → phase ≡ Sweeping slot link → back ≡ Published slot link → Empties phase slot back

-- a thread that is about to take the handover at position p, its own slot's: it carries nothing yet, and is in the middle of what it goes on to
pub record Drains (s : State) (c : Call) (back : Phase) (p : ℕ) : Type 0 where
  pub slot : ℕ
  pub at : own s c slot ≡ p
  pub empties : Empties (phase s c) slot back
  pub carries : carried_by (phase s c) ≡ 0
  pub protects : protecting (phase s c) ≡ protecting back

-- the slot of a swap, where it names one: it has a position and is protected
abbrev pub NamesProtected : State → Call → Type 0
NamesProtected s c = (c.slot ≡ 255 → ⊥) → (named s c < positions s.sizes) × ((slot_at s (named s c)).mark ≡ true)

pub data Way (s : State) (c : Call) : Outcome → Type 0 where
  -- the first line of the table that applies
  refused : {refusal : Refusal} → FirstIs (refusals s c) refusal → Way s c (outcome s (Refused refusal))
  -- take: what is handed out next goes to the hand
  takes : {o : ℕ} → Does s c 1 → hand s c ≡ 0 → next_of s.pool ≡ o → free_at s o ≡ true
      → Way s c
      (outcome
      (with_thread (with_pool s (taken_out s.pool o) o c.tag) c.thread o (phase s c))
      (Taken o))
  -- protect: the link is read
  begins : {o : ℕ} → Does s c 2 → is_idle (phase s c) ≡ true → c.slot < s.sizes.slots → c.link < s.sizes.links
      → link_at s c.link ≡ o
      → Way s c (outcome (become s c.thread (Loaded c.slot c.link o)) (Begun o))
  -- swap: the link holds what is expected, and link and hand change places
  swaps : {o : ℕ} → Does s c 3 → c.link < s.sizes.links → NamesProtected s c → link_at s c.link ≡ o
      → o ≡ expected s c.thread c.slot
      → Way s c
      (outcome
      (with_thread (with_link s c.link (hand s c)) c.thread o (phase s c))
      (Swapped o))
  -- swap: it holds something else
  moves : Does s c 3 → c.link < s.sizes.links → NamesProtected s c
      → (link_at s c.link ≡ expected s c.thread c.slot → ⊥)
      → Way s c (outcome s Moved)
  -- read
  reads : Does s c 4 → named s c < positions s.sizes → (slot_at s (named s c)).mark ≡ true
      → Way s c (outcome s (Tag (tag_of s (slot_at s (named s c)).hazard)))
  -- retire: what was in the hand is carried, from position 0 on
  retires : {o : ℕ} → Does s c 5 → is_idle (phase s c) ≡ true → hand s c ≡ o → 0 < o
      → Way s c (outcome (with_thread s c.thread 0 (Look o 0)) (Begun o))
  -- clear
  clears : Does s c 6 → is_idle (phase s c) ≡ true → c.slot < s.sizes.slots
      → Way s c
      (outcome
      (become (with_slot s (named s c) (with_hazard (slot_at s (named s c)) 0 false)) c.thread (Draining c.slot))
      (Begun 0))
  -- go on from Loaded: the hazard is stored, and the handover is next
  publishes : {slot link o : ℕ} → Does s c 7 → phase s c ≡ Loaded slot link o → slot < s.sizes.slots → link < s.sizes.links
      → o ≤ s.sizes.objects
      → Way s c
      (outcome
      (become (with_slot s (own s c slot) (with_hazard (slot_at s (own s c slot)) o false)) c.thread (Sweeping slot link))
      (Working (Publication (own s c slot))))
  -- go on from Published: the link still holds the hazard, and the mark goes on
  protects : {slot link o : ℕ} → Does s c 7 → phase s c ≡ Published slot link → slot < s.sizes.slots → link < s.sizes.links
      → link_at s link ≡ o → o ≡ (slot_at s (own s c slot)).hazard → 0 < o
      → Way s c
      (outcome
      (become (with_slot s (own s c slot) (with_hazard (slot_at s (own s c slot)) (slot_at s (own s c slot)).hazard true)) c.thread Idle)
      (Protected o (tag_of s o)))
  -- .. both are nothing
  finds_nothing : {slot link : ℕ} → Does s c 7 → phase s c ≡ Published slot link → slot < s.sizes.slots → link < s.sizes.links
      → link_at s link ≡ 0 → (slot_at s (own s c slot)).hazard ≡ 0
      → Way s c (outcome (become s c.thread Idle) Nothing)
  -- .. the link holds something else, which is loaded
  loads_again : {slot link o : ℕ} → Does s c 7 → phase s c ≡ Published slot link → slot < s.sizes.slots → link < s.sizes.links
      → link_at s link ≡ o → (o ≡ (slot_at s (own s c slot)).hazard → ⊥)
      → Way s c (outcome (become s c.thread (Loaded slot link o)) (Working (FailedRead (own s c slot))))
  -- a drain that finds nothing
  finishes : (p : ℕ) → Does s c 7 → Drains s c Idle p → p < positions s.sizes → (slot_at s p).handover ≡ 0
      → Way s c (outcome (become (with_slot s p (with_handover (slot_at s p) 0)) c.thread Idle) Finished)
  -- a sweep that finds nothing: the second read is next
  sweeps : (p : ℕ) {slot link : ℕ} → Does s c 7 → Drains s c (Published slot link) p → p < positions s.sizes
      → (slot_at s p).handover ≡ 0 → slot < s.sizes.slots → link < s.sizes.links
      → Way s c (outcome (become (with_slot s p (with_handover (slot_at s p) 0)) c.thread (Published slot link)) (Working (FoundNothing p)))
  -- a drain or a sweep that finds an object, which is scanned from there on
  drains : (p : ℕ) {back : Phase} {o : ℕ} (next : Phase) → Does s c 7 → Drains s c back p → p < positions s.sizes
      → (slot_at s p).handover ≡ o → AtLook s.sizes next back o p
      → Way s c (outcome (become (with_slot s p (with_handover (slot_at s p) 0)) c.thread next) (Working (Found p)))
  -- a look that meets the object: a swap at that position is next
  meets : {back : Phase} {o q : ℕ} (next : Phase) → Does s c 7 → AtLook s.sizes (phase s c) back o q → q < positions s.sizes
      → (slot_at s q).hazard ≡ o → AtSwap s.sizes next back o q
      → Way s c (outcome (become s c.thread next) (Working (Match q)))
  -- a look that does not: a look one position on is next
  passes : {back : Phase} {o q : ℕ} (next : Phase) → Does s c 7 → AtLook s.sizes (phase s c) back o q → q < positions s.sizes
      → ((slot_at s q).hazard ≡ o → ⊥) → AtLook s.sizes next back o (suc q)
      → Way s c (outcome (become s c.thread next) (Working (NoMatch q)))
  -- a look past the last position: the object is free, and the scan ends
  frees : {o q : ℕ} (next : Phase) → Does s c 7 → AtLook s.sizes (phase s c) next o q → positions s.sizes ≤ q
      → carried_by next ≡ 0 → phase_in_range s.sizes next ≡ true
      → Way s c (outcome (become (with_pool s (put_back s.pool o) o 0) c.thread next) (Freed o))
  -- a swap into an empty handover: the scan ends
  leaves : {o q : ℕ} (next : Phase) → Does s c 7 → AtSwap s.sizes (phase s c) next o q → q < positions s.sizes
      → (slot_at s q).handover ≡ 0 → carried_by next ≡ 0 → phase_in_range s.sizes next ≡ true
      → Way s c (outcome (become (with_slot s q (with_handover (slot_at s q) o)) c.thread next) (Left o q))
  -- a swap that displaces what stood there, which is looked for from the same position on
  displaces : {back : Phase} {o q old : ℕ} (next : Phase) → Does s c 7 → AtSwap s.sizes (phase s c) back o q → q < positions s.sizes
      → (slot_at s q).handover ≡ old → AtLook s.sizes next back old q
      → Way s c (outcome (become (with_slot s q (with_handover (slot_at s q) o)) c.thread next) (Working (Displacement q)))
