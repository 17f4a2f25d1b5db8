-- "A line ending 3 0 0 tells our technicians nothing." What each of the seven numbers says of the step that was answered so.
use Rattle.std.specs.Prelude.{ℕ, suc, ◌<◌, ◌≡◌, false}
use Rattle.machine.specs.declared.State.{State}
use Rattle.entries.specs.declared.Phase.{Phase}
use Rattle.entries.specs.declared.Phase.TheVariants.{Loaded, Sweeping, Published}
use Rattle.entries.specs.Entries.{with_hazard, with_handover}
use Rattle.entries.specs.PhaseFacts.{AtLook, AtSwap}
use Rattle.machine.specs.Parts.{link_at, slot_at, phase_of, position_of, with_slot, become}
use Rattle.laws.specs.Ways.{Empties}

-- b is the position of a slot of thread t's own
pub record Own (s : State) (t slot b : ℕ) : Type 0 where
  pub inside : slot < s.sizes.slots
  pub at : position_of s t slot ≡ b

-- A step of thread t, from the state s to s', that was answered 3 with these two numbers. Each case says what the thread was in the middle of and
-- what it met at the position b. And it says what the step changed: s' is s with the entries named here, and every other is as it was.
pub data Did (s : State) (t : ℕ) (s' : State) : (a b : ℕ) → Type 0 where
  -- "1 after publishing": what the thread had read is the hazard of its slot, with the mark off
  publication : {b slot link o : ℕ} → Own s t slot b → phase_of s t ≡ Loaded slot link o
      → s' ≡ become (with_slot s b (with_hazard (slot_at s b) o false)) t (Sweeping slot link) → Did s t s' 1 b
  -- "2 after a failed second read": the link no longer holds the slot's hazard. What it holds is to be published.
  failed_read : {b slot link : ℕ} → Own s t slot b → phase_of s t ≡ Published slot link → (link_at s link ≡ (slot_at s b).hazard → ⊥)
      → s' ≡ become s t (Loaded slot link (link_at s link)) → Did s t s' 2 b
  -- "3 after a look with no match": the hazard there is not the object that the thread carries. It looks one position on.
  no_match : {b o : ℕ} {back : Phase} (next : Phase) → AtLook s.sizes (phase_of s t) back o b → ((slot_at s b).hazard ≡ o → ⊥)
      → AtLook s.sizes next back o (suc b) → s' ≡ become s t next → Did s t s' 3 b
  -- "4 after a look with a match": the hazard there is the object. It is to be put into the handover there.
  match : {b o : ℕ} {back : Phase} (next : Phase) → AtLook s.sizes (phase_of s t) back o b → (slot_at s b).hazard ≡ o
      → AtSwap s.sizes next back o b → s' ≡ become s t next → Did s t s' 4 b
  -- "5 after a swap that displaced": the object is in the handover there. The one that was is carried, and the same position is looked at again.
  displacement : {b o old : ℕ} {back : Phase} (next : Phase) → AtSwap s.sizes (phase_of s t) back o b → (slot_at s b).handover ≡ old
      → AtLook s.sizes next back old b → s' ≡ become (with_slot s b (with_handover (slot_at s b) o)) t next → Did s t s' 5 b
  -- "6 after a drain that found something", after a clear and after a publication alike: the handover is empty. What was in it is carried, and
  -- looked for from there on.
  found : {b slot o : ℕ} {back : Phase} (next : Phase) → Own s t slot b → Empties (phase_of s t) slot back → (slot_at s b).handover ≡ o
      → AtLook s.sizes next back o b → s' ≡ become (with_slot s b (with_handover (slot_at s b) 0)) t next → Did s t s' 6 b
  -- "7 after request 2's drain that found nothing": the second read is next
  found_nothing : {b slot link : ℕ} → Own s t slot b → phase_of s t ≡ Sweeping slot link → (slot_at s b).handover ≡ 0
      → s' ≡ become s t (Published slot link) → Did s t s' 7 b
