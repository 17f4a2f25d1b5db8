-- What the readings of a phase say of each other, and a phase in range by its case. Whoever needs a fact of every phase finds it here.
use Rattle.std.specs.Prelude.{ℕ, ◌<◌, ◌≤◌, ◌≡◌, Bool, false}
use native.Mathlib.Omega.{arith}
use Rattle.std.proofs.Math.Path.{refl}
use Rattle.std.proofs.Math.Bool.{true}
use Rattle.std.proofs.lemmas.Bool.{false≢true}
use borrow.Author.Tests.{lt-ltb, le-leb, ltb-true, leb-true}
use Rattle.entries.specs.declared.Sizes.{Sizes}
use Rattle.entries.specs.declared.Phase.{Phase}
use Rattle.entries.specs.declared.Phase.TheVariants.{Idle, Loaded, Sweeping, Published, Draining, Look, Swap, SweepLook, SweepSwap}
use Rattle.basics.specs.Tests.{and_i, ands}
use Rattle.entries.specs.Sizes.{positions}
use Rattle.entries.specs.Phases.{is_idle, carried_by, scans_at, at_look, returns_to, looking, swapping, protecting, phase_in_range}

pub idle_is : (phase : Phase) → is_idle phase ≡ true → phase ≡ Idle
unfolding is_idle
idle_is Idle h = refl
idle_is (Loaded slot link object) h = absurd (false≢true h)
idle_is (Sweeping slot link) h = absurd (false≢true h)
idle_is (Published slot link) h = absurd (false≢true h)
idle_is (Draining slot) h = absurd (false≢true h)
idle_is (Look object position) h = absurd (false≢true h)
idle_is (Swap object position) h = absurd (false≢true h)
idle_is (SweepLook object position slot link) h = absurd (false≢true h)
idle_is (SweepSwap object position slot link) h = absurd (false≢true h)

pub idle_carries : (phase : Phase) → is_idle phase ≡ true → carried_by phase ≡ 0
unfolding carried_by
idle_carries phase h = rw (idle_is phase h)

-- what a scan can return to: idle, or the protect in whose sweep it began
pub data Back : Phase → Type 0 where
  to_idle : Back Idle
  to_published : (slot link : ℕ) → Back (Published slot link)

pub returns_back : (phase : Phase) → Back (returns_to phase)
unfolding returns_to
returns_back Idle = to_idle
returns_back (Loaded slot link object) = to_idle
returns_back (Sweeping slot link) = to_idle
returns_back (Published slot link) = to_idle
returns_back (Draining slot) = to_idle
returns_back (Look object position) = to_idle
returns_back (Swap object position) = to_idle
returns_back (SweepLook object position slot link) = to_published slot link
returns_back (SweepSwap object position slot link) = to_published slot link

-- a scan that has ended carries nothing
pub back_carries : {back : Phase} → Back back → carried_by back ≡ 0
unfolding carried_by
back_carries to_idle = refl
back_carries (to_published slot link) = refl

-- a scan is in the middle of the protect that it returns to, or of none
pub scan_protects : (phase : Phase) → 0 < carried_by phase → protecting phase ≡ protecting (returns_to phase)
unfolding carried_by returns_to protecting
scan_protects Idle some = refl
scan_protects (Loaded slot link object) some = absurd (omega arith)
scan_protects (Sweeping slot link) some = absurd (omega arith)
scan_protects (Published slot link) some = absurd (omega arith)
scan_protects (Draining slot) some = refl
scan_protects (Look object position) some = refl
scan_protects (Swap object position) some = refl
scan_protects (SweepLook object position slot link) some = refl
scan_protects (SweepSwap object position slot link) some = refl

module _ (z : Sizes) where
  pub idle_good : phase_in_range z Idle ≡ true
  unfolding phase_in_range
  idle_good = refl

  pub loaded_good : (slot link object : ℕ) → slot < z.slots → link < z.links → object ≤ z.objects
      → phase_in_range z (Loaded slot link object) ≡ true
  unfolding phase_in_range
  loaded_good slot link object a b c = and_i (and_i (lt-ltb _ _ a) (lt-ltb _ _ b)) (le-leb _ _ c)

  pub sweeping_good : (slot link : ℕ) → slot < z.slots → link < z.links → phase_in_range z (Sweeping slot link) ≡ true
  unfolding phase_in_range
  sweeping_good slot link a b = and_i (lt-ltb _ _ a) (lt-ltb _ _ b)

  pub published_good : (slot link : ℕ) → slot < z.slots → link < z.links → phase_in_range z (Published slot link) ≡ true
  unfolding phase_in_range
  published_good slot link a b = and_i (lt-ltb _ _ a) (lt-ltb _ _ b)

  pub draining_good : (slot : ℕ) → slot < z.slots → phase_in_range z (Draining slot) ≡ true
  unfolding phase_in_range
  draining_good slot a = lt-ltb _ _ a

  -- what a phase in range says of its numbers

  pub loaded_facts : (slot link object : ℕ) → phase_in_range z (Loaded slot link object) ≡ true
      → (slot < z.slots) × (link < z.links) × (object ≤ z.objects)
  unfolding phase_in_range
  loaded_facts slot link object h = (ltb-true _ _ (search ands), ltb-true _ _ (search ands), leb-true _ _ (search ands))

  pub sweeping_facts : (slot link : ℕ) → phase_in_range z (Sweeping slot link) ≡ true → (slot < z.slots) × (link < z.links)
  unfolding phase_in_range
  sweeping_facts slot link h = (ltb-true _ _ (search ands), ltb-true _ _ (search ands))

  pub published_facts : (slot link : ℕ) → phase_in_range z (Published slot link) ≡ true → (slot < z.slots) × (link < z.links)
  unfolding phase_in_range
  published_facts slot link h = (ltb-true _ _ (search ands), ltb-true _ _ (search ands))

  pub draining_facts : (slot : ℕ) → phase_in_range z (Draining slot) ≡ true → slot < z.slots
  unfolding phase_in_range
  draining_facts slot h = ltb-true _ _ h

  -- A thread in this phase carries object o, is at position q of its scan, and returns to `back` when that ends. Its next step is a look, or
  -- a swap.
  pub record Scans (look : Bool) (phase back : Phase) (o q : ℕ) : Type 0 where
    pub carries : carried_by phase ≡ o
    pub at : scans_at phase ≡ q
    pub step : at_look phase ≡ look
    pub returns : returns_to phase ≡ back
    pub some : 0 < o
    pub most : o ≤ z.objects
    pub good : phase_in_range z phase ≡ true
    pub good_back : phase_in_range z back ≡ true

  abbrev pub AtLook : Phase → Phase → ℕ → ℕ → Type 0
  AtLook phase back o q = Scans true phase back o q

  abbrev pub AtSwap : Phase → Phase → ℕ → ℕ → Type 0
  AtSwap phase back o q = Scans false phase back o q

  pub look_scans : {back : Phase} → Back back → (o q : ℕ) → phase_in_range z back ≡ true → 0 < o → o ≤ z.objects → q ≤ positions z
      → AtLook (looking back o q) back o q
  unfolding carried_by scans_at at_look returns_to looking phase_in_range
  look_scans to_idle o q fine some most end =
      record {
        carries = refl;
        at = refl;
        step = refl;
        returns = refl;
        some = some;
        most = most;
        good = and_i (and_i (le-leb _ _ some) (le-leb _ _ most)) (le-leb _ _ end);
        good_back = fine;
      }
  look_scans (to_published slot link) o q fine some most end =
      record {
        carries = refl;
        at = refl;
        step = refl;
        returns = refl;
        some = some;
        most = most;
        good = and_i (and_i (and_i (le-leb _ _ some) (le-leb _ _ most)) (le-leb _ _ end)) fine;
        good_back = fine;
      }

  pub swap_scans : {back : Phase} → Back back → (o q : ℕ) → phase_in_range z back ≡ true → 0 < o → o ≤ z.objects → q < positions z
      → AtSwap (swapping back o q) back o q
  unfolding carried_by scans_at at_look returns_to swapping phase_in_range
  swap_scans to_idle o q fine some most end =
      record {
        carries = refl;
        at = refl;
        step = refl;
        returns = refl;
        some = some;
        most = most;
        good = and_i (and_i (le-leb _ _ some) (le-leb _ _ most)) (lt-ltb _ _ end);
        good_back = fine;
      }
  swap_scans (to_published slot link) o q fine some most end =
      record {
        carries = refl;
        at = refl;
        step = refl;
        returns = refl;
        some = some;
        most = most;
        good = and_i (and_i (and_i (le-leb _ _ some) (le-leb _ _ most)) (lt-ltb _ _ end)) fine;
        good_back = fine;
      }

  -- The other way: what a scan in range says. Each is one of the scans above.

  pub look_facts : (o q : ℕ) → phase_in_range z (Look o q) ≡ true → AtLook (Look o q) Idle o q × (q ≤ positions z)
  unfolding looking phase_in_range
  look_facts o q h =
      let end = leb-true q (positions z) (search ands) in
      (look_scans to_idle o q refl (leb-true _ _ (search ands)) (leb-true _ _ (search ands)) end, end)

  pub swap_facts : (o q : ℕ) → phase_in_range z (Swap o q) ≡ true → AtSwap (Swap o q) Idle o q × (q < positions z)
  unfolding swapping phase_in_range
  swap_facts o q h =
      let end = ltb-true q (positions z) (search ands) in
      (swap_scans to_idle o q refl (leb-true _ _ (search ands)) (leb-true _ _ (search ands)) end, end)

  pub sweep_look_facts : (o q slot link : ℕ) → phase_in_range z (SweepLook o q slot link) ≡ true
      → AtLook (SweepLook o q slot link) (Published slot link) o q × (q ≤ positions z)
  unfolding looking phase_in_range
  sweep_look_facts o q slot link h =
      let end = leb-true q (positions z) (search ands) in
      let back : phase_in_range z (Published slot link) ≡ true = search ands in
      (look_scans (to_published slot link) o q back (leb-true _ _ (search ands)) (leb-true _ _ (search ands)) end, end)

  pub sweep_swap_facts : (o q slot link : ℕ) → phase_in_range z (SweepSwap o q slot link) ≡ true
      → AtSwap (SweepSwap o q slot link) (Published slot link) o q × (q < positions z)
  unfolding swapping phase_in_range
  sweep_swap_facts o q slot link h =
      let end = ltb-true q (positions z) (search ands) in
      let back : phase_in_range z (Published slot link) ≡ true = search ands in
      (swap_scans (to_published slot link) o q back (leb-true _ _ (search ands)) (leb-true _ _ (search ands)) end, end)

  -- no phase in range carries more than an object
  pub carried_most : (phase : Phase) → phase_in_range z phase ≡ true → carried_by phase ≤ z.objects
  unfolding carried_by
  carried_most Idle h = omega arith
  carried_most (Loaded slot link object) h = omega arith
  carried_most (Sweeping slot link) h = omega arith
  carried_most (Published slot link) h = omega arith
  carried_most (Draining slot) h = omega arith
  carried_most (Look o q) h = (look_facts o q h).0.most
  carried_most (Swap o q) h = (swap_facts o q h).0.most
  carried_most (SweepLook o q slot link) h = (sweep_look_facts o q slot link h).0.most
  carried_most (SweepSwap o q slot link) h = (sweep_swap_facts o q slot link h).0.most
