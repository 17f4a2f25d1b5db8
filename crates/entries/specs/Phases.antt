-- "A thread is idle, or in one of: Loaded(slot, link, object or 0), Published(slot, link), Draining(slot), Look(object, position 0 to
-- T × H), Swap(object, position below T × H). The last two carry their object." Request 2: "After each publication the thread now takes one
-- further step on that slot's handover", Sweeping(slot, link). The scan of what it finds is SweepLook or SweepSwap, which are as Look and
-- Swap: "Such a thread remembers its slot and link through the scan".
-- Every reading of a phase stands here: what it carries, where it scans, where it returns to.
use Rattle.std.specs.Prelude.{ℕ, Bool, true, false, ◌&&◌, leb, ltb}
use Rattle.entries.specs.declared.Sizes.{Sizes}
use Rattle.entries.specs.declared.Phase.{Phase}
use Rattle.entries.specs.declared.Phase.TheVariants.{Idle, Loaded, Sweeping, Published, Draining, Look, Swap, SweepLook, SweepSwap}
use Rattle.entries.specs.Sizes.{within, positions}

unfoldable pub is_idle : Phase → Bool
is_idle Idle = true
is_idle (Loaded slot link object) = false
is_idle (Sweeping slot link) = false
is_idle (Published slot link) = false
is_idle (Draining slot) = false
is_idle (Look object position) = false
is_idle (Swap object position) = false
is_idle (SweepLook object position slot link) = false
is_idle (SweepSwap object position slot link) = false

-- "The last two carry their object", and so do those of a sweep.
unfoldable pub carried_by : Phase → ℕ
carried_by Idle = 0
carried_by (Loaded slot link object) = 0
carried_by (Sweeping slot link) = 0
carried_by (Published slot link) = 0
carried_by (Draining slot) = 0
carried_by (Look object position) = object
carried_by (Swap object position) = object
carried_by (SweepLook object position slot link) = object
carried_by (SweepSwap object position slot link) = object

-- at which position a thread that carries an object is in its scan
unfoldable pub scans_at : Phase → ℕ
scans_at Idle = 0
scans_at (Loaded slot link object) = 0
scans_at (Sweeping slot link) = 0
scans_at (Published slot link) = 0
scans_at (Draining slot) = 0
scans_at (Look object position) = position
scans_at (Swap object position) = position
scans_at (SweepLook object position slot link) = position
scans_at (SweepSwap object position slot link) = position

-- whether a scan's next step is a look; otherwise it is a swap
unfoldable pub at_look : Phase → Bool
at_look Idle = false
at_look (Loaded slot link object) = false
at_look (Sweeping slot link) = false
at_look (Published slot link) = false
at_look (Draining slot) = false
at_look (Look object position) = true
at_look (Swap object position) = false
at_look (SweepLook object position slot link) = true
at_look (SweepSwap object position slot link) = false

-- What a thread becomes when its scan ends. "the answer 10 or 11 returns the thread to Published and not to idle"; a scan begun by retire or
-- clear returns to idle.
unfoldable pub returns_to : Phase → Phase
returns_to Idle = Idle
returns_to (Loaded slot link object) = Idle
returns_to (Sweeping slot link) = Idle
returns_to (Published slot link) = Idle
returns_to (Draining slot) = Idle
returns_to (Look object position) = Idle
returns_to (Swap object position) = Idle
returns_to (SweepLook object position slot link) = Published slot link
returns_to (SweepSwap object position slot link) = Published slot link

-- a scan of an object that looks next at this position, and returns to that phase when it ends
unfoldable pub looking : Phase → ℕ → ℕ → Phase
looking Idle object position = Look object position
looking (Loaded slot link _) object position = Look object position
looking (Sweeping slot link) object position = Look object position
looking (Published slot link) object position = SweepLook object position slot link
looking (Draining slot) object position = Look object position
looking (Look _ _) object position = Look object position
looking (Swap _ _) object position = Look object position
looking (SweepLook _ _ slot link) object position = Look object position
looking (SweepSwap _ _ slot link) object position = Look object position

-- the same where the hazard there is the object, so that a swap is next
unfoldable pub swapping : Phase → ℕ → ℕ → Phase
swapping Idle object position = Swap object position
swapping (Loaded slot link _) object position = Swap object position
swapping (Sweeping slot link) object position = Swap object position
swapping (Published slot link) object position = SweepSwap object position slot link
swapping (Draining slot) object position = Swap object position
swapping (Look _ _) object position = Swap object position
swapping (Swap _ _) object position = Swap object position
swapping (SweepLook _ _ slot link) object position = Swap object position
swapping (SweepSwap _ _ slot link) object position = Swap object position

-- the protect that a thread is in the middle of: the slot it is for, and the link that is read; or none
pub data Protect : Type 0 where
  none : Protect
  into : ℕ → ℕ → Protect

unfoldable pub protecting : Phase → Protect
protecting Idle = none
protecting (Loaded slot link object) = into slot link
protecting (Sweeping slot link) = into slot link
protecting (Published slot link) = into slot link
protecting (Draining slot) = none
protecting (Look object position) = none
protecting (Swap object position) = none
protecting (SweepLook object position slot link) = into slot link
protecting (SweepSwap object position slot link) = into slot link

-- "all numbers above are in range": a carried object is never 0, a Loaded one may be. Of the slot and link that are remembered, "soundness
-- asks that both are in range".
unfoldable pub phase_in_range : Sizes → Phase → Bool
phase_in_range z Idle = true
phase_in_range z (Loaded slot link object) =
    ltb slot z.slots && ltb link z.links && leb object z.objects
phase_in_range z (Sweeping slot link) = ltb slot z.slots && ltb link z.links
phase_in_range z (Published slot link) = ltb slot z.slots && ltb link z.links
phase_in_range z (Draining slot) = ltb slot z.slots
phase_in_range z (Look object position) = within 1 z.objects object && leb position (positions z)
phase_in_range z (Swap object position) = within 1 z.objects object && ltb position (positions z)
phase_in_range z (SweepLook object position slot link) =
    within 1 z.objects object && leb position (positions z) && (ltb slot z.slots && ltb link z.links)
phase_in_range z (SweepSwap object position slot link) =
    within 1 z.objects object && ltb position (positions z) && (ltb slot z.slots && ltb link z.links)
