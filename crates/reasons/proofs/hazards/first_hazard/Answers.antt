-- `first_hazard` meets its contract: no position before the loops' one holds the object as its hazard.
use Prim.Native.Nat.{◌*◌}
use native.Mathlib.Omega.{arith}
use lib.ListN.{get_or}
use lib.Dec.{eqb}
use borrow.Author.Tests.{eq-eqb}
use Rattle.entries.specs.Entries.{empty_slot}
use Rattle.entries.specs.Facts.{position_less}
use Rattle.reasons.proofs.Found.{at_end_lem, found_at, found_nowhere}
use Rattle.reasons.proofs.hazards.first_hazard.Goals as goal

pub returns-then-slots-at : goal.returns-then-slots-at
returns-then-slots-at c =
    let a = c.args in
    let t = c.loop-thread.thread in
    let l = c.loop-slot in
    let p = c.position-at in
    let e = p.ensures in
    let less = position_less a.sizes.threads a.sizes.slots t l.slot c.loop-thread-test.true c.loop-slot-test.true in
    found_at (a.sizes.threads * a.sizes.slots) (λ j. eqb (get_or a.slots j empty_slot).hazard a.object) p.result
    (omega arith)
    (eq-eqb _ _ (c.if-slots-at.true))
    (λ j before. l.invariant j (omega arith))

pub returns-after-loop-thread : goal.returns-after-loop-thread
returns-after-loop-thread c =
    let a = c.args in
    let l = c.loop-thread in
    found_nowhere (a.sizes.threads * a.sizes.slots) (λ j. eqb (get_or a.slots j empty_slot).hazard a.object)
    (λ j less. l.invariant j (at_end_lem a.sizes.threads a.sizes.slots l.thread j c.loop-thread-test.false less))
