-- `parts_sound` meets its contract: any test that fails decides, and where none does, what is left is whether each object is in one place.
use Prim.Native.Nat.{ℕ, suc, ◌+◌}
use native.Mathlib.Omega.{arith}
use mathlib.Core.Path.{◌≡◌, sym, ap, ◌∙◌}
use mathlib.Core.Bool.{Bool, true, false, not, ◌&&◌, ◌||◌, and-false}
use mathlib.Core.List.{List}
use lib.ListN.{length, get_or}
use lib.Dec.{ltb, eqb}
use borrow.Author.Tests.{eq-eqb, le-leb}
use borrow.Author.Rules.{rules}
use Rattle.std.proofs.lemmas.Bool.{false≢true}
use Rattle.basics.specs.Tests.{passed, and_then}
use Rattle.basics.specs.Under.{all_under, under_same, under_at}
use Rattle.basics.specs.Counts.{bit, count_under}
use Rattle.entries.specs.Entries.{sizes_good, link_good, thread_good, slot_good, tag_good}
use Rattle.entries.specs.Facts.{bounds}
use Rattle.places.specs.Row.{row_of}
use Rattle.places.specs.Promise.{row_holds}
use Rattle.pool.specs.Pool.{pool_good, each_once}
use Rattle.machine.specs.declared.State.{State}
use Rattle.machine.specs.Parts.{of_parts, link_at, thread_at, slot_at, free_at}
use Rattle.machine.specs.Soundness.{places_holding, sound}
use Rattle.machine.specs.Sound.{Shape, from_shape}
use Rattle.machine.proofs.soundness.parts_sound.Goals as goal
use Rattle.machine.proofs.soundness.parts_sound.Goals.{then-are_good, else-are_good, then-links_good, else-links_good, then-threads_good, else-threads_good, then-slots_good, else-slots_good}

-- the numbers of all places but the free ones, within the sizes
abbrev row : State → List ℕ
row s = row_of s.sizes s.links s.threads s.slots

-- the tests that were passed before the walk
record Passed (s : State) : Type 0 where
  shape : Shape s
  sizes : sizes_good s.sizes ≡ true
  links : all_under 16 (λ i. link_good s.sizes i (link_at s i)) ≡ true
  threads : all_under 8 (λ t. thread_good s.sizes t (thread_at s t)) ≡ true
  slots : all_under 32 (λ p. slot_good s.sizes p (slot_at s p)) ≡ true

counted : (s : State) → Passed s → (k : ℕ)
    → bit (free_at s (suc k)) + count_under 64 (λ i. eqb (get_or (row s) i 0) (suc k)) ≡ places_holding s (suc k)
unfolding places_holding
counted s passed k =
    let long = passed.shape in
    omega (
      arith,
      row_holds s.sizes s.links s.threads s.slots long.links long.threads long.slots
          (under_at 16 (λ i. link_good s.sizes i (link_at s i)) passed.links)
          (under_at 8 (λ t. thread_good s.sizes t (thread_at s t)) passed.threads)
          (under_at 32 (λ p. slot_good s.sizes p (slot_at s p)) passed.slots)
          k,
    )

once-each : (s : State) → Passed s
    → each_once s.sizes.objects s.pool (row s) ≡ all_under s.sizes.objects (λ k. eqb (places_holding s (suc k)) 1)
unfolding each_once
once-each s passed =
    and_then (le-leb _ _ (bounds _ passed.sizes).objects)
    (under_same _ _ _ (λ k h. ap (λ (m : ℕ). eqb m 1) (counted s passed k)))

-- what the walk finds decides
decides : (s : State) → Passed s → all_under 240 (λ k. tag_good s.sizes k (get_or s.tags k 0)) ≡ true → length s.pool.marks ≡ 240
    → (all_under 240 (λ k. ltb k s.sizes.objects || not (get_or s.pool.marks k false)) && each_once s.sizes.objects s.pool (row s)) ≡ sound s
unfolding sound pool_good
decides s passed tags long =
    rw (from_shape s passed.shape, passed.sizes, passed.links, passed.threads, passed.slots, tags, eq-eqb _ _ long, once-each s passed)

-- a test that failed where it is said to hold
none : {A : Type 0} {b : Bool} → b ≡ false → b ≡ true → A
none lost held = absurd (false≢true (sym lost ∙ held))

pub returns-then-tags_good : goal.returns-then-tags_good
returns-then-tags_good c =
    let a = c.args in
    let s = of_parts a.z a.links.now a.threads a.slots a.marks.now a.tags.now in
    let all = c.if-tags_good.true in
    c.are_placed.ensures ∙
    rw c.row_of.ensures
    (elim c.if-slots_good.branch [
      | then-slots_good w ↦ elim c.if-threads_good.branch [
        | then-threads_good v ↦ elim c.if-links_good.branch [
          | then-links_good u ↦ elim c.if-are_good.branch [
            | then-are_good t ↦
                decides s
                (record {
                  shape = record { links = search rules; threads = search rules; slots = search rules; tags = search rules };
                  sizes = sym c.are_good.ensures ∙ t.if-are_good.true;
                  links = sym t.links_good.ensures ∙ sym t.value-is ∙ u.if-links_good.true;
                  threads = sym u.threads_good.ensures ∙ sym u.value-is ∙ v.if-threads_good.true;
                  slots = sym v.slots_good.ensures ∙ sym v.value-is ∙ w.if-slots_good.true;
                })
                (sym w.tags_good.ensures ∙ sym w.value-is ∙ all)
                (search rules)
            | else-are_good t ↦ none t.if-are_good.false (sym t.value-is ∙ u.if-links_good.true)
          ]
          | else-links_good u ↦ none u.if-links_good.false (sym u.value-is ∙ v.if-threads_good.true)
        ]
        | else-threads_good v ↦ none v.if-threads_good.false (sym v.value-is ∙ w.if-slots_good.true)
      ]
      | else-slots_good w ↦ none w.if-slots_good.false (sym w.value-is ∙ all)
    ])

pub returns-else-tags_good : goal.returns-else-tags_good
unfolding sound
returns-else-tags_good c =
    let lost : c.if-slots_good.value ≡ false = c.if-tags_good.false in
    elim c.if-slots_good.branch [
      | then-slots_good w ↦ rw (lost, sym w.tags_good.ensures ∙ sym w.value-is ∙ lost, and-false)
      | else-slots_good w ↦ elim c.if-threads_good.branch [
        | then-threads_good v ↦ rw (lost, sym v.slots_good.ensures ∙ sym v.value-is ∙ w.if-slots_good.false, and-false)
        | else-threads_good v ↦ elim c.if-links_good.branch [
          | then-links_good u ↦ rw (lost, sym u.threads_good.ensures ∙ sym u.value-is ∙ v.if-threads_good.false, and-false)
          | else-links_good u ↦ elim c.if-are_good.branch [
            | then-are_good t ↦ rw (lost, sym t.links_good.ensures ∙ sym t.value-is ∙ u.if-links_good.false, and-false)
            | else-are_good t ↦ rw (lost, sym c.are_good.ensures ∙ t.if-are_good.false, and-false)
          ]
        ]
      ]
    ]
