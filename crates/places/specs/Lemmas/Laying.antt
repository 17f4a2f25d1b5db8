-- Numbers laid into a row from a place on, one after the other, and the four kinds of places one after the other.
use Prim.Native.Nat.{ℕ, zero, suc, ◌+◌, ◌-◌, ◌<◌, ◌≤◌, min}
use native.Mathlib.Omega.{arith}
use Rattle.std.proofs.Common.{add-one, sym, ap₂, ◌∙◌, length-take, take_at}
use Rattle.std.specs.Prelude.{◌≡◌, set, take, drop, eqb}
use Rattle.std.proofs.Math.Path.{refl, ap}
use mathlib.Core.List.{List, [], map, ◌++◌, append-nil, append_assoc}
use Rattle.std.proofs.Math.ListN.{length, get_or, replicate, length-append, get_or-map}
use Rattle.std.proofs.lemmas.List.{length-map, length-replicate}
use Rattle.std.proofs.Math.Seq.{paste, paste-suc, drop-append-add}
use Rattle.std.proofs.lemmas.List.Edits.{length-paste}
use Rattle.basics.specs.Counts.{count_under, occurrences, occurrences_append, occurrences_within, occurrences_map, none_in_zeros, count_under_list}
use Rattle.basics.specs.Lists.{Each}
use Rattle.entries.specs.declared.Sizes.{Sizes}
use Rattle.entries.specs.declared.Thread.{Thread}
use Rattle.entries.specs.declared.Slot.{Slot}
use Rattle.entries.specs.Sizes.{positions}
use Rattle.entries.specs.Phases.{carried_by}
use Rattle.entries.specs.Entries.{idle_thread, empty_slot, link_good, thread_good, slot_good}
use Rattle.entries.specs.Facts.{link_empty, thread_empty_lem, slot_empty_lem}
use Rattle.places.specs.Row.{padded, row_of}

-- a turn of the loop lays one more number
pub laid_more : (before : List ℕ) (at : ℕ) (s : List ℕ) (i : ℕ) {now : List ℕ} {v : ℕ} → now ≡ paste before at s i → v ≡ get_or s i 0
    → at + i < length before → i < length s → set now (at + i) v ≡ paste before at s (i + 1)
laid_more before at s i so_far is room inside =
    ap₂ (λ (row : List ℕ) (number : ℕ). set row (at + i) number) so_far is ∙
    paste-suc before at s i 0 room inside ∙
    ap (paste before at s) (sym (add-one i))

-- and the row keeps its length
pub still_long : (before : List ℕ) (at : ℕ) (s : List ℕ) (n : ℕ) {now : List ℕ} → now ≡ paste before at s n → length before ≡ 64 → at + n ≤ 64 → n ≤ length s
    → length now ≡ 64
still_long before at s n is long room there = ap length is ∙ length-paste before at s n (omega arith) there ∙ long

length_padded : (n room : ℕ) (s : List ℕ) → n ≤ room → n ≤ length s → length (padded n room s) ≡ room
unfolding padded
length_padded n room s few there =
    simp (length-append, length-take, length-replicate) (omega arith)

drop_zeros : (n room : ℕ) (rest : List ℕ) → n ≤ room → drop n (replicate room 0 ++ rest) ≡ replicate (room - n) 0 ++ rest
drop_zeros zero room rest few = let same : room ≡ room - 0 = omega arith in ap (λ (k : ℕ). replicate k 0 ++ rest) same
drop_zeros (suc n) zero rest few = absurd (omega arith)
drop_zeros (suc n) (suc room) rest few =
    let same : room - n ≡ suc room - suc n = omega arith in
    drop_zeros n room rest (omega arith) ∙ ap (λ (k : ℕ). replicate k 0 ++ rest) same

-- numbers laid into the room that stands where others end
then_laid : (p s rest : List ℕ) (at n room : ℕ) → length p ≡ at → n ≤ room
    → paste (p ++ (replicate room 0 ++ rest)) at s n ≡ p ++ padded n room s ++ rest
unfolding padded
then_laid p s rest at n room e few =
    let zeros = replicate room 0 ++ rest in
    let seam : drop (at + n) (p ++ zeros) ≡ replicate (room - n) 0 ++ rest =
    rw (← e) (drop-append-add p zeros n) ∙ drop_zeros n room rest few
    in
    rw (take_at p zeros at e, seam)
    (sym (append_assoc (p ++ take n s) (replicate (room - n) 0) rest) ∙
    ap (λ (l : List ℕ). l ++ rest) (append_assoc p (take n s) (replicate (room - n) 0)))

module _ (z : Sizes) (links : List ℕ) (threads : List Thread) (slots : List Slot) where
  abbrev hands : List ℕ
  hands = map (λ (thread : Thread). thread.hand) threads

  abbrev handovers : List ℕ
  handovers = map (λ (slot : Slot). slot.handover) slots

  abbrev carried : List ℕ
  carried = map (λ (thread : Thread). carried_by thread.phase) threads

  module _ (l : length links ≡ 16) (t : length threads ≡ 8) (s : length slots ≡ 32) where
    long_links : length (padded (min z.links 16) 16 links) ≡ 16
    long_links = length_padded (min z.links 16) 16 links (omega arith) (omega arith)

    long_hands : length (padded (min z.threads 8) 8 hands) ≡ 8
    long_hands =
        length_padded (min z.threads 8) 8 hands (omega arith) (omega (arith, length-map threads (λ (thread : Thread). thread.hand)))

    long_handovers : length (padded (min (positions z) 32) 32 handovers) ≡ 32
    long_handovers =
        length_padded (min (positions z) 32) 32 handovers (omega arith) (omega (arith, length-map slots (λ (slot : Slot). slot.handover)))

    long_carried : length (padded (min z.threads 8) 8 carried) ≡ 8
    long_carried =
        length_padded (min z.threads 8) 8 carried (omega arith)
        (omega (arith, length-map threads (λ (thread : Thread). carried_by thread.phase)))

    -- the row after each kind of place
    all_laid : {one two three four : List ℕ}
        → one ≡ paste (replicate 64 0) 0 links (min z.links 16) → two ≡ paste one 16 hands (min z.threads 8)
        → three ≡ paste two 24 handovers (min (positions z) 32) → four ≡ paste three 56 carried (min z.threads 8)
        → four ≡ row_of z links threads slots
    unfolding row_of
    all_laid {one} {two} {three} {four} a b c d =
        let A = padded (min z.links 16) 16 links in
        let B = padded (min z.threads 8) 8 hands in
        let C = padded (min (positions z) 32) 32 handovers in
        let D = padded (min z.threads 8) 8 carried in
        let two_long : length (A ++ B) ≡ 24 = length-append A B ∙ omega (arith, long_links, long_hands) in
        let three_long : length (A ++ B ++ C) ≡ 56 = length-append (A ++ B) C ∙ omega (arith, two_long, long_handovers) in
        let first : one ≡ A ++ (replicate 8 0 ++ replicate 40 0) =
        a ∙ then_laid [] links (replicate 48 0) 0 (min z.links 16) 16 refl (omega arith)
        in
        let second : two ≡ A ++ B ++ (replicate 32 0 ++ replicate 8 0) =
        b ∙ ap (λ (row : List ℕ). paste row 16 hands (min z.threads 8)) first ∙
        then_laid A hands (replicate 40 0) 16 (min z.threads 8) 8 long_links (omega arith)
        in
        let third : three ≡ A ++ B ++ C ++ (replicate 8 0 ++ []) =
        c ∙ ap (λ (row : List ℕ). paste row 24 handovers (min (positions z) 32)) second ∙
        then_laid (A ++ B) handovers (replicate 8 0) 24 (min (positions z) 32) 32 two_long (omega arith)
        in
        d ∙ ap (λ (row : List ℕ). paste row 56 carried (min z.threads 8)) third ∙
        then_laid (A ++ B ++ C) carried [] 56 (min z.threads 8) 8 three_long (omega arith) ∙
        append-nil (A ++ B ++ C ++ D)

    -- the same where each end is worked out before
    pub laid_up_to : (L T P : ℕ) → L ≡ min z.links 16 → T ≡ min z.threads 8 → P ≡ min (positions z) 32 → {one two three four : List ℕ}
        → one ≡ paste (replicate 64 0) 0 links L → two ≡ paste one 16 hands T → three ≡ paste two 24 handovers P → four ≡ paste three 56 carried T
        → four ≡ row_of z links threads slots
    laid_up_to L T P el et ep {one} {two} {three} {four} a b c d =
        all_laid
        (a ∙ ap (paste (replicate 64 0) 0 links) el)
        (b ∙ ap (paste one 16 hands) et)
        (c ∙ ap (paste two 24 handovers) ep)
        (d ∙ ap (paste three 56 carried) et)

    row_long : length (row_of z links threads slots) ≡ 64
    unfolding row_of
    row_long =
        let A = padded (min z.links 16) 16 links in
        let B = padded (min z.threads 8) 8 hands in
        let C = padded (min (positions z) 32) 32 handovers in
        let D = padded (min z.threads 8) 8 carried in
        omega (
          arith,
          length-append (A ++ B ++ C) D,
          length-append (A ++ B) C,
          length-append A B,
          long_links,
          long_hands,
          long_handovers,
          long_carried,
        )

-- what stands beyond the first n is 0, so a number above 0 stands only among them
numbers_hold : (s : List ℕ) (n room k : ℕ) → ((i : ℕ) → n ≤ i → i < length s → get_or s i 0 ≡ 0)
    → occurrences (λ number. number) (suc k) (padded n room s) ≡ occurrences (λ number. number) (suc k) s
unfolding padded
numbers_hold s n room k none =
    let zeros = none_in_zeros (λ (number : ℕ). number) 0 k (room - n) refl in
    let all = occurrences_within (λ (number : ℕ). number) (suc k) s n 0 (λ i past less e. let zero_there = none i past less in absurd (omega arith)) in
    occurrences_append (λ (number : ℕ). number) (suc k) (take n s) (replicate (room - n) 0) ∙ omega arith

kind_holds : {A : Type 0} (f : A → ℕ) (d : A) (xs : List A) (n room k : ℕ) → f d ≡ 0 → ((i : ℕ) → n ≤ i → i < length xs → get_or xs i d ≡ d)
    → occurrences (λ number. number) (suc k) (padded n room (map f xs)) ≡ occurrences f (suc k) xs
kind_holds f d xs n room k empty none =
    numbers_hold (map f xs) n room k
    (λ i past less.
    rw (← empty) (get_or-map f xs i d ∙ ap f (none i past (rw (length-map xs f) at less)))) ∙
    occurrences_map f (suc k) xs

module _ (z : Sizes) (links : List ℕ) (threads : List Thread) (slots : List Slot) where
  pub row_holds : length links ≡ 16 → length threads ≡ 8 → length slots ≡ 32
      → Each 16 (link_good z) 0 links → Each 8 (thread_good z) idle_thread threads → Each 32 (slot_good z) empty_slot slots
      → (k : ℕ)
      → count_under 64 (λ i. eqb (get_or (row_of z links threads slots) i 0) (suc k))
      ≡ occurrences (λ link. link) (suc k) links +
      occurrences (λ thread. thread.hand) (suc k) threads +
      occurrences (λ slot. slot.handover) (suc k) slots +
      occurrences (λ thread. carried_by thread.phase) (suc k) threads
  unfolding row_of carried_by
  row_holds l t s each_link each_thread each_slot k =
      let A = padded (min z.links 16) 16 links in
      let B = padded (min z.threads 8) 8 (map (λ (thread : Thread). thread.hand) threads) in
      let C = padded (min (positions z) 32) 32 (map (λ (slot : Slot). slot.handover) slots) in
      let D = padded (min z.threads 8) 8 (map (λ (thread : Thread). carried_by thread.phase) threads) in
      let id : ℕ → ℕ = λ number. number in
      let idle : (i : ℕ) → min z.threads 8 ≤ i → i < length threads → get_or threads i idle_thread ≡ idle_thread = λ i past less.
      thread_empty_lem z i (get_or threads i idle_thread) (omega arith) (each_thread i (omega arith))
      in
      let in_A = numbers_hold links (min z.links 16) 16 k
      (λ i past less. link_empty z i (get_or links i 0) (omega arith) (each_link i (omega arith)))
      in
      let in_B = kind_holds (λ (thread : Thread). thread.hand) idle_thread threads (min z.threads 8) 8 k refl idle in
      let in_C = kind_holds (λ (slot : Slot). slot.handover) empty_slot slots (min (positions z) 32) 32 k refl
      (λ i past less. slot_empty_lem z i (get_or slots i empty_slot) (omega arith) (each_slot i (omega arith)))
      in
      let in_D = kind_holds (λ (thread : Thread). carried_by thread.phase) idle_thread threads (min z.threads 8) 8 k refl idle in
      count_under_list (A ++ B ++ C ++ D) 64 (suc k) (row_long z links threads slots l t s) ∙
      omega (
        arith,
        occurrences_append id (suc k) (A ++ B ++ C) D,
        occurrences_append id (suc k) (A ++ B) C,
        occurrences_append id (suc k) A B,
      )
