-- Bytes written after bytes: the laws of `written` that every function of the crate uses.
use Rattle.std.specs.Prelude.{ℕ, ◌+◌, ◌≤◌, ◌<◌, ◌≡◌, refl, List, [], ◌∷◌, ◌++◌, set}
use Rattle.std.proofs.Common.{ap, ◌∙◌, append_assoc, add-one, arith, length-set, length-drop, length-take-le}
use Rattle.std.proofs.Math.Nat.{add_assoc}
use Rattle.std.proofs.Math.ListN.{length, take, drop, length-append}
use Rattle.std.proofs.Math.Seq.{take_at, drop-append-add, drop-drop, append_snoc}
use Rattle.std.proofs.lemmas.List.{set_split}
use Rattle.text.specs.Written.{written, Appended}

-- a store is one byte written
pub stored : (l : List ℕ) (p b : ℕ) → p < length l → set l p b ≡ written l p (b ∷ [])
unfolding written
stored l p b h = rw (add-one, append_snoc) (set_split l p b h)

module _ (l : List ℕ) (p : ℕ) (x : List ℕ) (room : p + length x ≤ length l) where
  front_length : length (take p l ++ x) ≡ p + length x
  front_length =
      let h : p ≤ length l = omega arith in
      simp (length-append, length-take-le p l h)

  pub length_written : length (written l p x) ≡ length l
  unfolding written
  length_written = rw (length-append, front_length, length-drop) (omega arith)

  pub written_then : (y : List ℕ) → written (written l p x) (p + length x) y ≡ written l p (x ++ y)
  unfolding written
  written_then y =
      let front = take p l ++ x in
      let behind = drop (p + length x) l in
      let before : take (p + length x) (front ++ behind) ≡ front = take_at front behind (p + length x) front_length in
      let after : drop (length front + length y) (front ++ behind) ≡ drop (p + length x + length y) l =
      drop-append-add front behind (length y) ∙ drop-drop (length y) (p + length x) l in
      let after' : drop (p + length x + length y) (front ++ behind) ≡ drop (p + length x + length y) l =
      rw front_length at after in
      rw (before, after', length-append, ← add_assoc, ← append_assoc)

pub length_after : {l x m : List ℕ} {p r : ℕ} → Appended l p x m r → p + length x ≤ length l → length m ≡ length l
length_after {l} {x} {m} {p} a room = ap length a.buffer ∙ length_written l p x room

-- a bound on the place after the bytes
pub up_to : {l x m : List ℕ} {p r : ℕ} (k : ℕ) → Appended l p x m r → length x ≤ k → r ≤ p + k
up_to k a h = omega (arith, a.next)

-- a buffer that kept its length had room for the bytes
pub had_room : {l x m : List ℕ} {p r : ℕ} → Appended l p x m r → p ≤ length l → length m ≡ length l → r ≤ length m
unfolding written
had_room {l} {x} {m} {p} a h e =
    let all = simp (length-append, length-take-le p l h, length-drop) at (ap length a.buffer) in
    omega (arith, all, a.next)

-- bytes and then bytes
pub then : {l x m y n : List ℕ} {p q r : ℕ} → Appended l p x m q → p + length x ≤ length l → Appended m q y n r → Appended l p (x ++ y) n r
then {l} {x} {m} {y} {n} {p} {q} {r} a room b =
    record {
      next = rw (length-append, b.next, a.next) (add_assoc p (length x) (length y));
      buffer = b.buffer ∙ (rw (a.buffer, a.next) (written_then l p x room y));
    }

-- one byte stored
pub one : (l : List ℕ) (p b : ℕ) → p < length l → Appended l p (b ∷ []) (set l p b) (p + 1)
one l p b h = record { next = refl; buffer = stored l p b h }

-- What is written so far, and the bytes still to come: written from here they give what is to be written in all. The invariant of every
-- loop that writes.
pub record Leads (l : List ℕ) (p : ℕ) (rest l₀ : List ℕ) (p₀ : ℕ) (all : List ℕ) : Type 0 where
  pub same : written l p rest ≡ written l₀ p₀ all
  pub place : p + length rest ≡ p₀ + length all
  pub size : length l ≡ length l₀

pub leads_start : (l : List ℕ) (p : ℕ) (all : List ℕ) → Leads l p all l p all
leads_start l p all = record { same = refl; place = refl; size = refl }

-- there is room for what is still to come
pub part_room : {l rest l₀ all : List ℕ} {p p₀ : ℕ} (x y : List ℕ) → Leads l p rest l₀ p₀ all → rest ≡ x ++ y → p₀ + length all ≤ length l₀ → p + length x ≤ length l
part_room x y g e room =
    omega (arith, ap length e ∙ length-append x y, g.place, g.size)

pub rest_room : {l rest l₀ all : List ℕ} {p p₀ : ℕ} → Leads l p rest l₀ p₀ all → p₀ + length all ≤ length l₀ → p + length rest ≤ length l
rest_room g room = omega (arith, g.place, g.size)

-- a part of what is to come is written
pub leads_on : {l rest l₀ all x m : List ℕ} {p p₀ q : ℕ} (y : List ℕ) → Leads l p rest l₀ p₀ all → rest ≡ x ++ y → p + length x ≤ length l → Appended l p x m q → Leads m q y l₀ p₀ all
leads_on {l} {rest} {l₀} {all} {x} {m} {p} {p₀} {q} y g e here a =
    let cut : length rest ≡ length x + length y = ap length e ∙ length-append x y in
    record {
      same = (rw (a.buffer, a.next) (written_then l p x here y)) ∙ (rw e at g.same);
      place = omega (arith, cut, g.place, a.next);
      size = length_after a here ∙ g.size;
    }

-- there is room for a byte that is still to come
pub more_room : {l rest l₀ all y : List ℕ} {p p₀ b : ℕ} → Leads l p rest l₀ p₀ all → rest ≡ (b ∷ y) → p₀ + length all ≤ length l₀ → p < length l
more_room g e room = omega (arith, g.place, g.size, ap length e)

-- all of what is to come is written
pub leads_end : {l rest l₀ all m : List ℕ} {p p₀ q : ℕ} → Leads l p rest l₀ p₀ all → Appended l p rest m q → Appended l₀ p₀ all m q
leads_end g a = record { next = a.next ∙ g.place; buffer = a.buffer ∙ g.same }

-- bytes, and then one byte stored after them
module _ {l x m : List ℕ} {p q : ℕ} (b : ℕ) (a : Appended l p x m q) (room : p + length (x ++ b ∷ []) ≤ length l) where
  before_one : p + length x < length l
  before_one = omega (arith, length-append x (b ∷ []))

  pub room_for_one : q < length m
  room_for_one = rw (a.next, length_after a (omega (arith, before_one))) before_one

  pub then_one : Appended l p (x ++ b ∷ []) (set m q b) (q + 1)
  then_one = then a (omega (arith, before_one)) (one m q b room_for_one)

  pub length_then_one : length (set m q b) ≡ length l
  length_then_one = length-set m q b ∙ length_after a (omega (arith, before_one))

-- two parts written one after the other, where there is room for both
module _ (l : List ℕ) (p : ℕ) (x y : List ℕ) {all : List ℕ} (e : all ≡ x ++ y) (room : p + length all ≤ length l) where
  pub first_room : p + length x ≤ length l
  first_room = omega (arith, ap length e ∙ length-append x y)

  pub second_room : {m : List ℕ} {q : ℕ} → Appended l p x m q → q + length y ≤ length m
  second_room a =
      rw (a.next, length_after a first_room) (omega (arith, ap length e ∙ length-append x y))

  pub both : {m n : List ℕ} {q r : ℕ} → Appended l p x m q → Appended m q y n r → Appended l p all n r
  both a b = rw e (then a first_room b)
