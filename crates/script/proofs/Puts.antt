-- A buffer after bytes were written over those from a place on.
use Prim.Native.Nat.{ℕ, ◌+◌, ◌-◌, ◌≤◌}
use mathlib.Core.Path.{◌≡◌, sym, ap, ◌∙◌}
use mathlib.Core.Bool.{Bool, true, false, cond}
use mathlib.Core.List.{List, [], ◌++◌, append_assoc, append-nil}
use native.Mathlib.Omega.{arith}
use native.Mathlib.Nat.{add-zero, zero-add}
use lib.ListN.{length, take, drop, length-append, length-drop, take-append-drop, drop_of_length-le}
use lib.Seq.{take_at, drop_at, take_all, length-take-le, drop-drop}
use lib.Dec.{ltb}
use Rattle.records.specs.Writing.{written_of}
use Rattle.script.specs.Packing.{put}

-- no bytes change nothing
pub put_none : (at : ℕ) (buffer : List ℕ) → buffer ≡ put at [] buffer
unfolding put
put_none at buffer = rw (add-zero at) (sym (take-append-drop at buffer))

module _ (at : ℕ) (bytes buffer : List ℕ) (fits : at + length bytes ≤ length buffer) where
  front_length : length (take at buffer ++ bytes) ≡ at + length bytes
  front_length = length-append (take at buffer) bytes ∙ ap (λ (n : ℕ). n + length bytes) (length-take-le at buffer (omega arith))

  parted : put at bytes buffer ≡ (take at buffer ++ bytes) ++ drop (at + length bytes) buffer
  unfolding put
  parted = sym (append_assoc (take at buffer) bytes (drop (at + length bytes) buffer))

  pub put_front : take (at + length bytes) (put at bytes buffer) ≡ take at buffer ++ bytes
  put_front = rw parted (take_at (take at buffer ++ bytes) _ (at + length bytes) front_length)

  pub put_back_lem : drop (at + length bytes) (put at bytes buffer) ≡ drop (at + length bytes) buffer
  put_back_lem = rw parted (drop_at (take at buffer ++ bytes) _ (at + length bytes) front_length)

  pub put_length : length (put at bytes buffer) ≡ length buffer
  put_length =
      rw parted
      (length-append (take at buffer ++ bytes) (drop (at + length bytes) buffer)
      ∙ omega (arith, front_length, length-drop (at + length bytes) buffer))

-- a buffer that is as another from a place on is that other with its own first bytes written over
pub put_whole : (n : ℕ) (buffer other : List ℕ) → n ≤ length buffer → drop n buffer ≡ drop n other → buffer ≡ put 0 (take n buffer) other
unfolding put
put_whole n buffer other h e =
    rw (zero-add (length (take n buffer)), length-take-le n buffer h)
    (sym (take-append-drop n buffer) ∙ ap (λ (l : List ℕ). take n buffer ++ l) e)

-- ten bytes written into the part of a buffer from a place on, where they have room

put_if : (t : Bool) (at : ℕ) (ten buffer : List ℕ) → length ten ≡ 10 → take at buffer ++ cond t (drop at buffer) (ten ++ drop 10 (drop at buffer)) ≡ put at (cond t [] ten) buffer
unfolding put
put_if true at ten buffer e = rw (add-zero at)
put_if false at ten buffer e = rw (drop-drop 10 at buffer, e)

pub put_part : (at : ℕ) (ten buffer : List ℕ) → length ten ≡ 10 → at ≤ length buffer → take at buffer ++ (written_of ten (take (length buffer - at) (drop at buffer)) ++ drop (length buffer - at) (drop at buffer)) ≡ put at (cond (ltb (length buffer - at) 10) [] ten) buffer
unfolding written_of
put_part at ten buffer e h =
    let size : length (drop at buffer) ≡ length buffer - at = length-drop at buffer in
    rw
    (take_all (length buffer - at) (drop at buffer) (omega arith), drop_of_length-le (drop at buffer) {i = length buffer - at} (omega arith), append-nil, size)
    (put_if (ltb (length buffer - at) 10) at ten buffer e)
