-- The record of a line fits the buffer, and the bytes that are full are then those before and its own.
use Prim.Native.Nat.{ℕ, ◌+◌, ◌-◌, ◌≤◌}
use mathlib.Core.Path.{◌≡◌, refl}
use mathlib.Core.Bool.{Bool, true, false, cond}
use mathlib.Core.List.{List, []}
use native.Mathlib.Omega.{arith}
use borrow.Author.Tests.{ltb-false}
use lib.ListN.{length}
use lib.Dec.{ltb}
use Rattle.records.specs.Bytes.{sizes_bytes, step_bytes, low_first}
use Rattle.words.specs.declared.Why.TheVariants.{NoRoom}
use Rattle.std.specs.Prelude.{Some, None, Ok, Err}
use Rattle.records.specs.declared.Record.TheVariants.{Sizes, Step}
use Rattle.script.specs.Lines.{Line}
use Rattle.script.specs.Packing.{fault_of, added_by, took_of}

fits_if : (room full : ℕ) (ten : List ℕ) (t : Bool) → length ten ≡ 10 → full ≤ room → (t ≡ false → 10 ≤ room - full) → full + length (cond t [] ten) ≤ room
fits_if room full ten true e h g = omega arith
fits_if room full ten false e h g = let more = g refl in omega arith

pub added_fits : (room full : ℕ) (said : Line) → full ≤ room → full + length (added_by room full said) ≤ room
unfolding added_by sizes_bytes step_bytes low_first
added_fits room full (Ok None) h = omega arith
added_fits room full (Ok (Some (Sizes r))) h =
    fits_if room full (sizes_bytes r) (ltb (room - full) 10) refl h (ltb-false (room - full) 10)
added_fits room full (Ok (Some (Step r))) h =
    fits_if room full (step_bytes r) (ltb (room - full) 10) refl h (ltb-false (room - full) 10)
added_fits room full (Err fault) h = omega arith

full_if : (room full n : ℕ) (ten : List ℕ) (t : Bool) → length ten ≡ 10 → cond t (Err (fault_of NoRoom)) (Ok (full + 10)) ≡ Ok n → n ≡ full + length (cond t [] ten)
full_if room full n ten true e g = let z : ◌≡◌ {A = ℕ} 0 1 = cc in omega arith
full_if room full n ten false e g =
    let same : full + 10 ≡ n = cc in
    omega arith

pub full_then : (room full n : ℕ) (said : Line) → took_of room full said ≡ Ok n → n ≡ full + length (added_by room full said)
unfolding added_by took_of sizes_bytes step_bytes low_first
full_then room full n (Ok None) e =
    let same : full ≡ n = cc in
    omega arith
full_then room full n (Ok (Some (Sizes r))) e = full_if room full n (sizes_bytes r) (ltb (room - full) 10) refl e
full_then room full n (Ok (Some (Step r))) e = full_if room full n (step_bytes r) (ltb (room - full) 10) refl e
full_then room full n (Err fault) e = let z : ◌≡◌ {A = ℕ} 0 1 = cc in omega arith
