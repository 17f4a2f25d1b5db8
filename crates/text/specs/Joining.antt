-- Facts of `joined`: its first field and the line that follows it.
use Prim.Native.Nat.{ℕ, suc, ◌+◌, ◌*◌, ◌^◌, ◌≤◌, ◌<◌}
use Rattle.std.specs.Prelude.{◌≡◌, refl, get_or}
use Rattle.std.proofs.Common.{sym, add-one, length-append, length-drop, drop-cons}
use mathlib.Core.List.{List, [], ◌∷◌, ◌++◌, map}
use native.Mathlib.Omega.{arith}
use Rattle.std.proofs.Math.ListN.{length, drop, drop_of_length-le}
use Rattle.std.proofs.lemmas.List.{length-map}
use Rattle.std.proofs.Math.Seq.{append_snoc}
use Rattle.text.specs.Decimal.{decimal}
use Rattle.text.specs.Fields.{joined}
use Rattle.text.specs.Digits.{decimal_short}

-- a field with a space after it, where others follow
pub joined_more : (field : List ℕ) (fields : List (List ℕ)) → 0 < length fields → joined (field ∷ fields) ≡ (field ++ 32 ∷ []) ++ joined fields
unfolding joined
joined_more field [] h = absurd (omega arith)
joined_more field (next ∷ fields) h = sym (append_snoc field 32 (joined (next ∷ fields)))

module _ (ns : List ℕ) (i : ℕ) where
  pub number_more : i + 1 < length ns → joined (map decimal (drop i ns)) ≡ (decimal (get_or ns i 0) ++ 32 ∷ []) ++ joined (map decimal (drop (i + 1) ns))
  number_more h =
      let here : i < length ns = omega arith in
      let others : 0 < length (map decimal (drop (suc i) ns)) = rw (length-map, length-drop) (omega arith) in
      rw (add-one, drop-cons ns i 0 here) (joined_more (decimal (get_or ns i 0)) (map decimal (drop (suc i) ns)) others)

  pub number_last : i + 1 ≡ length ns → joined (map decimal (drop i ns)) ≡ decimal (get_or ns i 0) ++ 10 ∷ []
  unfolding joined
  number_last e =
      let here : i < length ns = omega arith in
      let none : drop (suc i) ns ≡ [] = drop_of_length-le ns {i = suc i} (omega arith) in
      rw (drop-cons ns i 0 here, none)

-- no number at all
pub no_fields : (ns : List ℕ) → length ns ≡ 0 → joined (map decimal ns) ≡ 10 ∷ []
unfolding joined
no_fields [] h = refl
no_fields (n ∷ ns) h = absurd (omega arith)

-- how many bytes the fields of numbers are, each with the byte after it
unfoldable pub fields_size : List ℕ → ℕ
fields_size [] = 0
fields_size (n ∷ ns) = length (decimal n) + 1 + fields_size ns

pub line_size : (ns : List ℕ) → 0 < length ns → length (joined (map decimal ns)) ≡ fields_size ns
unfolding joined fields_size
line_size [] h = absurd (omega arith)
line_size (n ∷ []) h = rw length-append (omega arith)
line_size (n ∷ m ∷ ns) h =
    let others = line_size (m ∷ ns) (omega arith) in
    rw length-append (omega (arith, others))

pub fields_more : (ns : List ℕ) (i : ℕ) → i < length ns → fields_size (drop i ns) ≡ length (decimal (get_or ns i 0)) + 1 + fields_size (drop (i + 1) ns)
unfolding fields_size
fields_more ns i h = rw (add-one i, drop-cons ns i 0 h)

pub fields_none : (ns : List ℕ) (i : ℕ) → length ns ≤ i → fields_size (drop i ns) ≡ 0
unfolding fields_size
fields_none ns i h = rw (drop_of_length-le ns {i = i} h)

-- eleven bytes a number are enough for numbers below 2 ^ 32
pub fields_short : (ns : List ℕ) → ((i : ℕ) → get_or ns i 0 < 2 ^ 32) → fields_size ns ≤ 11 * length ns
unfolding fields_size
fields_short [] h = omega arith
fields_short (n ∷ ns) h =
    let here = decimal_short 9 n (omega (arith, h 0)) in
    let others = fields_short ns (λ i. h (suc i)) in
    omega (arith, here, others)
