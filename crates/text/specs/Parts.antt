-- Laws of `filled`: the part that its first byte gives, and what comes after it.
use Rattle.std.specs.Prelude.{ℕ, ◌+◌, ◌<◌, ◌≡◌, List, [], ◌∷◌, ◌++◌, length, get_or, drop}
use Rattle.std.proofs.Common.{append-nil, add-one, drop-drop, eq-eqb, ne_eqb}
use Rattle.std.proofs.Math.Nat.{add-zero}
use Rattle.std.proofs.Math.Seq.{drop-cons, get_or-drop}
use Rattle.text.specs.Decimal.{decimal}
use Rattle.text.specs.Words.{filled}

-- one byte of a template
module _ (byte number : ℕ) where
  pub place_part : byte ≡ 37 → filled (byte ∷ []) (number ∷ []) ≡ decimal number
  unfolding filled
  place_part e = simp (eq-eqb byte 37 e) (append-nil (decimal number))

  pub other_part : (byte ≡ 37 → ⊥) → filled (byte ∷ []) (number ∷ []) ≡ byte ∷ []
  unfolding filled
  other_part ne = simp (ne_eqb byte 37 ne)

-- the next byte of a template, after i bytes and k numbers
module _ (template numbers : List ℕ) (i k : ℕ) (more : i < length template) where
  pub after_place :
      get_or template i 0 ≡ 37 →
      filled (drop i template) (drop k numbers) ≡
      filled (get_or template i 0 ∷ []) (get_or numbers k 0 ∷ []) ++ filled (drop (i + 1) template) (drop (k + 1) numbers)
  unfolding filled
  after_place e =
      rw (add-one i, drop-cons template i 0 more, place_part (get_or template i 0) (get_or numbers k 0) e)
      (simp (eq-eqb (get_or template i 0) 37 e, get_or-drop, add-zero, drop-drop))

  pub after_other :
      (get_or template i 0 ≡ 37 → ⊥) →
      filled (drop i template) (drop k numbers) ≡
      filled (get_or template i 0 ∷ []) (get_or numbers k 0 ∷ []) ++ filled (drop (i + 1) template) (drop k numbers)
  unfolding filled
  after_other ne =
      rw (add-one i, drop-cons template i 0 more, other_part (get_or template i 0) (get_or numbers k 0) ne)
      (simp (ne_eqb (get_or template i 0) 37 ne))
