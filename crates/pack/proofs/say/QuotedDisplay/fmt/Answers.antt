use Rattle.std.proofs.Common.{◌≡◌, ℕ, zero, suc, ◌+◌, ◌<◌, true, false, List, [], ◌∷◌, ◌++◌, length, map, take, encode_utf8, refl, ap, sym, ◌∙◌, arith, rules, add-one, append_assoc}
use Rattle.std.proofs.Output.{has_written_append, has_written_of_eq}
use Rattle.std.proofs.lemmas.Bool.Decides.{nat_tests}
use Rattle.std.proofs.lemmas.List.{nil_from_length}
use Rattle.std.proofs.lemmas.Str.{encode_ascii}
use Rattle.std.specs.Char.{is_ascii_graphic}
use Rattle.pack.specs.Quoting.{shown_of}
use Rattle.pack.proofs.say.QuotedDisplay.fmt.Goals as goal
use Rattle.pack.proofs.say.QuotedDisplay.fmt.Goals.{then-is_ascii_graphic, else-is_ascii_graphic}

-- the one byte that is written for a byte of the word, in either arm

graphic_as : (b s : ℕ) → is_ascii_graphic b ≡ true → s ≡ b → encode_utf8 s ≡ shown_of b ∷ []
graphic_as b s test e =
    let same : s ≡ shown_of b = grind (arith, nat_tests) in
    encode_ascii s (grind (arith, nat_tests)) ∙ ap (λ x. x ∷ []) same

other_as : (b s : ℕ) → is_ascii_graphic b ≡ false → s ≡ 63 → encode_utf8 s ≡ shown_of b ∷ []
other_as b s test e =
    let same : s ≡ shown_of b = grind (arith, nat_tests) in
    encode_ascii s (omega arith) ∙ ap (λ x. x ∷ []) same

-- a byte more is written, and one fewer is left
one_more : (done bytes rest : List ℕ) (n m b : ℕ) → bytes ≡ b ∷ rest → m + 1 ≡ n
    → (done ++ shown_of b ∷ []) ++ (map shown_of (take m rest) ++ 39 ∷ []) ≡ done ++ (map shown_of (take n bytes) ++ 39 ∷ [])
one_more done bytes rest n m b here count = rw (here, ← count, add-one, append_assoc) refl

-- where the iterator ends, nothing that counts is left
none_left : (n : ℕ) (bytes : List ℕ) → (0 < n → length bytes ≡ 0) → take n bytes ≡ []
none_left zero bytes none = refl
none_left (suc n) bytes none = rw (nil_from_length bytes (none (omega arith))) refl

pub loop-b-preserved : goal.loop-b-preserved
loop-b-preserved g c = (
  search rules,
  search rules,
  λ plain.
      let now = c.loop-b.invariant.2 plain in
      let b = c.in-Some-2.field-0.now in
      let text : encode_utf8 c.from.result ≡ shown_of b ∷ [] = elim c.if-is_ascii_graphic.branch [
        | then-is_ascii_graphic w ↦ graphic_as b _ (sym c.is_ascii_graphic.ensures.value ∙ w.if-is_ascii_graphic.true) (c.from.ensures ∙ w.shown-is)
        | else-is_ascii_graphic w ↦ other_as b _ (sym c.is_ascii_graphic.ensures.value ∙ w.if-is_ascii_graphic.false) (c.from.ensures ∙ w.shown-is)
      ] in
      let shown = has_written_of_eq _ _ _ _ _ text (c.in_ok-write_char-2.ensures.writes now.1.plain (refl {a = true})) in
      let steps = c.in-Some-2.ensures.steps in (
        now.0 ++ shown_of b ∷ [],
        has_written_append _ _ _ _ _ _ now.1 shown,
        one_more now.0 _ _ _ _ b steps.0 steps.1 ∙ now.2,
      ),
)

pub returns-clause-writes : goal.returns-clause-writes
returns-clause-writes g c = λ plain ok.
    let now = c.loop-b.invariant.2 plain in
    let none = none_left _ _ (λ more. (c.in-None.ensures.steps more).0) in
    let mark = has_written_of_eq _ _ _ _ _ (encode_ascii 39 (omega arith)) (c.write_char-2.ensures.writes now.1.plain ok) in
    has_written_of_eq _ _ _ _ _ (rw none at now.2) (has_written_append _ _ _ _ _ _ now.1 mark)
