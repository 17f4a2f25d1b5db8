-- What holds at the start of each line while a text is packed, and how one line leads to the next and to the end.
use Prim.Native.Nat.{ℕ, zero, suc, ◌+◌, ◌-◌, ◌≤◌, ◌<◌}
use mathlib.Core.Path.{◌≡◌, refl, sym, ap, ◌∙◌}
use mathlib.Core.List.{List, ◌++◌}
use native.Mathlib.Omega.{arith}
use borrow.Author.Tests.{lt-ltb, le-ltb, eq-eqb, ne_eqb}
use lib.ListN.{length, take, drop}
use lib.Seq.{length-take-le, drop-drop}
use lib.Dec.{eqb}
use Rattle.words.specs.declared.Why.TheVariants.{NoSizes}
use Rattle.script.specs.declared.Fault.{Fault}
use Rattle.script.specs.Lines.{line_of}
use Rattle.std.specs.Prelude.{Ok, Err}
use Rattle.script.specs.Lines.{Line}
use Rattle.script.specs.Packing.{Took, Packed, wrong, next_line, fault_of, put, added_by, took_of, finish, go_on, pack_from, pack_of, Within}
use Rattle.script.proofs.Added.{added_fits, full_then}
use Rattle.script.proofs.Puts.{put_front, put_back_lem, put_length, put_whole}

-- what `pack` promises of what it says and leaves
abbrev Promised : List ℕ → List ℕ → List ℕ → Packed → Type 0
Promised text out₀ out r =
    (r ≡ (pack_of (length out₀) text).said) × (Within r (length out₀) × (out ≡ put 0 (pack_of (length out₀) text).bytes out₀))

-- at the start of a line: the buffer's first bytes are the records so far and the others are as they were, and what is to come is what the
-- lines from here on give
pub record Going (text out₀ : List ℕ) (at number full : ℕ) (out : List ℕ) : Type 0 where
  pub size : length out ≡ length out₀
  pub within : full ≤ length out
  pub numbered : 1 ≤ number
  pub few : number ≤ at + 1
  pub kept : drop full out ≡ drop full out₀
  pub coming : pack_of (length out₀) text ≡ pack_from (length text + 1 - number) (length out₀) text at number (take full out)

pub going_start : (text out : List ℕ) → Going text out 0 1 0 out
unfolding pack_of
going_start text out =
    record {
      size = refl;
      within = omega arith;
      numbered = omega arith;
      few = omega arith;
      kept = refl;
      coming = rw (plus_less (length text)) refl;
    }
  where
    plus_less : (n : ℕ) → n + 1 - 1 ≡ n
    plus_less n = omega arith

-- one line of the definition
from_line : (lines k room : ℕ) (text : List ℕ) (at number : ℕ) (done : List ℕ) → lines ≡ suc k → at < length text → pack_from lines room text at number done ≡ go_on number (done ++ added_by room (length done) (line_of text at (eqb (length done) 0))) (pack_from k room text (next_line text at) (number + 1)) (took_of room (length done) (line_of text at (eqb (length done) 0)))
unfolding pack_from
from_line lines k room text at number done e h = rw e (rw (lt-ltb at (length text) h))

-- the end of the definition
from_end : (lines room : ℕ) (text : List ℕ) (at number : ℕ) (done : List ℕ) → length text ≤ at → pack_from lines room text at number done ≡ finish number done
unfolding pack_from
from_end zero room text at number done h = refl
from_end (suc lines) room text at number done h = rw (le-ltb at (length text) h)

module _ (text out₀ : List ℕ) (at number full : ℕ) (out : List ℕ) (g : Going text out₀ at number full out) (h : at < length text) where
  -- what this line says, its record, and what is full after it
  abbrev pub said : Line
  said = line_of text at (eqb full 0)

  abbrev pub added : List ℕ
  added = added_by (length out) full said

  abbrev pub after : Took
  after = took_of (length out) full said

  fits : full + length added ≤ length out
  fits = added_fits (length out) full said g.within

  full_is : length (take full out) ≡ full
  full_is = length-take-le full out g.within

  -- what is to come, with this line taken
  line_coming : pack_of (length out₀) text ≡ go_on number (take full out ++ added) (pack_from (length text + 1 - (number + 1)) (length out₀) text (next_line text at) (number + 1)) after
  line_coming =
      let many = g.few in
      let one = g.numbered in
      let k = length text + 1 - (number + 1) in
      let lines : length text + 1 - number ≡ suc k = omega arith in
      rw g.size
      (g.coming ∙ rw full_is at (from_line (length text + 1 - number) k (length out₀) text at number (take full out) lines h))

  -- the bytes from the next record's place on are as they were
  kept_on : drop (full + length added) (put full added out) ≡ drop (full + length added) out₀
  kept_on =
      put_back_lem full added out fits
      ∙ sym (drop-drop (length added) full out)
      ∙ ap (λ (l : List ℕ). drop (length added) l) g.kept
      ∙ drop-drop (length added) full out₀

  -- on to the next line
  pub going_on : (n : ℕ) (out' : List ℕ) (took : Took) → out' ≡ put full added out → took ≡ after → took ≡ Ok n → (next : ℕ) → next ≡ next_line text at → at < next → Going text out₀ next (number + 1) n out'
  unfolding go_on
  going_on n out' took e took_is is_full next next_is later =
      let all : after ≡ Ok n = sym took_is ∙ is_full in
      let sized : length (put full added out) ≡ length out = put_length full added out fits in
      let many = g.few in
      let room = fits in
      let same = g.size in
      let n_is : n ≡ full + length added = full_then (length out) full n said all in
      rw (e, n_is)
      (record {
        size = omega arith;
        within = omega arith;
        numbered = omega arith;
        few = omega arith;
        kept = kept_on;
        coming = rw (put_front full added out fits, next_is) (rw all at line_coming);
      })

  -- a line that is wrong
  pub going_wrong : (fault : Fault) (out' : List ℕ) (took : Took) → out' ≡ put full added out → took ≡ after → took ≡ Err fault → Promised text out₀ out' (Err (wrong number fault))
  unfolding go_on
  going_wrong fault out' took e took_is is_wrong =
      let sized : length (put full added out) ≡ length out = put_length full added out fits in
      let room = fits in
      rw (e, line_coming, sym took_is ∙ is_wrong) (
        refl,
        (
          tt,
          put_whole (full + length added) (put full added out) out₀ (omega arith) kept_on
              ∙ ap (λ (l : List ℕ). put 0 l out₀) (put_front full added out fits),
        ),
      )

-- the text's end
module _ (text out₀ : List ℕ) (at number full : ℕ) (out : List ℕ) (g : Going text out₀ at number full out) (h : length text ≤ at) where
  end_coming : pack_of (length out₀) text ≡ finish number (take full out)
  end_coming = g.coming ∙ from_end (length text + 1 - number) (length out₀) text at number (take full out) h

  end_bytes : out ≡ put 0 (pack_of (length out₀) text).bytes out₀
  unfolding finish
  end_bytes = rw end_coming (put_whole full out out₀ g.within g.kept)

  pub going_none : full ≡ 0 → Promised text out₀ out (Err (wrong number (fault_of NoSizes)))
  unfolding finish
  going_none e =
      (rw (end_coming, eq-eqb (length (take full out)) 0 (length-take-le full out g.within ∙ e)), (tt, end_bytes))

  pub going_end : (full ≡ 0 → ⊥) → Promised text out₀ out (Ok full)
  unfolding finish
  going_end e =
      let room = g.within in
      let same = g.size in
      (rw (end_coming, length-take-le full out g.within, ne_eqb full 0 e), (omega arith, end_bytes))
