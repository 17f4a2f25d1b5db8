-- The numbers of an answer tell which answer it is.
use Rattle.std.specs.Prelude.{ℕ, ◌≡◌, refl, List, [], ◌∷◌, length, cond, eqb, Ok, Err, Some, None}
use Rattle.std.proofs.Common.{sym, ap, ◌∙◌, arith}
use Rattle.records.specs.declared.Record.TheVariants.{Sizes, Step}
use Rattle.records.specs.declared.Malformed.{Malformed}
use Rattle.records.specs.declared.Malformed.TheVariants.{Short, OtherMark, NotZero}
use Rattle.records.specs.Numbers.{malformed_number, numbers_of, numbers_of_written}
use Rattle.records.specs.Reading.{Read, read_of}
use Rattle.records.specs.Writing.{Written}
use Rattle.records.proofs.Lemmas.Cases.{reads_short}

-- why bytes are no record, again from its number; another number is none's
abbrev malformed_from : ℕ → Malformed
malformed_from k = cond (eqb k 40) Short (cond (eqb k 41) OtherMark NotZero)

from_number : (why : Malformed) → malformed_from (malformed_number why) ≡ why
unfolding malformed_number
from_number Short = refl
from_number OtherMark = refl
from_number NotZero = refl

-- the answer again from its numbers; lists of another length are no answer's
abbrev answer_from : List ℕ → Read
answer_from [] = Ok None
answer_from (k ∷ []) = Err (malformed_from k)
answer_from (a ∷ b ∷ []) = Ok None
answer_from (a ∷ b ∷ c ∷ []) = Ok None
answer_from (a ∷ b ∷ c ∷ d ∷ []) = Ok None
answer_from (a ∷ b ∷ c ∷ d ∷ e ∷ []) = Ok None
answer_from (a ∷ b ∷ t ∷ h ∷ l ∷ n ∷ []) =
    Ok (Some (Sizes (record { threads = t; slots = h; links = l; objects = n })))
answer_from (a ∷ b ∷ t ∷ o ∷ s ∷ l ∷ g ∷ more) =
    Ok (Some (Step (record { thread = t; operation = o; slot = s; link = l; tag = g })))

from_numbers : (a : Read) → answer_from (numbers_of a) ≡ a
unfolding numbers_of
from_numbers (Ok (Some (Sizes r))) = refl
from_numbers (Ok (Some (Step r))) = refl
from_numbers (Ok None) = refl
from_numbers (Err why) = ap Err (from_number why)

pub told : (a b : Read) → numbers_of a ≡ numbers_of b → a ≡ b
told a b e = sym (from_numbers a) ∙ ap answer_from e ∙ from_numbers b

abbrev written_from : List ℕ → Written
written_from [] = Ok tt
written_from (k ∷ more) = Err (record {})

written_numbers : (a : Written) → written_from (numbers_of_written a) ≡ a
unfolding numbers_of_written
written_numbers (Ok done) = refl
written_numbers (Err why) = refl

pub told_written : (a b : Written) → numbers_of_written a ≡ numbers_of_written b → a ≡ b
told_written a b e = sym (written_numbers a) ∙ ap written_from e ∙ written_numbers b

pub nine_bytes : (bs : List ℕ) → length bs ≡ 9 → numbers_of (read_of bs) ≡ 40 ∷ []
unfolding numbers_of malformed_number
nine_bytes bs e = ap numbers_of (reads_short bs (λ z. omega arith) (omega arith))
