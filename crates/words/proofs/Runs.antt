-- A run from a place on, what the loop that walks it needs; and that it is as long as what `take_while` takes.
use Rattle.std.proofs.Common.{ℕ, suc, ◌≡◌, ◌+◌, ◌≤◌, ◌<◌, refl, sym, ◌∙◌, List, [], ◌∷◌, cond, Bool, true, false, length, take, drop, get_or, leb, max, arith}
use borrow.Author.Tests.{leb-true, leb-false}
use lib.ListN.{drop_of_length-le}
use lib.Seq.{drop-cons}
use Rattle.std.specs.List.{prefix_len}
use Rattle.std.proofs.lemmas.List.Folds.{length-prefix_len}
use Rattle.words.specs.declared.Run.{Run}
use Rattle.words.specs.Words.{kind_of, goes_on, run_of}

pub run_stops : (run : Run) (text : List ℕ) (i : ℕ) → i < length text → goes_on run (kind_of (get_or text i 0)) ≡ false → run_of run (drop i text) ≡ 0
unfolding run_of
run_stops run text i h e = rw (drop-cons text i 0 h) (rw e)

pub run_more : (run : Run) (text : List ℕ) (i : ℕ) → i < length text → goes_on run (kind_of (get_or text i 0)) ≡ true → run_of run (drop i text) ≡ suc (run_of run (drop (suc i) text))
unfolding run_of
run_more run text i h e = rw (drop-cons text i 0 h) (rw e)

pub run_ends : (run : Run) (text : List ℕ) (i : ℕ) → length text ≤ i → run_of run (drop i text) ≡ 0
unfolding run_of
run_ends run text i h = rw (drop_of_length-le text h)

-- where the walk has come to the text's end, or began past it
pub run_past : (run : Run) (text : List ℕ) (at i : ℕ) → at + run_of run (drop at text) ≡ i + run_of run (drop i text) → length text ≤ i → (at ≤ length text → i ≤ length text) → max at (length text) ≡ at + run_of run (drop at text)
run_past run text at i same end near = by_end (leb at (length text)) (leb-true _ _) (leb-false _ _)
  where
    by_end : (t : Bool) → (t ≡ true → at ≤ length text) → (t ≡ false → length text < at) → max at (length text) ≡ at + run_of run (drop at text)
    by_end true f g = let before = f refl in let there = near before in let none = run_ends run text i end in omega (arith, same)
    by_end false f g = let past = g refl in let none = run_ends run text at (omega arith) in omega arith

run_long : (run : Run) (text : List ℕ) → run_of run text ≡ prefix_len (λ b. goes_on run (kind_of b)) text
unfolding run_of
run_long run [] = refl
run_long run (b ∷ bs) = rw (run_long run bs) (one_more (goes_on run (kind_of b)) _)
  where
    one_more : (t : Bool) (n : ℕ) → cond t (suc n) 0 ≡ cond t (1 + n) 0
    one_more true n = omega arith
    one_more false n = refl

pub run_taken : (run : Run) (text : List ℕ) → length (take (prefix_len (λ b. goes_on run (kind_of b)) text) text) ≡ run_of run text
run_taken run text = length-prefix_len (λ b. goes_on run (kind_of b)) text ∙ sym (run_long run text)
