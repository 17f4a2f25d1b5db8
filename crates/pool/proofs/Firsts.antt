-- The first mark that is on, by std's word for it: objects are counted from 1, marks from 0.
use Rattle.std.proofs.Common.{ℕ, suc, ◌+◌, ◌<◌, ◌≤◌, ◌≡◌, refl, Bool, true, false, List, [], ◌∷◌, length, drop, get_or, add-one, sym, ap, ◌∙◌}
use Rattle.std.proofs.Math.ListN.{drop_of_length-le}
use Rattle.std.proofs.Math.Seq.{drop-cons}
use Rattle.std.specs.Prelude.{Option, Some, None, position}
use Rattle.std.specs.List.{position_from}
use Rattle.std.proofs.lemmas.Iterator.Adapters.{position_from-zero}
use Rattle.std.proofs.lemmas.List.Quantifiers.{position-Some}
use Rattle.pool.specs.Pool.{first_on}

abbrev number_at : Option ℕ → ℕ
number_at None = 0
number_at (Some k) = suc k

number_from : (k : ℕ) (marks : List Bool) → first_on k marks ≡ number_at (position_from (λ mark. mark) k marks)
unfolding first_on
number_from k [] = refl
number_from k (true ∷ marks) = refl
number_from k (false ∷ marks) = rw add-one (number_from (suc k) marks)

module _ (marks : List Bool) where
  number_is : first_on 0 marks ≡ number_at (position (λ mark. mark) marks)
  number_is = number_from 0 marks ∙ ap number_at (sym (position_from-zero (λ mark. mark) marks))

  pub none_on : None ≡ position (λ mark. mark) marks → first_on 0 marks ≡ 0
  none_on e = number_is ∙ ap number_at (sym e)

  pub on_at : (k : ℕ) → Some k ≡ position (λ mark. mark) marks → first_on 0 marks ≡ k + 1
  on_at k e = number_is ∙ ap number_at (sym e) ∙ sym (add-one k)

  pub on_within : (k : ℕ) → Some k ≡ position (λ mark. mark) marks → k < length marks
  on_within k e = (position-Some (λ mark. mark) marks k false (sym e)).0

-- one mark after the other: that at k, and the ones behind it
first_on_on : (k : ℕ) (mark : Bool) (marks : List Bool) → mark ≡ true → first_on k (mark ∷ marks) ≡ suc k
unfolding first_on
first_on_on k mark marks e = rw e

first_on_off : (k : ℕ) (mark : Bool) (marks : List Bool) → mark ≡ false → first_on k (mark ∷ marks) ≡ first_on (suc k) marks
unfolding first_on
first_on_off k mark marks e = rw e

module _ (marks : List Bool) (k : ℕ) (h : k < length marks) where
  pub here : get_or marks k false ≡ true → first_on k (drop k marks) ≡ k + 1
  here e = rw (drop-cons marks k false h) (first_on_on k _ _ e ∙ sym (add-one k))

  pub further : get_or marks k false ≡ false → first_on k (drop k marks) ≡ first_on (k + 1) (drop (k + 1) marks)
  further e = rw (add-one, drop-cons marks k false h) (first_on_off k _ _ e)

pub none : (marks : List Bool) (k : ℕ) → length marks ≤ k → first_on k (drop k marks) ≡ 0
unfolding first_on
none marks k h = rw (drop_of_length-le marks h)
