-- `is_free` meets its contract: 0 and what is past the marks are not free, any other by its mark.
use Rattle.std.proofs.Common.{ℕ, suc, false, ◌<◌, ◌≡◌, ◌⊎◌, ◌∙◌, Bool, Option, Some, None, MatchOption, length, get_or, rules}
use Rattle.pool.specs.declared.Pool.{Pool}
use Rattle.pool.specs.Pool.{is_free}
use Rattle.pool.specs.Lemmas.Marks.{free_out}
use Rattle.pool.proofs.Pool.is_free.Goals as goal

by_place : (pool : Pool) (o : ℕ) (r : Bool) {P : ℕ → Type 0} (place : Option ℕ) → length pool.marks ≡ 240
    → MatchOption place ((o ≡ 0) ⊎ (240 < o)) (λ k. (k < 240) × (o ≡ suc k))
    → ((k : ℕ) → P k → r ≡ get_or pool.marks k false) → MatchOption place (r ≡ false) P → r ≡ is_free pool o
unfolding is_free
by_place pool o r None long out read e = e ∙ free_out pool long o out
by_place pool o r (Some k) long here read e = rw here.1 (read k e)

pub returns : goal.returns
returns c = by_place c.args.self c.args.object c.is_some_and.result c.place.result (search rules) c.place.ensures (λ k h. search rules) c.is_some_and.ensures
