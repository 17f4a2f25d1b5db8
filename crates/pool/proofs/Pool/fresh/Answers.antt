-- `fresh` meets its contract: the first marks are on, of which there are 240 at the most.
use Rattle.std.proofs.Common.{◌≡◌, cond, min, leb, ℕ, arith, ap, ◌∙◌}
use borrow.Author.Tests.{leb-true, leb-false}
use Rattle.basics.specs.Tests.{by_test}
use Rattle.pool.specs.Pool.{fresh_pool, pool_of, marked}
use Rattle.pool.proofs.Pool.fresh.Goals as goal

lower : (n : ℕ) → min n 240 ≡ cond (leb n 240) n 240
lower n =
    by_test (min n 240 ≡ cond (leb n 240) n 240) (leb n 240)
    (λ within. let most = leb-true n 240 within in rw within (omega arith))
    (λ past. let more = leb-false n 240 past in rw past (omega arith))

pub returns : goal.returns
unfolding fresh_pool
returns c = ap pool_of (c.first_marked.ensures ∙ ap marked (c.min.ensures ∙ lower c.args.objects))
