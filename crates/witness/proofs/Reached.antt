-- The runs of specs/Reached, computed: they reach the bound of demand 3.
use Rattle.std.specs.Prelude.{ℕ, suc, ◌*◌, ◌+◌, ◌-◌, ◌≤◌, ◌≡◌, refl, true}
use Rattle.std.proofs.Common.{eqb-true}
use Rattle.machine.specs.Fresh.{fresh_of}
use Rattle.machine.specs.Computing.{machine_computes}
use Rattle.entries.specs.Sizes.{in_range}
use Rattle.basics.specs.Tests.{and_l, and_r}
use Rattle.basics.specs.Under.{all_under, from_one}
use Rattle.edges.specs.Runs.{sizes}
use Rattle.promise.specs.History.{history_by, is_retire, is_freed, retires, freed}
use Rattle.promise.specs.Run.{events}
use Rattle.witness.specs.Unchecked.{unchecked, same_events}
use Rattle.witness.specs.Reached.{each, reaches, reaching, sizes_for, unfreed}

all_reach : all_under 8 (λ k. all_under 4 (λ i. reaches (suc k) (suc i))) ≡ true
unfolding machine_computes unchecked each reaching history_by is_retire is_freed retires freed
all_reach = refl

each_reaches : (t h : ℕ) → 1 ≤ t → t ≤ 8 → 1 ≤ h → h ≤ 4 → reaches t h ≡ true
each_reaches t h low high low' high' =
    from_one 4 (reaches t) (from_one 8 (λ k. all_under 4 (λ i. reaches k (suc i))) all_reach t low high) h low' high'

pub bound_reached : (t h : ℕ) → 1 ≤ t → t ≤ 8 → 1 ≤ h → h ≤ 4
    → let z = sizes t h 1 (t * (h + 1)) in retires (events z (reaching t h)) - freed (events z (reaching t h)) ≡ t * (h + 1)
bound_reached t h low high low' high' =
    let fine = each_reaches t h low high low' high' in
    let good = and_l (in_range (sizes_for t h)) _ fine in
    let is = eqb-true (unfreed (history_by unchecked (fresh_of (sizes_for t h)) (reaching t h))) (t * (h + 1)) (and_r (in_range (sizes_for t h)) _ fine) in
    rw (same_events (sizes_for t h) good (reaching t h)) at is
