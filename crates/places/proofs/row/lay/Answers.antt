-- `lay` meets its contract: a turn lays one more number.
use Rattle.std.proofs.Common.{◌≡◌, ◌<◌, ◌≤◌, ℕ, zero, suc, List, [], ◌∷◌, map, arith, rules, ap, length, get_or, ◌∙◌}
use Rattle.std.proofs.Math.Seq.{paste, paste-zero}
use Rattle.std.proofs.lemmas.List.{length-map, length-take-le, get_or-take}
use Rattle.places.specs.Lemmas.Laying.{laid_more}
use Rattle.places.proofs.row.lay.Goals as goal

-- what is read of the element that is there
read_at : {A : Type 0} (f : A → ℕ) (xs : List A) (i : ℕ) (x : A) → i < length xs → x ≡ get_or xs i x → f x ≡ get_or (map f xs) i 0
read_at f [] i x inside e = absurd (omega arith)
read_at f (y ∷ xs) zero x inside e = ap f e
read_at f (y ∷ xs) (suc i) x inside e = read_at f xs i x (omega arith) e

pub loop-i-init : goal.loop-i-init
loop-i-init g c = (search rules, λ number reads. paste-zero c.args.row.now c.args.from (map number c.args.entries))

pub loop-i-preserved : goal.loop-i-preserved
loop-i-preserved g c = (
  search rules,
  λ number reads.
      let a = c.args in
      let i = c.loop-i.i in
      let x = c.x-item.result in
      let all : a.end ≤ length a.entries = search rules in
      let front = length-take-le a.end a.entries all in
      let inside : i < a.end = omega arith in
      laid_more a.row.now a.from (map number a.entries) i (c.loop-i.invariant.1 number reads)
      (reads x c.read.result c.read.ensures ∙ read_at number a.entries i x (omega arith) (c.x-item.is ∙ get_or-take a.end a.entries i x inside))
      (omega arith)
      (omega (arith, length-map a.entries number)),
)

pub returns : goal.returns
returns g c = λ number reads.
    let a = c.args in
    let all : a.end ≤ length a.entries = search rules in
    let front = length-take-le a.end a.entries all in
    let end : c.loop-i.i ≡ a.end = omega arith in
    c.loop-i.invariant.1 number reads ∙ ap (paste a.row.now a.from (map number a.entries)) end
