-- `pack` meets its contract. The invariant is `Going`: the records so far stand at the buffer's front, and what is to come
-- is what the lines from here on give; and the buffer in `buffer` is still the one lent. The measure is what is left of the text.
use Rattle.std.proofs.Common.{rules, refl, ap, ◌∙◌, ◌≡◌, Ok, Err}
use Rattle.std.specs.Result.{result_map_both}
use Rattle.script.specs.declared.Fault.{Fault}
use Rattle.script.specs.Packing.{wrong}
use Rattle.script.proofs.Going.{going_start, going_on, going_wrong, going_none, going_end}
use Rattle.script.proofs.packing.pack.Goals as goal

pub loop-at-init : goal.loop-at-init
loop-at-init c = (refl, going_start _ _)

pub returns-in_err-map_err : goal.returns-in_err-map_err
returns-in_err-map_err c =
    let call = c.take_line in
    let why : (fault : Fault) × (call.result ≡ Err fault) × (c.from_residual.result ≡ Err (wrong c.loop-at.line fault)) = search rules in
    let took_at = result_map_both (λ _. call.new.self.full) (λ fault. fault) in
    let all = going_wrong _ _ _ _ _ _ c.loop-at.invariant.1 c.loop-at-test.true why.0 _ _ call.ensures.bytes call.ensures.took (ap took_at why.1) in
    record { said = rw why.2 all.0; within = rw why.2 all.1.0; bytes = search rules }

pub loop-at-preserved : goal.loop-at-preserved
loop-at-preserved c =
    let call = c.take_line in
    let next = c.next_line-at in
    let is_ok : call.result ≡ Ok tt = search rules in
    let took_at = result_map_both (λ _. call.new.self.full) (λ fault. fault) in (
      call.ensures.same ∙ c.loop-at.invariant.0,
      going_on _ _ _ _ _ _ c.loop-at.invariant.1 c.loop-at-test.true _ _ _ call.ensures.bytes call.ensures.took (ap took_at is_ok) _ next.ensures.place next.ensures.later,
    )

pub returns-then-buffer-eq0 : goal.returns-then-buffer-eq0
returns-then-buffer-eq0 c =
    let all = going_none _ _ _ _ _ _ c.loop-at.invariant.1 c.loop-at-test.false c.if-buffer-eq0.true in
    record { said = rw c.of_no_word-fault.ensures all.0; within = all.1.0; bytes = search rules }

pub returns : goal.returns
returns c =
    let all = going_end _ _ _ _ _ _ c.loop-at.invariant.1 c.loop-at-test.false c.if-buffer-eq0.false in
    record { said = all.0; within = all.1.0; bytes = search rules }
