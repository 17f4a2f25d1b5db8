-- `schedule::opening::open` meets its contract. Sizes of 0 are out of range, so starting with them gives the blank state.
use borrow.Author.Rules.{rules}
use mathlib.Core.Path.{◌≡◌}
use Rattle.std.specs.Prelude.{Ok, Err, Result, MatchResult, IsErrAnd}
use Rattle.entries.specs.Sizes.{in_range}
use Rattle.machine.specs.declared.refusal.Refusal.{Refusal}
use Rattle.machine.specs.declared.Started.{Started}
use Rattle.machine.specs.Fresh.{blank, start_of}
use Rattle.schedule.specs.declared.Stop.{Stop}
use Rattle.schedule.specs.declared.Stop.TheVariants as stop
use Rattle.schedule.specs.Opening.{unopened, verdict_of, opened_by, opened_of}
use Rattle.schedule.proofs.opening.open.Goals as goal

none-started : (s : Started) → s ≡ start_of (record { threads = 0; slots = 0; links = 0; objects = 0 }) → s.state ≡ blank
unfolding start_of in_range
none-started s e = rw e

by_map : (v : Result (Unit {0}) Refusal) (r : Result (Unit {0}) Stop) (P : Refusal → Stop → Type 0) → ((e : Refusal) (s : Stop) → P e s → s ≡ stop.Refused e) → MatchResult v (λ x. r ≡ Ok x) (λ e. IsErrAnd r (P e)) → r ≡ verdict_of v
unfolding verdict_of
by_map (Ok done) r P imp h = h
by_map (Err e) (Ok x) P imp h = absurd h
by_map (Err e) (Err s) P imp h = rw (imp e s h)

pub returns-in-Ok : goal.returns-in-Ok
unfolding opened_of opened_by
returns-in-Ok c =
    let verdict : c.map_err.result ≡ verdict_of c.start-started.result.verdict = by_map _ _ _ (λ e s p. search rules) c.map_err.ensures.cases in
    rw (← c.first.ensures, c.in-Ok.is, ← c.start-started.ensures, verdict)

pub returns-in-Err : goal.returns-in-Err
unfolding opened_of opened_by unopened
returns-in-Err c = rw (← c.first.ensures, c.in-Err.is, none-started _ c.start.ensures)
