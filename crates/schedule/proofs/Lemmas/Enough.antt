-- Bytes past those that a run can look at make no difference to what an input says.
use Rattle.std.specs.Prelude.{ℕ, zero, suc, ◌+◌, ◌*◌, ◌≤◌, ◌<◌, ◌≡◌, length, get_or, take, drop, Ok, Err, Some, None}
use Rattle.std.proofs.Math.Path.{refl}
use Rattle.std.proofs.Common.{sym, ap, ◌∙◌, zero-add, suc-add, arith, take_all, get_or-take, length-take-le}
use Rattle.std.proofs.Math.Bool.{cond}
use mathlib.Core.List.{List, [], ◌∷◌}
use Rattle.std.proofs.Math.Decide.{dec_le}
use Rattle.std.proofs.Math.Seq.{take-nil}
use borrow.Author.Tests.{ne_eqb, le-ltb}
use Rattle.entries.specs.declared.Sizes as entries
use Rattle.entries.specs.Sizes.{in_range}
use Rattle.machine.specs.declared.Call.{Call}
use Rattle.records.specs.declared.Record.TheVariants.{Sizes, Step}
use Rattle.records.specs.Marks.{marked}
use Rattle.records.specs.Reading.{Read, sizes_at, step_at, zeros_at_end, read_of}
use Rattle.records.specs.Rest.{rest_after, rest_of}
use Rattle.schedule.specs.Said.{sizes_of, call_of}
use Rattle.schedule.specs.Input.{calls_at, calls_up_to, after, ending_at, run, no_run, sized, begun, input_of, input_for_all}

-- ten bytes are enough for a reading
module _ (n : ℕ) (bs : List ℕ) (ten : 10 ≤ n) (long : n < length bs) where
  at_front : (i : ℕ) → i < 10 → get_or (take n bs) i 0 ≡ get_or bs i 0
  at_front i h = get_or-take n bs i 0 (omega arith)

  long_take : 10 ≤ length (take n bs)
  long_take = rw (length-take-le n bs (omega arith)) ten

  read_front : read_of (take n bs) ≡ read_of bs
  unfolding read_of marked zeros_at_end sizes_at step_at
  read_front =
      simp (
        ne_eqb (length (take n bs)) 0 (λ e. omega (arith, long_take)),
        ne_eqb (length bs) 0 (λ e. omega arith),
        le-ltb (length (take n bs)) 10 long_take,
        le-ltb (length bs) 10 (omega arith),
        at_front 0 (omega arith),
        at_front 1 (omega arith),
        at_front 2 (omega arith),
        at_front 3 (omega arith),
        at_front 4 (omega arith),
        at_front 5 (omega arith),
        at_front 6 (omega arith),
        at_front 7 (omega arith),
        at_front 8 (omega arith),
        at_front 9 (omega arith),
      )

read_by : (n : ℕ) (bs : List ℕ) → 10 ≤ n → Dec (length bs ≤ n) → read_of (take n bs) ≡ read_of bs
read_by n bs ten (yes all) = ap read_of (take_all n bs all)
read_by n bs ten (no more) = read_front n bs ten (omega arith)

read_same : (n : ℕ) (bs : List ℕ) → 10 ≤ n → read_of (take n bs) ≡ read_of bs
read_same n bs ten = read_by n bs ten (dec_le (length bs) n)

drop_take : (k n : ℕ) (bs : List ℕ) → drop k (take (k + n) bs) ≡ take n (drop k bs)
drop_take zero n bs = rw zero-add
drop_take (suc k) n [] = rw (suc-add, take-nil)
drop_take (suc k) n (b ∷ bs) = rw suc-add (drop_take k n bs)

-- after a record of either kind, the bytes left of a part are a part of the bytes left
rest_same : (n : ℕ) (bs : List ℕ) (found : Read) → read_of bs ≡ found → ((l : List ℕ) → rest_after found l ≡ drop 10 l) → rest_of (take (10 + n) bs) ≡ take n (rest_of bs)
unfolding rest_of
rest_same n bs found e after =
    rw (read_same (10 + n) bs (omega arith), e, after (take (10 + n) bs), after bs) (drop_take 10 n bs)

-- the calls at the front of the bytes, of at most so many, and what is read after them
abbrev Ran : ℕ → List ℕ → List Call × Read
Ran most bytes = (calls_up_to most bytes, read_of (after (length (calls_up_to most bytes)) bytes))

-- by the first record; `more` has those after a step
abbrev ran_at : Read → List Call × Read → List Call × Read
ran_at (Ok (Some (Step r))) more = (call_of r ∷ more.0, more.1)
ran_at (Ok (Some (Sizes r))) more = ([], Ok (Some (Sizes r)))
ran_at (Ok None) more = ([], Ok None)
ran_at (Err why) more = ([], Err why)

ran_at_lem : (bytes : List ℕ) (calls : List Call) (found : Read) → read_of bytes ≡ found → ◌≡◌ {A = List Call × Read} (calls_at found calls, read_of (after (length (calls_at found calls)) bytes)) (ran_at found (calls, read_of (after (length calls) (rest_of bytes))))
unfolding calls_at after
ran_at_lem bytes calls (Ok (Some (Sizes r))) e = rw e
ran_at_lem bytes calls (Ok (Some (Step r))) e = refl
ran_at_lem bytes calls (Ok None) e = rw e
ran_at_lem bytes calls (Err why) e = rw e

ran_next : (most : ℕ) (bytes : List ℕ) (found : Read) → read_of bytes ≡ found → Ran (suc most) bytes ≡ ran_at found (Ran most (rest_of bytes))
unfolding calls_up_to
ran_next most bytes found e = rw e (ran_at_lem bytes (calls_up_to most (rest_of bytes)) found e)

at_same : (n : ℕ) (bytes : List ℕ) (more : List Call × Read) (other : List ℕ → List Call × Read) (found : Read) → read_of bytes ≡ found → other (take n (rest_of bytes)) ≡ more → ran_at found (other (rest_of (take (10 + n) bytes))) ≡ ran_at found more
unfolding rest_after
at_same n bytes more other (Ok (Some (Sizes r))) e h = refl
at_same n bytes more other (Ok (Some (Step r))) e h = rw (rest_same n bytes (Ok (Some (Step r))) e (λ l. refl), h)
at_same n bytes more other (Ok None) e h = refl
at_same n bytes more other (Err why) e h = refl

ran_same : (most : ℕ) (bytes : List ℕ) → Ran most (take (10 * suc most) bytes) ≡ Ran most bytes
unfolding calls_up_to after
ran_same zero bytes = rw (read_same 10 bytes (omega arith))
ran_same (suc most) bytes =
    let record_more : 10 * suc (suc most) ≡ 10 + 10 * suc most = omega arith in
    let found = read_of bytes in
    rw record_more
    (ran_next most (take (10 + 10 * suc most) bytes) found (read_same (10 + 10 * suc most) bytes (omega arith)) ∙
    at_same (10 * suc most) bytes (Ran most (rest_of bytes)) (Ran most) found refl (ran_same most (rest_of bytes)) ∙
    sym (ran_next most bytes found refl))

module _ (n : ℕ) (all : n ≡ 10 * 6001) where
  sized_same : (z : entries.Sizes) (rest : List ℕ) → sized z (take n rest) ≡ sized z rest
  unfolding sized
  sized_same z rest =
      rw all
      (ap (λ (ran : List Call × Read). cond (in_range z) (run z ran.0 (ending_at ran.1)) (no_run 20)) (ran_same 6000 rest))

  begun_same : (input : List ℕ) (found : Read) → read_of input ≡ found → begun found (rest_of (take (10 + n) input)) ≡ begun found (rest_of input)
  unfolding begun rest_after
  begun_same input (Ok (Some (Sizes r))) e = rw (rest_same n input (Ok (Some (Sizes r))) e (λ l. refl)) (sized_same (sizes_of r) (rest_of input))
  begun_same input (Ok (Some (Step r))) e = refl
  begun_same input (Ok None) e = refl
  begun_same input (Err why) e = refl

  input_same : (input : List ℕ) → input_of (take (10 + n) input) ≡ input_of input
  unfolding input_of
  input_same input = rw (read_same (10 + n) input (omega arith)) (begun_same input (read_of input) refl)

pub enough_read : (input : List ℕ) → input_of (take input_for_all input) ≡ input_of input
enough_read input = input_same (10 * 6001) refl input
