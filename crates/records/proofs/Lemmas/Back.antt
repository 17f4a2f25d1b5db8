-- From a record to its bytes and back, and from bytes that read as a record to those that writing it gives.
use Rattle.std.specs.Prelude.{ℕ, ◌^◌, ◌≤◌, ◌<◌, ◌≡◌, refl, List, [], ◌∷◌, ◌++◌, true, ◌&&◌, length, get_or, drop, eqb, Ok, Err, Some, None}
use Rattle.std.proofs.Common.{sym, ap, subst, ◌∙◌, append-nil, arith, drop_of_length-le, lit<, eqb-true, le-ltb}
use Rattle.records.specs.declared.SizesRecord.{SizesRecord}
use Rattle.records.specs.declared.StepRecord.{StepRecord}
use Rattle.records.specs.declared.Record.{Record}
use Rattle.records.specs.declared.Record.TheVariants.{Sizes, Step}
use Rattle.records.specs.Marks.{sizes_mark, step_mark, marked}
use Rattle.records.specs.Bytes.{AllBytes, low_first, number_of, sizes_bytes, step_bytes}
use Rattle.records.specs.Reading.{Read, sizes_at, step_at, zeros_at_end, read_of}
use Rattle.records.specs.Rest.{rest_after, rest_of}
use Rattle.records.specs.Writing.{written_of}
use Rattle.records.specs.EitherKind.{record_bytes, read_bytes, GoodRecord}
use Rattle.records.proofs.Lemmas.Digits.{byte_at, low_bytes, run_bytes, number_of_low, low_of_number, number_small}
use Rattle.records.proofs.Lemmas.Front.{run, run_front}
use Rattle.records.proofs.Lemmas.Cases.{both, mark_at, reads_sizes, reads_step, rest_record, Case, sizes, step, at_end_lem, refused, case_of}

-- ---- a record's bytes, with anything after them

pub sizes_back : (r : SizesRecord) (more : List ℕ) → read_of (sizes_bytes r ++ more) ≡ Ok (Some (Sizes r))
unfolding sizes_bytes sizes_at zeros_at_end marked
sizes_back r more = reads_sizes (sizes_bytes r ++ more) (omega arith) refl refl

tag_back : (v : ℕ) → v < 2 ^ 32 → number_of (low_first 4 v) ≡ v
tag_back v h = number_of_low 4 v h

step_at_back : (r : StepRecord) (more : List ℕ) → r.tag < 2 ^ 32 → step_at (step_bytes r ++ more) ≡ r
unfolding step_bytes step_at low_first
step_at_back r more h =
    let e : number_of (low_first 4 r.tag) ≡ r.tag = tag_back r.tag h in
    λ i. record { thread = r.thread; operation = r.operation; slot = r.slot; link = r.link; tag = e i }

pub step_back : (r : StepRecord) (more : List ℕ) → r.tag < 2 ^ 32 → read_of (step_bytes r ++ more) ≡ Ok (Some (Step r))
unfolding step_bytes low_first marked
step_back r more h = reads_step (step_bytes r ++ more) (omega arith) refl ∙ ap (λ (a : StepRecord). Ok (Some (Step a))) (step_at_back r more h)

pub read_back : (a : Record) → GoodRecord a → (more : List ℕ) → read_of (record_bytes a ++ more) ≡ Ok (Some a)
unfolding GoodRecord
read_back (Sizes r) g more = sizes_back r more
read_back (Step r) g more = step_back r more g.4

after_ten : (a : Record) → GoodRecord a → (more : List ℕ) → drop 10 (record_bytes a ++ more) ≡ more
unfolding GoodRecord sizes_bytes step_bytes low_first
after_ten (Sizes r) g more = refl
after_ten (Step r) g more = refl

pub rest_back : (a : Record) → GoodRecord a → (more : List ℕ) → rest_of (record_bytes a ++ more) ≡ more
rest_back a g more = rest_record (record_bytes a ++ more) a (read_back a g more) ∙ after_ten a g more

pub ten_bytes : (a : Record) → GoodRecord a → length (record_bytes a) ≡ 10
unfolding GoodRecord sizes_bytes step_bytes low_first
ten_bytes (Sizes r) g = refl
ten_bytes (Step r) g = refl

pub all_bytes : (a : Record) → GoodRecord a → AllBytes (record_bytes a)
unfolding GoodRecord sizes_bytes step_bytes
all_bytes (Sizes r) g =
    (lit< tt, (lit< tt, (g.0, (g.1, (g.2, (g.3, (lit< tt, (lit< tt, (lit< tt, (lit< tt, tt))))))))))
all_bytes (Step r) g = (lit< tt, (lit< tt, (g.0, (g.1, (g.2, (g.3, low_bytes 4 r.tag))))))

pub same_bytes : (a b : Record) → GoodRecord a → GoodRecord b → record_bytes a ≡ record_bytes b → a ≡ b
same_bytes a b g h e =
    let read : ◌≡◌ {A = Read} (Ok (Some a)) (Ok (Some b)) =
    sym (read_back a g []) ∙ ap (λ (l : List ℕ). read_of (l ++ [])) e ∙ read_back b h [] in
    cc

-- ---- a written buffer

pub written_long : (ten buffer : List ℕ) → 10 ≤ length buffer → written_of ten buffer ≡ ten ++ drop 10 buffer
unfolding written_of
written_long ten buffer h = simp (le-ltb _ _ h)

module _ (a : Record) (good : GoodRecord a) (buffer : List ℕ) (long : 10 ≤ length buffer) where
  pub written_read_back : read_of (written_of (record_bytes a) buffer) ≡ Ok (Some a)
  written_read_back = rw (written_long (record_bytes a) buffer long) (read_back a good (drop 10 buffer))

  pub written_rest : rest_of (written_of (record_bytes a) buffer) ≡ drop 10 buffer
  written_rest = rw (written_long (record_bytes a) buffer long) (rest_back a good (drop 10 buffer))

-- ---- bytes that read as a record

four_zeros : (bs : List ℕ) → zeros_at_end bs ≡ true → run bs 6 4 ≡ 0 ∷ 0 ∷ 0 ∷ 0 ∷ []
unfolding zeros_at_end
four_zeros bs z =
    let at6 = both (eqb (get_or bs 6 0) 0) (eqb (get_or bs 7 0) 0 && (eqb (get_or bs 8 0) 0 && eqb (get_or bs 9 0) 0)) z in
    let at7 = both (eqb (get_or bs 7 0) 0) (eqb (get_or bs 8 0) 0 && eqb (get_or bs 9 0) 0) at6.1 in
    let at8 = both (eqb (get_or bs 8 0) 0) (eqb (get_or bs 9 0) 0) at7.1 in
    cc
    (eqb-true (get_or bs 6 0) 0 at6.0, eqb-true (get_or bs 7 0) 0 at7.0, eqb-true (get_or bs 8 0) 0 at8.0, eqb-true (get_or bs 9 0) 0 at8.1)

sizes_front : (bs : List ℕ) → marked sizes_mark bs ≡ true → zeros_at_end bs ≡ true → sizes_bytes (sizes_at bs) ≡ run bs 0 10
unfolding sizes_bytes sizes_at
sizes_front bs m z =
    let four : run bs 6 4 ≡ 0 ∷ 0 ∷ 0 ∷ 0 ∷ [] = four_zeros bs z in
    let mark : (get_or bs 0 0 ≡ 84) × (get_or bs 1 0 ≡ 83) = mark_at 84 83 bs m in
    cc

step_front : (bs : List ℕ) → AllBytes bs → marked step_mark bs ≡ true → step_bytes (step_at bs) ≡ run bs 0 10
unfolding step_bytes step_at
step_front bs all m =
    let mark : (get_or bs 0 0 ≡ 84) × (get_or bs 1 0 ≡ 75) = mark_at 84 75 bs m in
    cc (low_of_number (run bs 6 4) (run_bytes bs all 6 4))

front_case : (bs : List ℕ) {a : Read} → AllBytes bs → Case bs a → read_bytes a ++ rest_after a bs ≡ bs
unfolding rest_after
front_case bs all (sizes h m z) = ap (λ (l : List ℕ). l ++ drop 10 bs) (sizes_front bs m z) ∙ run_front bs 10 h
front_case bs all (step h m) = ap (λ (l : List ℕ). l ++ drop 10 bs) (step_front bs all m) ∙ run_front bs 10 h
front_case bs all at_end_lem = refl
front_case bs all (refused why) = refl

pub one_form : (bs : List ℕ) → AllBytes bs → read_bytes (read_of bs) ++ rest_of bs ≡ bs
unfolding rest_of
one_form bs all = front_case bs all (case_of bs)

-- where a record was read its fields fit, and of the other answers nothing is said
abbrev GoodIfRecord : Read → Type 0
GoodIfRecord (Ok (Some r)) = GoodRecord r
GoodIfRecord (Ok None) = Unit {0}
GoodIfRecord (Err why) = Unit {0}

good_case : (bs : List ℕ) {a : Read} → AllBytes bs → Case bs a → GoodIfRecord a
unfolding GoodRecord sizes_at step_at
good_case bs all (sizes h m z) = (byte_at bs all 2, byte_at bs all 3, byte_at bs all 4, byte_at bs all 5)
good_case bs all (step h m) =
    (byte_at bs all 2, byte_at bs all 3, byte_at bs all 4, byte_at bs all 5, number_small (run bs 6 4) (run_bytes bs all 6 4))
good_case bs all at_end_lem = tt
good_case bs all (refused why) = tt

pub good_record : (bs : List ℕ) (r : Record) → AllBytes bs → read_of bs ≡ Ok (Some r) → GoodRecord r
good_record bs r all e = subst GoodIfRecord e (good_case bs all (case_of bs))

pub one_form_of_ten : (bs : List ℕ) (a : Record) → AllBytes bs → length bs ≡ 10 → GoodRecord a → read_of bs ≡ Ok (Some a) → bs ≡ record_bytes a
unfolding rest_after
one_form_of_ten bs a all e g is =
    let whole : record_bytes a ++ drop 10 bs ≡ bs = subst (λ (b : Read). read_bytes b ++ rest_after b bs ≡ bs) is (front_case bs all (case_of bs)) in
    let none : drop 10 bs ≡ [] = drop_of_length-le bs {i = 10} (omega arith) in
    sym whole ∙ ap (λ (l : List ℕ). record_bytes a ++ l) none ∙ append-nil (record_bytes a)
