-- What is promised of schedule records. Each proof is a name; the lemmas are in `Lemmas`.
use Rattle.std.specs.Prelude.{ℕ, ◌≤◌, ◌≡◌, refl, List, [], ◌∷◌, ◌++◌, length, drop, replicate, Ok, Some}
use Rattle.records.specs.declared.SizesRecord.{SizesRecord}
use Rattle.records.specs.declared.StepRecord.{StepRecord}
use Rattle.records.specs.Promise.{largest_tag}
use Rattle.records.specs.declared.Record.{Record}
use Rattle.records.specs.declared.Record.TheVariants.{Sizes, Step}
use Rattle.records.specs.declared.Malformed.{Malformed}
use Rattle.records.specs.declared.NoRoom.{NoRoom}
use Rattle.basics.specs.Functions.{allowed_once}
use Rattle.records.specs.Marks.{marked}
use Rattle.records.specs.Bytes.{AllBytes, low_first, number_of, step_bytes}
use Rattle.records.specs.Reading.{Read, step_at, read_of}
use Rattle.records.specs.Rest.{rest_of}
use Rattle.records.specs.Writing.{Written, answer_of, written_of}
use Rattle.records.specs.Numbers.{malformed_number, no_room_number, numbers_of, numbers_of_written}
use Rattle.records.specs.EitherKind.{record_bytes, read_bytes, GoodRecord}
use Rattle.records.proofs.Lemmas.Back as back
use Rattle.records.proofs.Lemmas.Told as told

-- ---- a record and its bytes

-- "Ten bytes each": a good record of either kind has ten bytes, each below 256.
pub ten_bytes_each : (a : Record) → GoodRecord a → (length (record_bytes a) ≡ 10) × AllBytes (record_bytes a)
ten_bytes_each a good = (back.ten_bytes a good, back.all_bytes a good)

-- Round trip: a good record's bytes, with any bytes after them, are read as that record, and those after them are the rest.
pub read_back : (a : Record) → GoodRecord a → (more : List ℕ) → read_of (record_bytes a ++ more) ≡ Ok (Some a)
read_back = back.read_back

pub rest_back : (a : Record) → GoodRecord a → (more : List ℕ) → rest_of (record_bytes a ++ more) ≡ more
rest_back = back.rest_back

-- What is read from bytes fits.
pub read_sizes_good : (input : List ℕ) (r : SizesRecord) → AllBytes input → read_of input ≡ Ok (Some (Sizes r)) → GoodRecord (Sizes r)
read_sizes_good input r all e = back.good_record input (Sizes r) all e

pub read_step_good : (input : List ℕ) (r : StepRecord) → AllBytes input → read_of input ≡ Ok (Some (Step r)) → GoodRecord (Step r)
read_step_good input r all e = back.good_record input (Step r) all e

-- One byte form: input is what writing the record that was read gives, and then the rest. At the end and at a refusal it is the rest alone.
pub one_form : (input : List ℕ) → AllBytes input → read_bytes (read_of input) ++ rest_of input ≡ input
one_form = back.one_form

-- The same of ten bytes: those that are read as a good record are its bytes, and no others.
pub one_form_of_ten : (input : List ℕ) (a : Record) → AllBytes input → length input ≡ 10 → GoodRecord a → read_of input ≡ Ok (Some a) → input ≡ record_bytes a
one_form_of_ten = back.one_form_of_ten

-- Two good records of either kind with the same bytes are the same record.
pub same_bytes : (a b : Record) → GoodRecord a → GoodRecord b → record_bytes a ≡ record_bytes b → a ≡ b
same_bytes = back.same_bytes

-- ---- a written buffer

-- Reading a buffer of ten bytes or more into which a good record was written gives that record, and the untouched bytes as the rest.
pub written_read_back : (a : Record) → GoodRecord a → (buffer : List ℕ) → 10 ≤ length buffer → read_of (written_of (record_bytes a) buffer) ≡ Ok (Some a)
written_read_back = back.written_read_back

pub written_rest : (a : Record) → GoodRecord a → (buffer : List ℕ) → 10 ≤ length buffer → rest_of (written_of (record_bytes a) buffer) ≡ drop 10 buffer
written_rest = back.written_rest

-- ---- what a statement allows is one thing

-- Any two results that a contract of the form "result ≡ definition" allows are the same, by one law.

pub read_once : (input : List ℕ) (r s : Read) → r ≡ read_of input → s ≡ read_of input → r ≡ s
read_once = allowed_once read_of

pub rest_once : (input r s : List ℕ) → r ≡ rest_of input → s ≡ rest_of input → r ≡ s
rest_once = allowed_once rest_of

pub answer_once : (buffer : List ℕ) (r s : Written) → r ≡ answer_of buffer → s ≡ answer_of buffer → r ≡ s
answer_once = allowed_once answer_of

pub written_once : (ten buffer r s : List ℕ) → r ≡ written_of ten buffer → s ≡ written_of ten buffer → r ≡ s
written_once ten = allowed_once (written_of ten)

pub malformed_number_once : (why : Malformed) (r s : ℕ) → r ≡ malformed_number why → s ≡ malformed_number why → r ≡ s
malformed_number_once = allowed_once malformed_number

pub no_room_number_once : (none : NoRoom) (r s : ℕ) → r ≡ no_room_number none → s ≡ no_room_number none → r ≡ s
no_room_number_once = allowed_once no_room_number

-- The numbers of an answer tell the whole answer.
pub numbers_tell : (a b : Read) → numbers_of a ≡ numbers_of b → a ≡ b
numbers_tell = told.told

pub numbers_tell_written : (a b : Written) → numbers_of_written a ≡ numbers_of_written b → a ≡ b
numbers_tell_written = told.told_written

-- ---- edges

-- "(11) nine bytes: 40", of any nine bytes
pub edge_11 : (input : List ℕ) → length input ≡ 9 → numbers_of (read_of input) ≡ 40 ∷ []
edge_11 = told.nine_bytes

-- nine bytes of a step record, computed
pub edge_11_computed : numbers_of (read_of (84 ∷ 75 ∷ 0 ∷ 1 ∷ 0 ∷ 0 ∷ 245 ∷ 1 ∷ 0 ∷ [])) ≡ 40 ∷ []
unfolding numbers_of malformed_number read_of
edge_11_computed = refl

-- "(12) tag 4294967295 written and read"
pub edge_12_bytes : step_bytes largest_tag ≡ 84 ∷ 75 ∷ 0 ∷ 1 ∷ 0 ∷ 0 ∷ 255 ∷ 255 ∷ 255 ∷ 255 ∷ []
unfolding step_bytes low_first
edge_12_bytes = refl

pub edge_12 : numbers_of (read_of (written_of (step_bytes largest_tag) (replicate 10 0))) ≡ 84 ∷ 75 ∷ 0 ∷ 1 ∷ 0 ∷ 0 ∷ 4294967295 ∷ []
unfolding numbers_of read_of marked step_at number_of written_of step_bytes low_first
edge_12 = refl
