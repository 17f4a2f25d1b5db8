-- "Any two results allowed by it are proved the same", for the public functions whose law does not stand with them: those of `machine`
-- that take a state or sizes are in `laws`, those of `records` and of `reasons::why` in their own Promise.
use Rattle.std.specs.Prelude.{ℕ, ◌+◌, ◌*◌, min, ◌≡◌, Bool, false, not, ◌&&◌, ◌||◌, List, map, length, get_or, drop, ltb, eqb}
use Rattle.std.proofs.Common.{sym, ap, ◌∙◌}
use Rattle.basics.specs.Counts.{bit, how_many, count_under}
use Rattle.basics.specs.Functions.{allowed_once}
use Rattle.basics.specs.Under.{all_under}
use Rattle.pool.specs.declared.Pool.{Pool}
use Rattle.pool.specs.Pool.{pool_of, is_free, object_of, next_of, fresh_pool, taken_out, put_back, free_count, each_once}
use Rattle.entries.specs.declared.Sizes.{Sizes}
use Rattle.entries.specs.declared.Thread.{Thread}
use Rattle.entries.specs.declared.Slot.{Slot}
use Rattle.entries.specs.declared.Phase.{Phase}
use Rattle.entries.specs.Sizes.{within, in_range, positions}
use Rattle.entries.specs.Phases.{is_idle, carried_by, scans_at, returns_to, looking, swapping}
use Rattle.entries.specs.Entries.{idle_thread, empty_slot, is_object, sizes_good, link_good, thread_good, slot_good, tag_good}
use Rattle.places.specs.Row.{row_of}
use Rattle.machine.specs.declared.Answer.{Answer}
use Rattle.machine.specs.Answers as machine
use Rattle.reasons.specs.Numbers as reasons
use Rattle.records.specs.declared.Malformed.{Malformed}
use Rattle.records.specs.declared.NoRoom.{NoRoom}
use Rattle.records.specs.Rest.{rest_of}
use Rattle.text.specs.declared.page.Page.{Page}
use Rattle.text.specs.Decimal.{decimal}
use Rattle.text.specs.Fields.{joined}
use Rattle.text.specs.Words.{filled}
use Rattle.text.specs.Written.{place_after, buffer_after}
use Rattle.text.specs.Paged.{PutOn}
use Rattle.schedule.specs.declared.Stop.{Stop}
use Rattle.schedule.specs.declared.Stop.TheVariants as stop
use Rattle.schedule.specs.Opening.{opened_of}
use Rattle.schedule.specs.Stopping.{stop_number}
use Rattle.schedule.specs.Going as going
use Rattle.schedule.specs.declared.going.Calls.{Calls}
use Rattle.lines.specs.declared.told.Numbers.{Numbers}
use Rattle.lines.specs.Lent as lines
use Rattle.sentences.specs.Lent as sentences
use Rattle.words.specs.declared.Run.{Run}
use Rattle.words.specs.Words.{run_of, word_at, bytes_of}
use Rattle.words.specs.Numbers.{byte_of}
use Rattle.words.specs.Fields.{operation_of, byte_or_zero, slot_of, tag_of}
use Rattle.script.specs.Packing.{no_room, put, pack_of}

-- "the result is f of the argument" allows one result
abbrev pub Once : {A B : Type 0} → (A → B) → Type 0
Once {A} {B} f = (x : A) (r r' : B) → r ≡ f x → r' ≡ f x → r ≡ r'

-- where a buffer is lent: an answer and the buffer's bytes after it, both from the argument, are one answer and the same bytes
abbrev pub LentOnce : {A B : Type 0} → (A → B) → (A → List ℕ) → Type 0
LentOnce {A} {B} answer bytes =
    (x : A) (r r' : B) (after after' : List ℕ) → (r ≡ answer x) × (after ≡ bytes x) → (r' ≡ answer x) × (after' ≡ bytes x)
    → (r ≡ r') × (after ≡ after')

lent_once : {A B : Type 0} (answer : A → B) (bytes : A → List ℕ) → LentOnce answer bytes
lent_once answer bytes x r r' after after' (a, b) (a', b') = (allowed_once answer x r r' a a', allowed_once bytes x after after' b b')

-- ---- lines, sentences, script: each writes a lent buffer

pub run_once : (input : List ℕ) → LentOnce (lines.answer_of input) (lines.buffer_of input)
run_once input = lent_once _ _

-- the answer as numbers: what is asked of the three fields leaves one choice of each
pub numbers_from_once : (answer : Answer) (r r' : Numbers)
    → machine.numbers_of answer ≡ machine.numbers r.number r.a r.b → machine.numbers_of answer ≡ machine.numbers r'.number r'.a r'.b
    → r ≡ r'
numbers_from_once answer r r' e e' = ap (λ n. record { number = n.number; a = n.a; b = n.b }) (sym e ∙ e')

pub tell_once : (input : List ℕ) → LentOnce (sentences.answer_of input) (sentences.buffer_of input)
tell_once input = lent_once _ _

pub pack_once :
    (text : List ℕ) → LentOnce (λ buffer. (pack_of (length buffer) text).said) (λ buffer. put 0 (pack_of (length buffer) text).bytes buffer)
pack_once text = lent_once _ _

pub fault_from_once : Once {A = NoRoom} (λ _. no_room)
fault_from_once = allowed_once _

-- ---- text: each puts bytes into a lent buffer at a place

abbrev pub PutOnce : ℕ → List ℕ → Type 0
PutOnce room bytes = (place : ℕ) → LentOnce (place_after room bytes place) (buffer_after room bytes place)

pub put_bytes_once : (bytes : List ℕ) → PutOnce (length bytes) bytes
put_bytes_once bytes place = lent_once _ _

pub put_line_once : (numbers : List ℕ) → PutOnce (length (joined (map decimal numbers))) (joined (map decimal numbers))
put_line_once numbers place = lent_once _ _

pub put_filled_once : (template numbers : List ℕ) → PutOnce (3 * length template) (filled template numbers)
put_filled_once template numbers place = lent_once _ _

-- the same of pages: what a page is allowed to be after bytes were put on it has one place and one content
pub put_on_once :
    (room : ℕ) (bytes : List ℕ) (before after after' : Page)
    → PutOn room bytes before after → PutOn room bytes before after'
    → (after.at ≡ after'.at) × (after.out.now ≡ after'.out.now)
put_on_once room bytes before after after' p p' =
    lent_once (place_after room bytes before.at) (buffer_after room bytes before.at) before.out.now after.at after'.at after.out.now after'.out.now
    (p.put.next, p.put.buffer) (p'.put.next, p'.put.buffer)

-- a new page has the place that was asked for and the bytes of the buffer that is lent to it
pub page_new_once : (at : ℕ) → LentOnce (λ (_ : List ℕ). at) (λ bytes. bytes)
page_new_once at = lent_once _ _

pub place_once : Once (λ (page : Page). page.at)
place_once = allowed_once _

-- ---- words

pub past_once : (run : Run) (at : ℕ) → Once (λ (text : List ℕ). at + run_of run (drop at text))
past_once run at = allowed_once _

pub word_at_once : (text : List ℕ) → Once (word_at text)
word_at_once text = allowed_once _

pub bytes_of_once : (text : List ℕ) → Once (bytes_of text)
bytes_of_once text = allowed_once _

pub byte_once : Once byte_of
byte_once = allowed_once _

pub operation_of_once : Once operation_of
operation_of_once = allowed_once _

pub byte_or_zero_once : Once byte_or_zero
byte_or_zero_once = allowed_once _

pub slot_of_once : (operation : ℕ) → Once (slot_of operation)
slot_of_once operation = allowed_once _

pub tag_of_once : Once tag_of
tag_of_once = allowed_once _

-- ---- the number of a refusal

pub refusal_number_once : Once machine.number_of
refusal_number_once = allowed_once _

pub not_kept_number_once : Once reasons.number_of
not_kept_number_once = allowed_once _

-- ---- schedule

pub opened_once : Once opened_of
opened_once = allowed_once _

pub stop_number_once : Once stop_number
stop_number_once = allowed_once _

pub stop_from_once : Once {A = Malformed} {B = Stop} (λ why. stop.Malformed why)
stop_from_once = allowed_once _

pub stands_next_once : (steps : ℕ) → Once (going.next_of steps)
stands_next_once steps = allowed_once _

-- ---- entries

pub in_range_once : Once in_range
in_range_once = allowed_once _

pub sizes_good_once : Once sizes_good
sizes_good_once = allowed_once _

pub positions_once : Once positions
positions_once = allowed_once _

pub position_once : (z : Sizes) (thread : ℕ) → Once (λ (slot : ℕ). thread * z.slots + slot)
position_once z thread = allowed_once _

pub within_once : (low high : ℕ) → Once (within low high)
within_once low high = allowed_once _

pub is_idle_once : Once is_idle
is_idle_once = allowed_once _

pub carried_once : Once carried_by
carried_once = allowed_once _

pub scan_position_once : Once scans_at
scan_position_once = allowed_once _

pub returns_to_once : Once returns_to
returns_to_once = allowed_once _

pub looking_once : (back : Phase) (object : ℕ) → Once (looking back object)
looking_once back object = allowed_once _

pub swapping_once : (back : Phase) (object : ℕ) → Once (swapping back object)
swapping_once back object = allowed_once _

-- ---- good

pub links_good_once : (z : Sizes) → Once (λ (links : List ℕ). all_under 16 (λ i. link_good z i (get_or links i 0)))
links_good_once z = allowed_once _

pub threads_good_once : (z : Sizes) → Once (λ (threads : List Thread). all_under 8 (λ t. thread_good z t (get_or threads t idle_thread)))
threads_good_once z = allowed_once _

pub slots_good_once : (z : Sizes) → Once (λ (slots : List Slot). all_under 32 (λ p. slot_good z p (get_or slots p empty_slot)))
slots_good_once z = allowed_once _

pub tags_good_once : (z : Sizes) → Once (λ (tags : List ℕ). all_under 240 (λ k. tag_good z k (get_or tags k 0)))
tags_good_once z = allowed_once _

-- ---- places

pub in_links_once : Once (how_many is_object)
in_links_once = allowed_once _

pub in_hands_once : Once (how_many (λ (thread : Thread). is_object thread.hand))
in_hands_once = allowed_once _

pub in_handovers_once : Once (how_many (λ (slot : Slot). is_object slot.handover))
in_handovers_once = allowed_once _

pub are_carried_once : Once (how_many (λ (thread : Thread). is_object (carried_by thread.phase)))
are_carried_once = allowed_once _

pub row_of_once : (z : Sizes) (links : List ℕ) (threads : List Thread) → Once (row_of z links threads)
row_of_once z links threads = allowed_once _

-- ---- pool

pub fresh_once : Once fresh_pool
fresh_once = allowed_once _

pub next_once : Once next_of
next_once = allowed_once _

-- the object of that number: what `Pool::next` answers
pub next_object_once : Once (λ (pool : Pool). object_of (next_of pool))
next_object_once = allowed_once _

pub is_free_once : (pool : Pool) → Once (is_free pool)
is_free_once pool = allowed_once _

pub take_out_once : (pool : Pool) → Once (taken_out pool)
take_out_once pool = allowed_once _

pub put_back_once : (pool : Pool) → Once (put_back pool)
put_back_once pool = allowed_once _

pub count_once : Once free_count
count_once = allowed_once _

pub are_placed_once :
    (objects : ℕ) (marks : List Bool)
    → Once (λ (row : List ℕ).
    all_under 240 (λ k. ltb k objects || not (get_or marks k false)) && each_once objects (pool_of marks) row)
are_placed_once objects marks = allowed_once _

-- ---- basics

pub bit_once : Once bit
bit_once = allowed_once _

pub least_once : (a : ℕ) → Once (min a)
least_once a = allowed_once _

pub in_one_place_once : (object : ℕ) (free : Bool) → Once (λ (row : List ℕ). eqb (bit free + count_under 64 (λ i. eqb (get_or row i 0) object)) 1)
in_one_place_once object free = allowed_once _

pub wide_once : Once {A = ℕ} (λ x. x)
wide_once = allowed_once _

-- ---- the calls of a run, one after the other

-- no call has come, and what is left are the bytes after the input's first record
pub calls_new_once : LentOnce {A = List ℕ} {B = ℕ} (λ _. 0) rest_of
calls_new_once = lent_once _ _

-- what stands next, how many calls came then, and the bytes that are left
pub calls_next_once :
    (steps : ℕ) → LentOnce {B = going.Next × ℕ} (λ left. (going.next_of steps left, going.steps_after (going.next_of steps left) steps)) (λ left. going.left_after (going.next_of steps left) left)
calls_next_once steps = lent_once _ _

pub calls_steps_once : Once (λ (calls : Calls). calls.steps)
calls_steps_once = allowed_once _
