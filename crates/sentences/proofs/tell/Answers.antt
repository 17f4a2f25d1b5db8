-- `sentences::tell` meets its contract: where there is room and the run ends, what `put_lines` puts on a page at the buffer's front.
use Rattle.std.proofs.Common.{ℕ, ◌≤◌, ◌≡◌, List, [], length, ◌∙◌, rules, zero-add, zero-le, arith, lt-ltb, le-ltb}
use Rattle.machine.specs.declared.State.{State}
use Rattle.text.specs.Nothing.{nothing}
use Rattle.text.specs.Written.{Appended, written}
use Rattle.text.specs.Appending.{had_room}
use Rattle.sentences.specs.Ends.{ended, stopped, end_of}
use Rattle.sentences.specs.Lent.{room_for_all, answer_of, buffer_of}
use Rattle.sentences.specs.Told.{text_at, text_of, lines_of}
use Rattle.sentences.proofs.tell.Goals as goal

pub returns-then-out-lt-ROOM : goal.returns-then-out-lt-ROOM
unfolding answer_of buffer_of
returns-then-out-lt-ROOM c = record {
  answer = simp (lt-ltb (length c.args.out.now) room_for_all (omega arith));
  within = omega arith;
  bytes = simp (lt-ltb (length c.args.out.now) room_for_all (omega arith));
}

-- the text at the front of a buffer that has the room
module _ (input before : List ℕ) (room : room_for_all ≤ length before) {after : List ℕ} {answer : ℕ} (a : Appended before 0 (text_of input) after answer) where
  answer_whole : answer ≡ answer_of input before
  unfolding answer_of
  answer_whole = simp (le-ltb (length before) room_for_all room) (a.next ∙ zero-add _)

  buffer_whole : after ≡ buffer_of input before
  unfolding buffer_of written
  buffer_whole = simp (le-ltb (length before) room_for_all room) (a.buffer ∙ rw zero-add)

-- a run that stops has no text, and one that ends has the lines of its state
no_text : (input : List ℕ) → end_of input ≡ stopped → text_of input ≡ []
unfolding text_of text_at
no_text input e = rw e

text_ended : (input : List ℕ) (s : State) → end_of input ≡ ended s → text_of input ≡ lines_of s
unfolding text_of text_at
text_ended input s e = rw e

pub returns-in_default : goal.returns-in_default
returns-in_default c =
    let none = rw (← no_text c.args.input.now c.in_default.ensures) at (nothing c.args.out.now 0) in
    record {
      answer = answer_whole c.args.input.now c.args.out.now (omega arith) none;
      within = zero-le;
      bytes = buffer_whole c.args.input.now c.args.out.now (omega arith) none;
    }

pub returns : goal.returns
returns c =
    let page = c.new-page.ensures in
    let put = rw (page.bytes, page.place, ← text_ended c.args.input.now c.in-Ok.state c.in-Ok.ensures) at c.put_lines.ensures.written in
    let same : (after : List ℕ) → after ≡ c.put_lines.new.page.out.now → Appended c.args.out.now 0 (text_of c.args.input.now) after c.place.result =
    λ after e. rw (e, c.place.ensures) put in
    record {
      answer = rw c.place.ensures (answer_whole c.args.input.now c.args.out.now (omega arith) put);
      within = had_room (same _ (search rules)) zero-le (search rules);
      bytes = buffer_whole c.args.input.now c.args.out.now (omega arith) (same _ (search rules));
    }
