-- `lines::run` meets its contract: where there is room, what `put_text` puts on a page at the buffer's front.
use Rattle.std.proofs.Common.{ℕ, ◌≤◌, ◌≡◌, List, length, ◌∙◌, zero-add, zero-le, arith, lt-ltb, le-ltb, rules}
use Rattle.text.specs.Written.{Appended, written}
use Rattle.text.specs.Appending.{had_room}
use Rattle.lines.specs.Lent.{room_for_all, answer_of, buffer_of}
use Rattle.lines.specs.Run.{text_of}
use Rattle.lines.proofs.run.Goals as goal

pub returns-then-out-lt-ROOM : goal.returns-then-out-lt-ROOM
unfolding answer_of buffer_of
returns-then-out-lt-ROOM c = record {
  answer = simp (lt-ltb (length c.args.out.now) room_for_all (omega arith));
  within = omega arith;
  bytes = simp (lt-ltb (length c.args.out.now) room_for_all (omega arith));
}

-- the text at the front of a buffer that has the room
module _ (input before : List ℕ) (room : room_for_all ≤ length before) {after : List ℕ} {answer : ℕ} (a : Appended before 0 (text_of input) after answer) where
  answer_whole : answer ≡ answer_of input before
  unfolding answer_of
  answer_whole = simp (le-ltb (length before) room_for_all room) (a.next ∙ zero-add _)

  buffer_whole : after ≡ buffer_of input before
  unfolding buffer_of written
  buffer_whole = simp (le-ltb (length before) room_for_all room) (a.buffer ∙ rw zero-add)

pub returns : goal.returns
returns c =
    let page = c.new-page.ensures in
    let put = rw (page.bytes, page.place) at c.put_text.ensures.written in
    let same : (after : List ℕ) → after ≡ c.put_text.new.page.out.now → Appended c.args.out.now 0 (text_of c.args.input.now) after c.place.result = λ after e. rw (e, c.place.ensures) put in
    record {
      answer = rw c.place.ensures (answer_whole c.args.input.now c.args.out.now (omega arith) put);
      within = had_room (same _ (search rules)) zero-le (search rules);
      bytes = buffer_whole c.args.input.now c.args.out.now (omega arith) (same _ (search rules));
    }
