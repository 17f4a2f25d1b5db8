-- The lines of a state's objects, one after the other: the next object's is written, and none is left after the last.
use Rattle.std.proofs.Common.{ℕ, suc, ◌+◌, ◌-◌, ◌*◌, ◌≤◌, ◌<◌, ◌≡◌, ◌++◌, arith}
use Rattle.machine.specs.declared.State.{State}
use Rattle.reasons.specs.Reasons.{why_of}
use Rattle.text.specs.declared.page.Page.{Page}
use Rattle.text.specs.Paged.{HasRoom, Wrote, WroteWithin}
use Rattle.text.specs.Paging.{Leads, none, leads_start, leads_on, leads_end}
use Rattle.sentences.specs.Lent.{line_room, room_for_all}
use Rattle.sentences.specs.Sentence.{line_of}
use Rattle.sentences.specs.Told.{lines_from, lines_of}

module _ (s : State) where
  -- What is known where the line of this object is the next: its line and those after it are still to come, and each so far took at most
  -- 480 bytes.
  abbrev pub Coming : Page → Page → ℕ → Type 0
  Coming before page object =
      (page.at + line_room ≤ line_room * object) ×
      Leads page (lines_from s object (s.sizes.objects + 1 - object)) before (lines_of s)

  pub at_first : (page : Page) → page.at ≡ 0 → Coming page page 1
  unfolding lines_of
  at_first page front =
      let all : s.sizes.objects + 1 - 1 ≡ s.sizes.objects = omega arith in
      (omega arith, rw all (leads_start _ _))

  module _ {before page : Page} {object : ℕ} (g : Coming before page object) (room : HasRoom room_for_all before) (front : before.at ≡ 0) where
    pub room_on : object < 256 → HasRoom line_room page
    room_on byte = omega (arith, g.1.leads.size)

    pub on_line :
        {after : Page} → object ≤ s.sizes.objects → object < 256 →
        WroteWithin line_room page (line_of s.sizes.slots object (why_of s object)) after →
        Coming before after (object + 1)
    unfolding lines_from
    on_line inside byte line =
        let more : s.sizes.objects + 1 - object ≡ suc (s.sizes.objects + 1 - (object + 1)) = omega arith in
        let turn :
        lines_from s object (s.sizes.objects + 1 - object) ≡
        line_of s.sizes.slots object (why_of s object) ++ lines_from s (object + 1) (s.sizes.objects + 1 - (object + 1)) =
        rw more in
        (omega (arith, line.within, line.wrote.written.next), leads_on g.1 turn (omega (arith, line.within, room_on byte)) line.wrote)

    pub at_end : s.sizes.objects < object → Wrote before (lines_of s) page
    unfolding lines_from
    at_end past =
        let no_more : s.sizes.objects + 1 - object ≡ 0 = omega arith in
        leads_end (rw no_more at g.1) (none _)
