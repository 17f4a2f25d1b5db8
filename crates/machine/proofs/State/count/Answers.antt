-- `count` meets its contract: on a sound state each place's own count, and on another the refusal.
use Rattle.std.proofs.Common.{sym, ◌∙◌}
use Rattle.machine.specs.Count.{five_places, count_of}
use Rattle.machine.proofs.State.count.Goals as goal

pub returns-then-not-parts_sound : goal.returns-then-not-parts_sound
unfolding count_of
returns-then-not-parts_sound c = let h = c.default.ensures in rw (sym c.parts_sound.ensures ∙ c.if-not-parts_sound.true, h.0, h.1.0, h.1.1.0, h.1.1.1.0, h.1.1.1.1)

pub returns : goal.returns
unfolding count_of five_places
returns c = rw (
  sym c.parts_sound.ensures ∙ c.if-not-parts_sound.false,
  c.are_carried.ensures,
  c.in_handovers.ensures,
  c.in_hands.ensures,
  c.in_links.ensures,
  c.count.ensures,
)
