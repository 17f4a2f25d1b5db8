-- The sentence that says why an object is still here. "names its reason for being kept: in a link, in a hand, carried by a thread with its
-- position, or left in a handover. For a handover it says whether that slot's hazard is the object and protected, is the object and only
-- published, or is something else. It also names the first position in scan order that holds it as a hazard, or none."
use Rattle.std.specs.Prelude.{ℕ, ◌/◌, ◌%◌, cond, List, [], ◌∷◌, ◌++◌, eqb, Option, None, Some, Result, Ok, Err}
use Rattle.reasons.specs.declared.Guard.{Guard}
use Rattle.reasons.specs.declared.Guard.TheVariants as guard
use Rattle.reasons.specs.declared.Reason.{Reason}
use Rattle.reasons.specs.declared.Reason.TheVariants.{Link, Hand, Carried, Handover}
use Rattle.reasons.specs.declared.Kept.{Kept}
use Rattle.reasons.specs.declared.NotKept.{NotKept}
use Rattle.text.specs.Words.{words}

-- "A slot's position is thread × H + slot". Without slots, where there is no position, both are 0.

unfoldable pub thread_of : ℕ → ℕ → ℕ
thread_of slots position = cond (eqb slots 0) 0 (position / slots)

unfoldable pub slot_of : ℕ → ℕ → ℕ
slot_of slots position = cond (eqb slots 0) 0 (position % slots)

unfoldable pub guard_words : Guard → List ℕ
guard_words guard.Protected = words "whose hazard is this object, protected" []
guard_words guard.Published = words "whose hazard is this object, only published" []
guard_words guard.Otherwise = words "whose hazard is something else" []

module _ (slots : ℕ) where
  unfoldable pub reason_words : ℕ → Reason → List ℕ
  reason_words object (Link link) = words "object % is in link %" (object ∷ link ∷ [])
  reason_words object (Hand thread) = words "object % is in the hand of thread %" (object ∷ thread ∷ [])
  reason_words object (Carried thread position) =
      words "object % is carried by thread %, its scan at position %" (object ∷ thread ∷ position ∷ [])
  reason_words object (Handover position guard) =
      words "object % was left in the handover of position % (thread %, slot %), "
      (object ∷ position ∷ thread_of slots position ∷ slot_of slots position ∷ []) ++
      guard_words guard

  unfoldable pub hazard_words : Option ℕ → List ℕ
  hazard_words (Some position) =
      words "; first hazard: position % (thread %, slot %)\n"
      (position ∷ thread_of slots position ∷ slot_of slots position ∷ [])
  hazard_words None = words "; no hazard\n" []

  -- the line of an object; none of one that is free or is no object
  unfoldable pub line_of : ℕ → Result Kept NotKept → List ℕ
  line_of object (Ok kept) = reason_words object kept.reason ++ hazard_words kept.hazard
  line_of object (Err refusal) = []
