-- The table of specs/Explained, computed: it is as expected.
use Rattle.std.specs.Prelude.{refl}
use Rattle.std.proofs.Math.Path.{subst⁻¹}
use Rattle.machine.specs.Step.{done_of, step_of}
use Rattle.edges.specs.Lemmas.Computing.{computing}
use Rattle.edges.specs.Lemmas.Quick.{quickly, step_is_quick, quick_computes}
use Rattle.promise.specs.History.{state_by}
use Rattle.basics.specs.First.{first_from}
use Rattle.reasons.specs.Reasons.{guard_of, link_with, hand_with, carrier_of, handover_with, reason_of, hazard_at, hazard_of, refusals, refusal_of, why_of}
use Rattle.reasons.specs.Numbers.{guard_number, reason_number, reason_a, reason_b, hazard_number, hazard_position, number_of, numbers_of}
use Rattle.witness.specs.Explained.{AsExpected, rows_of}

quickly_explained : AsExpected (quickly done_of)
unfolding rows_of computing quick_computes state_by first_from guard_of link_with hand_with carrier_of handover_with reason_of hazard_at hazard_of refusals refusal_of why_of guard_number reason_number reason_a reason_b hazard_number hazard_position number_of numbers_of
quickly_explained = refl

pub explained : AsExpected step_of
explained = subst⁻¹ AsExpected step_is_quick quickly_explained
