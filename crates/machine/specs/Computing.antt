-- The definitions of the machine on `unfolding` lines, each group under one name: a statement that the checker computes names `machine_computes`
-- and not each of them.
use Rattle.basics.specs.Under.{all_under}
use Rattle.basics.specs.Counts.{bit, occurrences, how_many}
use Rattle.basics.specs.Rows.{first_of}
use Rattle.entries.specs.Sizes.{in_range, all_zero}
use Rattle.entries.specs.Phases.{is_idle, carried_by, scans_at, returns_to, looking, swapping, phase_in_range}
use Rattle.entries.specs.Entries.{sizes_good, link_good, thread_in_range, thread_empty, thread_good, slot_in_range, slot_empty, slot_good, tag_good}
use Rattle.pool.specs.Pool.{is_free, first_on, next_of, marked, fresh_pool, taken_out, put_back, free_count, pool_good}
use Rattle.machine.specs.Soundness.{shaped, places_holding, sound}
use Rattle.machine.specs.Fresh.{fresh_of, blank, start_of}
use Rattle.machine.specs.Calls.{take_of, protect_of, expected, swap_of, read_of, retire_of, clear_of}
use Rattle.machine.specs.GoOn.{publish_of, confirm_of, nothing_found, empty_of, sweep_of, drain_of, look_of, hand_over_of, go_on_from, go_on_of}
use Rattle.machine.specs.Answers.{work_of, number_of, numbers_of, verdict_number, refusal_number}
use Rattle.machine.specs.Refusals.{uses_slot, uses_link, uses_tag, unused_not_zero, without_slot, reads_slot, state_rows, field_rows, thread_rows, object_rows, call_rows, refusals, refusal_of}
use Rattle.machine.specs.Step.{done_of, refused_or, step_of}
use Rattle.machine.specs.Count.{five_places, count_of}

unfoldable pub pools_compute : Unit {0}
unfolding is_free first_on next_of marked fresh_pool taken_out put_back free_count pool_good
pools_compute = tt

-- the soundness check, start and the count
unfoldable pub states_compute : Unit {0}
unfolding in_range all_zero is_idle carried_by scans_at returns_to looking swapping phase_in_range all_under bit occurrences how_many shaped sizes_good link_good thread_in_range thread_empty thread_good slot_in_range slot_empty slot_good tag_good places_holding sound fresh_of blank start_of five_places count_of number_of verdict_number
states_compute = tt

-- a step and its answer
unfoldable pub steps_compute : Unit {0}
unfolding take_of protect_of expected swap_of read_of retire_of clear_of publish_of confirm_of nothing_found empty_of sweep_of drain_of look_of hand_over_of go_on_from go_on_of done_of refused_or step_of work_of number_of numbers_of
steps_compute = tt

unfoldable pub refusals_compute : Unit {0}
unfolding first_of uses_slot uses_link uses_tag unused_not_zero without_slot reads_slot state_rows field_rows thread_rows object_rows call_rows refusals refusal_of refusal_number
refusals_compute = tt

unfoldable pub machine_computes : Unit {0}
unfolding pools_compute states_compute steps_compute refusals_compute
machine_computes = tt
