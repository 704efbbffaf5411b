-- Document 01, "Runs to hold it against": the runs marked (P), and those for requests 2026-03 and 2026-05, hold, "proved together as one table with a single statement". Assumes nothing.
-- antt computes every run of specs/Table.antt by the definitions, so the proof names all of them and is then one word.
use mathlib.Core.Path.{◌≡◌, refl}
use mathlib.Core.Bool.{true}
use lib.Count.{ones}
use Rattle.rules.specs.Limits.{among}
use Rattle.rules.specs.Tally.{holds, joined, meets, within}
use Rattle.rules.specs.Layout.{process_at, with_process, depth_at, with_depth, blank_group}
use Rattle.rules.specs.Store.{place_of, entry_for, hand_over, one, repeats, cleared}
use Rattle.rules.specs.Events.{takes, enters, joins_estimates, joins_suspicions, decides, second_phase, marks, paused, crashed, recovered, quiet}
use Rattle.rules.specs.Events.{changed, jumps_if, jumps, relays_if, relays, decides_if, decides_at, goes_to_phase2, goes_to_phase2_if, to_phase2}
use Rattle.rules.specs.Events.{adopts_if, adopts, opens_if, opens, enters_next_if, enters_next_at, on_e, on_s, on_f, on_decision, on_suspect}
use Rattle.rules.specs.Events.{on_pause, on_crash, on_recover, cut_if}
use Rattle.rules.specs.Kinds.{taker_of, numbers_of, round_of, delivers, slot_of, is_cut, entry_in, event_of}
use Rattle.rules.specs.Idle.{past_for, in_phase, idle_e, idle_s, idle_f, idle}
use Rattle.rules.specs.Depths.{delivered_depth, raises, raised, depth_after, dated_if, dated, dated_both}
use Rattle.rules.specs.Refusals.{row, all_of, every, short, miscounted, whole, damaged, strange, late, is_recover, down, unsent}
use Rattle.rules.specs.Refusals.{misnamed, too_deep, may_suspect, impossible, recovers_past, enters_past, start_refusal, refusal}
use Rattle.rules.specs.Answers.{total}
use Rattle.rules.specs.Start.{fresh, started_to, opened, opened_depths, unless_refused_start, started}
use Rattle.rules.specs.Step.{idles, or_idle, unless_refused, course, handed_of, hand_overs, sent_by, again_by, decides_now, settled, stepped}
use Rattle.rules.specs.Run.{start_state, next, after, answers, handed_by_course, handed_by}
use Rattle.rules.specs.Safety.{is_suspicion, plain, delivers_e, sender_of, led_by}
use Rattle.rules.specs.DepthTable.{all_deep, all_at_depth, ends, holds_from, depths_hold, good_run, relay_first, coordinator_crashes, cut_keeps, depth_table}
use Rattle.rules.specs.Table.{same_said, looks, looks_in, all_look, all_stand, same_handed, answered, goes_on, holds_one, holds_all, run_above, one_decides}
use Rattle.rules.specs.Table.{one_enters_round1, repeat_is_idle, suspect_twice, crash_twice, recover_while_up, refused_of_sixteen, seventeenth}
use Rattle.rules.specs.Table.{round64, round63, five_processes, relayed_again, relay_cut, pause_keeps_tallies, comes_back, comes_back_from_a_cut, table, same_numbers, steps_of, add_up}
use Rattle.rules.specs.Table.{sections_above, section_again, two_at_once, table_holds}

-- the single statement
pub table-holds : table_holds ≡ true
unfolding ones
    holds joined meets within
    process_at with_process depth_at with_depth blank_group
    place_of entry_for hand_over one repeats cleared
    takes enters joins_estimates joins_suspicions decides second_phase marks paused crashed recovered quiet
    changed jumps_if jumps relays_if relays decides_if decides_at goes_to_phase2 goes_to_phase2_if to_phase2
    adopts_if adopts opens_if opens enters_next_if enters_next_at on_e on_s on_f on_decision on_suspect
    on_pause on_crash on_recover cut_if
    taker_of numbers_of round_of delivers slot_of is_cut entry_in event_of
    past_for in_phase idle_e idle_s idle_f idle
    delivered_depth raises raised depth_after dated_if dated dated_both
    row among all_of every short miscounted whole damaged strange late is_recover down unsent
    misnamed too_deep may_suspect impossible recovers_past enters_past start_refusal refusal
    fresh started_to opened opened_depths unless_refused_start started
    idles or_idle unless_refused course handed_of hand_overs sent_by again_by decides_now settled stepped
    total start_state next after answers handed_by_course handed_by
    same_said looks looks_in all_look all_stand same_handed answered goes_on holds_one holds_all run_above one_decides
    one_enters_round1 repeat_is_idle suspect_twice crash_twice recover_while_up refused_of_sixteen seventeenth
    round64 round63 five_processes relayed_again relay_cut pause_keeps_tallies comes_back comes_back_from_a_cut table same_numbers steps_of add_up
    sections_above section_again two_at_once table_holds
    is_suspicion plain delivers_e sender_of led_by
    all_deep all_at_depth ends holds_from depths_hold good_run relay_first coordinator_crashes cut_keeps depth_table
table-holds = refl
