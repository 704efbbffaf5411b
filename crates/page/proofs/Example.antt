-- Document 01's example: the definitions of file, run, rules and report make its output of its input. Assumes nothing.
-- antt computes all of it, so the proof names every definition and is then one word.
use mathlib.Core.Path.{◌≡◌, refl, ap₂}
use mathlib.Core.Bool.{true}
use mathlib.Core.List.{List, [], ◌∷◌}
use Prim.Native.Nat.{ℕ}
use native.Mathlib.Omega.{arith}
use lib.Dec.{eqb}
use borrow.Author.Tests.{eqb-true}
use Rattle.rules.specs.Table.{same_numbers}
use lib.Count.{ones}
use Rattle.rules.specs.Limits.{among}
use Rattle.rules.specs.Tally.{holds, joined, meets, within}
use Rattle.rules.specs.Layout.{process_at, with_process, depth_at, with_depth, blank_group}
use Rattle.rules.specs.Records.{blank}
use Rattle.rules.specs.Look.{record_if, record_of, depth_if, depth_of}
use Rattle.rules.specs.Store.{place_of, entry_for, hand_over, one, repeats, cleared}
use Rattle.rules.specs.Events.{takes, enters, joins_estimates, joins_suspicions, decides, second_phase, marks, paused, crashed, recovered, quiet}
use Rattle.rules.specs.Events.{changed, jumps_if, jumps, relays_if, relays, decides_if, decides_at, goes_to_phase2, goes_to_phase2_if, to_phase2}
use Rattle.rules.specs.Events.{adopts_if, adopts, opens_if, opens, enters_next_if, enters_next_at, on_e, on_s, on_f, on_decision, on_suspect}
use Rattle.rules.specs.Events.{on_pause, on_crash, on_recover, cut_if}
use Rattle.rules.specs.Kinds.{taker_of, numbers_of, round_of, delivers, slot_of, is_cut, entry_in, event_of}
use Rattle.rules.specs.Idle.{past_for, in_phase, idle_e, idle_s, idle_f, idle}
use Rattle.rules.specs.Depths.{delivered_depth, raises, raised, depth_after, dated_if, dated, dated_both}
use Rattle.rules.specs.Refusals.{row, all_of, every, short, miscounted, whole, damaged, strange, late, is_recover, down, unsent}
use Rattle.rules.specs.Refusals.{misnamed, too_deep, may_suspect, impossible, recovers_past, enters_past, start_refusal, refusal}
use Rattle.rules.specs.Answers.{total}
use Rattle.rules.specs.Start.{fresh, started_to, opened, opened_depths, unless_refused_start, started}
use Rattle.rules.specs.Step.{idles, or_idle, unless_refused, course, handed_of, hand_overs, sent_by, again_by, decides_now, settled, stepped}
use Rattle.rules.specs.Run.{start_state, next, after, answers}
use Rattle.rules.proofs.Cited.{and_left, and_right}
use Rattle.text.specs.Number.{is_digit, scan, number_at, spell}
use Rattle.schedule.specs.Lines.{before, lines_at}
use Rattle.schedule.specs.Line.{letter_of, numbers_after, may_cut, step_of, closed, spaced_at, next_number, end_at, ended_at, after_letter, line_at}
use Rattle.schedule.specs.Header.{word_at, alone_at, header_at}
use Rattle.schedule.specs.Values.{value_at}
use Rattle.schedule.specs.Schedule.{part_at, measured_from, warmup_from, values_from, read_file}
use Rattle.schedule.specs.Counts.{counts_in}
use Rattle.schedule.specs.Run.{counts_of, has_run, run_by, run_of}
use Rattle.page.specs.Filled.{filled}
use Rattle.page.specs.Report.{section_line, processes_line, process_line, line_of_process, process_lines, done_text, report_of}
use Rattle.page.specs.Example.{example_input, example_output, example_report}

-- numbers that are the same, one by one
same-list : (ms ns : List ℕ) → same_numbers ms ns ≡ true → ms ≡ ns
unfolding same_numbers
same-list [] [] e = refl
same-list [] (n ∷ ns) e = let z : ◌≡◌ {A = ℕ} 0 1 = cc in absurd (omega arith)
same-list (m ∷ ms) [] e = let z : ◌≡◌ {A = ℕ} 0 1 = cc in absurd (omega arith)
same-list (m ∷ ms) (n ∷ ns) e =
    ap₂ (λ (x : ℕ) (xs : List ℕ). x ∷ xs) (eqb-true m n (and_left (eqb m n) (same_numbers ms ns) e))
    (same-list ms ns (and_right (eqb m n) (same_numbers ms ns) e))

computed : same_numbers example_report example_output ≡ true
unfolding ones
    holds joined meets within
    process_at with_process depth_at with_depth blank_group
    blank record_if record_of depth_if depth_of
    place_of entry_for hand_over one repeats cleared
    takes enters joins_estimates joins_suspicions decides second_phase marks paused crashed recovered quiet
    changed jumps_if jumps relays_if relays decides_if decides_at goes_to_phase2 goes_to_phase2_if to_phase2
    adopts_if adopts opens_if opens enters_next_if enters_next_at on_e on_s on_f on_decision on_suspect
    on_pause on_crash on_recover cut_if
    taker_of numbers_of round_of delivers slot_of is_cut entry_in event_of
    past_for in_phase idle_e idle_s idle_f idle
    delivered_depth raises raised depth_after dated_if dated dated_both
    row among all_of every short miscounted whole damaged strange late is_recover down unsent
    misnamed too_deep may_suspect impossible recovers_past enters_past start_refusal refusal
    total
    fresh started_to opened opened_depths unless_refused_start started
    idles or_idle unless_refused course handed_of hand_overs sent_by again_by decides_now settled stepped
    start_state next after answers
    is_digit scan number_at spell
    before lines_at letter_of numbers_after may_cut step_of closed spaced_at next_number end_at ended_at after_letter line_at
    word_at alone_at header_at value_at part_at measured_from warmup_from values_from read_file
    counts_in counts_of has_run run_by run_of
    filled section_line processes_line process_line line_of_process process_lines done_text report_of
    same_numbers example_input example_output example_report
computed = refl

pub example-holds : example_report ≡ example_output
example-holds = same-list example_report example_output computed
