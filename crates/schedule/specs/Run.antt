-- The run of a schedule file: the rules' run over the steps that were read, with the counts of its two sections. Assumes nothing.
use Rattle.std.specs.Prelude.{List, ℕ, Result, Ok, Err}
use Rattle.rules.specs.declared.step.Step.{Step}
use Rattle.rules.specs.Run.{State, start_state, after, answers}
use Rattle.schedule.specs.Schedule.{Schedule, Reading, read_file}
use Rattle.schedule.specs.declared.fault.Fault.{Fault}
use Rattle.schedule.specs.Counts.{counts_in}
use Rattle.schedule.specs.declared.counts.Counts.{Counts}
use Rattle.schedule.specs.declared.run.Ran.{Ran}

-- the counts of a section whose steps are taken from the state a on
unfoldable pub counts_of : State → List Step → Counts
counts_of a ss = counts_in (answers a ss)

-- all that a run yields: what is answered, and the content of the lent store and of the lent depths
pub record RanOver : Type 0 where
  pub ran : Result Ran Fault
  pub store : List ℕ
  pub depths : List ℕ

abbrev pub ran_over : Result Ran Fault → List ℕ → List ℕ → RanOver
ran_over r l d = record { ran = r; store = l; depths = d }

-- the start, the state between the two sections, and the end
abbrev pub begins : Schedule → List ℕ → List ℕ → State
begins h l d = start_state h.values l d

abbrev pub between : Schedule → List ℕ → List ℕ → State
between h l d = after (begins h l d) h.warmup

abbrev pub at_end : Schedule → List ℕ → List ℕ → State
at_end h l d = after (between h l d) h.measured

-- what is answered to a sound file: the counts of its two sections, and the group at the end
unfoldable pub has_run : Schedule → List ℕ → List ℕ → Ran
has_run h l d =
    record {
      warmup = counts_of (begins h l d) h.warmup;
      measured = counts_of (between h l d) h.measured;
      group = (at_end h l d).group;
    }

-- and to a faulty one: its fault. "no step is run" there
unfoldable pub run_by : Reading → List ℕ → List ℕ → RanOver
run_by (Err f) l d = ran_over (Err f) l d
run_by (Ok h) l d = ran_over (Ok (has_run h l d)) (at_end h l d).store (at_end h l d).depths

unfoldable pub run_of : List ℕ → List ℕ → List ℕ → RanOver
run_of s l d = run_by (read_file s) l d
