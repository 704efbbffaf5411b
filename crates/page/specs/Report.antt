-- Document 01, "The schedule file and the report": the report's bytes. Each `#` of a template stands for a number. Assumes nothing.
use Rattle.std.specs.Prelude.{◌≡◌, List, [], ◌∷◌, ◌++◌, ℕ, zero, suc, Result, Ok, Err}
use Rattle.rules.specs.Look.{record_of, depth_of}
use Rattle.rules.specs.declared.group.Group.{Group}
use Rattle.rules.specs.declared.process.Process.{Process}
use Rattle.text.specs.Number.{pick}
use Rattle.text.specs.Put.{Wrote}
use Rattle.schedule.specs.Schedule.{number_of}
use Rattle.schedule.specs.Run.{run_of}
use Rattle.schedule.specs.Header.{warmup_word, measured_word}
use Rattle.schedule.specs.declared.counts.Counts.{Counts}
use Rattle.schedule.specs.declared.fault.Fault.{Fault}
use Rattle.schedule.specs.declared.run.Ran.{Ran}
use Rattle.page.specs.Filled.{filled}

-- `BAD # # #`, and LF
abbrev pub bad_text : List ℕ
bad_text = 66 ∷ 65 ∷ 68 ∷ 32 ∷ 35 ∷ 32 ∷ 35 ∷ 32 ∷ 35 ∷ 10 ∷ []

-- "the first faulty line is reported as `BAD 9 4` (number, line)", and by request 2026-01 with the column: "`BAD 9 212 7`"
unfoldable pub fault_line : Fault → List ℕ
fault_line f = filled bad_text (number_of f.flaw ∷ f.line ∷ f.column ∷ [])

-- ` # applied # idle # refused # sent # again # decided #`, and LF
abbrev pub counts_text : List ℕ
counts_text = 32 ∷ 35 ∷ 32 ∷ 97 ∷ 112 ∷ 112 ∷ 108 ∷ 105 ∷ 101 ∷ 100 ∷ 32 ∷ 35 ∷ 32 ∷ 105 ∷ 100 ∷ 108 ∷ 101 ∷ 32 ∷ 35 ∷ 32 ∷ 114 ∷ 101 ∷ 102 ∷ 117 ∷ 115 ∷ 101 ∷ 100 ∷ 32 ∷ 35 ∷ 32 ∷ 115 ∷ 101 ∷ 110 ∷ 116 ∷ 32 ∷ 35 ∷ 32 ∷ 97 ∷ 103 ∷ 97 ∷ 105 ∷ 110 ∷ 32 ∷ 35 ∷ 32 ∷ 100 ∷ 101 ∷ 99 ∷ 105 ∷ 100 ∷ 101 ∷ 100 ∷ 32 ∷ 35 ∷ 10 ∷ []

-- "Section lines: the count of steps in the section, those applied, idle and refused, then sent and decided.", and by request 2026-05 again right after sent. The section's word
-- stands before them.
unfoldable pub section_line : List ℕ → Counts → List ℕ
section_line w c = w ++ filled counts_text (c.steps ∷ c.applied ∷ c.idle ∷ c.refused ∷ c.sent ∷ c.again ∷ c.decided ∷ [])

-- `PROCESSES #`, and LF
abbrev pub processes_text : List ℕ
processes_text = 80 ∷ 82 ∷ 79 ∷ 67 ∷ 69 ∷ 83 ∷ 83 ∷ 69 ∷ 83 ∷ 32 ∷ 35 ∷ 10 ∷ []

-- "`PROCESSES` is followed by n."
unfoldable pub processes_line : ℕ → List ℕ
processes_line n = filled processes_text (n ∷ [])

-- `# up`
abbrev pub up_text : List ℕ
up_text = 35 ∷ 32 ∷ 117 ∷ 112 ∷ []

-- `# down`
abbrev pub down_text : List ℕ
down_text = 35 ∷ 32 ∷ 100 ∷ 111 ∷ 119 ∷ 110 ∷ []

-- ` # # # #`
abbrev pub estimate_text : List ℕ
estimate_text = 32 ∷ 35 ∷ 32 ∷ 35 ∷ 32 ∷ 35 ∷ 32 ∷ 35 ∷ []

-- ` # # #`, and LF
abbrev pub decided_text : List ℕ
decided_text = 32 ∷ 35 ∷ 32 ∷ 35 ∷ 32 ∷ 35 ∷ 10 ∷ []

-- ` - # -`, and LF
abbrev pub undecided_text : List ℕ
undecided_text = 32 ∷ 45 ∷ 32 ∷ 35 ∷ 32 ∷ 45 ∷ 10 ∷ []

-- "Process lines: number, up or down, round, phase, proposer, estimate value, decision or `-`." Request 2026-03: the recoveries
-- behind it. Request 2026-06: "Process lines gain a last field, the decision's depth or `-`."
-- The line of process i with the record p and the depth k has three parts.
abbrev pub status_part : ℕ → Process → List ℕ
status_part i p = pick p.up (filled up_text (i ∷ [])) (filled down_text (i ∷ []))

abbrev pub estimate_part : Process → List ℕ
estimate_part p = filled estimate_text (p.round ∷ p.phase ∷ p.proposer ∷ p.value ∷ [])

abbrev pub end_part : Process → ℕ → List ℕ
end_part p k = pick p.decided (filled decided_text (p.decision ∷ p.recoveries ∷ k ∷ [])) (filled undecided_text (p.recoveries ∷ []))

unfoldable pub process_line : ℕ → Process → ℕ → List ℕ
process_line i p k = status_part i p ++ (estimate_part p ++ end_part p k)

unfoldable pub line_of_process : Group → ℕ → List ℕ
line_of_process g i = process_line i (record_of g i) (depth_of g i)

-- the lines of processes 1 to k
unfoldable pub process_lines : Group → ℕ → List ℕ
process_lines g zero = []
process_lines g (suc k) = process_lines g k ++ line_of_process g (suc k)

unfoldable pub done_text : Ran → List ℕ
done_text r =
    section_line warmup_word r.warmup ++ (section_line measured_word r.measured ++ (processes_line r.group.n ++ process_lines r.group r.group.n))

-- a faulty file's report is that one line
unfoldable pub report_of : Result Ran Fault → List ℕ
report_of (Err f) = fault_line f
report_of (Ok r) = done_text r

-- the contract of the report: its bytes stand at the start of the lent array, what lies past them is as it was, and both stores are as the run leaves them
pub record Reports (s l d out l' d' out' : List ℕ) (r : ℕ) : Type 0 where
  pub bytes : Wrote out 0 (report_of (run_of s l d).ran) out' r
  pub store : l' ≡ (run_of s l d).store
  pub depths : d' ≡ (run_of s l d).depths
