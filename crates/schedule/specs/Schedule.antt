-- Document 01, "The schedule file and the report": a schedule, the bytes of its file, and what is read from any file. Assumes nothing.
use Rattle.std.specs.Prelude.{List, ◌++◌, ℕ, ◌+◌, ◌-◌, ◌≤◌, eqb, leb, length, Result, Ok, Err}
use Rattle.rules.specs.Limits.{greatest_size, among}
use Rattle.rules.specs.declared.step.Step.{Step}
use Rattle.schedule.specs.Limits.{longest, most_steps}
use Rattle.text.specs.Number.{pick}
use Rattle.text.specs.Read.{on_read}
use Rattle.schedule.specs.Lines.{Every, Rows, lines_at, lines_of}
use Rattle.schedule.specs.Line.{line_at, line_of, Small, Holdable}
use Rattle.schedule.specs.Header.{header_at, header_of, count_at, values_word, warmup_word, measured_word}
use Rattle.schedule.specs.Values.{value_at, value_line}
use Rattle.schedule.specs.declared.fault.BrokenLine.{BrokenLine}
use Rattle.schedule.specs.declared.fault.Fault.{Fault}
use Rattle.schedule.specs.declared.fault.Flaw.{Flaw}

-- the first values, and the steps of the two sections
pub record Schedule : Type 0 where
  pub values : List ℕ
  pub warmup : List Step
  pub measured : List Step

-- ---- the file of a schedule

-- a section: its word with its count, then its lines
abbrev pub section_of : {A : Type 0} → List ℕ → (A → List ℕ) → List A → List ℕ
section_of w f xs = header_of w (length xs) ++ lines_of f xs

-- "Sections in a fixed order, each after its count: VALUES, then one value a line; WARMUP, then its steps; MEASURED, then its steps."
abbrev pub file_of : Schedule → List ℕ
file_of h = section_of values_word value_line h.values ++ (section_of warmup_word line_of h.warmup ++ section_of measured_word line_of h.measured)

-- a count of values that the rules allow
abbrev pub Size : ℕ → Type 0
Size n = (1 ≤ n) × (n ≤ greatest_size)

-- a schedule that a file can hold
pub record Fits (h : Schedule) : Type 0 where
  pub size : Size (length h.values)
  pub small : Every Small h.values
  pub warmup : Every Holdable h.warmup
  pub measured : Every Holdable h.measured
  pub steps : length h.warmup + length h.measured ≤ most_steps
  pub short : length (file_of h) ≤ longest

-- ---- what is read from a file

-- a sound file's schedule, or the first fault: the flaw, the line and the column
abbrev pub Reading : Type 0
Reading = Result Schedule Fault

-- the refusal's number
abbrev pub number_of : Flaw → ℕ
number_of Flaw.Values = 1
number_of Flaw.Form = 9
number_of Flaw.Size = 10

-- a fault at a place of the line that begins at the place from: its column is "counted from 1"
abbrev pub fault_at : Flaw → ℕ → ℕ → ℕ → Fault
fault_at flaw line from place = record { flaw = flaw; line = line; column = place - from + 1 }

-- a line that breaks the form, among lines of which the first is the file's line-th
abbrev pub line_fault : ℕ → BrokenLine → Fault
line_fault line b = fault_at Flaw.Form (line + b.index) b.from b.place

-- a file that is too long has line 0, and the column is "0 for a file that is too long"
abbrev pub too_long : Fault
too_long = record { flaw = Flaw.Size; line = 0; column = 0 }

-- going on after lines of which the first is the file's line-th, or after a section
abbrev pub on_rows : {A B : Type 0} → ℕ → Rows A → (List A → ℕ → Result B Fault) → Result B Fault
on_rows line (Err broken) f = Err (line_fault line broken)
on_rows line (Ok (xs, m)) f = f xs m

abbrev pub on_part : {A B : Type 0} → Result (List A × ℕ) Fault → (List A → ℕ → Result B Fault) → Result B Fault
on_part (Err fault) f = Err fault
on_part (Ok (xs, m)) f = f xs m

-- a section of steps whose first line is the file's line-th, and which may have left steps: refusal 9 where a line breaks the form, 10 at the count that takes the steps
-- above the limit. "A missing line counts as the line after the last". Request 2026-01: "for refusals 1 and 10 in a count it is the count's first digit"
unfoldable pub part_at : List ℕ → ℕ → List ℕ → ℕ → ℕ → Result (List Step × ℕ) Fault
part_at s at w line left =
    on_read (header_at s at w) (λ p. Err (fault_at Flaw.Form line at p))
    (λ k a. pick (leb k left) (on_rows (line + 1) (lines_at (line_at s) k 0 a) (λ xs m. Ok (xs, m))) (Err (fault_at Flaw.Size line at (count_at at w))))

-- "Nothing follows the last step."
unfoldable pub measured_from : List ℕ → List ℕ → List Step → ℕ → Reading
measured_from s vs ws at =
    on_part (part_at s at measured_word (length vs + length ws + 3) (most_steps - length ws))
    (λ ms e. pick (eqb e (length s)) (Ok (record { values = vs; warmup = ws; measured = ms })) (Err (fault_at Flaw.Form (length vs + length ws + length ms + 4) e e)))

unfoldable pub warmup_from : List ℕ → List ℕ → ℕ → Reading
warmup_from s vs at = on_part (part_at s at warmup_word (length vs + 2) most_steps) (measured_from s vs)

-- refusal 1 for "not 1 to 16 values", at the line of VALUES. "9 ahead of 1 and 10 on one line"
unfoldable pub values_from : List ℕ → Reading
values_from s =
    on_read (header_at s 0 values_word) (λ p. Err (fault_at Flaw.Form 1 0 p))
    (λ n a. pick (among greatest_size n) (on_rows 2 (lines_at (value_at s) n 0 a) (warmup_from s)) (Err (fault_at Flaw.Values 1 0 (count_at 0 values_word))))

-- "Too long a file is refused before any line is read."
unfoldable pub read_file : List ℕ → Reading
read_file s = pick (leb (length s) longest) (values_from s) (Err too_long)
