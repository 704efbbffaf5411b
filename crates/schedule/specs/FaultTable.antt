-- The faults of faulty files, by example: read_file computes each row. Bytes are given as numbers, so that nothing here rests on how lines are spelled elsewhere. Assumes nothing.
use Rattle.std.specs.Prelude.{◌≡◌, List, [], ◌∷◌, ◌++◌, ℕ, Err}
use Rattle.schedule.specs.Lines.{Every}
use Rattle.schedule.specs.Schedule.{number_of, read_file}
use Rattle.schedule.specs.declared.fault.Flaw.{Flaw}

-- a file, and what is wrong with it, with the number, the line and the column of its fault
pub record Row : Type 0 where
  pub file : List ℕ
  pub flaw : Flaw
  pub number : ℕ
  pub line : ℕ
  pub column : ℕ

abbrev bad : List ℕ → Flaw → ℕ → ℕ → ℕ → Row
bad s flaw number line column = record { file = s; flaw = flaw; number = number; line = line; column = column }

-- `VALUES 1`; with `7` and `WARMUP 0`; with `MEASURED 1` as well: each line with its LF
abbrev one : List ℕ
one = 86 ∷ 65 ∷ 76 ∷ 85 ∷ 69 ∷ 83 ∷ 32 ∷ 49 ∷ 10 ∷ []

abbrev none : List ℕ
none = one ++ (55 ∷ 10 ∷ 87 ∷ 65 ∷ 82 ∷ 77 ∷ 85 ∷ 80 ∷ 32 ∷ 48 ∷ 10 ∷ [])

abbrev step : List ℕ
step = none ++ (77 ∷ 69 ∷ 65 ∷ 83 ∷ 85 ∷ 82 ∷ 69 ∷ 68 ∷ 32 ∷ 49 ∷ 10 ∷ [])

abbrev pub fault_table : List Row
fault_table =
    -- ---- the first line
    -- an empty file: the line is missing
    bad [] Flaw.Form 9 1 1 ∷
    -- another letter in the word, `VALUEZ 1`
    bad (86 ∷ 65 ∷ 76 ∷ 85 ∷ 69 ∷ 90 ∷ 32 ∷ 49 ∷ 10 ∷ []) Flaw.Form 9 1 6 ∷
    -- the file ends inside the word, `VAL`
    bad (86 ∷ 65 ∷ 76 ∷ []) Flaw.Form 9 1 4 ∷
    -- no space behind it, `VALUES1`
    bad (86 ∷ 65 ∷ 76 ∷ 85 ∷ 69 ∷ 83 ∷ 49 ∷ 10 ∷ []) Flaw.Form 9 1 7 ∷
    -- no count, `VALUES`
    bad (86 ∷ 65 ∷ 76 ∷ 85 ∷ 69 ∷ 83 ∷ 10 ∷ []) Flaw.Form 9 1 7 ∷
    -- a space, and no count, `VALUES `
    bad (86 ∷ 65 ∷ 76 ∷ 85 ∷ 69 ∷ 83 ∷ 32 ∷ 10 ∷ []) Flaw.Form 9 1 8 ∷
    -- a second digit after `0`, `VALUES 01`
    bad (86 ∷ 65 ∷ 76 ∷ 85 ∷ 69 ∷ 83 ∷ 32 ∷ 48 ∷ 49 ∷ 10 ∷ []) Flaw.Form 9 1 9 ∷
    -- a space behind the count, `VALUES 1 `
    bad (86 ∷ 65 ∷ 76 ∷ 85 ∷ 69 ∷ 83 ∷ 32 ∷ 49 ∷ 32 ∷ 10 ∷ []) Flaw.Form 9 1 9 ∷
    -- no value: refusal 1 at the count's first digit, `VALUES 0`
    bad (86 ∷ 65 ∷ 76 ∷ 85 ∷ 69 ∷ 83 ∷ 32 ∷ 48 ∷ 10 ∷ []) Flaw.Values 1 1 8 ∷
    -- 17 values, `VALUES 17`
    bad (86 ∷ 65 ∷ 76 ∷ 85 ∷ 69 ∷ 83 ∷ 32 ∷ 49 ∷ 55 ∷ 10 ∷ []) Flaw.Values 1 1 8 ∷
    -- the file ends before LF: 9 goes ahead of 1, `VALUES 17`
    bad (86 ∷ 65 ∷ 76 ∷ 85 ∷ 69 ∷ 83 ∷ 32 ∷ 49 ∷ 55 ∷ []) Flaw.Form 9 1 10 ∷
    -- ---- the line of a value
    -- missing
    bad one Flaw.Form 9 2 1 ∷
    -- a carriage return before the LF, `7` CR LF
    bad (one ++ (55 ∷ 13 ∷ 10 ∷ [])) Flaw.Form 9 2 2 ∷
    -- the digit that makes the number greater than 4,294,967,295, `4294967296`
    bad (one ++ (52 ∷ 50 ∷ 57 ∷ 52 ∷ 57 ∷ 54 ∷ 55 ∷ 50 ∷ 57 ∷ 54 ∷ 10 ∷ [])) Flaw.Form 9 2 10 ∷
    -- one digit more, `42949672950`
    bad (one ++ (52 ∷ 50 ∷ 57 ∷ 52 ∷ 57 ∷ 54 ∷ 55 ∷ 50 ∷ 57 ∷ 53 ∷ 48 ∷ 10 ∷ [])) Flaw.Form 9 2 11 ∷
    -- the file ends inside the line, `7`
    bad (one ++ (55 ∷ [])) Flaw.Form 9 2 2 ∷
    -- ---- the sections of steps
    -- refusal 10 at the count's first digit, `7` and `WARMUP 4097`
    bad (one ++ (55 ∷ 10 ∷ 87 ∷ 65 ∷ 82 ∷ 77 ∷ 85 ∷ 80 ∷ 32 ∷ 52 ∷ 48 ∷ 57 ∷ 55 ∷ 10 ∷ [])) Flaw.Size 10 3 8 ∷
    -- the same in the other section, `MEASURED 4097`
    bad (none ++ (77 ∷ 69 ∷ 65 ∷ 83 ∷ 85 ∷ 82 ∷ 69 ∷ 68 ∷ 32 ∷ 52 ∷ 48 ∷ 57 ∷ 55 ∷ 10 ∷ [])) Flaw.Size 10 4 10 ∷
    -- missing
    bad none Flaw.Form 9 4 1 ∷
    -- ---- the line of a step
    -- missing
    bad step Flaw.Form 9 5 1 ∷
    -- no step letter, `X 1`
    bad (step ++ (88 ∷ 32 ∷ 49 ∷ 10 ∷ [])) Flaw.Form 9 5 1 ∷
    -- no space, `E1`
    bad (step ++ (69 ∷ 49 ∷ 10 ∷ [])) Flaw.Form 9 5 2 ∷
    -- a number is missing: the LF, `E 1 1`
    bad (step ++ (69 ∷ 32 ∷ 49 ∷ 32 ∷ 49 ∷ 10 ∷ [])) Flaw.Form 9 5 6 ∷
    -- a second digit after `0`, `E 1 1 00`
    bad (step ++ (69 ∷ 32 ∷ 49 ∷ 32 ∷ 49 ∷ 32 ∷ 48 ∷ 48 ∷ 10 ∷ [])) Flaw.Form 9 5 8 ∷
    -- a pause cannot be cut: its second space, `P 1 X`
    bad (step ++ (80 ∷ 32 ∷ 49 ∷ 32 ∷ 88 ∷ 10 ∷ [])) Flaw.Form 9 5 4 ∷
    -- no `X` behind the space, `Q 1 Y`
    bad (step ++ (81 ∷ 32 ∷ 49 ∷ 32 ∷ 89 ∷ 10 ∷ [])) Flaw.Form 9 5 5 ∷
    -- no LF behind the `X`, `Q 1 XX`
    bad (step ++ (81 ∷ 32 ∷ 49 ∷ 32 ∷ 88 ∷ 88 ∷ 10 ∷ [])) Flaw.Form 9 5 6 ∷
    -- the file ends inside the line, `E 1 1 0`
    bad (step ++ (69 ∷ 32 ∷ 49 ∷ 32 ∷ 49 ∷ 32 ∷ 48 ∷ [])) Flaw.Form 9 5 8 ∷
    -- the same behind a cut, `E 1 1 0 X`
    bad (step ++ (69 ∷ 32 ∷ 49 ∷ 32 ∷ 49 ∷ 32 ∷ 48 ∷ 32 ∷ 88 ∷ [])) Flaw.Form 9 5 10 ∷
    -- a last line without LF that breaks the form before its end, `E 1 1q`
    bad (step ++ (69 ∷ 32 ∷ 49 ∷ 32 ∷ 49 ∷ 113 ∷ [])) Flaw.Form 9 5 6 ∷
    -- ---- behind the last step
    -- an empty line behind `MEASURED 0`
    bad (none ++ (77 ∷ 69 ∷ 65 ∷ 83 ∷ 85 ∷ 82 ∷ 69 ∷ 68 ∷ 32 ∷ 48 ∷ 10 ∷ 10 ∷ [])) Flaw.Form 9 5 1 ∷
    -- one step too many: `P 1` twice
    bad (step ++ (80 ∷ 32 ∷ 49 ∷ 10 ∷ 80 ∷ 32 ∷ 49 ∷ 10 ∷ [])) Flaw.Form 9 6 1 ∷
    []

-- every row is read as its fault says
abbrev pub FaultTable : Type 0
FaultTable = Every (λ r. (read_file r.file ≡ Err (record { flaw = r.flaw; line = r.line; column = r.column })) × (number_of r.flaw ≡ r.number)) fault_table
