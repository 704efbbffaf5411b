-- For the contracts of private functions alone. Assumes nothing.
use Rattle.std.specs.Prelude.{List, ℕ, ◌+◌, ◌*◌, ◌≤◌, length}
use Rattle.rules.specs.Limits.{greatest_size}
use Rattle.text.specs.Put.{Wrote}

-- t was written at a place of l, and has at most k bytes
pub record Piece (k : ℕ) (l : List ℕ) (at : ℕ) (t m : List ℕ) (next : ℕ) : Type 0 where
  pub wrote : Wrote l at t m next
  pub short : length t ≤ k

-- ---- how long the report and its lines can be

-- a template of t bytes, n of which are marks of numbers: ten digits stand for the one byte of a mark
abbrev pub longest_of : ℕ → ℕ → ℕ
longest_of t n = t + 9 * n

abbrev pub longest_fault : ℕ
longest_fault = longest_of 10 3

-- a section's line begins with a word of at most 8 bytes
abbrev pub longest_word : ℕ
longest_word = 8

abbrev pub longest_section : ℕ
longest_section = longest_word + longest_of 55 7

-- the line of PROCESSES
abbrev pub longest_size : ℕ
longest_size = longest_of 12 1

-- the parts of a process line, and the line
abbrev pub longest_status : ℕ
longest_status = longest_of 6 1

abbrev pub longest_estimate : ℕ
longest_estimate = longest_of 8 4

abbrev pub longest_end : ℕ
longest_end = longest_of 7 3

abbrev pub longest_line : ℕ
longest_line = longest_status + (longest_estimate + longest_end)

-- no report is longer: two section lines, the line of PROCESSES, and 16 process lines
abbrev pub longest_report : ℕ
longest_report = longest_section + (longest_section + (longest_size + greatest_size * longest_line))
