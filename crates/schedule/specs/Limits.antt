-- Document 01, "Numbers": the limits of a file. Assumes nothing.
use Rattle.std.specs.Prelude.{ℕ}

-- "A schedule file has at most 65,535 bytes and at most 4,096 steps in all."
abbrev pub longest : ℕ
longest = 65535

abbrev pub most_steps : ℕ
most_steps = 4096
