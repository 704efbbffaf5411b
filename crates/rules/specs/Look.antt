-- The look at one process of a group, for everybody outside. Assumes nothing.
use Rattle.std.specs.Prelude.{Bool, true, false, ℕ}
use Rattle.rules.specs.declared.group.Group.{Group}
use Rattle.rules.specs.declared.process.Process.{Process}
use Rattle.rules.specs.Limits.{greatest_size, among}
use Rattle.rules.specs.Records.{blank}
use Rattle.rules.specs.Layout.{process_at, depth_at}

unfoldable pub record_if : Bool → Group → ℕ → Process
record_if true g i = process_at g i
record_if false g i = blank

-- the record of process i for everybody outside: a blank one where i is not 1 to 16
unfoldable pub record_of : Group → ℕ → Process
record_of g i = record_if (among greatest_size i) g i

-- so its depth: 0 where i is not 1 to 16
unfoldable pub depth_if : Bool → Group → ℕ → ℕ
depth_if true g i = depth_at g i
depth_if false g i = 0

unfoldable pub depth_of : Group → ℕ → ℕ
depth_of g i = depth_if (among greatest_size i) g i
