-- `Group::is_damaged` meets its contract: before each turn `sound` says whether the processes passed of 1..n are whole and not too deep. Assumes nothing.
use Rattle.rules.specs.Refusals.{all_of, whole}
use Rattle.rules.specs.Layout.{process_at, depth_at}
use Rattle.rules.specs.Limits.{deepest_process}
use Rattle.rules.specs.declared.group.Group.{Group}
use lib.Dec.{leb}
use mathlib.Core.Bool.{Bool, ◌&&◌}
use Prim.Native.Nat.{ℕ, ◌≤◌, min}
use mathlib.Core.Path.{◌≡◌}
use Rattle.rules.proofs.group.Group.is_damaged.Given as goal

-- process i of g is whole and not too deep
abbrev pub fit_in : Group → ℕ → Bool
fit_in g i = whole g.n (process_at g i) && leb (depth_at g i) deepest_process

abbrev pub invariant-loop-k : goal.invariant-loop-k
invariant-loop-k l = (l.n ≡ l.self.n) × (1 ≤ l.n) × (l.n ≤ 16) × (l.sound ≡ all_of (fit_in l.self) (min l.k l.n))
