-- `Group::fresh` meets its contract: before each turn the first k processes are started. Assumes nothing.
use Rattle.rules.specs.Start.{started_to}
use mathlib.Core.Path.{◌≡◌}
use Rattle.rules.proofs.group.Group.fresh.Given as goal

abbrev pub invariant-loop-k : goal.invariant-loop-k
invariant-loop-k l = l.group ≡ started_to l.values l.k
