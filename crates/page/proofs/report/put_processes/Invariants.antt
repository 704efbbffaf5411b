-- `report::put_processes` meets its contract. The loop's invariant: the lines of the processes before i stand, and none is longer than its room. Assumes nothing.
use Prim.Native.Nat.{◌+◌, ◌-◌, ◌*◌, ◌≤◌}
use Rattle.page.specs.Private.{longest_line}
use Rattle.page.specs.Report.{process_lines}
use Rattle.page.specs.Private.{Piece}
use Rattle.page.proofs.report.put_processes.Given as goal

abbrev pub invariant-loop-i : goal.invariant-loop-i
invariant-loop-i l = (l.i ≤ l.n + 1) × Piece ((l.i - 1) * longest_line) l.initial.out l.at (process_lines l.group (l.i - 1)) l.out l.place
