-- `line::known_number` meets its contract. The loop's invariant: the number is under way, so a scan from here on with what was read so far finds the whole of it. Assumes nothing.
use Prim.Native.Nat.{◌-◌}
use lib.ListN.{length}
use Rattle.schedule.proofs.Reading.Known.{Underway}
use Rattle.schedule.proofs.line.known_number.Given as goal

abbrev pub invariant-loop-value : goal.invariant-loop-value
invariant-loop-value l = Underway l.s l.at l.value l.next

abbrev pub decreases-loop-value : goal.decreases-loop-value
decreases-loop-value l = length l.s - l.next
