-- The loop keeps that the lines from the start hold the values read so far and then what the lines from the place hold. Assumes nothing.
use Rattle.schedule.proofs.Reading.Whole.{Filling}
use Rattle.schedule.proofs.values.read_values.Given as goal

abbrev pub invariant-loop-index : goal.invariant-loop-index
invariant-loop-index l = Filling l.s l.at l.n l.values l.index l.place
