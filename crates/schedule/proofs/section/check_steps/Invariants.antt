-- The loop keeps that the reader is one of the file, and that the lines from the start end where the lines from its place end, as far as the count is left. Assumes nothing.
use mathlib.Core.Path.{◌≡◌}
use Rattle.schedule.proofs.Reading.Whole.{Checking}
use Rattle.schedule.proofs.section.check_steps.Given as goal

abbrev pub invariant-loop-index : goal.invariant-loop-index
invariant-loop-index l = (l.reader.file.bytes.now ≡ l.file.bytes.now) × Checking l.file.bytes.now l.at l.count l.index l.reader.at
