-- What is read of a file that is too long is its fault. Assumes nothing.
use Rattle.schedule.proofs.RoundTrip.File.{read-long}
use Rattle.schedule.proofs.lf.Short.new.Goals as goal

pub returns-then-bytes-gt-LONGEST : goal.returns-then-bytes-gt-LONGEST
returns-then-bytes-gt-LONGEST c = read-long _ c.if-bytes-gt-LONGEST.true
