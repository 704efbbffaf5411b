-- The line is read, or the place where it breaks the form gives its fault. Assumes nothing.
use Rattle.schedule.proofs.Reading.Whole.{part-place, heading-read, heading-broken}
use Rattle.schedule.proofs.header.heading_at.Goals as goal

pub at-requires : goal.at-requires
at-requires c = part-place _ _ _ c.requires c.args.file.short c.heading.ensures c.in-Err.is

pub returns-in-Ok : goal.returns-in-Ok
returns-in-Ok c = heading-read _ _ _ _ c.heading.ensures c.in-Ok.is

pub returns-in-Err : goal.returns-in-Err
returns-in-Err c = heading-broken _ _ _ _ c.heading.ensures c.in-Err.is c.at.ensures
