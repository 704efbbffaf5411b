-- The decimal ends its line as the definition says. Assumes nothing.
use Rattle.schedule.proofs.Reading.Whole.{value-closed}
use Rattle.schedule.proofs.values.value_at.Goals as goal

pub returns : goal.returns
returns c = value-closed _ _ c.decimal-number.ensures c.closed.ensures
