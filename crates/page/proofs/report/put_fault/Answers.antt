-- `report::put_fault` meets its contract: the template has the refusal's number first. Assumes nothing.
use Rattle.page.specs.Report.{fault_line}
use Rattle.page.proofs.report.put_fault.Goals as goal

pub returns : goal.returns
unfolding fault_line
returns c = rw (← c.from-number.ensures) c.fill.ensures
