-- `report::write_report` meets its contract: what was run says which report it has. Assumes nothing.
use native.Mathlib.Omega.{arith}
use Rattle.page.proofs.ReportLaws.{runs-size, report-bad, report-done}
use Rattle.page.proofs.report.write_report.Goals as goal

pub put_done-requires : goal.put_done-requires
put_done-requires c = (runs-size _ _ _ c.run.ensures c.in-Ok.is, omega arith)

pub returns-in-Ok : goal.returns-in-Ok
returns-in-Ok c = report-done _ _ _ c.run.ensures c.in-Ok.is c.put_done.ensures.wrote

pub returns-in-Err : goal.returns-in-Err
returns-in-Err c = report-bad _ _ _ c.run.ensures c.in-Err.is c.put_fault.ensures.wrote
