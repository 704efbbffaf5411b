-- The end says whether the step is cut, or where the line breaks the form. Assumes nothing.
use mathlib.Core.Path.{sym}
use Rattle.std.proofs.lemmas.Result.{err_from_is_err_and}
use Rattle.schedule.proofs.Reading.Cases.{ended-none, ended_is}
use Rattle.schedule.proofs.line.ended_at.Goals as goal

pub returns-in_err-cut : goal.returns-in_err-cut
returns-in_err-cut g c = let p = err_from_is_err_and c.from_residual.result c.from_residual.ensures.1 in rw (p.1, p.2) (sym (ended-none _ _ _ _ _ _ c.may_cut.ensures c.end_at.ensures c.in_err-cut.was))

pub returns : goal.returns
returns g c = sym (ended_is _ _ _ _ _ _ c.may_cut.ensures c.end_at.ensures c.in_ok-cut.was c.step-step.ensures)
