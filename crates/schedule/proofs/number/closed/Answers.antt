-- Each return is one case of the definition: no number, LF, or another byte or the end of the file. Assumes nothing.
use mathlib.Core.Path.{sym, ◌∙◌}
use Rattle.std.proofs.lemmas.Result.{err_from_is_err_and}
use Rattle.schedule.proofs.Reading.Cases.{closed_none, closed-more, closed_is}
use Rattle.schedule.proofs.number.closed.Goals as goal

pub returns-in_err-value : goal.returns-in_err-value
returns-in_err-value c = let p = err_from_is_err_and c.from_residual.result c.from_residual.ensures.1 in rw (p.1, p.2) (sym (closed_none _ c.in_err-value.was))

pub returns-then-byte_at-eq10 : goal.returns-then-byte_at-eq10
returns-then-byte_at-eq10 c = sym (closed_is _ c.in_ok-value.was (sym c.byte_at.ensures ∙ c.if-byte_at-eq10.true))

pub returns : goal.returns
returns c = sym (closed-more _ c.in_ok-value.was (λ z. c.if-byte_at-eq10.false (c.byte_at.ensures ∙ z)))
