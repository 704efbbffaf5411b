-- The word is there and the rest says what the line is, or the word is not. Assumes nothing.
use Rattle.std.proofs.lemmas.Result.{err_from_is_err_and}
use Rattle.schedule.proofs.Reading.Whole.{header-missing, header-past}
use Rattle.schedule.proofs.header.heading.Goals as goal

pub returns-in_err-n : goal.returns-in_err-n
returns-in_err-n c = let p = err_from_is_err_and c.from_residual.result c.from_residual.ensures.1 in rw (p.1, p.2) (header-missing _ _ _ c.word_at.ensures c.in_err-n.was)

pub returns : goal.returns
returns c = header-past _ _ _ c.word_at.ensures c.in_ok-n.was c.alone_at.ensures
