-- The flag says which case of `next_number` holds. Assumes nothing.
use mathlib.Core.Path.{sym, ◌∙◌}
use Rattle.schedule.proofs.Reading.Cases.{next-wanted, next-none}
use Rattle.schedule.proofs.line.next_number.Goals as goal

pub returns-then-wanted : goal.returns-then-wanted
returns-then-wanted g c = c.spaced_at.ensures ∙ sym (next-wanted _ _ c.if-wanted.true)

pub returns-else-wanted : goal.returns-else-wanted
returns-else-wanted g c = sym (next-none _ _ c.if-wanted.false)
