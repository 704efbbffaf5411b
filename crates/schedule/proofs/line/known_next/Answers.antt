-- `line::known_next` meets its contract. A number that is wanted stands behind a space, so it is the number at the next place. Assumes nothing.
use native.Mathlib.Omega.{arith}
use Rattle.schedule.proofs.Reading.Cases.{next-none}
use Rattle.schedule.proofs.Reading.Known.{behind-here, behind-known, behind-read}
use Rattle.schedule.proofs.line.known_next.Goals as goal

pub overflow_add-at : goal.overflow_add-at
overflow_add-at c = let h = behind-here _ _ _ c.requires in omega (arith, h)

pub known_number-requires : goal.known_number-requires
known_number-requires c = behind-known _ _ _ c.requires c.if-wanted.true

pub returns-then-wanted : goal.returns-then-wanted
returns-then-wanted c = behind-read _ _ _ c.requires c.if-wanted.true c.known_number.ensures

pub returns-else-wanted : goal.returns-else-wanted
returns-else-wanted c = next-none _ _ c.if-wanted.false
