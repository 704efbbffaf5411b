-- `line::known_line` meets its contract. Each part of the line is known to be there, and its end tells whether the step is cut. Assumes nothing.
use native.Mathlib.Omega.{arith}
use Rattle.schedule.proofs.Reading.Known.{letter-ok, chain, first-known, second-known, third-known, end_read, line_read, line-inside}
use Rattle.schedule.proofs.line.known_line.Goals as goal

pub bounds-s-at : goal.bounds-s-at
bounds-s-at c = (chain _ _ c.requires).here

pub unwrap-letter-requires : goal.unwrap-letter-requires
unwrap-letter-requires c = letter-ok _ c.try_from.result c.try_from.ensures (chain _ _ c.requires).told

pub overflow_add-at : goal.overflow_add-at
overflow_add-at c = let h = (chain _ _ c.requires).here in omega (arith, h)

pub known_next-a-requires : goal.known_next-a-requires
known_next-a-requires c = first-known _ _ c.requires

pub known_next-b-requires : goal.known_next-b-requires
known_next-b-requires c = second-known _ _ c.requires (rw c.unwrap-letter.ensures at c.try_from.ensures) c.numbers-count.ensures c.known_next-a.ensures

pub known_next-c-requires : goal.known_next-c-requires
known_next-c-requires c = third-known _ _ c.requires (rw c.unwrap-letter.ensures at c.try_from.ensures) c.numbers-count.ensures c.known_next-a.ensures c.known_next-b.ensures

pub bounds-s-end : goal.bounds-s-end
bounds-s-end c = (end_read _ _ c.requires (rw c.unwrap-letter.ensures at c.try_from.ensures) c.numbers-count.ensures c.known_next-a.ensures c.known_next-b.ensures c.known_next-c.ensures).here

pub overflow_add-next-else-cut : goal.overflow_add-next-else-cut
overflow_add-next-else-cut c = let h = line-inside _ _ c.requires (rw c.unwrap-letter.ensures at c.try_from.ensures) c.numbers-count.ensures c.known_next-a.ensures c.known_next-b.ensures c.known_next-c.ensures c.if-cut.false-raw in omega (arith, h)

pub returns-then-cut : goal.returns-then-cut
returns-then-cut c = line_read _ _ c.requires (rw c.unwrap-letter.ensures at c.try_from.ensures) c.numbers-count.ensures c.known_next-a.ensures c.known_next-b.ensures c.known_next-c.ensures c.if-cut.true-raw c.step-step.ensures

pub returns-else-cut : goal.returns-else-cut
returns-else-cut c = line_read _ _ c.requires (rw c.unwrap-letter.ensures at c.try_from.ensures) c.numbers-count.ensures c.known_next-a.ensures c.known_next-b.ensures c.known_next-c.ensures c.if-cut.false-raw c.step-step.ensures
