-- `Process::last_way` meets its contract: each kind of step has its own course. Assumes nothing.
use Rattle.rules.proofs.Laws.Course.{numbers-E, numbers-S, numbers-F}
use native.Mathlib.Omega.{arith}
use Rattle.rules.proofs.process.Process.last_way.Goals as goal

pub known-requires : goal.known-requires
known-requires c = omega (arith, numbers-E _ _ _ _ _ c.requires.high c.requires.numbers c.in-DeliverE.is)

pub overflow_cast-round : goal.overflow_cast-round
overflow_cast-round c = omega (arith, numbers-E _ _ _ _ _ c.requires.high c.requires.numbers c.in-DeliverE.is)

pub known-requires-in-DeliverS : goal.known-requires-in-DeliverS
known-requires-in-DeliverS c = omega (arith, numbers-S _ _ _ _ _ c.requires.high c.requires.numbers c.in-DeliverS.is)

pub overflow_cast-round-in-DeliverS : goal.overflow_cast-round-in-DeliverS
overflow_cast-round-in-DeliverS c = omega (arith, numbers-S _ _ _ _ _ c.requires.high c.requires.numbers c.in-DeliverS.is)

pub known-requires-in-DeliverF : goal.known-requires-in-DeliverF
known-requires-in-DeliverF c = omega (arith, numbers-F _ _ _ _ _ c.requires.high c.requires.numbers c.in-DeliverF.is)

pub overflow_cast-round-in-DeliverF : goal.overflow_cast-round-in-DeliverF
overflow_cast-round-in-DeliverF c = omega (arith, numbers-F _ _ _ _ _ c.requires.high c.requires.numbers c.in-DeliverF.is)

pub way_f-requires : goal.way_f-requires
way_f-requires c = omega (arith, numbers-F _ _ _ _ _ c.requires.high c.requires.numbers c.in-DeliverF.is, c.requires.round)
