-- `line::fill` meets its contract. The loop's invariant: what is written and what is left of the template, filled with what is left of the numbers, are the whole.
-- Assumes nothing.
use Rattle.page.proofs.FillLaws.{Filling}
use Rattle.page.proofs.line.fill.Given as goal

abbrev pub invariant-loop-byte : goal.invariant-loop-byte
invariant-loop-byte l = Filling l.initial.out l.at l.template l.numbers l.out l.byte-index l.left l.place
