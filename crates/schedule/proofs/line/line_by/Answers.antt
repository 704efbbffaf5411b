-- Each part that is read says which case of `line_at` holds. Assumes nothing.
use mathlib.Core.Path.{sym, ap, ◌∙◌}
use native.Mathlib.Omega.{arith}
use Rattle.std.proofs.lemmas.Result.{err_from_is_err_and}
use Rattle.schedule.specs.Line.{letter_of}
use Rattle.schedule.proofs.Reading.Ahead.{may-letter, may-spaced, may-next}
use Rattle.schedule.proofs.Reading.Cases.{line_other, line-no-first, line-no-second, line-no-third, line-numbers}
use Rattle.schedule.proofs.Reading.Known.{letter-here}
use Rattle.schedule.proofs.line.line_by.Goals as goal

pub returns-in_default : goal.returns-in_default
returns-in_default g c = sym (line_other _ _ (ap letter_of c.byte.ensures) (rw c.in_default.is at c.try_from.ensures))

pub overflow_add-at : goal.overflow_add-at
overflow_add-at g c = record { fits = omega (arith, letter-here c.args.s.now c.args.at (sym (ap letter_of c.byte.ensures) ∙ (rw c.in-Ok.is at c.try_from.ensures))) }

pub spaced_at-requires : goal.spaced_at-requires
spaced_at-requires g c = may-letter g.L.Look.may g.met.L.Look.next _ c.requires (sym (ap letter_of c.byte.ensures) ∙ (rw c.in-Ok.is at c.try_from.ensures))

pub returns-in_err-a : goal.returns-in_err-a
returns-in_err-a g c = let p = err_from_is_err_and c.from_residual.result c.from_residual.ensures.1 in rw (p.1, p.2) (sym (line-no-first _ _ (ap letter_of c.byte.ensures) (rw c.in-Ok.is at c.try_from.ensures) c.numbers-count.ensures (sym c.spaced_at.ensures ∙ c.in_err-a.was)))

pub next_number-requires : goal.next_number-requires
next_number-requires g c = may-spaced g.L.Look.may g.met.L.Look.next _ (may-letter g.L.Look.may g.met.L.Look.next _ c.requires (sym (ap letter_of c.byte.ensures) ∙ (rw c.in-Ok.is at c.try_from.ensures))) (sym c.spaced_at.ensures ∙ c.in_ok-a.was)

pub returns-in_err-b : goal.returns-in_err-b
returns-in_err-b g c = let p = err_from_is_err_and c.from_residual-in_err-b.result c.from_residual-in_err-b.ensures.1 in rw (p.1, p.2) (sym (line-no-second _ _ (ap letter_of c.byte.ensures) (rw c.in-Ok.is at c.try_from.ensures) c.numbers-count.ensures (sym c.spaced_at.ensures ∙ c.in_ok-a.was) (sym c.next_number.ensures ∙ c.in_err-b.was)))

pub next_number-requires-2 : goal.next_number-requires-2
next_number-requires-2 g c = may-next g.L.Look.may g.met.L.Look.next _ (may-spaced g.L.Look.may g.met.L.Look.next _ (may-letter g.L.Look.may g.met.L.Look.next _ c.requires (sym (ap letter_of c.byte.ensures) ∙ (rw c.in-Ok.is at c.try_from.ensures))) (sym c.spaced_at.ensures ∙ c.in_ok-a.was)) _ (sym c.next_number.ensures ∙ c.in_ok-b.was)

pub returns-in_err-c : goal.returns-in_err-c
returns-in_err-c g c = let p = err_from_is_err_and c.from_residual-in_err-c.result c.from_residual-in_err-c.ensures.1 in rw (p.1, p.2) (sym (line-no-third _ _ (ap letter_of c.byte.ensures) (rw c.in-Ok.is at c.try_from.ensures) c.numbers-count.ensures (sym c.spaced_at.ensures ∙ c.in_ok-a.was) (sym c.next_number.ensures ∙ c.in_ok-b.was) (sym c.next_number-2.ensures ∙ c.in_err-c.was)))

pub ended_at-requires : goal.ended_at-requires
ended_at-requires g c = may-next g.L.Look.may g.met.L.Look.next _ (may-next g.L.Look.may g.met.L.Look.next _ (may-spaced g.L.Look.may g.met.L.Look.next _ (may-letter g.L.Look.may g.met.L.Look.next _ c.requires (sym (ap letter_of c.byte.ensures) ∙ (rw c.in-Ok.is at c.try_from.ensures))) (sym c.spaced_at.ensures ∙ c.in_ok-a.was)) _ (sym c.next_number.ensures ∙ c.in_ok-b.was)) _ (sym c.next_number-2.ensures ∙ c.in_ok-c.was)

pub returns : goal.returns
returns g c = c.ended_at.ensures ∙ sym (line-numbers _ _ (ap letter_of c.byte.ensures) (rw c.in-Ok.is at c.try_from.ensures) c.numbers-count.ensures (sym c.spaced_at.ensures ∙ c.in_ok-a.was) (sym c.next_number.ensures ∙ c.in_ok-b.was) (sym c.next_number-2.ensures ∙ c.in_ok-c.was))
