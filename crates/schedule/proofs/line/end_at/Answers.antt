-- At each return the tests say which case of `end_at` holds. Assumes nothing.
use mathlib.Core.Path.{sym, ◌∙◌}
use Rattle.schedule.proofs.Reading.Cases.{end-plain, end-uncut, end-other, end-no-x, end-no-lf, end-cut}
use Rattle.schedule.proofs.line.end_at.Goals as goal

pub returns-then-first-eq10 : goal.returns-then-first-eq10
returns-then-first-eq10 g c = sym (end-plain _ _ _ (sym c.byte-first.ensures ∙ c.if-first-eq10.true))

pub returns-then-not-may : goal.returns-then-not-may
returns-then-not-may g c = sym (end-uncut _ _ (λ z. c.if-first-eq10.false (c.byte-first.ensures ∙ z)) c.if-not-may.true)

pub returns-then-first-ne32 : goal.returns-then-first-ne32
returns-then-first-ne32 g c = sym (end-other _ _ (λ z. c.if-first-eq10.false (c.byte-first.ensures ∙ z)) c.if-not-may.false (λ z. c.if-first-ne32.true (c.byte-first.ensures ∙ z)))

pub returns-then-byte-ne88 : goal.returns-then-byte-ne88
returns-then-byte-ne88 g c = sym (end-no-x _ _ c.if-not-may.false (sym c.byte-first.ensures ∙ c.if-first-ne32.false) (λ z. c.if-byte-ne88.true (c.byte.ensures ∙ z)))

pub returns-then-byte-ne10 : goal.returns-then-byte-ne10
returns-then-byte-ne10 g c = sym (end-no-lf _ _ c.if-not-may.false (sym c.byte-first.ensures ∙ c.if-first-ne32.false) (sym c.byte.ensures ∙ c.if-byte-ne88.false) (λ z. c.if-byte-ne10.true (c.byte-2.ensures ∙ z)))

pub returns : goal.returns
returns g c = sym (end-cut _ _ c.if-not-may.false (sym c.byte-first.ensures ∙ c.if-first-ne32.false) (sym c.byte.ensures ∙ c.if-byte-ne88.false) (sym c.byte-2.ensures ∙ c.if-byte-ne10.false))
