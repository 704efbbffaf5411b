-- The test says which case of `spaced_at` holds. Assumes nothing.
use mathlib.Core.Path.{sym, ◌∙◌}
use Rattle.schedule.proofs.Reading.Cases.{spaced-is, spaced-not}
use Rattle.schedule.proofs.line.spaced_at.Goals as goal

pub returns-then-byte-eq32 : goal.returns-then-byte-eq32
returns-then-byte-eq32 g c = c.decimal_by.ensures ∙ sym (spaced-is _ _ (sym c.byte.ensures ∙ c.if-byte-eq32.true))

pub returns-else-byte-eq32 : goal.returns-else-byte-eq32
returns-else-byte-eq32 g c = sym (spaced-not _ _ (λ z. c.if-byte-eq32.false (c.byte.ensures ∙ z)))
