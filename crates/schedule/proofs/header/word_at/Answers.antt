use mathlib.Core.Path.{sym, ◌∙◌}
use Rattle.schedule.proofs.Reading.Cases.{word-done, word-past, word-other, word_more}
use Rattle.schedule.proofs.header.word_at.Goals as goal

pub returns-then-place-s : goal.returns-then-place-s
returns-then-place-s c = sym (c.loop-byte.invariant ∙ word-past _ _ _ _ c.loop-byte-test.true c.if-place-s.true)

pub returns-then-s-place : goal.returns-then-s-place
returns-then-s-place c = sym (c.loop-byte.invariant ∙ word-other _ _ _ _ c.loop-byte-test.true c.if-place-s.false c.if-s-place.true)

pub loop-byte-preserved : goal.loop-byte-preserved
loop-byte-preserved c = c.loop-byte.invariant ∙ word_more _ _ _ _ c.loop-byte-test.true c.if-place-s.false c.if-s-place.false

pub returns : goal.returns
returns c = sym (c.loop-byte.invariant ∙ word-done _ _ _ _ c.loop-byte-test.false)
