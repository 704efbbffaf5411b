use mathlib.Core.Path.{sym, ◌∙◌}
use native.Mathlib.Omega.{arith}
use Rattle.text.proofs.NumberLaws.{Digit, digit-here}
use Rattle.schedule.proofs.Reading.Known.{underway-inside, underway-small, underway-more, underway-whole, begun}
use Rattle.schedule.proofs.line.known_number.Goals as goal
use Rattle.schedule.proofs.line.known_number.Goals.{In-loop-value}

pub bounds-s-at : goal.bounds-s-at
bounds-s-at c = (begun _ _ c.requires).first.within

pub overflow_sub-value : goal.overflow_sub-value
overflow_sub-value c = (begun _ _ c.requires).first.low

pub overflow_add-next : goal.overflow_add-next
overflow_add-next c = let r = (begun _ _ c.requires).first in omega (arith, r)

pub loop-value-init : goal.loop-value-init
loop-value-init c = (begun _ _ c.requires).then

pub bounds-s-next : goal.bounds-s-next
bounds-s-next c = underway-inside _ _ _ _ c.loop-value.invariant

-- a digit stands where the loop goes on
digit : (c : In-loop-value) → Digit c.args.s.now c.loop-value.next
digit c = digit-here _ _ (sym c.is_digit.ensures ∙ c.loop-value-test.true)

pub overflow_mul-value : goal.overflow_mul-value
overflow_mul-value c = let h = underway-small _ _ _ _ c.loop-value.invariant (digit c).is in omega (arith, h)

pub bounds-s-next-in-loop-value : goal.bounds-s-next-in-loop-value
bounds-s-next-in-loop-value c = underway-inside _ _ _ _ c.loop-value.invariant

pub overflow_sub-value-in-loop-value : goal.overflow_sub-value-in-loop-value
overflow_sub-value-in-loop-value c = (digit (goal.at.overflow_sub-value-in-loop-value c).In-loop-value).low

pub overflow_add-value : goal.overflow_add-value
overflow_add-value c = let h = underway-small _ _ _ _ c.loop-value.invariant (digit (goal.at.overflow_add-value c).In-loop-value).is in omega (arith, h)

pub overflow_add-next-in-loop-value : goal.overflow_add-next-in-loop-value
overflow_add-next-in-loop-value c = let h = underway-inside _ _ _ _ c.loop-value.invariant in omega (arith, h)

pub loop-value-smaller : goal.loop-value-smaller
loop-value-smaller c = let h = underway-inside _ _ _ _ c.loop-value.invariant in omega (arith, h)

pub loop-value-preserved : goal.loop-value-preserved
loop-value-preserved c = underway-more _ _ _ _ c.loop-value.invariant (digit (goal.at.loop-value-preserved c).In-loop-value).is

pub returns : goal.returns
returns c = underway-whole _ _ _ _ c.loop-value.invariant (sym c.is_digit.ensures ∙ c.loop-value-test.false)
