use mathlib.Core.Path.{sym, ◌∙◌}
use native.Mathlib.Omega.{arith}
use Rattle.text.proofs.NumberLaws.{digit_seen, none_seen, at_more, at-over, at-stop}
use Rattle.text.proofs.LookLaws.{may-digit}
use Rattle.text.proofs.number.digits_from.Goals as goal

pub returns-then-not-is_digit : goal.returns-then-not-is_digit
returns-then-not-is_digit g c =
    sym (c.digits.invariant.2 ∙ at-stop _ _ _ (none_seen c.args.s.now c.digits.place c.byte-byte.ensures c.is_digit.ensures c.if-not-is_digit.true))

pub overflow_sub-total : goal.overflow_sub-total
overflow_sub-total g c = omega (arith, digit_seen c.args.s.now c.digits.place c.byte-byte.ensures c.is_digit.ensures c.if-not-is_digit.false)

pub returns-then-total-gt-MOST : goal.returns-then-total-gt-MOST
returns-then-total-gt-MOST g c =
    let d = digit_seen c.args.s.now c.digits.place c.byte-byte.ensures c.is_digit.ensures c.if-not-is_digit.false in
    sym (c.digits.invariant.2 ∙ at-over _ _ _ d.within d.is (omega (arith, c.byte-byte.ensures, c.if-total-gt-MOST.true)))

pub overflow_add-place : goal.overflow_add-place
overflow_add-place g c = omega (arith, digit_seen c.args.s.now c.digits.place c.byte-byte.ensures c.is_digit.ensures c.if-not-is_digit.false)

pub digits-smaller : goal.digits-smaller
digits-smaller g c = omega (arith, digit_seen c.args.s.now c.digits.place c.byte-byte.ensures c.is_digit.ensures c.if-not-is_digit.false)

pub digits-preserved : goal.digits-preserved
digits-preserved g c =
    let d = digit_seen c.args.s.now c.digits.place c.byte-byte.ensures c.is_digit.ensures c.if-not-is_digit.false in
    let small = c.if-total-gt-MOST.false in
    rw c.byte-byte.ensures (may-digit g.L.Look.may g.met.L.Look.next _ c.digits.invariant.0 d.is, omega (arith, c.byte-byte.ensures), c.digits.invariant.2 ∙ at_more _ _ _ d.within d.is (omega (arith, c.byte-byte.ensures)))
