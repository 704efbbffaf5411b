-- The first two bytes say which case of `number_at` holds. Assumes nothing.
use mathlib.Core.Path.{sym, ◌∙◌}
use Prim.Native.Nat.{◌+◌}
use native.Mathlib.Omega.{arith}
use Rattle.text.proofs.NumberLaws.{digit_seen, none_seen, number-none, number-one, number-zero-more, number_more}
use Rattle.text.proofs.LookLaws.{may-digit}
use Rattle.text.proofs.number.decimal_by.Goals as goal

pub returns-then-not-is_digit : goal.returns-then-not-is_digit
returns-then-not-is_digit g c = sym (number-none _ _ (none_seen c.args.s.now c.args.at c.byte-first.ensures c.is_digit.ensures c.if-not-is_digit.true))

pub overflow_add-at : goal.overflow_add-at
overflow_add-at g c = record { fits = omega (arith, digit_seen c.args.s.now c.args.at c.byte-first.ensures c.is_digit.ensures c.if-not-is_digit.false) }

pub byte-requires : goal.byte-requires
byte-requires g c = may-digit g.L.Look.may g.met.L.Look.next _ c.requires (digit_seen c.args.s.now c.args.at c.byte-first.ensures c.is_digit.ensures c.if-not-is_digit.false).is

pub overflow_sub-result : goal.overflow_sub-result
overflow_sub-result g c = omega (arith, c.byte-first.ensures, digit_seen c.args.s.now c.args.at c.byte-first.ensures c.is_digit.ensures c.if-not-is_digit.false)

pub returns-then-not-is_digit-2 : goal.returns-then-not-is_digit-2
returns-then-not-is_digit-2 g c =
    rw c.byte-first.ensures (sym (number-one _ _ (digit_seen c.args.s.now c.args.at c.byte-first.ensures c.is_digit.ensures c.if-not-is_digit.false).is (none_seen c.args.s.now (c.args.at + 1) c.byte.ensures c.is_digit-2.ensures c.if-not-is_digit-2.true)))

pub returns-then-first-eq48 : goal.returns-then-first-eq48
returns-then-first-eq48 g c =
    sym (number-zero-more _ _ (sym c.byte-first.ensures ∙ c.if-first-eq48.true) (digit_seen c.args.s.now (c.args.at + 1) c.byte.ensures c.is_digit-2.ensures c.if-not-is_digit-2.false).is)

pub overflow_add-at-2 : goal.overflow_add-at-2
overflow_add-at-2 g c = record { fits = omega (arith, digit_seen c.args.s.now c.args.at c.byte-first.ensures c.is_digit.ensures c.if-not-is_digit.false) }

pub overflow_sub-first : goal.overflow_sub-first
overflow_sub-first g c = omega (arith, c.byte-first.ensures, digit_seen c.args.s.now c.args.at c.byte-first.ensures c.is_digit.ensures c.if-not-is_digit.false)

pub digits_from-requires : goal.digits_from-requires
digits_from-requires g c = (may-digit g.L.Look.may g.met.L.Look.next _ c.requires (digit_seen c.args.s.now c.args.at c.byte-first.ensures c.is_digit.ensures c.if-not-is_digit.false).is, omega (arith, c.byte-first.ensures, digit_seen c.args.s.now c.args.at c.byte-first.ensures c.is_digit.ensures c.if-not-is_digit.false))

pub returns : goal.returns
returns g c =
    c.digits_from.ensures ∙ rw c.byte-first.ensures (sym (number_more _ _ (digit_seen c.args.s.now c.args.at c.byte-first.ensures c.is_digit.ensures c.if-not-is_digit.false).is (λ z. c.if-first-eq48.false (c.byte-first.ensures ∙ z))))
