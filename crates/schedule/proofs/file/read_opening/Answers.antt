-- Each return is one case of the definition: no header, a wrong number of values, a faulty line, or all values. Assumes nothing.
use mathlib.Core.Path.{refl}
use native.Mathlib.Omega.{arith}
use Rattle.std.proofs.lemmas.Result.{err_from_is_err_and}
use Rattle.schedule.proofs.Reading.Whole.{opening-none, opening-size, size_few, opening-stop, opening-broken, opening-good}
use Rattle.schedule.proofs.file.read_opening.Goals as goal

pub returns-in_err-n : goal.returns-in_err-n
returns-in_err-n c = let p = err_from_is_err_and c.from_residual.result c.from_residual.ensures.1 in rw (p.1, p.2) (opening-none _ c.heading_at.ensures c.in_err-n.was)

pub returns-then-not-is_size : goal.returns-then-not-is_size
returns-then-not-is_size c = opening-size _ c.heading_at.ensures c.in_ok-n.was c.is_size.ensures c.if-not-is_size.true c.count_fault.ensures

pub read_values-requires : goal.read_values-requires
read_values-requires c = size_few _ c.is_size.ensures c.if-not-is_size.false

pub fault-requires : goal.fault-requires
fault-requires c =
    let h = opening-stop _ c.heading_at.ensures c.in_ok-n.was c.is_size.ensures c.if-not-is_size.false c.read_values.ensures c.args.file.short c.in-Err.is in
    (omega (arith, h.0, size_few _ c.is_size.ensures c.if-not-is_size.false), h.1, h.2)

pub returns-in-Err : goal.returns-in-Err
returns-in-Err c = opening-broken _ c.heading_at.ensures c.in_ok-n.was c.is_size.ensures c.if-not-is_size.false c.read_values.ensures c.in-Err.is c.fault.ensures

pub invariant_of-values : goal.invariant_of-values
invariant_of-values c = record { few = size_few _ c.is_size.ensures c.if-not-is_size.false }

pub returns : goal.returns
returns c = opening-good _ c.heading_at.ensures c.in_ok-n.was c.is_size.ensures c.if-not-is_size.false c.read_values.ensures _ refl c.in-Ok.is
