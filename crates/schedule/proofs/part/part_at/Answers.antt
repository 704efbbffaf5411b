-- Each return is one case of the definition: no header, too many steps, a faulty line, or all lines. Assumes nothing.
use native.Mathlib.Omega.{arith}
use Rattle.std.proofs.lemmas.Result.{err_from_is_err_and}
use Rattle.schedule.proofs.Reading.Whole.{part_none, part-many, part-broken, part-good, part_count, part-stop}
use Rattle.schedule.proofs.part.part_at.Goals as goal

pub returns-in_err-count : goal.returns-in_err-count
returns-in_err-count c = let p = err_from_is_err_and c.from_residual.result c.from_residual.ensures.1 in rw (p.1, p.2) (part_none _ _ _ _ _ c.heading_at.ensures c.in_err-count.was)

pub count_fault-requires : goal.count_fault-requires
count_fault-requires c = part_count _ _ _ c.requires.1 c.args.file.short _ c.heading_at.ensures c.in_ok-count.was

pub returns-then-left-count : goal.returns-then-left-count
returns-then-left-count c = part-many _ _ _ _ _ c.heading_at.ensures c.in_ok-count.was c.if-left-count.true c.count_fault.ensures

pub fault-requires : goal.fault-requires
fault-requires c =
    let h = part-stop _ _ _ c.requires.1 c.args.file.short _ c.heading_at.ensures c.in_ok-count.was c.check_steps.ensures c.in-Err.is in
    (omega (arith, c.requires.0, h.0, c.if-left-count.false), h.1, h.2)

pub returns-in-Ok : goal.returns-in-Ok
returns-in-Ok c = part-good _ _ _ _ _ c.heading_at.ensures c.in_ok-count.was c.if-left-count.false c.check_steps.ensures c.in-Ok.is

pub returns-in-Err : goal.returns-in-Err
returns-in-Err c = part-broken _ _ _ _ _ c.heading_at.ensures c.in_ok-count.was c.if-left-count.false c.check_steps.ensures c.in-Err.is c.fault.ensures
