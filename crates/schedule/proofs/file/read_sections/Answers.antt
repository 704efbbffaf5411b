-- Each return is one case of the definition: the fault of a section, bytes behind the last step, or two sound sections. Assumes nothing.
use native.Mathlib.Omega.{arith}
use Rattle.std.proofs.lemmas.Result.{err_from_is_err_and}
use Rattle.schedule.proofs.Reading.Whole.{warmup-high, warmup-few, measured-high, measured-few, sections-none, sections-half, sections-more, sections-good}
use Rattle.schedule.proofs.file.read_sections.Goals as goal

pub returns-in_err-warmup : goal.returns-in_err-warmup
returns-in_err-warmup c = let p = err_from_is_err_and c.from_residual.result c.from_residual.ensures.1 in rw (p.1, p.2) (sections-none _ _ _ c.part_at.ensures c.in_err-warmup.was)

pub overflow_add-line : goal.overflow_add-line
overflow_add-line c = omega (arith, warmup-few _ _ _ c.part_at.ensures c.in_ok-warmup.was)

pub overflow_add-line-2 : goal.overflow_add-line-2
overflow_add-line-2 c = omega (arith, warmup-few _ _ _ c.part_at.ensures c.in_ok-warmup.was)

pub overflow_sub-left : goal.overflow_sub-left
overflow_sub-left c = warmup-few _ _ _ c.part_at.ensures c.in_ok-warmup.was

pub part_at-requires-2 : goal.part_at-requires-2
part_at-requires-2 c = (omega (arith, c.requires.0, warmup-few _ _ _ c.part_at.ensures c.in_ok-warmup.was), warmup-high _ _ _ c.part_at.ensures c.in_ok-warmup.was c.requires.1)

pub returns-in_err-measured : goal.returns-in_err-measured
returns-in_err-measured c = let p = err_from_is_err_and c.from_residual-in_err-measured.result c.from_residual-in_err-measured.ensures.1 in rw (p.1, p.2) (sections-half _ _ _ c.part_at.ensures c.in_ok-warmup.was c.part_at-2.ensures c.in_err-measured.was)

pub overflow_add-after : goal.overflow_add-after
overflow_add-after c = omega (arith, measured-few _ _ _ c.part_at.ensures c.in_ok-warmup.was c.part_at-2.ensures c.in_ok-measured.was)

pub overflow_add-after-then-measured-file : goal.overflow_add-after-then-measured-file
overflow_add-after-then-measured-file c = omega (arith, measured-few _ _ _ c.part_at.ensures c.in_ok-warmup.was c.part_at-2.ensures c.in_ok-measured.was)

pub overflow_add-after-then-measured-file-2 : goal.overflow_add-after-then-measured-file-2
overflow_add-after-then-measured-file-2 c = omega (arith, measured-few _ _ _ c.part_at.ensures c.in_ok-warmup.was c.part_at-2.ensures c.in_ok-measured.was)

pub at-requires : goal.at-requires
at-requires c = let high = measured-high _ _ _ c.part_at.ensures c.in_ok-warmup.was c.part_at-2.ensures c.in_ok-measured.was c.requires.1 in (omega arith, omega (arith, high, c.args.file.short))

pub returns-then-measured-file : goal.returns-then-measured-file
returns-then-measured-file c = sections-more _ _ _ c.part_at.ensures c.in_ok-warmup.was c.part_at-2.ensures c.in_ok-measured.was c.if-measured-file.true c.at.ensures

pub returns : goal.returns
returns c = sections-good _ _ _ c.part_at.ensures c.in_ok-warmup.was c.part_at-2.ensures c.in_ok-measured.was c.if-measured-file.false
