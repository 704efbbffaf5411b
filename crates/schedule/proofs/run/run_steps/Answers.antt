use Rattle.schedule.specs.declared.lf.Lined.{Lined}
use mathlib.Core.Path.{refl, sym, ap, ◌∙◌}
use Rattle.schedule.proofs.Running.Steps.{counts_same, going-none, going-known, going_on, going_done}
use Rattle.schedule.proofs.run.run_steps.Goals as goal

pub loop-init : goal.loop-init
loop-init c = (refl, counts_same (sym c.none-counts.ensures) (going-none _ _ _ _ _ _ c.requires))

pub step-step-requires : goal.step-step-requires
step-step-requires c = rw c.loop.invariant.0 (going-known _ _ _ _ _ _ _ _ c.loop.invariant.1 c.loop-test.true)

pub loop-preserved : goal.loop-preserved
loop-preserved c =
    let same = c.loop.invariant.0 in (
      ap (λ (f : Lined). f.bytes.now) c.step-step.ensures.same ∙ same,
      counts_same (sym c.counted-counts.ensures)
          (going_on _ _ _ _ _ _ _ _ c.loop.invariant.1 c.loop-test.true _ _ (rw same at c.step-step.ensures.read) _ _ c.step_sound-answer.ensures),
    )

pub returns : goal.returns
returns c = going_done _ _ _ _ _ _ _ _ _ _ _ _ c.loop.invariant.1 c.loop-test.false
