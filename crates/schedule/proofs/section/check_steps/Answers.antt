use Rattle.schedule.specs.declared.lf.Lined.{Lined}
use mathlib.Core.Path.{ap, ◌∙◌}
use Rattle.schedule.proofs.Reading.Whole.{checking-broken, checking-on, checking-done}
use Rattle.schedule.proofs.section.check_steps.Goals as goal

pub returns-in-Err : goal.returns-in-Err
returns-in-Err c = checking-broken c.loop-index.invariant.1 _ _ c.loop-index.invariant.0 c.loop-index-test.true c.line.ensures.read c.in-Err.is

pub loop-index-preserved : goal.loop-index-preserved
loop-index-preserved c = (
  ap (λ (f : Lined). f.bytes.now) c.line.ensures.same ∙ c.loop-index.invariant.0,
  checking-on c.loop-index.invariant.1 _ _ c.loop-index.invariant.0 c.loop-index-test.true c.line.ensures.read c.in_default.is,
)

pub returns : goal.returns
returns c = checking-done c.loop-index.invariant.1 c.loop-index-test.false
