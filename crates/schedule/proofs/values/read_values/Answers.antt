use mathlib.Core.Path.{refl}
use Rattle.schedule.proofs.Reading.Whole.{filling-none, filling-broken, filling-on, filling-done}
use Rattle.schedule.proofs.values.read_values.Goals as goal

pub loop-index-init : goal.loop-index-init
loop-index-init c = filling-none c.requires refl

pub returns-in-Err : goal.returns-in-Err
returns-in-Err c = filling-broken c.loop-index.invariant c.loop-index-test.true c.value_at.ensures c.in-Err.is

pub loop-index-preserved : goal.loop-index-preserved
loop-index-preserved c = filling-on c.loop-index.invariant c.loop-index-test.true c.value_at.ensures c.in-Ok.is

pub returns : goal.returns
returns c = filling-done c.loop-index.invariant c.loop-index-test.false
