-- `run::run_both` meets its contract: the second section begins where the first ends. Assumes nothing.
use Rattle.schedule.proofs.Running.Whole.{both-second, both-ran}
use Rattle.schedule.proofs.run.run_both.Goals as goal

pub run_steps-measured-requires : goal.run_steps-measured-requires
run_steps-measured-requires c = both-second _ _ _ _ _ c.requires _ _ _ _ c.run_steps-warmup.ensures

pub returns : goal.returns
returns c = both-ran _ _ _ _ _ c.requires _ _ _ _ c.run_steps-warmup.ensures _ _ _ _ c.run_steps-measured.ensures
