-- `run::run_steps` meets its contract. The loop's invariant: the reader is one of the file, and the state and the counts so far, with the lines that are left, give what all of them give. Assumes nothing.
use mathlib.Core.Path.{◌≡◌}
use Rattle.schedule.specs.Private.{state_with}
use Rattle.schedule.proofs.Running.Steps.{Going}
use Rattle.schedule.proofs.run.run_steps.Given as goal

abbrev pub invariant-loop : goal.invariant-loop
invariant-loop l =
    (l.reader.file.bytes.now ≡ l.file.bytes.now)
    × Going l.file.bytes.now l.at l.count (state_with l.initial.group l.initial.store l.initial.depths) (state_with l.group l.store l.depths) l.counts l.counter l.reader.at
