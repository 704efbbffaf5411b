-- `Process::on_f` meets its contract: it takes the stages of the definition, in their order, and none before the last leaves the rounds 0 to 63. Assumes nothing.
use Rattle.rules.proofs.Laws.Process.{f-round, joined-F}
use Rattle.rules.proofs.process.Process.on_f.Goals as goal

pub enters_next_at-requires : goal.enters_next_at-requires
enters_next_at-requires c =
    let a = c.args in
    let e = joined-F a.seat.n a.seat.i a.sender _ _ _ _ c.jumps.ensures c.to_phase_2-moved.ensures c.adopts-adopted.ensures c.joins.ensures in
    rw e (f-round a.seat.n a.sender a.round a.carried.proposer a.carried.value a.self c.requires.0 c.requires.1)
