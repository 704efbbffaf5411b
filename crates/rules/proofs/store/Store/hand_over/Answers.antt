-- `Store::hand_over` meets its contract: the message's place is one of the store's. Assumes nothing.
use native.Mathlib.Omega.{arith}
use mathlib.Core.Path.{ap}
use Rattle.rules.specs.Store.{message_round}
use Rattle.rules.proofs.store.Store.hand_over.Goals as goal

pub write-again-requires : goal.write-again-requires
write-again-requires c =
    let low = c.spot.ensures.within (omega (arith, ap message_round c.in-Some.is, c.requires.0)) in
    (omega (arith, low, c.requires.1), omega (arith, low, c.requires.2))
