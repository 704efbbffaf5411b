-- `Store::spot` meets its contract: the place of a message of a round that there is lies in the store. Assumes nothing.
use mathlib.Core.Path.{ap}
use native.Mathlib.Omega.{arith}
use Rattle.std.specs.Prelude.{Some}
use Rattle.rules.specs.declared.process.Message.{Message}
use Rattle.rules.specs.Store.{message_round}
use Rattle.rules.proofs.store.Store.spot.Goals as goal

pub returns-in-E-clause-within : goal.returns-in-E-clause-within
unfolding message_round
returns-in-E-clause-within c = λ h. c.slot.ensures.within (omega (arith, h, ap (λ (m : Message). message_round (Some m)) c.in-E.is))

pub returns-in-S-clause-within : goal.returns-in-S-clause-within
unfolding message_round
returns-in-S-clause-within c = λ h. c.slot-in-S.ensures.within (omega (arith, h, ap (λ (m : Message). message_round (Some m)) c.in-S.is))

pub returns-in-F-clause-within : goal.returns-in-F-clause-within
unfolding message_round
returns-in-F-clause-within c = λ h. c.slot-in-F.ensures.within (omega (arith, h, ap (λ (m : Message). message_round (Some m)) c.in-F.is))
