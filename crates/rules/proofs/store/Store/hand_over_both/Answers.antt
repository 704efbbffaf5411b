-- `Store::hand_over_both` meets its contract: the first message is handed over, then the second. Assumes nothing.
use Rattle.rules.proofs.Laws.Store.{counted-once}
use Rattle.rules.proofs.Laws.Way.{hands-both}
use native.Mathlib.Omega.{arith}
use Rattle.rules.proofs.store.Store.hand_over_both.Goals as goal

pub overflow_add-result : goal.overflow_add-result
overflow_add-result c =
    let a = c.args in
    let l = a.store.now in
    omega (arith, c.hand_over-one.ensures.sent, c.hand_over-two.ensures.sent, counted-once a.i a.next.first l, counted-once a.i a.next.second l)

pub overflow_add-result-2 : goal.overflow_add-result-2
overflow_add-result-2 c =
    let a = c.args in
    omega (arith, c.hand_over-one.ensures.again, c.hand_over-two.ensures.again, counted-once a.i a.next.first a.store.now, counted-once a.i a.next.second c.hand_over-one.new.store)

pub returns : goal.returns
returns c = hands-both c.hand_over-one.ensures c.hand_over-two.ensures
