-- `Group::finish` meets its contract: the record and the depth are put in, then the messages are handed over. Assumes nothing.
use Rattle.rules.proofs.Laws.Course.{finishes}
use Rattle.rules.proofs.Laws.Group.{member-both}
use Rattle.rules.specs.Answers.{said}
use Rattle.rules.specs.Step.{decides_now}
use Rattle.rules.specs.Layout.{process_at, depth_at}
use Rattle.rules.specs.declared.group.Member.{Member}
use Prim.Native.Nat.{max}
use mathlib.Core.Bool.{◌&&◌, not}
use mathlib.Core.Path.{sym, ap, ◌∙◌}
use Rattle.rules.proofs.group.Group.finish.Goals as goal

pub returns : goal.returns
unfolding said decides_now process_at depth_at
returns c =
    let a = c.args in
    finishes _ _ _ _ _ _ (c.higher-depth.ensures ∙ ap (λ (m : Member). max m.depth a.taking.lift) c.member-before.ensures)
    (c.put.ensures ∙ sym (member-both a.self.now a.taking.taker c.higher-depth.result a.taking.next.process)) c.hand_over_both-traffic.ensures
    (ap (λ (m : Member). a.taking.next.process.decided && not m.process.decided) c.member-before.ensures)
