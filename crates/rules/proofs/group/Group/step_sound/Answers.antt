-- `Group::step_sound` meets its contract: each case of the way has its outcome. Assumes nothing.
use Rattle.rules.proofs.Laws.Course.{idle-outcome, refused-outcome, takes-handable}
use Rattle.rules.proofs.Laws.Way.{way-idles, way-refuses, way-takes, taken-lift, taken-way}
use Rattle.rules.specs.Answers.{said}
use Rattle.rules.specs.Private.{told}
use Rattle.std.proofs.lemmas.Result.{err_from_is_err_and}
use mathlib.Core.Path.{sym, ◌∙◌}
use Rattle.rules.proofs.group.Group.step_sound.Goals as goal

pub returns-in_err-way_of : goal.returns-in_err-way_of
unfolding said told
returns-in_err-way_of c =
    let p = err_from_is_err_and c.from_residual.result c.from_residual.ensures.1 in
    rw (p.1, p.2) (refused-outcome _ _ _ _ (way-refuses _ _ (sym c.in_err-way_of.ensures)))

pub finish-requires : goal.finish-requires
unfolding told
finish-requires c =
    let e = rw c.in-Some.is at (sym c.in_ok-way_of.ensures) in
    (takes-handable _ _ _ _ c.requires (way-takes _ _ e).0, taken-lift _ _ _ _ e)

pub returns-in-None : goal.returns-in-None
unfolding said told
returns-in-None c = idle-outcome _ _ _ _ (way-idles _ _ (rw c.in-None.is at (sym c.in_ok-way_of.ensures)))

pub returns-in-Some : goal.returns-in-Some
unfolding told
returns-in-Some c = c.finish.ensures ∙ taken-way _ _ _ _ (rw c.in-Some.is at (sym c.in_ok-way_of.ensures))
