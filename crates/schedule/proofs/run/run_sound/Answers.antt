-- `run::run_sound` meets its contract: a start with the file's values, then both sections; over a short store all is refused. Assumes nothing.
use mathlib.Core.Path.{sym, ◌∙◌}
use Rattle.schedule.proofs.Running.Whole.{said-err, is-short, sound-short, sound-ready, sound-both}
use Rattle.schedule.proofs.run.run_sound.Goals as goal

pub returns-then-is_err : goal.returns-then-is_err
returns-then-is_err c =
    let e = rw c.as_slice.ensures at c.start-begun.ensures in
    let k = sym (is-short _ _ _ c.requires _ _ _ _ _ _ e) ∙ (said-err _ ∙ sym c.is_err.ensures.value ∙ c.if-is_err.true) in
    sound-short _ _ _ c.requires _ _ _ _ _ _ e k _ _ c.refused.ensures c.refused-then-is_err.ensures

pub run_both-requires : goal.run_both-requires
run_both-requires c =
    let e = rw c.as_slice.ensures at c.start-begun.ensures in
    let k = sym (is-short _ _ _ c.requires _ _ _ _ _ _ e) ∙ (said-err _ ∙ sym c.is_err.ensures.value ∙ c.if-is_err.false) in
    sound-ready _ _ _ c.requires _ _ _ _ _ _ e k

pub returns : goal.returns
returns c = sound-both _ _ _ c.requires _ _ _ _ _ _ (rw c.as_slice.ensures at c.start-begun.ensures) _ _ _ c.run_both.ensures
