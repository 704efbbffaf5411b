-- `Group::step_on` meets its contract: refusals 11, 14 and 2 first, then the step. Assumes nothing.
use Rattle.rules.proofs.Laws.Course.{wanting-outcome, damaged-outcome}
use Rattle.rules.proofs.Laws.Way.{number-some}
use Rattle.rules.specs.Refusals.{row, short}
use Rattle.rules.specs.Answers.{said, says_refused, number_of, outcome}
use Rattle.rules.specs.Private.{refused_by}
use Rattle.rules.specs.Step.{stepped}
use Rattle.rules.specs.declared.group.Group.{Group}
use Rattle.rules.specs.declared.refusal.Refusal.{Refusal}
use Rattle.rules.specs.declared.step.Step.{Step}
use Rattle.std.proofs.lemmas.Result.{err_from_is_err_and}
use borrow.Author.Tests.{le-ltb}
use mathlib.Core.List.{List}
use mathlib.Core.Path.{◌≡◌, sym, ◌∙◌}
use Prim.Native.Nat.{ℕ}
use Rattle.rules.proofs.group.Group.step_on.Goals as goal

-- what the check of both stores refuses, the step refuses: no refusal has the number 0
wanting : (g : Group) (l d : List ℕ) (s : Step) (r : Refusal) → row (short l) 11 (row (short d) 14 0) ≡ number_of r
    → outcome g l d (says_refused (number_of r)) ≡ stepped g l d s
wanting g l d s r e = wanting-outcome g l d s e (number-some r)

pub returns-in_err-check : goal.returns-in_err-check
unfolding said refused_by
returns-in_err-check c =
    let p = err_from_is_err_and c.from_residual.result c.from_residual.ensures.1 in
    rw (p.1, p.2) (wanting _ _ _ _ _ (sym c.in_err-check.ensures.rows))

pub returns-then-is_damaged : goal.returns-then-is_damaged
unfolding said number_of short
returns-then-is_damaged c =
    let w = c.in_ok-check.ensures.long in
    damaged-outcome _ _ _ _ (le-ltb _ _ w.0) (le-ltb _ _ w.1) (sym c.is_damaged.ensures ∙ c.if-is_damaged.true)
