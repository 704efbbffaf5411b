-- `Group::start` meets its contract: the refusals, then the records and both stores. Assumes nothing.
use Rattle.rules.proofs.Laws.Whole.{deep-start-passed}
use Rattle.rules.proofs.Laws.Way.{number-some}
use Rattle.rules.specs.Refusals.{start_refusal, short, miscounted}
use Rattle.rules.specs.Answers.{outcome, said, says_applied, says_refused, number_of}
use Rattle.rules.specs.Start.{unless_refused_start, started}
use Rattle.rules.specs.Layout.{blank_group}
use Rattle.rules.specs.Private.{refused_by}
use Rattle.rules.specs.declared.group.Group.{Group}
use Prim.Native.Nat.{ℕ, zero, suc}
use mathlib.Core.Bool.{false}
use mathlib.Core.List.{List}
use mathlib.Core.Path.{◌≡◌, refl, sym, ap, ◌∙◌}
use Rattle.rules.proofs.group.Group.start.Goals as goal

module _ (vs l d : List ℕ) where
  refused : (k : ℕ) → start_refusal vs l d ≡ k → ¬ (k ≡ 0) → outcome (blank_group 0) l d (says_refused k) ≡ started vs l d
  unfolding started unless_refused_start
  refused zero e h = absurd (h refl)
  refused (suc k) e h = rw e

pub begin-requires : goal.begin-requires
unfolding refused_by start_refusal short miscounted
begin-requires c =
    let t = deep-start-passed c.args.values.now c.args.store.now c.args.depths.now (sym (rw c.in-Ok.is at c.start_size.ensures.err)) in
    (t.0, t.1)

pub returns-in-Ok : goal.returns-in-Ok
unfolding refused_by said started unless_refused_start start_refusal short miscounted
returns-in-Ok c =
    let e = sym (rw c.in-Ok.is at c.start_size.ensures.err) in
    rw e (λ t. outcome (c.fresh.ensures t) (c.begin.ensures.0 t) (c.begin.ensures.1 t) (says_applied 1 0 false))

pub returns-in-Err : goal.returns-in-Err
unfolding refused_by said start_refusal short miscounted
returns-in-Err c =
    let e = sym (rw c.in-Err.is at c.start_size.ensures.err) in
    ap (λ (g : Group). outcome g c.args.store.now c.args.depths.now (says_refused (number_of c.in-Err.refusal))) c.none.ensures
    ∙ refused c.args.values.now c.args.store.now c.args.depths.now _ e (number-some c.in-Err.refusal)
