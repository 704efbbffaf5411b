-- `Process::way` meets its contract: refused, or the last course. Assumes nothing.
use Rattle.rules.proofs.Laws.Way.{number-some}
use Rattle.rules.specs.Private.{held_rows, held_course, unless_held, last_course, lifted, lifts, told, refused_by, Carries, entry_heard, depth_heard}
use Rattle.rules.specs.Refusals.{is_recover}
use Rattle.rules.specs.Step.{Refuses}
use Rattle.rules.specs.Kinds.{delivers}
use Rattle.rules.specs.Store.{proposer_of, value_of}
use Rattle.rules.specs.declared.step.Step.{Step}
use Rattle.rules.specs.declared.process.Process.{Process}
use Rattle.std.proofs.lemmas.Result.{err_from_is_err_and}
use Prim.Native.Nat.{ℕ, zero, suc, ◌+◌}
use mathlib.Core.Bool.{Bool}
use mathlib.Core.Path.{◌≡◌, refl, sym, ap, ap₂, ◌∙◌}
use Rattle.rules.proofs.process.Process.way.Goals as goal

module _ (n i e k : ℕ) (p : Process) (s : Step) where
  -- the rows that are tested
  abbrev rows : ℕ
  rows = held_rows n p.up e k (delivers s) (is_recover s)

  refused : {j : ℕ} → rows ≡ j → ¬ (j ≡ 0) → Refuses j ≡ held_course n i e k p s
  unfolding held_course unless_held
  refused {j} h z = go j h z
    where
      go : (m : ℕ) → rows ≡ m → ¬ (m ≡ 0) → Refuses m ≡ held_course n i e k p s
      go zero h z = absurd (z refl)
      go (suc m) h z = rw h

  passed : rows ≡ 0 → last_course n i (proposer_of e) (value_of e) p s ≡ held_course n i e k p s
  unfolding held_course unless_held
  passed h = rw h

-- what was tested are those rows
tested : (n : ℕ) (up : Bool) (e k : ℕ) {d d' b b' : Bool} → d ≡ d' → b ≡ b' → held_rows n up e k d b ≡ held_rows n up e k d' b'
tested n up e k x y = ap₂ (held_rows n up e k) x y

pub returns-in_err-carried : goal.returns-in_err-carried
unfolding told lifted refused_by
returns-in_err-carried c =
    let a = c.args in
    let p = err_from_is_err_and c.from_residual.result c.from_residual.ensures.1 in
    let rows = sym (c.in_err-carried.ensures.rows ∙ tested a.seat.n a.self.up (entry_heard a.heard) (depth_heard a.heard) c.requires.1 c.requires.2) in
    rw (p.1, p.2)
    (ap (lifted _) (refused a.seat.n a.seat.i (entry_heard a.heard) (depth_heard a.heard) a.self a.step rows (number-some c.in_err-carried.field-0.0)))

pub last_way-requires : goal.last_way-requires
last_way-requires c = c.requires.0

pub returns : goal.returns
unfolding refused_by Carries
returns c =
    let a = c.args in
    let e = c.in_ok-carried.ensures.carries in
    c.last_way.ensures
    ∙ ap (λ (k : ℕ). lifted (lifts a.self a.step k) (last_course a.seat.n a.seat.i c.in_ok-carried.carried.estimate.proposer c.in_ok-carried.carried.estimate.value a.self a.step)) e.2
    ∙ ap₂ (λ (q v : ℕ). lifted (lifts a.self a.step (depth_heard a.heard + 1)) (last_course a.seat.n a.seat.i q v a.self a.step)) e.0 e.1
    ∙ ap (lifted _) (passed a.seat.n a.seat.i (entry_heard a.heard) (depth_heard a.heard) a.self a.step (sym (c.in_ok-carried.ensures.rows ∙ tested _ _ _ _ c.requires.1 c.requires.2)))
