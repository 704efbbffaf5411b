-- `run::run` meets its contract: a faulty file is answered with its fault, a sound one with its run. Assumes nothing.
use Prim.Native.Nat.{ℕ}
use mathlib.Core.List.{List}
use mathlib.Core.Path.{◌≡◌, ap}
use Rattle.std.proofs.Common.{Bor}
use Rattle.std.proofs.lemmas.Result.{err_from_is_err_and}
use Rattle.schedule.proofs.Running.Whole.{run-long, run-bad, run-form, run-good}
use Rattle.schedule.proofs.run.run.Goals as goal

pub returns-in_err-short : goal.returns-in_err-short
returns-in_err-short c = let p = err_from_is_err_and c.from_residual.result c.from_residual.ensures.1 in rw (p.1, p.2) (run-long _ (rw c.in_err-short.was at c.new.ensures) _ _)

pub returns-in_err-form : goal.returns-in_err-form
returns-in_err-form c =
    let same : c.in_ok-short.short.bytes.now ≡ c.args.file.now = ap (λ (f : Bor (List ℕ)). f.now) (rw c.in_ok-short.was at c.new.ensures) in
    let p = err_from_is_err_and c.from_residual-in_err-form.result c.from_residual-in_err-form.ensures.1 in
    rw (p.1, p.2) (run-bad _ (rw same at c.form_of.ensures) c.in_err-form.was _ _)

pub run_sound-requires : goal.run_sound-requires
run_sound-requires c =
    let kept : c.new-2.result.bytes.now ≡ c.in_ok-short.short.bytes.now = ap (λ (f : Bor (List ℕ)). f.now) c.new-2.ensures in
    rw kept (run-form _ c.form_of.ensures c.in_ok-form.was)

pub returns : goal.returns
returns c =
    let whole : c.in_ok-short.short.bytes.now ≡ c.args.file.now = ap (λ (f : Bor (List ℕ)). f.now) (rw c.in_ok-short.was at c.new.ensures) in
    let held : c.new-2.result.bytes.now ≡ c.in_ok-short.short.bytes.now = ap (λ (f : Bor (List ℕ)). f.now) c.new-2.ensures in
    run-good _ (rw whole at c.form_of.ensures) c.in_ok-form.was _ _ _ _ _ (rw (held, whole) at c.run_sound.ensures)
