-- Each return is one case of the definition: a faulty opening, a faulty section, or a sound file. Assumes nothing.
use Rattle.std.proofs.Common.{Bor, rules}
use Prim.Native.Nat.{ℕ}
use mathlib.Core.List.{List}
use mathlib.Core.Path.{◌≡◌, ap}
use lib.ListN.{length}
use Rattle.std.proofs.lemmas.Result.{err_from_is_err_and}
use Rattle.schedule.proofs.Reading.Whole.{opening-within, form-opening, form-sections, form-good}
use Rattle.schedule.proofs.file.form_of.Goals as goal

pub returns-in_err-opening : goal.returns-in_err-opening
returns-in_err-opening c = let p = err_from_is_err_and c.from_residual.result c.from_residual.ensures.1 in rw (p.1, p.2) (form-opening _ c.args.file.short c.read_opening.ensures c.in_err-opening.was)

pub read_sections-requires : goal.read_sections-requires
read_sections-requires c =
    let same : c.new.result.bytes.now ≡ c.args.file.bytes.now = ap (λ (f : Bor (List ℕ)). f.now) c.new.ensures in
    (c.in_ok-opening.opening.values.few, rw same (opening-within _ c.args.file.short c.read_opening.ensures c.in_ok-opening.was))

pub returns-in_err-places : goal.returns-in_err-places
returns-in_err-places c =
    let same : c.new.result.bytes.now ≡ c.args.file.bytes.now = ap (λ (f : Bor (List ℕ)). f.now) c.new.ensures in
    let long : length c.in_ok-opening.opening.values.all ≡ 16 = search rules in
    let p = err_from_is_err_and c.from_residual-in_err-places.result c.from_residual-in_err-places.ensures.1 in
    rw (p.1, p.2) (form-sections _ c.args.file.short c.read_opening.ensures c.in_ok-opening.was long (rw same at c.read_sections.ensures) c.in_err-places.was)

pub returns : goal.returns
returns c =
    let same : c.new.result.bytes.now ≡ c.args.file.bytes.now = ap (λ (f : Bor (List ℕ)). f.now) c.new.ensures in
    let long : length c.in_ok-opening.opening.values.all ≡ 16 = search rules in
    form-good _ c.args.file.short c.read_opening.ensures c.in_ok-opening.was long (rw same at c.read_sections.ensures) c.in_ok-places.was
