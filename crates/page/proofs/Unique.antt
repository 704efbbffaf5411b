-- The public contract admits one outcome: two that meet it on one input are equal. Assumes nothing.
use mathlib.Core.Path.{◌≡◌, sym, ◌∙◌}
use mathlib.Core.List.{List}
use Prim.Native.Nat.{ℕ}
use Rattle.page.specs.Report.{Reports}

-- of the report: the length, the whole content of the lent array and of both stores
pub report-one : {s l d out a b a' b' out₁ out₂ : List ℕ} {r q : ℕ} → Reports s l d out a a' out₁ r → Reports s l d out b b' out₂ q
    → (r ≡ q) × (out₁ ≡ out₂) × (a ≡ b) × (a' ≡ b')
report-one x y = (
  x.bytes.end ∙ sym y.bytes.end,
  x.bytes.bytes ∙ sym y.bytes.bytes,
  x.store ∙ sym y.store,
  x.depths ∙ sym y.depths,
)
