-- Each public contract admits one outcome: two that meet it on one input are equal. Assumes nothing.
use mathlib.Core.Path.{◌≡◌, sym, ◌∙◌}
use mathlib.Core.Bool.{Bool, true, false}
use mathlib.Core.List.{List}
use Prim.Native.Nat.{ℕ, ◌+◌}
use lib.Dec.{leb}
use lib.ListN.{length}
use Rattle.text.specs.Put.{PutsIf, Puts}

-- of a text that is put: the place that is answered, and the whole content of the lent array
pub puts_one : (l : List ℕ) (at : ℕ) (t : List ℕ) {m m' : List ℕ} {next next' : ℕ} → Puts l at t m next → Puts l at t m' next' → (next ≡ next') × (m ≡ m')
unfolding Puts
puts_one l at t {m} {m'} {next} {next'} x y = go (leb (at + length t) (length l)) x y
  where
    go : (b : Bool) → PutsIf b l at t m next → PutsIf b l at t m' next' → (next ≡ next') × (m ≡ m')
    go true x y = (x.end ∙ sym y.end, x.bytes ∙ sym y.bytes)
    go false x y = (x.1 ∙ sym y.1, x.0 ∙ sym y.0)
