-- Where a byte that is tested for the end of its text may be looked at. Assumes nothing.
use Rattle.std.specs.Prelude.{List, ℕ}

abbrev pub Anywhere : List ℕ → ℕ → Type 0
Anywhere s at = Unit {0}
