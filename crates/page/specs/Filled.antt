-- A line by its template: each `#` stands for the next number, as long as there is one. Assumes nothing.
use Rattle.std.specs.Prelude.{List, [], ◌∷◌, ◌++◌, ℕ, eqb}
use Rattle.text.specs.Number.{pick, spelled}

-- `#`
abbrev pub mark : ℕ
mark = 35

unfoldable pub filled : List ℕ → List ℕ → List ℕ
filled [] ns = []
filled (b ∷ t) [] = b ∷ filled t []
filled (b ∷ t) (n ∷ ns) = pick (eqb b mark) (spelled n ++ filled t ns) (b ∷ filled t (n ∷ ns))
