-- Lines of a file, one after the other: each holds one thing, a step or a value. Assumes nothing.
use Rattle.std.specs.Prelude.{List, [], ◌∷◌, ◌++◌, ℕ, zero, suc, ◌+◌, Result, Ok, Err}
use Rattle.text.specs.Read.{Read, on_read}
use Rattle.schedule.specs.declared.fault.BrokenLine.{BrokenLine}

-- every thing of a list is so
unfoldable pub Every : {A : Type 0} → (A → Type 0) → List A → Type 0
Every P [] = Unit {0}
Every P (x ∷ xs) = P x × Every P xs

-- what stands as some lines: the things and the place after the last line, or the first line that breaks the form: which it is, where it begins and where it breaks the form
abbrev pub Rows : Type 0 → Type 0
Rows A = Result (List A × ℕ) BrokenLine

abbrev pub broken_at : {A : Type 0} → ℕ → ℕ → ℕ → Result A BrokenLine
broken_at i from p = Err (record { index = i; from = from; place = p })

-- x in front of what the other lines hold
unfoldable pub before : {A : Type 0} → A → Rows A → Rows A
before x (Err broken) = Err broken
before x (Ok (xs, m)) = Ok (x ∷ xs, m)

-- k lines from a place on, of which the first has the number i
unfoldable pub lines_at : {A : Type 0} → (ℕ → Read A) → ℕ → ℕ → ℕ → Rows A
lines_at f zero i at = Ok ([], at)
lines_at f (suc k) i at = on_read (f at) (broken_at i at) (λ x m. before x (lines_at f k (i + 1) m))

-- the bytes of lines, where f gives those of one
unfoldable pub lines_of : {A : Type 0} → (A → List ℕ) → List A → List ℕ
lines_of f [] = []
lines_of f (x ∷ xs) = f x ++ lines_of f xs
