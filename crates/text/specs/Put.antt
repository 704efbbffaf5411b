-- What writing a text at a place of a lent array leaves there, and what it answers. Assumes nothing.
use Rattle.std.specs.Prelude.{◌≡◌, Bool, true, false, List, ◌++◌, ℕ, ◌+◌, ◌≤◌, leb, length, take, drop}

-- the list l with the text t from place at on
unfoldable pub put : List ℕ → ℕ → List ℕ → List ℕ
put l at t = take at l ++ t ++ drop (at + length t) l

-- t had room at a place of l, writing it there left the list m, and answered the place after t
pub record Wrote (l : List ℕ) (at : ℕ) (t m : List ℕ) (next : ℕ) : Type 0 where
  pub room : at + length t ≤ length l
  pub bytes : m ≡ put l at t
  pub end : next ≡ at + length t

-- where the text has no room from the place on, nothing is written and the place is answered as it was
abbrev pub PutsIf : Bool → List ℕ → ℕ → List ℕ → List ℕ → ℕ → Type 0
PutsIf true l at t m next = Wrote l at t m next
PutsIf false l at t m next = (m ≡ l) × (next ≡ at)

-- the contract of writing a text
unfoldable pub Puts : List ℕ → ℕ → List ℕ → List ℕ → ℕ → Type 0
Puts l at t m next = PutsIf (leb (at + length t) (length l)) l at t m next
