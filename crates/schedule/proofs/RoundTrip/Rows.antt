-- The round trip of lines, whatever one line holds: what is spelled is read, and what is read is spelled. Assumes nothing.
use mathlib.Core.Path.{◌≡◌, refl, ap, ◌∙◌, subst}
use mathlib.Core.List.{List, [], ◌∷◌}
use Prim.Native.Nat.{ℕ, zero, suc, ◌+◌}
use native.Mathlib.Omega.{arith}
use lib.ListN.{length}
use Rattle.std.specs.Prelude.{Ok, Err}
use Rattle.text.specs.Read.{Read, on_read}
use Rattle.text.proofs.ReadLaws.{got}
use Rattle.schedule.proofs.Reading.InARow.{rows}
use Rattle.text.specs.Stands.{Stands}
use Rattle.schedule.specs.Lines.{Rows, broken_at, before, lines_at, lines_of}
use Rattle.schedule.specs.Lines.{Every}
use Rattle.schedule.proofs.Reading.InARow.{lines_none}
use Rattle.text.proofs.StandsLaws.{stands-none, stands-join, stands-first, stands-rest}

module _ {A : Type 0} (f : ℕ → Read A) where
  lines_more : (k i at n m : ℕ) (x : A) (xs : List A) → f at ≡ got x n → lines_at f k (i + 1) n ≡ rows xs m → lines_at f (suc k) i at ≡ rows (x ∷ xs) m
  unfolding lines_at before
  lines_more k i at n m x xs e h = rw (e, h)

module _ {A : Type 0} (s : List ℕ) (f : ℕ → Read A) (g : A → List ℕ) (P : A → Type 0) where
  -- where a line that stands is read, lines that stand are
  pub lines-spelled : ((at m : ℕ) (x : A) → P x → Stands s at m (g x) → f at ≡ got x m)
      → (xs : List A) (k i at m : ℕ) → length xs ≡ k → Every P xs → Stands s at m (lines_of g xs) → lines_at f k i at ≡ rows xs m
  unfolding Every lines_of
  lines-spelled one [] zero i at m e h p = lines_none f i at ∙ ap (rows []) (omega (arith, p.end))
  lines-spelled one [] (suc k) i at m e h p = absurd (omega arith)
  lines-spelled one (x ∷ xs) zero i at m e h p = absurd (omega arith)
  lines-spelled one (x ∷ xs) (suc k) i at m e h p =
      let n : ℕ = at + length (g x) in
      lines_more f k i at n m x xs (one at n x h.0 (stands-first s at m (g x) (lines_of g xs) p))
      (lines-spelled one xs k (i + 1) n m (omega arith) h.1 (stands-rest s at m (g x) (lines_of g xs) p))

  abbrev LinesSound : ℕ → ℕ → Rows A → Type 0
  LinesSound k at (Err broke) = Unit {0}
  LinesSound k at (Ok (xs, m)) = (length xs ≡ k) × Every P xs × Stands s at m (lines_of g xs)

  none-sound : (at : ℕ) → LinesSound zero at (rows [] at)
  unfolding Every lines_of
  none-sound at = (refl, tt, stands-none s at)

  before-sound : (k at n : ℕ) (x : A) → P x × Stands s at n (g x) → (r : Rows A) → LinesSound k n r → LinesSound (suc k) at (before x r)
  unfolding before Every lines_of
  before-sound k at n x h (Err broke) r = tt
  before-sound k at n x h (Ok (xs, m)) r = (ap suc r.0, (h.0, r.1), stands-join s at n m (g x) (lines_of g xs) h.1 r.2)

  more-sound : ((at m : ℕ) (x : A) → f at ≡ got x m → P x × Stands s at m (g x))
      → (k i at : ℕ) → ((n : ℕ) → LinesSound k n (lines_at f k (i + 1) n)) → (r : Read A) → f at ≡ r
      → LinesSound (suc k) at (on_read r (broken_at i at) (λ x n. before x (lines_at f k (i + 1) n)))
  more-sound one k i at ih (Err p) e = tt
  more-sound one k i at ih (Ok (x, n)) e = before-sound k at n x (one at n x e) (lines_at f k (i + 1) n) (ih n)

  lines-sound : ((at m : ℕ) (x : A) → f at ≡ got x m → P x × Stands s at m (g x)) → (k i at : ℕ) → LinesSound k at (lines_at f k i at)
  unfolding lines_at
  lines-sound one zero i at = none-sound at
  lines-sound one (suc k) i at = more-sound one k i at (λ n. lines-sound one k (i + 1) n) (f at) refl

  -- where a line that is read stands, lines that are read do
  pub lines-read : ((at m : ℕ) (x : A) → f at ≡ got x m → P x × Stands s at m (g x))
      → (xs : List A) (k i at m : ℕ) → lines_at f k i at ≡ rows xs m → (length xs ≡ k) × Every P xs × Stands s at m (lines_of g xs)
  lines-read one xs k i at m e = subst (LinesSound k at) e (lines-sound one k i at)
