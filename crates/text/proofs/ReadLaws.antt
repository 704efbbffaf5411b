-- The laws of what is read at a place: two readings that are equal have the same thing and the same place, and one that breaks the form is no other. Assumes nothing.
use mathlib.Core.Path.{◌≡◌, ap}
use Prim.Native.Nat.{ℕ}
use native.Mathlib.Omega.{arith}
use Rattle.std.specs.Prelude.{Result, Ok, Err}
use Rattle.text.specs.declared.number.Broken.{Broken}
use Rattle.text.specs.Read.{Read, bad, on_read}

abbrev pub got : {A : Type 0} → A → ℕ → Read A
got x n = Ok (x, n)

module _ {A : Type 0} where
  pub same-thing : {x y : A} {m n : ℕ} → got x m ≡ got y n → x ≡ y
  same-thing {x} e = ap (λ (r : Read A). on_read r (λ _. x) (λ y _. y)) e

  pub same_place : {x y : A} {m n : ℕ} → got x m ≡ got y n → m ≡ n
  same_place e = ap (λ (r : Read A). on_read r (λ p. p) (λ _ n. n)) e

  pub same-break : {p q : ℕ} → bad {A = A × ℕ} p ≡ bad q → p ≡ q
  same-break e = ap (λ (r : Read A). on_read r (λ p. p) (λ _ n. n)) e

  pub bad-not : {p : ℕ} {x : A} {n : ℕ} → bad p ≡ got x n → ⊥
  bad-not e = let z : ◌≡◌ {A = ℕ} 0 1 = ap (λ (r : Read A). on_read r (λ _. 0) (λ _ _. 1)) e in absurd (omega arith)

-- the same of a word, which is no more than its place
abbrev word_place : Result ℕ Broken → ℕ
word_place (Err e) = e.place
word_place (Ok n) = n

pub same-word : {p q : ℕ} → bad {A = ℕ} p ≡ bad q → p ≡ q
same-word e = ap word_place e
