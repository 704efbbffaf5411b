-- The laws of `all_of`: where it starts and how it goes on, what one that fails does, what each of them says, and two tests at once. Assumes nothing.
use mathlib.Core.Path.{◌≡◌, refl, sym, ap, ap₂, ◌∙◌}
use mathlib.Core.Bool.{Bool, true, false, ◌&&◌, and-false}
use Prim.Native.Nat.{ℕ, zero, suc, ◌≤◌}
use native.Mathlib.Decide.{ℕ_discrete}
use native.Mathlib.Omega.{arith}
use Rattle.rules.specs.Refusals.{all_of}

module _ (p : ℕ → Bool) where
  -- of none it holds
  pub all_none : all_of p 0 ≡ true
  unfolding all_of
  all_none = refl

  -- one that fails, at k of 1..n, fails them all
  pub all-fails : (n k : ℕ) → 1 ≤ k → k ≤ n → p k ≡ false → all_of p n ≡ false
  unfolding all_of
  all-fails zero k a b f = absurd (omega arith)
  all-fails (suc n) k a b f = go (ℕ_discrete k (suc n)) (λ c. all-fails n k a c f)
    where
      go : Dec (k ≡ suc n) → (k ≤ n → all_of p n ≡ false) → (all_of p n && p (suc n)) ≡ false
      go (yes e) ih = rw (← e, f) (and-false (all_of p n))
      go (no ne) ih = rw (ih (omega arith))

  -- where they all hold, each does
  pub all-each : (n k : ℕ) → 1 ≤ k → k ≤ n → all_of p n ≡ true → p k ≡ true
  all-each n k a b h = go (p k) refl
    where
      go : (x : Bool) → p k ≡ x → p k ≡ true
      go true e = e
      go false e = cc (all-fails n k a b e)

  -- where each holds, they all do
  pub all-every : (n : ℕ) → ((k : ℕ) → 1 ≤ k → k ≤ n → p k ≡ true) → all_of p n ≡ true
  unfolding all_of
  all-every zero h = refl
  all-every (suc n) h = ap₂ ◌&&◌ (all-every n (λ k a b. h k a (omega arith))) (h (suc n) (omega arith) (omega arith))

-- two tests at once
both-swap : (a b c d : Bool) → ((a && b) && (c && d)) ≡ ((a && c) && (b && d))
both-swap true true c d = refl
both-swap true false c d = sym (and-false c)
both-swap false b c d = refl

pub all_both : (p q : ℕ → Bool) (n : ℕ) → all_of (λ i. p i && q i) n ≡ (all_of p n && all_of q n)
unfolding all_of
all_both p q zero = refl
all_both p q (suc n) =
    ap (λ (b : Bool). b && (p (suc n) && q (suc n))) (all_both p q n) ∙ both-swap (all_of p n) (all_of q n) (p (suc n)) (q (suc n))
