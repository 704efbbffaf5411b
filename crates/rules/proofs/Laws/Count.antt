-- Counting a property over 1..n: it follows the property, one place more counts one more, and two majorities share a member. Assumes nothing.
use mathlib.Core.Path.{◌≡◌, refl, sym, ap, ap₂, ◌∙◌}
use mathlib.Core.Bool.{Bool, true, false, ◌&&◌, ◌||◌}
use mathlib.Core.Logic.{◌≢◌}
use Prim.Native.Nat.{ℕ, zero, suc, ◌+◌, ◌≤◌, ◌<◌, zero-le}
use native.Mathlib.Decide.{ℕ_discrete}
use native.Mathlib.Omega.{arith}
use Rattle.rules.specs.Limits.{majority}
use Rattle.rules.specs.Tally.{bit_of, count}
use Rattle.rules.proofs.Laws.Bool.{and_left, and_right}

-- properties that agree on 1..n are counted alike
pub count-ext : (p q : ℕ → Bool) (n : ℕ) → ((j : ℕ) → 1 ≤ j → j ≤ n → q j ≡ p j) → count q n ≡ count p n
unfolding count
count-ext p q zero h = refl
count-ext p q (suc n) h =
    ap₂ (λ (m : ℕ) (b : Bool). m + bit_of b) (count-ext p q n (λ j a b. h j a (omega arith))) (h (suc n) (omega arith) (omega arith))

-- where none of 1..n has the property, none is counted
pub count_none : (p : ℕ → Bool) (n : ℕ) → ((j : ℕ) → 1 ≤ j → j ≤ n → p j ≡ false) → count p n ≡ 0
unfolding count
count_none p zero h = refl
count_none p (suc n) h =
    let ih = count_none p n (λ j a b. h j a (omega arith)) in
    let z : bit_of (p (suc n)) ≡ 0 = ap bit_of (h (suc n) (omega arith) (omega arith)) in
    omega arith

-- a property that gains the one place k counts one more
pub count-gain : (p q : ℕ → Bool) (n k : ℕ) → 1 ≤ k → k ≤ n → p k ≡ false → q k ≡ true
    → ((j : ℕ) → 1 ≤ j → j ≢ k → q j ≡ p j) → count q n ≡ count p n + 1
unfolding count
count-gain p q zero k a b f t h = absurd (omega arith)
count-gain p q (suc n) k a b f t h = go (ℕ_discrete k (suc n)) (count-gain p q n k a)
  where
    go : Dec (k ≡ suc n) → (k ≤ n → p k ≡ false → q k ≡ true → ((j : ℕ) → 1 ≤ j → j ≢ k → q j ≡ p j) → count q n ≡ count p n + 1)
        → count q n + bit_of (q (suc n)) ≡ count p n + bit_of (p (suc n)) + 1
    go (yes e) ih =
        let same : count q n ≡ count p n = count-ext p q n (λ j c d. h j c (λ g. omega arith)) in
        let at-q : bit_of (q (suc n)) ≡ 1 = ap bit_of (ap q (sym e) ∙ t) in
        let at_p : bit_of (p (suc n)) ≡ 0 = ap bit_of (ap p (sym e) ∙ f) in
        omega arith
    go (no ne) ih =
        let same : bit_of (q (suc n)) ≡ bit_of (p (suc n)) = ap bit_of (h (suc n) (omega arith) (λ g. ne (sym g))) in
        let rest : count q n ≡ count p n + 1 = ih (omega arith) f t h in
        omega arith

-- at most n of 1..n are counted
bit_le : (b : Bool) → bit_of b ≤ 1
bit_le true = omega arith
bit_le false = omega arith

pub count-le : (p : ℕ → Bool) (n : ℕ) → count p n ≤ n
unfolding count
count-le p zero = zero-le
count-le p (suc n) = let ih = count-le p n in omega (arith, bit_le (p (suc n)))

-- of one test
bit-mono : (a b : Bool) → (a ≡ true → b ≡ true) → bit_of a ≤ bit_of b
bit-mono true b h = let e : bit_of b ≡ 1 = ap bit_of (h refl) in omega arith
bit-mono false b h = zero-le

-- a property that follows from another is counted at least as often
pub count-mono : (p q : ℕ → Bool) (n : ℕ) → ((j : ℕ) → 1 ≤ j → j ≤ n → p j ≡ true → q j ≡ true) → count p n ≤ count q n
unfolding count
count-mono p q zero h = zero-le
count-mono p q (suc n) h =
    let ih = count-mono p q n (λ j a b. h j a (omega arith)) in
    omega (arith, bit-mono (p (suc n)) (q (suc n)) (h (suc n) (omega arith) (omega arith)))

-- where anything is counted, here is one
pub count-some : (p : ℕ → Bool) (n : ℕ) → 0 < count p n → (j : ℕ) × (1 ≤ j) × (j ≤ n) × (p j ≡ true)
unfolding count
count-some p zero h = absurd (omega arith)
count-some p (suc n) h = go (p (suc n)) refl (count-some p n)
  where
    go : (b : Bool) → p (suc n) ≡ b → (0 < count p n → (j : ℕ) × (1 ≤ j) × (j ≤ n) × (p j ≡ true))
        → (j : ℕ) × (1 ≤ j) × (j ≤ suc n) × (p j ≡ true)
    go true e ih = (suc n, omega arith, omega arith, e)
    go false e ih = let z : bit_of (p (suc n)) ≡ 0 = ap bit_of e in let r = ih (omega arith) in (r.0, r.1, omega arith, r.3)

-- both and either are counted as often as the one and the other
bits : (a b : Bool) → bit_of (a && b) + bit_of (a || b) ≡ bit_of a + bit_of b
bits true true = refl
bits true false = refl
bits false true = refl
bits false false = refl

pub count-both : (p q : ℕ → Bool) (n : ℕ) → count (λ j. p j && q j) n + count (λ j. p j || q j) n ≡ count p n + count q n
unfolding count
count-both p q zero = refl
count-both p q (suc n) = let ih = count-both p q n in omega (arith, bits (p (suc n)) (q (suc n)))

-- two majorities of 1..n share a member
pub majorities-meet : (p q : ℕ → Bool) (n : ℕ) → majority n ≤ count p n → majority n ≤ count q n
    → (j : ℕ) × (1 ≤ j) × (j ≤ n) × (p j ≡ true) × (q j ≡ true)
majorities-meet p q n hp hq =
    let r = count-some (λ j. p j && q j) n (omega (arith, count-both p q n, count-le (λ j. p j || q j) n)) in
    (r.0, r.1, r.2, and_left (p r.0) (q r.0) r.3, and_right (p r.0) (q r.0) r.3)
