-- Majorities of the processes 1..n, once for all n: a set is a test on process numbers, its size is `count`. Two majorities share a process; a majority either has a
-- property throughout, or holds a process without it. Assumes nothing.
use mathlib.Core.Path.{◌≡◌, refl, sym, ◌∙◌}
use mathlib.Core.Logic.{◌⊎◌, inl, inr}
use mathlib.Core.Bool.{Bool, true, false, true≢false}
use Prim.Native.Nat.{ℕ, zero, suc, ◌≤◌}
use native.Mathlib.Omega.{arith}
use native.Mathlib.Decide.{dec_le}
use native.Mathlib.Nat.{le_trans, le-suc}
use Rattle.rules.specs.Limits.{majority}
use Rattle.rules.specs.Tally.{count}
use Rattle.rules.proofs.Laws.Count.{majorities-meet}

-- a majority of 1..n that has P throughout
pub record Quorum (n : ℕ) (P : ℕ → Type 0) : Type 0 where
  pub set : ℕ → Bool
  pub big : majority n ≤ count set n
  pub all : (p : ℕ) → 1 ≤ p → p ≤ n → set p ≡ true → P p

-- a majority that has P has what follows from P
pub quorum-map : {n : ℕ} {P Q : ℕ → Type 0} → ((p : ℕ) → P p → Q p) → Quorum n P → Quorum n Q
quorum-map f q = record { set = q.set; big = q.big; all = λ p l h m. f p (q.all p l h m) }

-- a process of 1..k with P
pub record Some (k : ℕ) (P : ℕ → Type 0) : Type 0 where
  pub at : ℕ
  pub low : 1 ≤ at
  pub high : at ≤ k
  pub has : P at

-- one of 1..k is one of 1..k + 1
some_more : {k : ℕ} {P : ℕ → Type 0} → Some k P → Some (suc k) P
some_more {k} s = record { at = s.at; low = s.low; high = le_trans s.high (le-suc k); has = s.has }

-- both properties
pub record And (P Q : ℕ → Type 0) (p : ℕ) : Type 0 where
  pub one : P p
  pub two : Q p

-- two majorities share a process
pub share : {n : ℕ} {P Q : ℕ → Type 0} → Quorum n P → Quorum n Q → Some n (And P Q)
share {n} {P} {Q} a b =
    let m = majorities-meet a.set b.set n a.big b.big in
    record {
      at = m.0;
      low = m.1;
      high = m.2;
      has = record { one = a.all m.0 m.1 m.2 m.3; two = b.all m.0 m.1 m.2 m.4 };
    }

-- a set of 1..k has Q throughout, or holds a process without it
abbrev pub Throughout : ℕ → (ℕ → Bool) → (ℕ → Type 0) → Type 0
Throughout k s Q = (p : ℕ) → 1 ≤ p → p ≤ k → s p ≡ true → Q p

-- a member without Q
pub record Without (s : ℕ → Bool) (Q : ℕ → Type 0) (p : ℕ) : Type 0 where
  pub member : s p ≡ true
  pub lacks : ¬ Q p

-- one more
through-step : (k : ℕ) (s : ℕ → Bool) (Q : ℕ → Type 0) → Throughout k s Q → (s (suc k) ≡ true → Q (suc k)) → Throughout (suc k) s Q
through-step k s Q f g p l h m = go (dec_le p k)
  where
    go : Dec (p ≤ k) → Q p
    go (yes a) = f p l a m
    go (no b) =
        let e : suc k ≡ p = omega arith in
        rw (← e) (g (rw e m))

-- one more, looked at
scan_step : (k : ℕ) (s : ℕ → Bool) (Q : ℕ → Type 0) (a : Bool) → s (suc k) ≡ a → Dec (Q (suc k))
    → Throughout k s Q ⊎ Some k (Without s Q) → Throughout (suc k) s Q ⊎ Some (suc k) (Without s Q)
scan_step k s Q a e d (inr m) = inr (some_more m)
scan_step k s Q a e (yes q) (inl f) = inl (through-step k s Q f (λ _. q))
scan_step k s Q false e (no q) (inl f) = inl (through-step k s Q f (λ m. absurd (true≢false (sym m ∙ e))))
scan_step k s Q true e (no q) (inl f) =
    inr (record { at = suc k; low = omega arith; high = omega arith; has = record { member = e; lacks = q } })

-- all of 1..k, looked at
pub scan : (k : ℕ) (s : ℕ → Bool) (Q : ℕ → Type 0) → ((p : ℕ) → Dec (Q p)) → Throughout k s Q ⊎ Some k (Without s Q)
scan zero s Q d = inl (λ p l h m. absurd (omega arith))
scan (suc k) s Q d = scan_step k s Q (s (suc k)) refl (d (suc k)) (scan k s Q d)
