-- The laws of the refusal table's rows: rows in a chain, what it means that none refuses, and the rows that a step's parts test. Assumes nothing.
use mathlib.Core.Path.{◌≡◌, refl, ap, ◌∙◌}
use mathlib.Core.Bool.{Bool, true, false, ◌&&◌, not}
use Rattle.std.specs.Prelude.{Option, Some, None}
use Prim.Native.Nat.{ℕ, zero, suc, ◌≤◌}
use native.Mathlib.Omega.{arith}
use lib.Dec.{eqb, leb, ltb}
use borrow.Author.Tests.{leb-true, le-leb, ltb-false, not-false}
use Rattle.rules.specs.declared.step.Step.{Step}
use Rattle.rules.specs.Limits.{last_round, deepest_message, among, some_if, if_among}
use Rattle.rules.specs.Store.{proposer_of}
use Rattle.rules.specs.Kinds.{numbers_of}
use Rattle.rules.specs.Refusals.{row, every, late}
use Rattle.rules.specs.Private.{number_rows, held_rows}
use Rattle.rules.proofs.Laws.Bool.{and_left, and_right, and_both}

-- ---- rows in a chain

-- the first number, unless it is 0, and then the second
unfoldable pub or_else : ℕ → ℕ → ℕ
or_else zero k = k
or_else (suc j) k = suc j

-- a row before a chain is a row before its first part
pub row-chain : (b : Bool) (k part rest : ℕ) → row b (suc k) (or_else part rest) ≡ or_else (row b (suc k) part) rest
unfolding row or_else
row-chain true k part rest = refl
row-chain false k part rest = refl

-- one row, and then the rest
pub row-else : (b : Bool) (k rest : ℕ) → row b (suc k) rest ≡ or_else (row b (suc k) 0) rest
unfolding or_else
row-else b k rest = row-chain b k 0 rest

-- the rows of a step's numbers, and those of the record and the entry, each with the rest after it
pub number-else : (n : ℕ) (s : Step) (rest : ℕ) → row (not (every (among n) (numbers_of s))) 3 (row (late s) 4 rest) ≡ or_else (number_rows n s) rest
unfolding number_rows
number-else n s rest =
    ap (row (not (every (among n) (numbers_of s))) 3) (row-else (late s) 3 rest)
    ∙ row-chain (not (every (among n) (numbers_of s))) 2 (row (late s) 4 0) rest

pub held-else : (n : ℕ) (up : Bool) (e k : ℕ) (d c : Bool) (rest : ℕ)
    → row (not c && not up) 5 (row (d && eqb e 0) 6 (row (d && not (among n (proposer_of e))) 2 (row (d && ltb deepest_message k) 14 rest)))
    ≡ or_else (held_rows n up e k d c) rest
unfolding held_rows
held-else n up e k d c rest =
    let a = not c && not up in
    let b = d && eqb e 0 in
    let m = d && not (among n (proposer_of e)) in
    let w = d && ltb deepest_message k in
    ap (λ (j : ℕ). row a 5 (row b 6 (row m 2 j))) (row-else w 13 rest)
    ∙ ap (λ (j : ℕ). row a 5 (row b 6 j)) (row-chain m 1 (row w 14 0) rest)
    ∙ ap (row a 5) (row-chain b 5 (row m 2 (row w 14 0)) rest)
    ∙ row-chain a 4 (row b 6 (row m 2 (row w 14 0))) rest

-- ---- none refuses

-- a row that does not refuse: its test fails, and neither do the rows after it
pub row_zero : (b : Bool) (k rest : ℕ) → row b (suc k) rest ≡ 0 → (b ≡ false) × (rest ≡ 0)
unfolding row
row_zero true k rest e = absurd (omega arith)
row_zero false k rest e = (refl, e)

-- the other way round
pub row-pass : (b : Bool) (k rest : ℕ) → b ≡ false → rest ≡ 0 → row b k rest ≡ 0
unfolding row
row-pass b k rest e f = rw (e, f)

-- a chain that does not refuse: neither part does
pub else-zero : (part rest : ℕ) → or_else part rest ≡ 0 → (part ≡ 0) × (rest ≡ 0)
unfolding or_else
else-zero zero rest e = (refl, e)
else-zero (suc j) rest e = absurd (omega arith)

-- a number of 1..n
pub among-true : (n m : ℕ) → among n m ≡ true → (1 ≤ m) × (m ≤ n)
unfolding among
among-true n m e = (leb-true 1 m (and_left (leb 1 m) (leb m n) e), leb-true m n (and_right (leb 1 m) (leb m n) e))

pub among_in : (n m : ℕ) → 1 ≤ m → m ≤ n → among n m ≡ true
unfolding among
among_in n m a b = and_both (leb 1 m) (leb m n) (le-leb 1 m a) (le-leb m n b)

-- and what either says
pub some-false : (n m : ℕ) → if_among n m ≡ None → among n m ≡ false
unfolding some_if
some-false n m e = go (among n m) refl
  where
    go : (b : Bool) → among n m ≡ b → b ≡ false
    go true x = let y : Some m ≡ None = rw x at e in let z : ◌≡◌ {A = ℕ} 0 1 = cc in absurd (omega arith)
    go false x = refl

pub some-true : (n m : ℕ) {k : ℕ} → if_among n m ≡ Some k → (k ≡ m) × (1 ≤ k) × (k ≤ n)
unfolding some_if
some-true n m {k} e = go (among n m) refl
  where
    go : (b : Bool) → among n m ≡ b → (k ≡ m) × (1 ≤ k) × (k ≤ n)
    go true x =
        let y : Some m ≡ Some k = rw x at e in
        let same : m ≡ k = cc in
        let t = among-true n m x in
        (omega (arith, same), omega (arith, same, t.0), omega (arith, same, t.1))
    go false x = let y : ◌≡◌ {A = Option ℕ} None (Some k) = rw x at e in let z : ◌≡◌ {A = ℕ} 0 1 = cc in absurd (omega arith)

-- a message to i from j, of round r
pub record Delivered (n i j r : ℕ) : Type 0 where
  pub to_low : 1 ≤ i
  pub to_high : i ≤ n
  pub from_low : 1 ≤ j
  pub from-high : j ≤ n
  pub round : r ≤ last_round

pub delivered-zero : (n i j r : ℕ) → row (not (among n i && (among n j && true))) 3 (row (ltb last_round r) 4 0) ≡ 0 → Delivered n i j r
delivered-zero n i j r e =
    let numbers = row_zero (not (among n i && (among n j && true))) 2 (row (ltb last_round r) 4 0) e in
    let both = not-false (among n i && (among n j && true)) numbers.0 in
    let to = among-true n i (and_left (among n i) (among n j && true) both) in
    let from = among-true n j (and_left (among n j) true (and_right (among n i) (among n j && true) both)) in
    let early = row_zero (ltb last_round r) 3 0 numbers.1 in
    record { to_low = to.0; to_high = to.1; from_low = from.0; from-high = from.1; round = ltb-false last_round r early.0 }

-- a step of process i alone
pub owned-zero : (n i : ℕ) → row (not (among n i && true)) 3 0 ≡ 0 → (1 ≤ i) × (i ≤ n)
owned-zero n i e =
    let numbers = row_zero (not (among n i && true)) 2 0 e in
    among-true n i (and_left (among n i) true (not-false (among n i && true) numbers.0))
