-- The laws of lines, one after the other: the first of them and the rest, whatever they hold. Assumes nothing.
use mathlib.Core.Path.{◌≡◌, refl, sym, ap, ◌∙◌}
use mathlib.Core.List.{List, [], ◌∷◌}
use native.Mathlib.Omega.{arith}
use Prim.Native.Nat.{ℕ, zero, suc, ◌+◌, ◌-◌, ◌<◌}
use lib.ListN.{length}
use Rattle.std.specs.Prelude.{Ok, Err}
use Rattle.text.specs.Read.{Read, bad, on_read}
use Rattle.text.proofs.ReadLaws.{got}
use Rattle.schedule.specs.Lines.{Rows, broken_at, before, lines_at}
use Rattle.schedule.specs.Private.{rows_end}
use Rattle.schedule.specs.declared.fault.BrokenLine.{BrokenLine}

-- ---- what some lines hold

abbrev pub rows : {A : Type 0} → List A → ℕ → Rows A
rows xs m = Ok (xs, m)

abbrev on_rows : {A B : Type 0} → Rows A → (BrokenLine → B) → (List A → ℕ → B) → B
on_rows (Err broken) z f = z broken
on_rows (Ok (xs, m)) z f = f xs m

pub same-things : {A : Type 0} {xs ys : List A} {m n : ℕ} → rows xs m ≡ rows ys n → xs ≡ ys
same-things {A} e = ap (λ (r : Rows A). on_rows r (λ _. []) (λ xs _. xs)) e

pub same_end : {A : Type 0} {xs ys : List A} {m n : ℕ} → rows xs m ≡ rows ys n → m ≡ n
same_end {A} e = ap (λ (r : Rows A). on_rows r (λ _. 0) (λ _ m. m)) e

pub same-line : {A : Type 0} {b c : BrokenLine} → ◌≡◌ {A = Rows A} (Err b) (Err c) → b ≡ c
same-line {A} {b} e = ap (λ (r : Rows A). on_rows r (λ x. x) (λ _ _. b)) e

pub not-broken : {A : Type 0} {b : BrokenLine} {m : ℕ} {xs : List A} → ◌≡◌ {A = Rows A} (Err b) (rows xs m) → ⊥
not-broken {A} e = let z : ◌≡◌ {A = ℕ} 1 0 = ap (λ (r : Rows A). on_rows r (λ _. 1) (λ _ _. 0)) e in absurd (omega arith)

-- ---- the first line and the rest

pub record First {A : Type 0} (f : ℕ → Read A) (k i at : ℕ) (xs : List A) (e : ℕ) : Type 0 where
  pub first : A
  pub next : ℕ
  pub others : List A
  pub is : f at ≡ got first next
  pub more : lines_at f k (i + 1) next ≡ rows others e
  pub same : xs ≡ first ∷ others

module _ {A : Type 0} (f : ℕ → Read A) (k i at : ℕ) (xs : List A) (e : ℕ) where
  first_rest : (x : A) (m : ℕ) → f at ≡ got x m → (r : Rows A) → lines_at f k (i + 1) m ≡ r → before x r ≡ rows xs e → First f k i at xs e
  unfolding before
  first_rest x m q (Err broke) p h = absurd (not-broken h)
  first_rest x m q (Ok (ys, n)) p h =
      record { first = x; next = m; others = ys; is = q; more = p ∙ ap (rows ys) (same_end h); same = sym (same-things h) }

  first-item : (r : Read A) → f at ≡ r → on_read r (broken_at i at) (λ x m. before x (lines_at f k (i + 1) m)) ≡ rows xs e → First f k i at xs e
  first-item (Err p) q h = absurd (not-broken h)
  first-item (Ok (x, m)) q h = first_rest x m q (lines_at f k (i + 1) m) refl h

  pub lines-first : lines_at f (suc k) i at ≡ rows xs e → First f k i at xs e
  unfolding lines_at
  lines-first h = first-item (f at) refl h

pub lines_none : {A : Type 0} (f : ℕ → Read A) (i at : ℕ) → lines_at f 0 i at ≡ rows [] at
unfolding lines_at
lines_none f i at = refl

-- how many lines are left
pub one_less : (count i : ℕ) → i < count → count - i ≡ suc (count - (i + 1))
one_less count i h = omega arith

-- ---- where the lines end, as a check goes on

before-end : {A : Type 0} (x : A) (r : Rows A) → rows_end (before x r) ≡ rows_end r
unfolding before rows_end
before-end x (Err broken) = refl
before-end x (Ok (xs, m)) = refl

module _ {A : Type 0} (f : ℕ → Read A) (count i at : ℕ) (h : i < count) where
  pub end-broken : {p : ℕ} → f at ≡ bad p → rows_end (lines_at f (count - i) i at) ≡ broken_at i at p
  unfolding lines_at rows_end
  end-broken e = ap (λ (k : ℕ). rows_end (lines_at f k i at)) (one_less count i h) ∙ rw e

  pub end_more : {x : A} {m : ℕ} → f at ≡ got x m → rows_end (lines_at f (count - i) i at) ≡ rows_end (lines_at f (count - (i + 1)) (i + 1) m)
  unfolding lines_at
  end_more {x} {m} e =
      ap (λ (k : ℕ). rows_end (lines_at f k i at)) (one_less count i h)
      ∙ ap (λ (r : Read A). rows_end (on_read r (broken_at i at) (λ y n. before y (lines_at f (count - (i + 1)) (i + 1) n)))) e
      ∙ before-end x (lines_at f (count - (i + 1)) (i + 1) m)

pub end_none : {A : Type 0} (f : ℕ → Read A) (k i at : ℕ) → k ≡ 0 → rows_end (lines_at f k i at) ≡ Ok at
unfolding lines_at rows_end
end_none f k i at e = ap (λ (j : ℕ). rows_end (lines_at f j i at)) e

-- which lines they are, from where they end
pub record Found {A : Type 0} (r : Rows A) (m : ℕ) : Type 0 where
  pub things : List A
  pub is : r ≡ rows things m

pub found : {A : Type 0} (r : Rows A) (m : ℕ) → rows_end r ≡ Ok m → Found r m
unfolding rows_end
found (Err broken) m e = let z : ◌≡◌ {A = ℕ} 0 1 = cc in absurd (omega arith)
found (Ok (xs, n)) m e = let q : n ≡ m = cc in record { things = xs; is = ap (rows xs) q }

-- the first that breaks the form
pub faulted : {A : Type 0} (r : Rows A) (b : BrokenLine) → rows_end r ≡ Err b → r ≡ Err b
unfolding rows_end
faulted (Err broken) b e = cc
faulted (Ok (xs, n)) b e = let z : ◌≡◌ {A = ℕ} 1 0 = cc in absurd (omega arith)

-- as many things as lines
pub lines_long : {A : Type 0} (f : ℕ → Read A) (k i at : ℕ) (xs : List A) (e : ℕ) → lines_at f k i at ≡ rows xs e → length xs ≡ k
lines_long f zero i at xs e h = ap length (sym (same-things (sym (lines_none f i at) ∙ h)))
lines_long f (suc k) i at xs e h =
    let r = lines-first f k i at xs e h in
    ap length r.same ∙ ap suc (lines_long f k (i + 1) r.next r.others e r.more)

-- a broken line is one of the k, and stands where it is said to
broken-rest : {A : Type 0} (x : A) (r : Rows A) (j from p : ℕ) → before x r ≡ broken_at j from p → r ≡ broken_at j from p
unfolding before
broken-rest x (Err broke) j from p e = e
broken-rest x (Ok (xs, m)) j from p e = absurd (not-broken (sym e))

-- the lines before a broken one
pub record Ahead {A : Type 0} (f : ℕ → Read A) (k i at j from p : ℕ) : Type 0 where
  pub things : List A
  pub are : lines_at f (length things) i at ≡ rows things from
  pub line : j ≡ i + length things
  pub few : length things < k
  pub broke : f from ≡ bad p

module _ {A : Type 0} (f : ℕ → Read A) (j from p : ℕ) where
  ahead_more : (k i at : ℕ) (x : A) (m : ℕ) → f at ≡ got x m → Ahead f k (i + 1) m j from p → Ahead f (suc k) i at j from p
  unfolding lines_at before
  ahead_more k i at x m e a =
      record {
        things = x ∷ a.things;
        are = rw (e, a.are);
        line = omega (arith, a.line);
        few = omega (arith, a.few);
        broke = a.broke;
      }

  ahead-item : (k i at : ℕ) → ((m : ℕ) → lines_at f k (i + 1) m ≡ broken_at j from p → Ahead f k (i + 1) m j from p)
      → (r : Read A) → f at ≡ r → on_read r (broken_at i at) (λ x m. before x (lines_at f k (i + 1) m)) ≡ broken_at j from p → Ahead f (suc k) i at j from p
  unfolding lines_at
  ahead-item k i at ih (Err q) e h =
      let o = same-line h in
      let l : i ≡ j = ap (λ (x : BrokenLine). x.index) o in
      let s : at ≡ from = ap (λ (x : BrokenLine). x.from) o in
      let t : q.place ≡ p = ap (λ (x : BrokenLine). x.place) o in
      record { things = []; are = ap (rows []) s; line = omega arith; few = omega arith; broke = ap f (sym s) ∙ e ∙ ap bad t }
  ahead-item k i at ih (Ok (x, m)) e h = ahead_more k i at x m e (ih m (broken-rest x (lines_at f k (i + 1) m) j from p h))

  pub lines-ahead : (k i at : ℕ) → lines_at f k i at ≡ broken_at j from p → Ahead f k i at j from p
  unfolding lines_at
  lines-ahead zero i at h = absurd (not-broken (sym h))
  lines-ahead (suc k) i at h = ahead-item k i at (λ m. lines-ahead k (i + 1) m) (f at) refl h

pub broken-below : {A : Type 0} (f : ℕ → Read A) (k i at j from p : ℕ) → lines_at f k i at ≡ broken_at j from p → j < i + k
broken-below f k i at j from p h = let a = lines-ahead f j from p k i at h in omega (arith, a.line, a.few)
