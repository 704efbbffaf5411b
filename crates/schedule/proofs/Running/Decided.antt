-- The count of the processes that hold a decision: a step adds one where its process decides, so a run adds as many as its counts say. Assumes nothing.
use mathlib.Core.Path.{◌≡◌, refl, sym, ap, ◌∙◌, subst}
use mathlib.Core.Bool.{Bool, true, false, ◌&&◌, not}
use mathlib.Core.List.{List, [], ◌∷◌, ◌++◌}
use mathlib.Core.Logic.{◌≢◌}
use native.Mathlib.Decide.{ℕ_discrete}
use native.Mathlib.Omega.{arith}
use Prim.Native.Nat.{ℕ, zero, suc, ◌+◌, ◌≤◌}
use lib.ListN.{length}
use Rattle.rules.specs.Limits.{greatest_size}
use Rattle.rules.specs.Tally.{bit_of, count}
use Rattle.rules.specs.Layout.{process_at, with_process, with_depth, Sized}
use Rattle.rules.specs.Depths.{depth_after}
use Rattle.rules.specs.Answers.{total}
use Rattle.rules.specs.Start.{fresh, started_to}
use Rattle.rules.specs.Step.{Course, Idles, Refuses, Takes, decides_now, settled, stepped, course}
use Rattle.rules.specs.Run.{State, start_state, next, after, answers}
use Rattle.rules.specs.Safety.{Begins, at, process_of, says}
use Rattle.rules.specs.declared.group.Group.{Group}
use Rattle.rules.specs.declared.process.Process.{Process}
use Rattle.rules.specs.declared.step.Step.{Step}
use Rattle.rules.proofs.Cited.{count-ext, count_none, process-put, process-kept, with_size, started-process, started-size, Fine, process-deep, DeepBasic, deep-size, deep-fine, start-deep, deep-basic, deep_more, safety}
use Rattle.schedule.specs.Promise.{deciders}

-- ---- counting

-- a property that changes at the one place k counts one more or one less, as it does there
count-change : (p q : ℕ → Bool) (n k : ℕ) → 1 ≤ k → k ≤ n → ((j : ℕ) → 1 ≤ j → j ≤ n → j ≢ k → q j ≡ p j)
    → count q n + bit_of (p k) ≡ count p n + bit_of (q k)
unfolding count
count-change p q zero k a b h = absurd (omega arith)
count-change p q (suc n) k a b h = go (ℕ_discrete k (suc n)) (λ c. count-change p q n k a c (λ j d e. h j d (omega arith)))
  where
    go : Dec (k ≡ suc n) → (k ≤ n → count q n + bit_of (p k) ≡ count p n + bit_of (q k))
        → count q n + bit_of (q (suc n)) + bit_of (p k) ≡ count p n + bit_of (p (suc n)) + bit_of (q k)
    go (yes e) ih =
        let same : count q n ≡ count p n = count-ext p q n (λ j c d. h j c (omega arith) (λ g. omega arith)) in
        let at-q : bit_of (q k) ≡ bit_of (q (suc n)) = ap (λ (j : ℕ). bit_of (q j)) e in
        let at_p : bit_of (p k) ≡ bit_of (p (suc n)) = ap (λ (j : ℕ). bit_of (p j)) e in
        omega arith
    go (no ne) ih =
        let same : bit_of (q (suc n)) ≡ bit_of (p (suc n)) = ap bit_of (h (suc n) (omega arith) (omega arith) (λ g. ne (sym g))) in
        let rest : count q n + bit_of (p k) ≡ count p n + bit_of (q k) = ih (omega arith) in
        omega arith

-- ---- a step

-- a process that stays decided where it was
bits : (p q : Bool) → (p ≡ true → q ≡ true) → bit_of q ≡ bit_of p + bit_of (q && not p)
bits true true h = refl
bits true false h = ap bit_of (h refl)
bits false true h = refl
bits false false h = refl

decides-bit : (p q : Process) → (p.decided ≡ true → q.decided ≡ true) → bit_of q.decided ≡ bit_of p.decided + bit_of (decides_now p q)
unfolding decides_now
decides-bit p q h = bits p.decided q.decided h

-- a depth changes no decision
deep-decided : (g : Group) (i k : ℕ) → g.n ≤ greatest_size → deciders (with_depth g i k) ≡ deciders g
unfolding with_depth
deep-decided g i k small =
    count-ext (λ j. (process_at g j).decided) (λ j. (process_at (with_depth g i k) j).decided) g.n
    (λ j lo hi. ap (λ (p : Process). p.decided) (process-deep g i k j))

module _ (g : Group) (sized : Sized g) (small : g.n ≤ greatest_size) where
  -- the change of one process
  with-decided : (i : ℕ) (q : Process) → 1 ≤ i → i ≤ g.n → ((process_at g i).decided ≡ true → q.decided ≡ true)
      → deciders (with_process g i q) ≡ deciders g + bit_of (decides_now (process_at g i) q)
  with-decided i q lo hi stays =
      let p : ℕ → Bool = λ j. (process_at g j).decided in
      let r : ℕ → Bool = λ j. (process_at (with_process g i q) j).decided in
      let size : deciders (with_process g i q) ≡ count r g.n = ap (count r) (with_size g i q) in
      let own : bit_of (r i) ≡ bit_of q.decided = ap (λ (x : Process). bit_of x.decided) (process-put g i q sized lo (omega arith)) in
      let change : count r g.n + bit_of (p i) ≡ count p g.n + bit_of (r i) =
      count-change p r g.n i lo hi (λ j c d ne. ap (λ (x : Process). x.decided) (process-kept g i j q lo (omega arith) c (omega arith) ne)) in
      let bit = decides-bit (process_at g i) q stays in
      omega arith

  -- every process that was decided still is
  abbrev Stay : Group → Type 0
  Stay g' = (i : ℕ) → 1 ≤ i → i ≤ g.n → (process_at g i).decided ≡ true → (process_at g' i).decided ≡ true

  settled-decided : (l d : List ℕ) (k : ℕ) (c : Course) → Fine g.n c → Stay (settled g l d k c).group
      → deciders (settled g l d k c).group ≡ deciders g + bit_of (settled g l d k c).says.decided
  unfolding settled
  settled-decided l d k Idles f h = omega arith
  settled-decided l d k (Refuses j) f h = omega arith
  settled-decided l d k (Takes i x) f h =
      let g' = with_process g i x.process in
      deep-decided g' i k (omega (arith, with_size g i x.process, small))
      ∙ with-decided i x.process f.low f.high
      (λ e.
      ap (λ (q : Process). q.decided) (sym (process-put g i x.process sized f.low f.small))
      ∙ ap (λ (q : Process). q.decided) (sym (process-deep g' i k i)) ∙ h i f.low f.high e)

  step-decided : (l d : List ℕ) (s : Step) → Fine g.n (course g l d s) → Stay (stepped g l d s).group
      → deciders (stepped g l d s).group ≡ deciders g + bit_of (stepped g l d s).says.decided
  unfolding stepped
  step-decided l d s f h = settled-decided l d (depth_after g d s) (course g l d s) f h

-- ---- a run

-- no process of a start has decided
pub start-decided : (vs l d : List ℕ) → Begins vs l d → deciders (start_state vs l d).group ≡ 0
unfolding fresh
start-decided vs l d b =
    ap (λ (a : State). deciders a.group) (start-deep vs l d b)
    ∙ count_none (λ i. (process_at (started_to vs (length vs)) i).decided) (started_to vs (length vs)).n
    (λ i lo hi. ap (λ (p : Process). p.decided) (started-process vs (length vs) i lo (omega (arith, started-size vs (length vs))) b.few))

module _ (vs l d : List ℕ) where
  -- a state of the run, with the steps that were taken to it
  pub record Reached (a : State) : Type 0 where
    pub steps : List Step
    pub is : at vs l d steps ≡ a

  pub reached-start : Reached (start_state vs l d)
  unfolding after
  reached-start = record { steps = []; is = refl }

  reached-next : (a : State) (s : Step) → Reached a → Reached (next a s)
  unfolding after
  reached-next a s r =
      record {
        steps = r.steps ++ (s ∷ []);
        is = deep_more (start_state vs l d) r.steps (s ∷ []) ∙ ap (λ (c : State). next c s) r.is;
      }

  pub reached-after : (a : State) (ss : List Step) → Reached a → Reached (after a ss)
  unfolding after
  reached-after a [] r = r
  reached-after a (s ∷ ss) r = reached-after (next a s) ss (reached-next a s r)

  module _ (b : Begins vs l d) where
    -- process i is decided after a step of the run if it was before
    abbrev StaysDecided : Step → State → Type 0
    StaysDecided s a = (i : ℕ) → 1 ≤ i → i ≤ length vs → (process_of a i).decided ≡ true → (process_of (next a s) i).decided ≡ true

    at-stays : (ss : List Step) (s : Step) → StaysDecided s (at vs l d ss)
    unfolding after
    at-stays ss s i lo hi e =
        (safety.decisions vs l d ss b (s ∷ []) i (process_of (at vs l d ss) i).decision (record { low = lo; high = hi }) (record { decided = e; decision = refl })).decided

    next-decided : (a : State) (s : Step) → Reached a
        → deciders (next a s).group ≡ deciders a.group + bit_of (says a s).decided
    unfolding next
    next-decided a s r =
        let h : DeepBasic vs a = subst (DeepBasic vs) r.is (deep-basic vs l d r.steps b) in
        let size = deep-size vs a h in
        let stays : StaysDecided s a = subst (StaysDecided s) r.is (at-stays r.steps s) in
        step-decided a.group h.sized (omega (arith, size, b.few)) a.store a.depths s (deep-fine vs a h s) (λ i lo hi. stays i lo (omega (arith, size)))

    -- the processes that decide while some steps are taken are those that their counts add
    pub run-decided : (a : State) (ss : List Step) → Reached a
        → deciders (after a ss).group ≡ deciders a.group + total (λ x. bit_of x.decided) (answers a ss)
    unfolding after answers total
    run-decided a [] r = omega arith
    run-decided a (s ∷ ss) r = let rest = run-decided (next a s) ss (reached-next a s r) in omega (arith, next-decided a s r)
