-- The laws of a start and of a step with depths, of any group and any stores: what is refused leaves all as it was, and a sound group over long stores stays so. Assumes nothing.
use Rattle.std.specs.Prelude.{Some}
use mathlib.Core.Path.{◌≡◌, refl, sym, ap, subst, ◌∙◌}
use mathlib.Core.Bool.{Bool, true, false, not, ◌&&◌}
use mathlib.Core.List.{List}
use mathlib.Core.Logic.{◌≢◌}
use Prim.Native.Nat.{ℕ, zero, suc, ◌≤◌}
use native.Mathlib.Decide.{ℕ_discrete}
use native.Mathlib.Omega.{arith}
use lib.Dec.{ltb}
use lib.ListN.{length, get_or}
use borrow.Author.Tests.{ltb-false, not-false}
use Rattle.rules.specs.declared.group.Group.{Group}
use Rattle.rules.specs.declared.process.Process.{Process}
use Rattle.rules.specs.declared.process.Next.{Next}
use Rattle.rules.specs.declared.step.Step.{Step}
use Rattle.rules.specs.Depths.{delivered_depth, raises, raised, depth_after, dated_both}
use Rattle.rules.specs.Refusals.{row, short, miscounted, damaged, too_deep, refusal, start_refusal}
use Rattle.rules.specs.Answers.{says_refused, outcome}
use Rattle.rules.specs.Start.{started_to, first_message, opened_depths, unless_refused_start}
use Rattle.rules.specs.Step.{Course, Idles, Refuses, Takes, unless_refused, hand_overs, course, settled, stepped}
use Rattle.rules.specs.Limits.{greatest_size, store_length, deepest_message, deepest_process, among}
use Rattle.rules.specs.Layout.{with_process, depth_at, with_depth, Sized, blank_group}
use Rattle.rules.specs.Store.{hand_over, cleared}
use Rattle.rules.specs.Kinds.{taker_of, delivers}
use Rattle.rules.proofs.Laws.Bool.{and_left}
use Rattle.rules.proofs.Laws.Row.{row_zero, among-true}
use Rattle.rules.proofs.Laws.Store.{opened-length, cleared-length}
use Rattle.rules.proofs.Laws.Group.{sized-with, sized-blank, sized-started, started-size}
use Rattle.rules.proofs.Laws.Sound.{Whole, Sound, Taking, sound-with, sound-started, overs-length}
use Rattle.rules.proofs.Laws.Passing.{deep-facts, facts-deep, DeepPassed, course-takes, dated-length}
use Rattle.rules.proofs.Laws.Group.{process-deep, depth-put, depth-kept, sized-deep, depth-with, depth-started}

-- ---- a step

-- a refused step leaves all as it was
pub deep-keeps : (g : Group) (l d : List ℕ) (s : Step) → refusal g l d s ≢ 0 → stepped g l d s ≡ outcome g l d (says_refused (refusal g l d s))
unfolding stepped course settled unless_refused
deep-keeps g l d s = go (refusal g l d s)
  where
    go : (k : ℕ) → k ≢ 0 → settled g l d (depth_after g d s) (unless_refused k g l s) ≡ outcome g l d (says_refused k)
    go zero ne = absurd (ne refl)
    go (suc k) ne = refl

-- what is true of the group and both stores as they were, and of those that a process leaves, is true after every step
pub deep-step-by : (P : Group → List ℕ → List ℕ → Type 0) (g : Group) (l d : List ℕ) (s : Step) → P g l d
    → ((x : Next) → Taking g.n (taker_of s) x → DeepPassed g l d s
    → P (with_depth (with_process g (taker_of s) x.process) (taker_of s) (depth_after g d s)) (hand_overs (taker_of s) x l) (dated_both (taker_of s) x (depth_after g d s) l d))
    → P (stepped g l d s).group (stepped g l d s).store (stepped g l d s).depths
unfolding stepped settled
deep-step-by P g l d s a b = go (course g l d s) refl
  where
    k : ℕ
    k = depth_after g d s

    go : (c : Course) → course g l d s ≡ c
        → P (settled g l d k c).group (settled g l d k c).store (settled g l d k c).depths
    go Idles e = a
    go (Refuses n) e = a
    go (Takes i x) e =
        let t = course-takes g l d s e in
        subst (λ (j : ℕ). Taking g.n j x → P (with_depth (with_process g j x.process) j k) (hand_overs j x l) (dated_both j x k l d)) (sym t.2)
        (λ h. b x h t.1) t.0

-- the depth that a step gives is not above the limit
raised-fits : (t : Bool) (m k : ℕ) → (t ≡ true → m ≤ deepest_message) → k ≤ deepest_process → raised t m k ≤ deepest_process
unfolding raised
raised-fits true m k h le = omega (arith, h refl)
raised-fits false m k h le = le

-- only a delivery raises one
raises-delivers : (g : Group) (s : Step) → raises g s ≡ true → delivers s ≡ true
unfolding raises
raises-delivers g s e = and_left (delivers s) _ e

after-fits : (g : Group) (l d : List ℕ) (s : Step) → DeepPassed g l d s → depth_at g (taker_of s) ≤ deepest_process → depth_after g d s ≤ deepest_process
unfolding depth_after too_deep
after-fits g l d s h le =
    raised-fits (raises g s) (delivered_depth d s) (depth_at g (taker_of s)) (λ e. shallow (delivers s) (raises-delivers g s e) h.shallow) le
  where
    shallow : (t : Bool) → t ≡ true → (t && ltb deepest_message (delivered_depth d s)) ≡ false → delivered_depth d s ≤ deepest_message
    shallow true e f = ltb-false deepest_message (delivered_depth d s) f
    shallow false e f = let z : ◌≡◌ {A = ℕ} 0 1 = cc in absurd (omega arith)

-- a record and a depth put into a sound group
sound-put : (g : Group) (i k : ℕ) (p : Process) → Sized g → damaged g ≡ false → 1 ≤ i → i ≤ g.n → Whole g.n p → k ≤ deepest_process
    → damaged (with_depth (with_process g i p) i k) ≡ false
unfolding with_depth with_process
sound-put g i k p sized e lo hi w le =
    facts-deep (with_depth (with_process g i p) i k)
    (record {
      low = both.low;
      high = both.high;
      each = λ j a b. subst (λ (q : Process). Whole g.n q) (sym (process-deep (with_process g i p) i k j)) (both.each j a b);
    })
    (λ j a b. go j a b (ℕ_discrete j i))
  where
    f : Sound g × ((i : ℕ) → 1 ≤ i → i ≤ g.n → depth_at g i ≤ deepest_process)
    f = deep-facts g e

    both : Sound (with_process g i p)
    both = sound-with g i p sized f.0 lo hi w

    go : (j : ℕ) → 1 ≤ j → j ≤ g.n → Dec (j ≡ i) → depth_at (with_depth (with_process g i p) i k) j ≤ deepest_process
    go j a b (yes z) =
        omega (
          arith,
          ap (depth_at (with_depth (with_process g i p) i k)) z,
          depth-put (with_process g i p) i k (sized-with g i p sized) lo (omega (arith, f.0.high, hi)),
          le,
        )
    go j a b (no ne) =
        omega (arith, depth-kept (with_process g i p) i k j lo a ne, depth-with g i p j, f.1 j a b)

module _ (g : Group) (l d : List ℕ) (s : Step) where
  -- the group keeps its size and its sixteen members
  pub deep-step-size : (stepped g l d s).group.n ≡ g.n
  unfolding with_depth with_process
  deep-step-size = deep-step-by (λ (g' : Group) (l' d' : List ℕ). g'.n ≡ g.n) g l d s refl (λ x t p. refl)

  pub deep-sized-step : Sized g → Sized (stepped g l d s).group
  deep-sized-step sized =
      deep-step-by (λ (g' : Group) (l' d' : List ℕ). Sized g') g l d s sized
      (λ x t p. sized-deep (with_process g (taker_of s) x.process) (taker_of s) (depth_after g d s) (sized-with g (taker_of s) x.process sized))

  -- a sound group stays sound
  pub deep-sound-step : Sized g → damaged g ≡ false → damaged (stepped g l d s).group ≡ false
  deep-sound-step sized e =
      deep-step-by (λ (g' : Group) (l' d' : List ℕ). damaged g' ≡ false) g l d s e
      (λ x t p.
      sound-put g (taker_of s) (depth_after g d s) x.process sized e t.low t.high t.process
      (after-fits g l d s p ((deep-facts g e).1 (taker_of s) t.low t.high)))

  -- both stores keep their lengths
  pub deep-step-length : length (stepped g l d s).store ≡ length l
  deep-step-length =
      deep-step-by (λ (g' : Group) (l' d' : List ℕ). length l' ≡ length l) g l d s refl (λ x t p. overs-length g.n (taker_of s) x l)

  pub depths-step-length : length (stepped g l d s).depths ≡ length d
  unfolding dated_both
  depths-step-length =
      deep-step-by (λ (g' : Group) (l' d' : List ℕ). length d' ≡ length d) g l d s refl
      (λ x t p. dated-length (taker_of s) x.second (depth_after g d s) (hand_over (taker_of s) x.first l) _ ∙ dated-length (taker_of s) x.first (depth_after g d s) l d)

-- ---- a start

-- what it means that no row refuses
pub deep-start-passed : (vs l d : List ℕ) → start_refusal vs l d ≡ 0
    → (store_length ≤ length l) × (store_length ≤ length d) × (1 ≤ length vs) × (length vs ≤ greatest_size)
unfolding start_refusal short miscounted
deep-start-passed vs l d e =
    let a = row_zero (ltb (length l) store_length) 10 (row (ltb (length d) store_length) 14 (row (not (among greatest_size (length vs))) 1 0)) e in
    let c = row_zero (ltb (length d) store_length) 13 (row (not (among greatest_size (length vs))) 1 0) a.1 in
    let b = row_zero (not (among greatest_size (length vs))) 0 0 c.1 in
    let sized = among-true greatest_size (length vs) (not-false (among greatest_size (length vs)) b.0) in
    (ltb-false (length l) store_length a.0, ltb-false (length d) store_length c.0, sized.0, sized.1)

-- any start makes sixteen members, of a group of at most 16 processes, and keeps the lengths of both stores; and one that is not refused makes a sound group
pub record Starting (vs l d : List ℕ) (k : ℕ) : Type 0 where
  pub sized : Sized (unless_refused_start k vs l d).group
  pub size : (unless_refused_start k vs l d).group.n ≤ greatest_size
  pub store : length (unless_refused_start k vs l d).store ≡ length l
  pub depths : length (unless_refused_start k vs l d).depths ≡ length d
  pub sound : k ≡ 0 → damaged (unless_refused_start k vs l d).group ≡ false

starting : (vs l d : List ℕ) (k : ℕ) → start_refusal vs l d ≡ k → Starting vs l d k
unfolding unless_refused_start opened_depths blank_group
starting vs l d zero e =
    let h = deep-start-passed vs l d e in
    record {
      sized = sized-started vs (length vs);
      size = omega (arith, started-size vs (length vs), h.3);
      store = opened-length (get_or vs 0 0) l h.0;
      depths = dated-length 1 (Some (first_message (get_or vs 0 0))) 0 (cleared store_length l) (cleared store_length d) ∙ cleared-length store_length d h.1;
      sound = λ z.
          facts-deep (started_to vs (length vs)) (sound-started vs h.2 h.3)
          (λ i lo hi. omega (arith, depth-started vs (length vs) i));
    }
starting vs l d (suc k) e =
    record { sized = sized-blank 0; size = omega arith; store = refl; depths = refl; sound = λ z. absurd (omega arith) }

pub deep-starting : (vs l d : List ℕ) → Starting vs l d (start_refusal vs l d)
deep-starting vs l d = starting vs l d (start_refusal vs l d) refl
