-- The laws of depths: the table with the request's rows passes only what the table without them does, and what a course that is taken says. Assumes nothing.
use Rattle.std.specs.Prelude.{Option, Some, None}
use mathlib.Core.Path.{◌≡◌, refl, sym, ap, ap₂, subst, ◌∙◌}
use mathlib.Core.Bool.{Bool, true, false, ◌&&◌, ◌||◌, not}
use mathlib.Core.List.{List}
use mathlib.Core.Logic.{◌≢◌}
use Prim.Native.Nat.{ℕ, zero, suc, ◌≤◌}
use native.Mathlib.Omega.{arith}
use lib.Dec.{eqb, leb}
use lib.ListN.{length, get_or, set, length-set}
use borrow.Author.Tests.{leb-true, le-leb, not-false, eqb-true}
use Rattle.rules.specs.declared.group.Group.{Group}
use Rattle.rules.specs.declared.process.Message.{Message}
use Rattle.rules.specs.declared.process.Message.TheVariants.{E, S, F, Decision}
use Rattle.rules.specs.declared.process.Next.{Next}
use Rattle.rules.specs.declared.step.Step.{Step}
use Rattle.rules.specs.Depths.{dated_if, dated}
use Rattle.rules.specs.Refusals.{all_of, short, whole, damaged, too_deep, refusal}
use Rattle.rules.specs.Step.{Course, Refuses, Takes, idles, or_idle, unless_refused, course}
use Rattle.rules.specs.Limits.{greatest_size, deepest_process, among}
use Rattle.rules.specs.Layout.{process_at, depth_at}
use Rattle.rules.proofs.Laws.Store.{place_by}
use Rattle.rules.specs.Kinds.{taker_of, is_cut, event_of}
use Rattle.rules.specs.Idle.{idle}
use Rattle.rules.proofs.Bare.Step as base
use Rattle.rules.proofs.Laws.Bool.{or_left, or_right}
use Rattle.rules.proofs.Laws.All.{all-each, all-every, all_both}
use Rattle.rules.proofs.Laws.Store.{IsMessage, other}
use Rattle.rules.proofs.Laws.Sound.{Sound, sound-facts, facts-sound, Passed, PassedBy, by-passed, Taking, Fine, passed-fine, passed-of}

-- ---- a sound group whose processes are not too deep

module _ (g : Group) where
  -- what is tested of process i
  abbrev shallow-at : ℕ → Bool
  shallow-at i = leb (depth_at g i) deepest_process

  abbrev whole-at : ℕ → Bool
  whole-at i = whole g.n (process_at g i)

  -- it is damaged without its depths, or one of them is above the limit
  split : damaged g ≡ (base.damaged g || not (all_of shallow-at g.n))
  unfolding damaged base.damaged
  split = ap (λ (b : Bool). not (among greatest_size g.n && b)) (all_both whole-at shallow-at g.n) ∙ either (among greatest_size g.n) (all_of whole-at g.n) _
    where
      either : (a b c : Bool) → not (a && (b && c)) ≡ (not (a && b) || not c)
      either true true c = refl
      either true false c = refl
      either false b c = refl

  pub deep-sound : damaged g ≡ false → base.damaged g ≡ false
  deep-sound e = or_left (base.damaged g) (not (all_of shallow-at g.n)) (sym split ∙ e)

  pub deep-facts : damaged g ≡ false → Sound g × ((i : ℕ) → 1 ≤ i → i ≤ g.n → depth_at g i ≤ deepest_process)
  deep-facts e =
      let all = not-false (all_of shallow-at g.n) (or_right (base.damaged g) (not (all_of shallow-at g.n)) (sym split ∙ e)) in
      (sound-facts g (deep-sound e), λ i a b. leb-true (depth_at g i) deepest_process (all-each shallow-at g.n i a b all))

  pub facts-deep : Sound g → ((i : ℕ) → 1 ≤ i → i ≤ g.n → depth_at g i ≤ deepest_process) → damaged g ≡ false
  facts-deep h k =
      split ∙ ap₂ ◌||◌ (facts-sound g h) (ap not (all-every shallow-at g.n (λ i a b. le-leb (depth_at g i) deepest_process (k i a b))))

-- ---- the table with the request's rows

-- what it means that no row refuses
abbrev pub DeepPassed : Group → List ℕ → List ℕ → Step → Type 0
DeepPassed g l d s = PassedBy (short d) (damaged g) (too_deep d s) g l s

pub deep-passed : (g : Group) (l d : List ℕ) (s : Step) → refusal g l d s ≡ 0 → DeepPassed g l d s
unfolding refusal base.refusal_by
deep-passed g l d s e = by-passed (short d) (damaged g) (too_deep d s) g l s e

-- then none of the table without depths does
pub passed-before : (g : Group) (l d : List ℕ) (s : Step) → DeepPassed g l d s → Passed g l s
passed-before g l d s h = passed-of h (deep-sound g h.sound)

-- the process of a course is the one that takes the step
takes-taker : (g : Group) (l : List ℕ) (s : Step) {i : ℕ} {x : Next} (t c : Bool)
    → or_idle t c (taker_of s) (process_at g (taker_of s)) (event_of g l s) ≡ Takes i x → i ≡ taker_of s
unfolding or_idle idles
takes-taker g l s true true e = cc
takes-taker g l s true false e = let y : ◌≡◌ {A = ℕ} 0 1 = cc in absurd (omega arith)
takes-taker g l s false c e = cc

-- a course that is taken
pub course-takes : (g : Group) (l d : List ℕ) (s : Step) {i : ℕ} {x : Next} → course g l d s ≡ Takes i x → Taking g.n i x × DeepPassed g l d s × (i ≡ taker_of s)
unfolding course unless_refused
course-takes g l d s {i} {x} e = go (refusal g l d s) refl
  where
    go : (k : ℕ) → refusal g l d s ≡ k → Taking g.n i x × DeepPassed g l d s × (i ≡ taker_of s)
    go zero z =
        let p = deep-passed g l d s z in
        let t : or_idle (idle g s) (is_cut s) (taker_of s) (process_at g (taker_of s)) (event_of g l s) ≡ Takes i x = ap (λ (k : ℕ). unless_refused k g l s) (sym z) ∙ e in
        (subst (λ (c : Course). Fine g.n c) t (passed-fine g l s (passed-before g l d s p) (idle g s) (is_cut s) refl), p, takes-taker g l s (idle g s) (is_cut s) t)
    go (suc k) z =
        let t : Refuses (suc k) ≡ Takes i x = ap (λ (k : ℕ). unless_refused k g l s) (sym z) ∙ e in
        let y : ◌≡◌ {A = ℕ} 0 1 = cc in
        absurd (omega arith)

-- ---- one message that is dated

-- what is true of the depths as they are, and of those with the depth written where the entry was 0, is true after the handing over
pub dating : (P : List ℕ → Type 0) (i : ℕ) (m : Option Message) (k : ℕ) (l d : List ℕ) → P d
    → (IsMessage m → get_or l (place_by i m) 0 ≡ 0 → P (set d (place_by i m) k))
    → P (dated i m k l d)
unfolding dated dated_if
dating P i m k l d old new = go m new
  where
    at_place : (m : Option Message) (b : Bool) → eqb (get_or l (place_by i m) 0) 0 ≡ b → (get_or l (place_by i m) 0 ≡ 0 → P (set d (place_by i m) k))
        → P (dated_if b (place_by i m) k d)
    at_place m true e new = new (eqb-true (get_or l (place_by i m) 0) 0 e)
    at_place m false e new = old

    go : (m : Option Message) → (IsMessage m → get_or l (place_by i m) 0 ≡ 0 → P (set d (place_by i m) k)) → P (dated i m k l d)
    go None new = old
    go (Some (E r q v)) new = at_place (Some (E r q v)) _ refl (new tt)
    go (Some (S r)) new = at_place (Some (S r)) _ refl (new tt)
    go (Some (F r q v)) new = at_place (Some (F r q v)) _ refl (new tt)
    go (Some (Decision v)) new = at_place (Some (Decision v)) _ refl (new tt)

module _ (i : ℕ) (m : Option Message) (k : ℕ) (l d : List ℕ) where
  pub dated-length : length (dated i m k l d) ≡ length d
  dated-length = dating (λ (e : List ℕ). length e ≡ length d) i m k l d refl (λ is z. length-set d (place_by i m) k)

  -- at every other place, and where the entry was sent, the depth stays
  pub dated-other : (q : ℕ) → q ≢ place_by i m → get_or (dated i m k l d) q 0 ≡ get_or d q 0
  dated-other q ne = dating (λ (e : List ℕ). get_or e q 0 ≡ get_or d q 0) i m k l d refl (λ is z. other d (place_by i m) k q ne)
