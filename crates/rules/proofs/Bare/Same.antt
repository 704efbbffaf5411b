-- A step of a group that is not damaged, with depths within the limits, is the bare step with the depths forgotten. Assumes nothing.
use mathlib.Core.Path.{◌≡◌, refl, sym, ap, ap₂, subst, ◌∙◌}
use mathlib.Core.Bool.{Bool, true, false, ◌&&◌, not}
use mathlib.Core.List.{List}
use mathlib.Core.Logic.{◌≢◌}
use Prim.Native.Nat.{ℕ, zero, suc, ◌≤◌}
use native.Mathlib.Omega.{arith}
use lib.Dec.{ltb}
use lib.ListN.{length, get_or}
use borrow.Author.Tests.{le-ltb}
use Rattle.rules.specs.declared.group.Group.{Group}
use Rattle.rules.specs.declared.process.Process.{Process}
use Rattle.rules.specs.declared.step.Step.{Step}
use Rattle.rules.specs.Limits.{greatest_size, store_length, deepest_message, among}
use Rattle.rules.specs.Layout.{process_at, with_process, Sized, forgetting}
use Rattle.rules.specs.Answers.{says_applied}
use Rattle.rules.specs.Kinds.{taker_of, numbers_of, delivers, slot_of, is_cut, event_of}
use Rattle.rules.specs.Idle.{idle}
use Rattle.rules.specs.Depths.{delivered_depth, depth_after}
use Rattle.rules.specs.Refusals.{row, every, short, strange, late, down, unsent, misnamed, impossible, recovers_past, enters_past, damaged, too_deep, refusal}
use Rattle.rules.specs.Step.{Course, Idles, Refuses, Takes, idles, or_idle, unless_refused, sent_by, again_by, decides_now, course, settled, stepped, Ready}
use Rattle.rules.specs.Run.{State, next}
use Rattle.rules.specs.Safety.{WithinLimits}
use Rattle.rules.specs.Private.{number_rows}
use Rattle.rules.proofs.Bare.Step as base
use Rattle.rules.proofs.Bare.Run.{forgotten}
use Rattle.rules.proofs.Bare.Run as run
use Rattle.rules.proofs.Laws.Sound.{Whole, Sound, Fine, course-fine}
use Rattle.rules.proofs.Laws.Passing.{deep-sound, deep-facts, facts-deep}
use Rattle.rules.proofs.Laws.Group.{process-forgets, depth-forgets, forget-with, forget-deep}
use Rattle.rules.proofs.Laws.Course.{numbers-refuse, held-course, taker-low, place-low}

-- the rows of the table do not look past 3 and 4 where one of them refuses
rows_same : (t u w : Bool) (g : Group) (l : List ℕ) (s : Step) → (number_rows g.n s ≡ 0 → w ≡ false) → base.refusal_by t u w g l s ≡ base.refusal_by t u false g l s
unfolding base.refusal_by number_rows strange row
rows_same t u w g l s h = go (not (every (among g.n) (numbers_of s))) (late s) refl refl
  where
    go : (x y : Bool) → not (every (among g.n) (numbers_of s)) ≡ x → late s ≡ y → base.refusal_by t u w g l s ≡ base.refusal_by t u false g l s
    go true y e f = rw e
    go false true e f = rw (e, f)
    go false false e f = ap (λ (v : Bool). base.refusal_by t u v g l s) (h (rw (e, f)))

module _ (a : State) (h : WithinLimits a) where
  pub limits-few : a.group.n ≤ greatest_size
  limits-few = (deep-facts a.group h.ready.sound).0.high

  -- the group without its depths is sound
  forgotten-sound : Sound (forgetting a.group)
  unfolding forgetting
  forgotten-sound =
      let f = (deep-facts a.group h.ready.sound).0 in
      record {
        low = f.low;
        high = f.high;
        each = λ i lo hi.
            subst (λ (p : Process). Whole a.group.n p) (sym (process-forgets a.group i)) (f.each i lo hi);
      }

  forgotten-ready : Ready (forgetting a.group) a.store a.depths
  forgotten-ready =
      record {
        long = h.ready.long;
        deep_long = h.ready.deep_long;
        sound =
            facts-deep (forgetting a.group) forgotten-sound
            (λ i lo hi. omega (arith, depth-forgets a.group i));
      }

  -- no delivered message is too deep
  pub not-deep : (s : Step) → number_rows a.group.n s ≡ 0 → too_deep a.depths s ≡ false
  unfolding too_deep delivered_depth
  not-deep s z =
      let lt = place-low a.group.n s limits-few z in
      let le : get_or a.depths (slot_of s) 0 ≤ deepest_message = h.messages (slot_of s) lt in
      go (delivers s) le
    where
      go : (t : Bool) → get_or a.depths (slot_of s) 0 ≤ deepest_message → (t && ltb deepest_message (get_or a.depths (slot_of s) 0)) ≡ false
      go true le = le-ltb deepest_message (get_or a.depths (slot_of s) 0) le
      go false le = refl

  -- the new rows of the table do not refuse
  same-refusal : (g : Group) (s : Step) → g.n ≡ a.group.n → damaged g ≡ false → refusal g a.store a.depths s ≡ base.refusal g a.store s
  unfolding refusal base.refusal base.refusal_by short
  same-refusal g s e f =
      let l = a.store in
      rows_same (ltb (length a.depths) store_length) (damaged g) (too_deep a.depths s) g l s (λ z. not-deep s (ap (λ (n : ℕ). number_rows n s) (sym e) ∙ z))
      ∙ ap₂ (λ (t u : Bool). base.refusal_by t u false g l s) (le-ltb (length a.depths) store_length h.ready.deep_long) (f ∙ sym (deep-sound g f))

  -- the course is that of the group without depths
  pub course-same : (s : Step) → course a.group a.store a.depths s ≡ base.course (forgetting a.group) a.store s
  unfolding course base.course forgetting
  course-same s =
      go (number_rows a.group.n s) refl
      ∙ ap (λ (k : ℕ). unless_refused k (forgetting a.group) a.store s) (same-refusal (forgetting a.group) s refl forgotten-ready.sound)
    where
      go : (k : ℕ) → number_rows a.group.n s ≡ k → course a.group a.store a.depths s ≡ course (forgetting a.group) a.store a.depths s
      go zero z =
          let t = taker-low a.group.n s z in
          sym (held-course a.group a.store a.depths s h.ready z refl refl refl (process-forgets a.group (taker_of s)))
          ∙ held-course (forgetting a.group) a.store a.depths s forgotten-ready z refl refl refl refl
      go (suc k) z =
          sym (numbers-refuse a.group a.store a.depths s h.ready z (λ b. omega arith))
          ∙ numbers-refuse (forgetting a.group) a.store a.depths s forgotten-ready z (λ b. omega arith)

  pub limits-fine : (s : Step) → Fine a.group.n (course a.group a.store a.depths s)
  unfolding forgetting
  limits-fine s = subst (λ (c : Course). Fine a.group.n c) (sym (course-same s)) (course-fine (forgetting a.group) a.store s)

-- ---- the outcome of a course, with the depths forgotten

record Forgets (g : Group) (l d : List ℕ) (k : ℕ) (c : Course) : Type 0 where
  group : forgetting (settled g l d k c).group ≡ (base.settled (forgetting g) l c).group
  store : (settled g l d k c).store ≡ (base.settled (forgetting g) l c).store
  says : (settled g l d k c).says ≡ (base.settled (forgetting g) l c).says

settled-forgets : (g : Group) (l d : List ℕ) (k : ℕ) (c : Course) → Sized g → Fine g.n c → Forgets g l d k c
unfolding settled base.settled
settled-forgets g l d k Idles s f = record { group = refl; store = refl; says = refl }
settled-forgets g l d k (Refuses n) s f = record { group = refl; store = refl; says = refl }
settled-forgets g l d k (Takes i x) s f =
    record {
      group = forget-deep (with_process g i x.process) i k ∙ forget-with g i x.process;
      store = refl;
      says =
          ap (λ (p : Process). says_applied (sent_by i x) (again_by i x l) (decides_now p x.process))
          (sym (process-forgets g i));
    }

module _ (a : State) (h : WithinLimits a) (s : Step) where
  forgets-at : Forgets a.group a.store a.depths (depth_after a.group a.depths s) (course a.group a.store a.depths s)
  forgets-at = settled-forgets a.group a.store a.depths (depth_after a.group a.depths s) (course a.group a.store a.depths s) h.sized (limits-fine a h s)

  -- a step with depths is the step of before, with the depths forgotten
  pub next-forgets : forgotten (next a s) ≡ run.next (forgotten a) s
  unfolding next stepped run.next base.stepped
  next-forgets =
      let e = course-same a h s in
      λ t.
      record {
        group = (forgets-at.group ∙ ap (λ (c : Course). (base.settled (forgetting a.group) a.store c).group) e) t;
        store = (forgets-at.store ∙ ap (λ (c : Course). (base.settled (forgetting a.group) a.store c).store) e) t;
      }

  pub says-forgets : (stepped a.group a.store a.depths s).says ≡ (base.stepped (forgetting a.group) a.store s).says
  unfolding stepped base.stepped
  says-forgets = forgets-at.says ∙ ap (λ (c : Course). (base.settled (forgetting a.group) a.store c).says) (course-same a h s)

-- the number of a refusal, by the course that it gives
number_of : {k : ℕ} (g : Group) (l : List ℕ) (s : Step) (n : ℕ) → unless_refused n g l s ≡ Refuses (suc k) → n ≡ suc k
unfolding unless_refused or_idle idles
number_of {k} g l s zero e = absurd (never-refuses (idle g s) (is_cut s) e)
  where
    never-refuses : (t c : Bool) → or_idle t c (taker_of s) (process_at g (taker_of s)) (event_of g l s) ≡ Refuses (suc k) → ⊥
    never-refuses true true e = let y : ◌≡◌ {A = ℕ} 0 1 = cc in omega arith
    never-refuses true false e = let y : ◌≡◌ {A = ℕ} 0 1 = cc in omega arith
    never-refuses false c e = let y : ◌≡◌ {A = ℕ} 0 1 = cc in omega arith
number_of g l s (suc n) e = cc

-- a step of a run is refused by the number of the table without depths, over the group without them
pub refusal-same : (a : State) → WithinLimits a → (s : Step) → refusal a.group a.store a.depths s ≡ base.refusal (forgetting a.group) a.store s
unfolding course base.course unless_refused
refusal-same a h s = go (refusal a.group a.store a.depths s) refl (base.refusal (forgetting a.group) a.store s) refl
  where
    go : (m : ℕ) → refusal a.group a.store a.depths s ≡ m → (n : ℕ) → base.refusal (forgetting a.group) a.store s ≡ n
        → refusal a.group a.store a.depths s ≡ base.refusal (forgetting a.group) a.store s
    go zero e zero f = e ∙ sym f
    go (suc m) e n f = e ∙ sym (number_of (forgetting a.group) a.store s (base.refusal (forgetting a.group) a.store s)
        (sym (course-same a h s) ∙ ap (λ (k : ℕ). unless_refused k a.group a.store s) e))
    go zero e (suc n) f = number_of a.group a.store s (refusal a.group a.store a.depths s)
        (course-same a h s ∙ ap (λ (k : ℕ). unless_refused k (forgetting a.group) a.store s) f) ∙ sym f

-- the table without depths has no row 14
row-not : (b : Bool) (k rest : ℕ) → k ≢ 14 → rest ≢ 14 → row b k rest ≢ 14
unfolding row
row-not true k rest a b = a
row-not false k rest a b = b

pub never-depths : (g : Group) (l : List ℕ) (s : Step) → base.refusal g l s ≢ 14
unfolding base.refusal base.refusal_by row
never-depths g l s =
    row-not (short l) 11 _ (omega arith)
    (row-not (base.damaged g) 2 _ (omega arith)
    (row-not (strange g s) 3 _ (omega arith)
    (row-not (late s) 4 _ (omega arith)
    (row-not (down g s) 5 _ (omega arith)
    (row-not (unsent l s) 6 _ (omega arith)
    (row-not (misnamed g l s) 2 _ (omega arith)
    (row-not (impossible g s) 7 _ (omega arith)
    (row-not (recovers_past g s) 13 _ (omega arith)
    (row-not (enters_past g l s) 8 0 (omega arith) (omega arith))))))))))
