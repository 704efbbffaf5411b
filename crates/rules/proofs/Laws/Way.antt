-- The way of a step is its course with what lifts a depth; a handing over goes by the message's spot. Assumes nothing.
use Rattle.std.specs.Prelude.{Option, Some, None, is_some, length, set}
use Rattle.rules.specs.declared.refusal.Refusal.{Refusal}
use Rattle.rules.specs.declared.refusal.Refusal.TheVariants.{Values, Damaged, NoProcess, NoRound, Down, NotSent, NotPossible, PastLastRound, ShortStore, TooManyRecoveries, TooDeep}
use Rattle.rules.specs.Answers.{number_of}
use mathlib.Core.Path.{◌≡◌, refl, sym, ap, ap₂, ◌∙◌, subst}
use mathlib.Core.Bool.{Bool, true, false, not}
use mathlib.Core.List.{List}
use Prim.Native.Nat.{ℕ, ◌+◌, ◌≤◌, ◌<◌, max}
use native.Mathlib.Omega.{arith}
use lib.ListN.{get_or}
use borrow.Author.Tests.{ltb-false}
use Rattle.rules.specs.declared.group.Group.{Group}
use Rattle.rules.specs.declared.process.Process.{Process}
use Rattle.rules.specs.declared.process.Next.{Next}
use Rattle.rules.specs.declared.process.Message.{Message}
use Rattle.rules.specs.declared.step.Step.{Step}
use Rattle.rules.specs.declared.step.Step.TheVariants.{DeliverE, DeliverS, DeliverF, DeliverDecision, Suspect, Pause, Crash, Recover}
use Rattle.rules.specs.Limits.{deepest_message, deepest_process}
use Rattle.rules.specs.Layout.{process_at, depth_at}
use Rattle.rules.specs.Store.{hand_over, sent_bit, repeats, one}
use Rattle.rules.specs.declared.store.Spot.{Spot}
use Rattle.rules.specs.declared.store.Traffic.{Traffic}
use Rattle.rules.specs.Kinds.{taker_of, delivers, slot_of, entry_in}
use Rattle.rules.specs.Idle.{idle, idle_e, idle_s, idle_f}
use Rattle.rules.specs.Depths.{delivered_depth, raises, raised, depth_after, dated, dated_at}
use Rattle.rules.specs.Refusals.{too_deep, is_recover}
use Rattle.rules.specs.Step.{Course, Idles, Refuses, Takes, course, settled, stepped, Ready}
use Rattle.rules.proofs.Laws.Course.{held-course, taken-outcome}
use Rattle.rules.proofs.Laws.Passing.{course-takes}
use Rattle.rules.specs.Private.{Rests, Stops, Moves, place_or, Placed, heard_at, entry_heard, depth_heard, number_rows, held_rows, last_course, held_course, lifted, lift_unless, lifts, lift_of, HandsOver, HandsOverBoth, spot_of}

-- ---- which course a way has

pub way-idles : (k : ℕ) (c : Course) → lifted k c ≡ Rests → c ≡ Idles
unfolding lifted
way-idles k Idles e = refl
way-idles k (Refuses j) e = let z : ◌≡◌ {A = ℕ} 0 1 = cc in absurd (omega arith)
way-idles k (Takes i x) e = let z : ◌≡◌ {A = ℕ} 0 1 = cc in absurd (omega arith)

pub way-refuses : (k : ℕ) (c : Course) {j : ℕ} → lifted k c ≡ Stops j → c ≡ Refuses j
unfolding lifted
way-refuses k Idles e = let z : ◌≡◌ {A = ℕ} 0 1 = cc in absurd (omega arith)
way-refuses k (Refuses j) e = cc
way-refuses k (Takes i x) e = let z : ◌≡◌ {A = ℕ} 0 1 = cc in absurd (omega arith)

pub way-takes : (k : ℕ) (c : Course) {i m : ℕ} {x : Next} → lifted k c ≡ Moves i x m → (c ≡ Takes i x) × (k ≡ m)
unfolding lifted
way-takes k Idles e = let z : ◌≡◌ {A = ℕ} 0 1 = cc in absurd (omega arith)
way-takes k (Refuses j) e = let z : ◌≡◌ {A = ℕ} 0 1 = cc in absurd (omega arith)
way-takes k (Takes i x) e = (cc, cc)

-- ---- what lifts a depth gives the depth after the step

lift-raises : (b : Bool) (m k : ℕ) → max k (lift_unless b (m + 1)) ≡ raised (not b) m k
unfolding lift_unless raised
lift-raises true m k = omega arith
lift-raises false m k = refl

unlifted : (m k : ℕ) → max k 0 ≡ raised false m k
unfolding raised
unlifted m k = omega arith

pub lift-depth : (g : Group) (d : List ℕ) (s : Step) → max (depth_at g (taker_of s)) (lift_of g d s) ≡ depth_after g d s
unfolding lift_of lifts depth_after raises delivers idle taker_of
lift-depth g d (DeliverE i j r c) = lift-raises (idle_e (process_at g i) j r) (delivered_depth d (DeliverE i j r c)) (depth_at g i)
lift-depth g d (DeliverS i j r c) = lift-raises (idle_s (process_at g i) j r) (delivered_depth d (DeliverS i j r c)) (depth_at g i)
lift-depth g d (DeliverF i j r c) = lift-raises (idle_f (process_at g i) j r) (delivered_depth d (DeliverF i j r c)) (depth_at g i)
lift-depth g d (DeliverDecision i j c) = lift-raises (process_at g i).decided (delivered_depth d (DeliverDecision i j c)) (depth_at g i)
lift-depth g d (Suspect i c) = unlifted (delivered_depth d (Suspect i c)) (depth_at g i)
lift-depth g d (Pause i) = unlifted (delivered_depth d (Pause i)) (depth_at g i)
lift-depth g d (Crash i) = unlifted (delivered_depth d (Crash i)) (depth_at g i)
lift-depth g d (Recover i) = unlifted (delivered_depth d (Recover i)) (depth_at g i)

-- the way over the record of the taker, the entry and its depth
pub lift-held : (g : Group) (l d : List ℕ) (s : Step) {i e k : ℕ} {p : Process} → Ready g l d → number_rows g.n s ≡ 0
    → i ≡ taker_of s → e ≡ entry_in l s → k ≡ delivered_depth d s → p ≡ process_at g (taker_of s)
    → lifted (lifts p s (k + 1)) (held_course g.n i e k p s) ≡ lifted (lift_of g d s) (course g l d s)
unfolding lift_of
lift-held g l d s h z hi he hk hp = ap₂ lifted (ap₂ (λ (q : Process) (m : ℕ). lifts q s (m + 1)) hp hk) (held-course g l d s h z hi he hk hp)

-- a step that delivers nothing asks nothing of an entry and of a depth
unheard : (n i : ℕ) (p : Process) (s : Step) (e e' k k' : ℕ) → delivers s ≡ false
    → lifted (lifts p s (k + 1)) (held_course n i e k p s) ≡ lifted (lifts p s (k' + 1)) (held_course n i e' k' p s)
unfolding lifts held_course held_rows last_course delivers is_recover
unheard n i p (DeliverE t j r c) e e' k k' z = let y : ◌≡◌ {A = ℕ} 0 1 = cc in absurd (omega arith)
unheard n i p (DeliverS t j r c) e e' k k' z = let y : ◌≡◌ {A = ℕ} 0 1 = cc in absurd (omega arith)
unheard n i p (DeliverF t j r c) e e' k k' z = let y : ◌≡◌ {A = ℕ} 0 1 = cc in absurd (omega arith)
unheard n i p (DeliverDecision t j c) e e' k k' z = let y : ◌≡◌ {A = ℕ} 0 1 = cc in absurd (omega arith)
unheard n i p (Suspect t c) e e' k k' z = refl
unheard n i p (Pause t) e e' k k' z = refl
unheard n i p (Crash t) e e' k k' z = refl
unheard n i p (Recover t) e e' k k' z = refl

-- so the way over what a step hears: the message at its place, if it delivers one
pub heard-held : (g : Group) (l d : List ℕ) (s : Step) (o : Option ℕ) {i : ℕ} {p : Process} → Ready g l d → number_rows g.n s ≡ 0
    → i ≡ taker_of s → place_or o ≡ slot_of s → is_some o ≡ delivers s → p ≡ process_at g (taker_of s)
    → lifted (lifts p s (depth_heard (heard_at o l d) + 1)) (held_course g.n i (entry_heard (heard_at o l d)) (depth_heard (heard_at o l d)) p s) ≡ lifted (lift_of g d s) (course g l d s)
unfolding heard_at entry_heard depth_heard place_or entry_in delivered_depth
heard-held g l d s (Some k) h z hi hk hd hp = lift-held g l d s h z hi (ap (λ (j : ℕ). get_or l j 0) hk) (ap (λ (j : ℕ). get_or d j 0) hk) hp
heard-held g l d s None {i} {p} h z hi hk hd hp =
    unheard g.n i p s 0 (entry_in l s) 0 (delivered_depth d s) (sym hd) ∙ lift-held g l d s h z hi refl refl hp

pub heard-is : (o : Option ℕ) (l d : List ℕ) → is_some (heard_at o l d) ≡ is_some o
unfolding heard_at
heard-is None l d = refl
heard-is (Some k) l d = refl

pub placed : (o : Option ℕ) (l d : List ℕ) {k : ℕ} → place_or o ≡ k → k < length l → k < length d → Placed o l d
unfolding place_or
placed None l d e a b = tt
placed (Some j) l d e a b = (omega (arith, e, a), omega (arith, e, b))

-- the number of a refusal is not 0
pub number-some : (r : Refusal) → ¬ (number_of r ≡ 0)
unfolding number_of
number-some Values e = omega (arith, e)
number-some Damaged e = omega (arith, e)
number-some NoProcess e = omega (arith, e)
number-some NoRound e = omega (arith, e)
number-some Down e = omega (arith, e)
number-some NotSent e = omega (arith, e)
number-some NotPossible e = omega (arith, e)
number-some PastLastRound e = omega (arith, e)
number-some ShortStore e = omega (arith, e)
number-some TooManyRecoveries e = omega (arith, e)
number-some TooDeep e = omega (arith, e)

-- it is small where the message is not too deep
unless-small : (b : Bool) (m : ℕ) → m ≤ deepest_message → lift_unless b (m + 1) ≤ deepest_process
unfolding lift_unless
unless-small true m h = omega arith
unless-small false m h = omega arith

pub lift-small : (g : Group) (d : List ℕ) (s : Step) → too_deep d s ≡ false → lift_of g d s ≤ deepest_process
unfolding lift_of lifts too_deep delivers taker_of
lift-small g d (DeliverE i j r c) h = unless-small (idle_e (process_at g i) j r) _ (ltb-false deepest_message _ h)
lift-small g d (DeliverS i j r c) h = unless-small (idle_s (process_at g i) j r) _ (ltb-false deepest_message _ h)
lift-small g d (DeliverF i j r c) h = unless-small (idle_f (process_at g i) j r) _ (ltb-false deepest_message _ h)
lift-small g d (DeliverDecision i j c) h = unless-small (process_at g i).decided _ (ltb-false deepest_message _ h)
lift-small g d (Suspect i c) h = omega arith
lift-small g d (Pause i) h = omega arith
lift-small g d (Crash i) h = omega arith
lift-small g d (Recover i) h = omega arith

module _ (g : Group) (l d : List ℕ) (s : Step) {i k : ℕ} {x : Next} (e : lifted (lift_of g d s) (course g l d s) ≡ Moves i x k) where
  -- a step that is taken lifts to no more than a process can have
  pub taken-lift : k ≤ deepest_process
  taken-lift =
      let w = way-takes _ (course g l d s) e in
      omega (arith, w.1, lift-small g d s (course-takes g l d s w.0).1.shallow)

  -- and settles at the depth so lifted
  pub taken-way : settled g l d (max (depth_at g i) k) (Takes i x) ≡ stepped g l d s
  taken-way =
      let w = way-takes _ (course g l d s) e in
      taken-outcome g l d s (ap₂ (λ (j m : ℕ). max (depth_at g j) m) (course-takes g l d s w.0).2 (sym w.1) ∙ lift-depth g d s) w.0

-- ---- handing over by the message's spot

-- what writing an entry at a place leaves, where the place and the entry are the message's
pub hands-spot : (i k : ℕ) (l d : List ℕ) (m : Message) {s : Spot} {again : ℕ} {l' d' : List ℕ} → spot_of i m ≡ s
    → (l' ≡ set l s.place s.entry) × (d' ≡ dated_at s.place k l d) × (again ≡ sent_bit (get_or l s.place 0))
    → HandsOver i (Some m) k l d l' d' (record { sent = 1; again = again })
unfolding hand_over dated one repeats
hands-spot i k l d m {s} {again} {l'} {d'} e w =
    let v = subst (λ (t : Spot). (l' ≡ set l t.place t.entry) × (d' ≡ dated_at t.place k l d) × (again ≡ sent_bit (get_or l t.place 0))) (sym e) w in
    record { store = v.0; depths = v.1; sent = refl; again = v.2 }

-- one message, and then another
pub hands-both : {i k : ℕ} {a b : Traffic} {m m' : Option Message} {l d once deep last deeper : List ℕ} → HandsOver i m k l d once deep a → HandsOver i m' k once deep last deeper b
    → HandsOverBoth i m m' k l d last deeper (record { sent = a.sent + b.sent; again = a.again + b.again })
hands-both {i} {k} {a} {b} {m} {m'} h g = record {
  store = g.store ∙ ap (hand_over i m') h.store;
  depths = g.depths ∙ ap₂ (dated i m' k) h.store h.depths;
  sent = ap₂ ◌+◌ h.sent g.sent;
  again = ap₂ ◌+◌ h.again (g.again ∙ ap (repeats i m') h.store);
}
