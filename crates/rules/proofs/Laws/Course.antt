-- The refusals of a step, once 11, the short 14 and the group's 2 are ruled out, as the parts that the code tests, and the course that follows. Assumes nothing.
use mathlib.Core.Path.{◌≡◌, refl, sym, ap, ◌∙◌}
use mathlib.Core.Bool.{Bool, true, false, ◌&&◌, not}
use mathlib.Core.List.{List}
use Prim.Native.Nat.{ℕ, zero, suc, ◌≤◌, ◌<◌}
use native.Mathlib.Nat.{le_trans}
use native.Mathlib.Omega.{arith}
use lib.Dec.{ltb}
use lib.ListN.{length, length-append}
use borrow.Author.Tests.{le-ltb}
use Rattle.rules.specs.declared.group.Group.{Group}
use Rattle.rules.specs.declared.process.Process.{Process}
use Rattle.rules.specs.declared.process.Next.{Next}
use Rattle.rules.specs.declared.step.Step.{Step}
use Rattle.rules.specs.declared.step.Step.TheVariants.{DeliverE, DeliverS, DeliverF, DeliverDecision, Suspect, Pause, Crash, Recover}
use Rattle.rules.specs.Limits.{greatest_size, last_round, too_many, store_length, among}
use Rattle.rules.specs.Layout.{process_at, with_process, with_depth}
use Rattle.rules.specs.Store.{proposer_of, value_of, one}
use Rattle.rules.specs.Depths.{delivered_depth, depth_after, dated_both}
use Rattle.rules.specs.Refusals.{row, every, short, strange, late, is_recover, down, unsent, misnamed, may_suspect, impossible, recovers_past, enters_past, damaged, too_deep}
use Rattle.rules.specs.Refusals.{refusal}
use Rattle.rules.specs.Answers.{says_applied, says_idle, says_refused, outcome}
use Rattle.rules.specs.Step.{Idles, Refuses, Takes, or_idle, unless_refused, handed_of, hand_overs, sent_by, again_by, decides_now, course, settled, stepped, Ready}
use Rattle.rules.specs.Events.{cut_if, on_recover}
use Rattle.rules.specs.Kinds.{taker_of, numbers_of, round_of, delivers, slot_of, is_cut, entry_in, event_of}
use Rattle.rules.specs.Idle.{idle}
use Rattle.rules.specs.declared.store.Traffic.{Traffic}
use Rattle.rules.specs.Private.{unless_many, Misses, At, number_rows, unless_missed, address_of, held_rows, unless_past, or_past, or_impossible, or_up, last_course, unless_held, held_course, Numbered, Handable, HandsOverBoth}
use Rattle.rules.proofs.Laws.Row.{or_else, number-else, held-else, delivered-zero, owned-zero}
use Rattle.rules.proofs.Laws.Sound.{sound-facts}
use Rattle.rules.proofs.Laws.Passing.{deep-sound, course-takes}

-- the rows that are left to every step: 7, 13 and 8
abbrev rest : Group → List ℕ → Step → ℕ
rest g l s = row (impossible g s) 7 (row (recovers_past g s) 13 (row (enters_past g l s) 8 0))

-- rows 11, 14 and 2 fall away
ready : (g : Group) (l d : List ℕ) (s : Step) → Ready g l d
    → refusal g l d s ≡ row (strange g s) 3 (row (late s) 4 (row (down g s) 5 (row (unsent l s) 6 (row (misnamed g l s) 2 (row (too_deep d s) 14 (rest g l s))))))
unfolding refusal row short
ready g l d s h = rw (le-ltb (length l) store_length h.long, le-ltb (length d) store_length h.deep_long, h.sound)

first-row : (g : Group) (l d : List ℕ) (s : Step) → short l ≡ true → refusal g l d s ≡ 11
unfolding refusal row
first-row g l d s h = rw h

second-row : (g : Group) (l d : List ℕ) (s : Step) → short l ≡ false → short d ≡ true → refusal g l d s ≡ 14
unfolding refusal row
second-row g l d s h z = rw (h, z)

third-row : (g : Group) (l d : List ℕ) (s : Step) → short l ≡ false → short d ≡ false → damaged g ≡ true → refusal g l d s ≡ 2
unfolding refusal row
third-row g l d s h z y = rw (h, z, y)

-- ---- the course that a refusal's number gives

pub refuses : (g : Group) (l d : List ℕ) (s : Step) {k : ℕ} → refusal g l d s ≡ k → ¬ (k ≡ 0) → Refuses k ≡ course g l d s
unfolding course unless_refused
refuses g l d s {k} e h = go k e h
  where
    go : (m : ℕ) → refusal g l d s ≡ m → ¬ (m ≡ 0) → Refuses m ≡ course g l d s
    go zero e h = absurd (h refl)
    go (suc m) e h = rw e

pub passes : (g : Group) (l d : List ℕ) (s : Step) → refusal g l d s ≡ 0
    → or_idle (idle g s) (is_cut s) (taker_of s) (process_at g (taker_of s)) (event_of g l s) ≡ course g l d s
unfolding course unless_refused
passes g l d s e = rw e

-- a number that is not 0 stands for what comes after it too
else-first : {k : ℕ} (part after : ℕ) → part ≡ k → ¬ (k ≡ 0) → or_else part after ≡ k
unfolding or_else
else-first {k} part after e h = ap (λ (m : ℕ). or_else m after) e ∙ go k h
  where
    go : (m : ℕ) → ¬ (m ≡ 0) → or_else m after ≡ m
    go zero h = absurd (h refl)
    go (suc m) h = refl

else-next : (part after : ℕ) → part ≡ 0 → or_else part after ≡ after
unfolding or_else
else-next part after e = rw e

-- ---- the rows as the code tests them

module _ (g : Group) (l d : List ℕ) (s : Step) (h : Ready g l d) where
  -- those of the step's numbers, then those of the record, the entry and its depth, then 7, 13 and 8
  parts-refusal : refusal g l d s
      ≡ or_else (number_rows g.n s) (or_else (held_rows g.n (process_at g (taker_of s)).up (entry_in l s) (delivered_depth d s) (delivers s) (is_recover s)) (rest g l s))
  unfolding strange down unsent misnamed too_deep
  parts-refusal =
      ready g l d s h
      ∙ ap (λ (k : ℕ). row (not (every (among g.n) (numbers_of s))) 3 (row (late s) 4 k))
      (held-else g.n (process_at g (taker_of s)).up (entry_in l s) (delivered_depth d s) (delivers s) (is_recover s) (rest g l s))
      ∙ number-else g.n s (or_else (held_rows g.n (process_at g (taker_of s)).up (entry_in l s) (delivered_depth d s) (delivers s) (is_recover s)) (rest g l s))

  -- refused by 3 or 4
  pub numbers-refuse : {k : ℕ} → number_rows g.n s ≡ k → ¬ (k ≡ 0) → Refuses k ≡ course g l d s
  numbers-refuse a b = refuses g l d s (parts-refusal ∙ else-first _ _ a b) b

  -- refused by 5, 6, the entry's 2 or the message's 14
  held-refuse : {k : ℕ} → number_rows g.n s ≡ 0 → held_rows g.n (process_at g (taker_of s)).up (entry_in l s) (delivered_depth d s) (delivers s) (is_recover s) ≡ k
      → ¬ (k ≡ 0) → Refuses k ≡ course g l d s
  held-refuse z a b = refuses g l d s (parts-refusal ∙ else-next _ _ z ∙ else-first _ _ a b) b

  -- refused by 7, 13 or 8, or not
  held-pass : number_rows g.n s ≡ 0 → held_rows g.n (process_at g (taker_of s)).up (entry_in l s) (delivered_depth d s) (delivers s) (is_recover s) ≡ 0
      → refusal g l d s ≡ rest g l s
  held-pass z y = parts-refusal ∙ else-next _ _ z ∙ else-next _ _ y

-- ---- the course of each kind, once 3 to the message's 14 are ruled out

-- an F: idle, refused by 8, or taken
past-course : (g : Group) (l d : List ℕ) (s : Step)
    → refusal g l d s ≡ row (not (idle g s) && ltb last_round (event_of g l s).process.round) 8 0
    → or_past (idle g s) (is_cut s) (taker_of s) (process_at g (taker_of s)) (event_of g l s) ≡ course g l d s
unfolding or_past unless_past or_idle row
past-course g l d s z = go (idle g s) (ltb last_round (event_of g l s).process.round) refl refl
  where
    go : (b t : Bool) → idle g s ≡ b → ltb last_round (event_of g l s).process.round ≡ t
        → or_past (idle g s) (is_cut s) (taker_of s) (process_at g (taker_of s)) (event_of g l s) ≡ course g l d s
    go true t eb et = rw eb (rw eb at (passes g l d s (z ∙ rw eb)))
    go false true eb et = rw (eb, et) (refuses g l d s (z ∙ rw (eb, et)) (λ a. omega arith))
    go false false eb et = rw (eb, et) (rw eb at (passes g l d s (z ∙ rw (eb, et))))

-- a suspicion: taken where it is possible, refused by 7 where it is not
suspect-course : (g : Group) (l d : List ℕ) (i : ℕ) (c : Bool) → refusal g l d (Suspect i c) ≡ rest g l (Suspect i c)
    → or_impossible (may_suspect (process_at g i)) c i (process_at g i) ≡ course g l d (Suspect i c)
unfolding impossible recovers_past enters_past row or_idle idle is_cut taker_of event_of or_impossible
suspect-course g l d i c z = go (may_suspect (process_at g i)) refl
  where
    go : (m : Bool) → may_suspect (process_at g i) ≡ m → or_impossible (may_suspect (process_at g i)) c i (process_at g i) ≡ course g l d (Suspect i c)
    go true e = rw e (passes g l d (Suspect i c) (z ∙ rw e))
    go false e = rw e (refuses g l d (Suspect i c) (z ∙ rw e) (λ a. omega arith))

module _ (i : ℕ) (p : Process) where
  -- a recovery of a process that is up, one that would be too many, and one that is taken
  pub up-yes : {b : Bool} → b ≡ true → Refuses 7 ≡ or_up b i p
  unfolding or_up
  up-yes e = rw e

  pub up-many : {b : Bool} → b ≡ false → too_many p.recoveries ≡ true → Refuses 13 ≡ or_up b i p
  unfolding or_up unless_many
  up-many e t = rw (e, t)

  pub up-no : {b : Bool} → b ≡ false → too_many p.recoveries ≡ false → Takes i (on_recover p) ≡ or_up b i p
  unfolding or_up unless_many
  up-no e t = rw (e, t)

-- a recovery: refused by 7 where the process is up and by 13 where it would be too many, else taken
recover-course : (g : Group) (l d : List ℕ) (i : ℕ) → refusal g l d (Recover i) ≡ rest g l (Recover i)
    → or_up (process_at g i).up i (process_at g i) ≡ course g l d (Recover i)
unfolding impossible recovers_past enters_past row or_idle idle is_cut taker_of event_of cut_if
recover-course g l d i z = go (process_at g i).up (too_many (process_at g i).recoveries) refl refl
  where
    go : (u m : Bool) → (process_at g i).up ≡ u → too_many (process_at g i).recoveries ≡ m
        → or_up (process_at g i).up i (process_at g i) ≡ course g l d (Recover i)
    go true m e f = sym (up-yes i (process_at g i) e) ∙ refuses g l d (Recover i) (z ∙ rw e) (λ a. omega arith)
    go false true e f = sym (up-many i (process_at g i) e f) ∙ refuses g l d (Recover i) (z ∙ rw (e, f)) (λ a. omega arith)
    go false false e f = sym (up-no i (process_at g i) e f) ∙ passes g l d (Recover i) (z ∙ rw (e, f))

-- every kind
last-course : (g : Group) (l d : List ℕ) (s : Step) → refusal g l d s ≡ rest g l s
    → last_course g.n (taker_of s) (proposer_of (entry_in l s)) (value_of (entry_in l s)) (process_at g (taker_of s)) s ≡ course g l d s
unfolding last_course impossible recovers_past enters_past row or_idle idle is_cut taker_of event_of cut_if
last-course g l d (DeliverE i j r c) z = passes g l d (DeliverE i j r c) z
last-course g l d (DeliverS i j r c) z = passes g l d (DeliverS i j r c) z
last-course g l d (DeliverF i j r c) z = past-course g l d (DeliverF i j r c) z
last-course g l d (DeliverDecision i j c) z = passes g l d (DeliverDecision i j c) z
last-course g l d (Suspect i c) z = suspect-course g l d i c z
last-course g l d (Pause i) z = passes g l d (Pause i) z
last-course g l d (Crash i) z = passes g l d (Crash i) z
last-course g l d (Recover i) z = recover-course g l d i z

-- ---- the code's way: from the address, over the record, the entry and its depth

-- what an address that was reached says of its step
pub record Reached (n : ℕ) (s : Step) (taker place : ℕ) (delivered recovering : Bool) : Type 0 where
  pub numbers : number_rows n s ≡ 0
  pub taker-is : taker ≡ taker_of s
  pub place_is : place ≡ slot_of s
  pub delivers-is : delivered ≡ delivers s
  pub recovers-is : recovering ≡ is_recover s

pub reached : {t k : ℕ} {d c : Bool} (n : ℕ) (s : Step) → address_of n s ≡ At t k d c → Reached n s t k d c
unfolding address_of unless_missed
reached {t} {k} {d} {c} n s e = go (number_rows n s) refl
  where
    go : (m : ℕ) → number_rows n s ≡ m → Reached n s t k d c
    go zero z =
        let a : At (taker_of s) (slot_of s) (delivers s) (is_recover s) ≡ At t k d c = rw z at e in
        record { numbers = z; taker-is = cc; place_is = cc; delivers-is = cc; recovers-is = cc }
    go (suc m) z =
        let a : Misses (suc m) ≡ At t k d c = rw z at e in
        let y : ◌≡◌ {A = ℕ} 0 1 = cc in
        absurd (omega arith)

pub misses-course : {k : ℕ} (g : Group) (l d : List ℕ) (s : Step) → Ready g l d → address_of g.n s ≡ Misses k → Refuses k ≡ course g l d s
unfolding address_of unless_missed
misses-course {k} g l d s h e = go (number_rows g.n s) refl
  where
    go : (m : ℕ) → number_rows g.n s ≡ m → Refuses k ≡ course g l d s
    go zero z =
        let a : At (taker_of s) (slot_of s) (delivers s) (is_recover s) ≡ Misses k = rw z at e in
        let y : ◌≡◌ {A = ℕ} 0 1 = cc in
        absurd (omega arith)
    go (suc m) z =
        let a : Misses (suc m) ≡ Misses k = rw z at e in
        let y : suc m ≡ k = cc in
        ap Refuses (sym y) ∙ numbers-refuse g l d s h z (λ b. omega arith)

pub held-course : (g : Group) (l d : List ℕ) (s : Step) {i e k : ℕ} {p : Process} → Ready g l d → number_rows g.n s ≡ 0
    → i ≡ taker_of s → e ≡ entry_in l s → k ≡ delivered_depth d s → p ≡ process_at g (taker_of s) → held_course g.n i e k p s ≡ course g l d s
unfolding held_course unless_held
held-course g l d s h z hi he hk hp =
    rw (hi, he, hk, hp) (go (held_rows g.n (process_at g (taker_of s)).up (entry_in l s) (delivered_depth d s) (delivers s) (is_recover s)) refl)
  where
    go : (m : ℕ) → held_rows g.n (process_at g (taker_of s)).up (entry_in l s) (delivered_depth d s) (delivers s) (is_recover s) ≡ m
        → held_course g.n (taker_of s) (entry_in l s) (delivered_depth d s) (process_at g (taker_of s)) s ≡ course g l d s
    go zero y = rw y (last-course g l d s (held-pass g l d s h z y))
    go (suc m) y = rw y (held-refuse g l d s h z y (λ b. omega arith))

-- ---- what the rows that were passed say of a step's numbers

pub taker-low : (n : ℕ) (s : Step) → number_rows n s ≡ 0 → (1 ≤ taker_of s) × (taker_of s ≤ n)
unfolding number_rows numbers_of every late round_of taker_of row
taker-low n (DeliverE i j r c) z = let d = delivered-zero n i j r z in (d.to_low, d.to_high)
taker-low n (DeliverS i j r c) z = let d = delivered-zero n i j r z in (d.to_low, d.to_high)
taker-low n (DeliverF i j r c) z = let d = delivered-zero n i j r z in (d.to_low, d.to_high)
taker-low n (DeliverDecision i j c) z = let d = delivered-zero n i j 0 z in (d.to_low, d.to_high)
taker-low n (Suspect i c) z = owned-zero n i z
taker-low n (Pause i) z = owned-zero n i z
taker-low n (Crash i) z = owned-zero n i z
taker-low n (Recover i) z = owned-zero n i z

-- its message has a place in the store
pub place-low : (n : ℕ) (s : Step) → n ≤ greatest_size → number_rows n s ≡ 0 → slot_of s < store_length
unfolding number_rows numbers_of every late round_of slot_of
place-low n (DeliverE i j r c) h z = let d = delivered-zero n i j r z in omega arith
place-low n (DeliverS i j r c) h z = let d = delivered-zero n i j r z in omega arith
place-low n (DeliverF i j r c) h z = let d = delivered-zero n i j r z in omega arith
place-low n (DeliverDecision i j c) h z = let d = delivered-zero n i j 0 z in omega arith
place-low n (Suspect i c) h z = omega arith
place-low n (Pause i) h z = omega arith
place-low n (Crash i) h z = omega arith
place-low n (Recover i) h z = omega arith

-- the taker's record, and what a course over it asks
pub numbered : (g : Group) (l d : List ℕ) (s : Step) {p : Process} → Ready g l d → number_rows g.n s ≡ 0 → p ≡ process_at g (taker_of s) → Numbered g.n p s
numbered g l d s h z hp =
    let f = sound-facts g (deep-sound g h.sound) in
    let t = taker-low g.n s z in
    record {
      high = f.high;
      round = omega (arith, ap (λ (q : Process). q.round) hp, (f.each (taker_of s) t.0 t.1).in-round);
      numbers = z;
    }

-- of a message: its sender and its round
abbrev Numbers : ℕ → ℕ → ℕ → Type 0
Numbers n j r = (1 ≤ j) × (j ≤ greatest_size) × (r ≤ last_round)

module _ (n i j r : ℕ) (c : Bool) {s : Step} (h : n ≤ greatest_size) (z : number_rows n s ≡ 0) where
  pub numbers-E : s ≡ DeliverE i j r c → Numbers n j r
  unfolding number_rows numbers_of every late round_of
  numbers-E e = let d = delivered-zero n i j r (rw e at z) in (d.from_low, le_trans d.from-high h, d.round)

  pub numbers-S : s ≡ DeliverS i j r c → Numbers n j r
  unfolding number_rows numbers_of every late round_of
  numbers-S e = let d = delivered-zero n i j r (rw e at z) in (d.from_low, le_trans d.from-high h, d.round)

  pub numbers-F : s ≡ DeliverF i j r c → Numbers n j r
  unfolding number_rows numbers_of every late round_of
  numbers-F e = let d = delivered-zero n i j r (rw e at z) in (d.from_low, le_trans d.from-high h, d.round)

-- ---- the outcome of a course

-- the record and the depth put back, the messages handed over and what is counted make the outcome of a step that is taken
pub finishes : (g : Group) (i k : ℕ) (x : Next) (l d : List ℕ) {depth : ℕ} {after : Group} {last deeper : List ℕ} {traffic : Traffic} {t : Bool}
    → depth ≡ k
    → after ≡ with_depth (with_process g i x.process) i depth
    → HandsOverBoth i x.first x.second depth l d last deeper traffic
    → t ≡ decides_now (process_at g i) x.process
    → outcome after last deeper (says_applied traffic.sent traffic.again t) ≡ settled g l d k (Takes i x)
unfolding settled dated_both handed_of hand_overs sent_by again_by
finishes g i k x l d e hg h ht =
    (λ t. outcome (hg t) (h.store t) (h.depths t) (says_applied ((h.sent ∙ sym (length-append (one i x.first) (one i x.second))) t) (h.again t) (ht t))) ∙ ap (λ (j : ℕ). settled g l d j (Takes i x)) e

module _ (g : Group) (l d : List ℕ) (s : Step) where
  pub idle-outcome : course g l d s ≡ Idles → outcome g l d says_idle ≡ stepped g l d s
  unfolding stepped settled
  idle-outcome e = rw e

  pub refused-outcome : {k : ℕ} → course g l d s ≡ Refuses k → outcome g l d (says_refused k) ≡ stepped g l d s
  unfolding stepped settled
  refused-outcome e = rw e

  pub taken-outcome : {i k : ℕ} {x : Next} → k ≡ depth_after g d s → course g l d s ≡ Takes i x → settled g l d k (Takes i x) ≡ stepped g l d s
  unfolding stepped
  taken-outcome h e = rw (h, e)

  -- what a course hands over has its place in both stores
  pub takes-handable : {i : ℕ} {x : Next} → Ready g l d → course g l d s ≡ Takes i x → Handable x l d
  takes-handable {i} {x} h e =
      let t = (course-takes g l d s e).0 in
      record {
        first = t.first;
        second = t.second;
        long = h.long;
        deep_long = h.deep_long;
      }

-- ---- refusals 11, 14 of a short store and the group's 2

pub short-outcome : (g : Group) (l d : List ℕ) (s : Step) → short l ≡ true → outcome g l d (says_refused 11) ≡ stepped g l d s
short-outcome g l d s h = refused-outcome g l d s (sym (refuses g l d s (first-row g l d s h) (λ a. omega arith)))

pub shallow-outcome : (g : Group) (l d : List ℕ) (s : Step) → short l ≡ false → short d ≡ true → outcome g l d (says_refused 14) ≡ stepped g l d s
shallow-outcome g l d s h z = refused-outcome g l d s (sym (refuses g l d s (second-row g l d s h z) (λ a. omega arith)))

-- the rows of both stores at once
pub wanting-outcome : (g : Group) (l d : List ℕ) (s : Step) {k : ℕ} → row (short l) 11 (row (short d) 14 0) ≡ k → ¬ (k ≡ 0) → outcome g l d (says_refused k) ≡ stepped g l d s
unfolding row
wanting-outcome g l d s {k} e h = go (short l) (short d) refl refl e
  where
    go : (x y : Bool) → short l ≡ x → short d ≡ y → row x 11 (row y 14 0) ≡ k → outcome g l d (says_refused k) ≡ stepped g l d s
    go true y p q w = rw (sym w) (short-outcome g l d s p)
    go false true p q w = rw (sym w) (shallow-outcome g l d s p q)
    go false false p q w = absurd (h (sym w))

pub damaged-outcome : (g : Group) (l d : List ℕ) (s : Step) → short l ≡ false → short d ≡ false → damaged g ≡ true
    → outcome g l d (says_refused 2) ≡ stepped g l d s
damaged-outcome g l d s h z y = refused-outcome g l d s (sym (refuses g l d s (third-row g l d s h z y) (λ a. omega arith)))
