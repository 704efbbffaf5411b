-- Recoveries: what a recover leaves of a process that is down, the number that counts the applied ones, its limit, and refusal 13. Assumes nothing.
use mathlib.Core.Path.{◌≡◌, refl, sym, ap, subst, ◌∙◌}
use mathlib.Core.Bool.{Bool, true, false, ◌&&◌}
use mathlib.Core.List.{List, [], ◌∷◌}
use mathlib.Core.Logic.{◌↔◌}
use Prim.Native.Nat.{ℕ, ◌+◌, ◌≤◌}
use native.Mathlib.Omega.{arith}
use lib.Dec.{eqb}
use lib.ListN.{length}
use borrow.Author.Tests.{eq-eqb, ne_eqb, le-ltb, lt-ltb, ltb-true, ltb-false}
use Rattle.rules.specs.declared.group.Group.{Group}
use Rattle.rules.specs.declared.process.Process.{Process}
use Rattle.rules.specs.declared.process.Next.{Next}
use Rattle.rules.specs.declared.step.Step.{Step}
use Rattle.rules.specs.declared.step.Step.TheVariants.{DeliverE, DeliverS, DeliverF, DeliverDecision, Suspect, Pause, Crash, Recover}
use Rattle.rules.specs.Refusals.{row, every, short, strange, late, is_recover, down, unsent, misnamed, impossible, recovers_past, enters_past}
use Rattle.rules.specs.Start.{fresh}
use Rattle.rules.specs.Step.{Course, Idles, Refuses, Takes, or_idle, unless_refused}
use Rattle.rules.specs.Safety.{Of}
use Rattle.rules.proofs.Bare.Run.{State, start_state, next, after}
use Rattle.rules.proofs.Bare.Statements.{Begins, at, process_of, recovers_of, RecoveriesCounted, RecoveriesFit, RefusalThirteen}
use Rattle.rules.proofs.Bare.Step.{begun, refusal_by, refusal, course, settled, stepped}
use Rattle.rules.specs.Limits.{greatest_size, most_recoveries, too_many, store_length}
use Rattle.rules.specs.Tally.{bit_of}
use Rattle.rules.specs.Layout.{process_at, Sized}
use Rattle.rules.specs.Events.{crashed, recovered, quiet, on_crash, on_recover, cut_if}
use Rattle.rules.specs.Kinds.{taker_of, numbers_of, round_of, delivers, is_cut, event_of}
use Rattle.rules.specs.Idle.{idle}
use Rattle.rules.proofs.Laws.Row.{among_in}
use Rattle.rules.proofs.Laws.Group.{process-put, started-process}
use Rattle.rules.proofs.Laws.Sound.{Fine, course-fine}
use Rattle.rules.proofs.Runs.Basics.{Basic, basic, basic-start, basic-next, start_is}
use Rattle.rules.proofs.Runs.Cases.{never, throughout, course-by, put-by, process-by}
use Rattle.rules.proofs.Runs.Fields.{event-keeps}

-- ---- a recover of a process that is down

-- row 13 is all that is left
pub recover-rows : (vs : List ℕ) (a : State) (i : ℕ) → Basic vs a → Of vs i → (process_of a i).up ≡ false
    → refusal a.group a.store (Recover i) ≡ row (too_many (process_of a i).recoveries) 13 0
unfolding refusal refusal_by row short strange every numbers_of late round_of down is_recover taker_of unsent delivers misnamed impossible recovers_past enters_past
recover-rows vs a i h o d =
    rw (le-ltb (length a.store) store_length h.long, h.sound, among_in a.group.n i o.low (omega (arith, h.size, o.high)), d)

-- the record after it: the same where it is refused
unfoldable pub back_as : Bool → Process → Process
back_as true p = p
back_as false p = recovered p

leaves_by : (g : Group) (l : List ℕ) (i : ℕ) → Sized g → 1 ≤ i → i ≤ greatest_size → (t : Bool)
    → process_at (settled g l (unless_refused (row t 13 0) g l (Recover i))).group i ≡ back_as t (process_at g i)
unfolding row unless_refused or_idle idle is_cut taker_of event_of on_recover cut_if quiet settled back_as
leaves_by g l i sized lo hi true = refl
leaves_by g l i sized lo hi false = process-put g i (recovered (process_at g i)) sized lo hi

pub recover-leaves : (vs : List ℕ) (a : State) (i : ℕ) → Basic vs a → Of vs i → i ≤ greatest_size → (process_of a i).up ≡ false
    → process_of (next a (Recover i)) i ≡ back_as (too_many (process_of a i).recoveries) (process_of a i)
unfolding next stepped course
recover-leaves vs a i h o hi d =
    ap (λ (k : ℕ). process_at (settled a.group a.store (unless_refused k a.group a.store (Recover i))).group i) (recover-rows vs a i h o d)
    ∙ leaves_by a.group a.store i h.sized o.low hi (too_many (process_of a i).recoveries)

-- ---- the number counts the applied recovers

-- an event adds one where it is a recover
event-still : (g : Group) (l : List ℕ) (s : Step) → is_recover s ≡ false → (event_of g l s).process.recoveries ≡ (process_at g (taker_of s)).recoveries + 0
event-still g l s e = omega (arith, event-keeps (λ (x : ℕ × ℕ). x.1) g l s (λ f. never e f))

event-recoveries : (g : Group) (l : List ℕ) (s : Step) → (event_of g l s).process.recoveries ≡ (process_at g (taker_of s)).recoveries + bit_of (is_recover s)
unfolding is_recover event_of taker_of on_recover quiet recovered
event-recoveries g l (DeliverE i j r c) = event-still g l (DeliverE i j r c) refl
event-recoveries g l (DeliverS i j r c) = event-still g l (DeliverS i j r c) refl
event-recoveries g l (DeliverF i j r c) = event-still g l (DeliverF i j r c) refl
event-recoveries g l (DeliverDecision i j c) = event-still g l (DeliverDecision i j c) refl
event-recoveries g l (Suspect i c) = event-still g l (Suspect i c) refl
event-recoveries g l (Pause i) = event-still g l (Pause i) refl
event-recoveries g l (Crash i) = event-still g l (Crash i) refl
event-recoveries g l (Recover i) = refl

-- nor is it one where the step is idle
idle-no-recover : (g : Group) (s : Step) → idle g s ≡ true → is_recover s ≡ false
unfolding idle is_recover
idle-no-recover g (DeliverE i j r c) e = refl
idle-no-recover g (DeliverS i j r c) e = refl
idle-no-recover g (DeliverF i j r c) e = refl
idle-no-recover g (DeliverDecision i j c) e = refl
idle-no-recover g (Suspect i c) e = refl
idle-no-recover g (Pause i) e = refl
idle-no-recover g (Crash i) e = refl
idle-no-recover g (Recover i) e = never refl e

-- a crash and a cut keep it
cut-recoveries : (c : Bool) (x : Next) → (cut_if c x).process.recoveries ≡ x.process.recoveries
unfolding cut_if on_crash crashed quiet
cut-recoveries true x = refl
cut-recoveries false x = refl

crash-recoveries : (p : Process) → (on_crash p).process.recoveries ≡ p.recoveries
unfolding on_crash crashed quiet
crash-recoveries p = refl

-- what one step adds to the number of process i: b says whether it recovers, t whether process i takes it, u whether it is applied
abbrev adds : Bool → Bool → Bool → ℕ
adds b t u = bit_of (b && (t && u))

adds_none : (b t : Bool) → adds b t false ≡ 0
adds_none true true = refl
adds_none true false = refl
adds_none false t = refl

adds-other : (b : Bool) {t : Bool} → t ≡ false → adds b t true ≡ 0
adds-other true e = ap (λ (t : Bool). adds true t true) e
adds-other false e = refl

adds-own : (b : Bool) {t : Bool} → t ≡ true → adds b t true ≡ bit_of b
adds-own true e = ap (λ (t : Bool). adds true t true) e
adds-own false e = refl

module _ (g : Group) (l : List ℕ) (s : Step) (i : ℕ) (sized : Sized g) (low : 1 ≤ i) (high : i ≤ greatest_size) where
  -- after a course of the step the number of process i is the one before and what the step adds
  Adds : Course → Type 0
  Adds c =
      Fine g.n c
      → (process_at (settled g l c).group i).recoveries
      ≡ (process_at g i).recoveries + adds (is_recover s) (eqb (taker_of s) i) (settled g l c).says.applied

  -- where the process that takes it adds what the step does
  taken-adds : (x : Next) → x.process.recoveries ≡ (process_at g (taker_of s)).recoveries + bit_of (is_recover s) → Adds (Takes (taker_of s) x)
  unfolding Adds settled
  taken-adds x e t =
      put-by (λ (q : Process). q.recoveries ≡ (process_at g i).recoveries + adds (is_recover s) (eqb (taker_of s) i) true) g (taker_of s) i x.process sized
      t.low t.small low high
      (λ ne. omega (arith, adds-other (is_recover s) (ne_eqb (taker_of s) i (λ f. ne (sym f)))))
      (λ f. omega (arith, e, ap (λ (k : ℕ). (process_at g k).recoveries) f, adds-own (is_recover s) (eq-eqb (taker_of s) i f)))

  still-adds : (c : Course) → (settled g l c).group ≡ g → (settled g l c).says.applied ≡ false → Adds c
  unfolding Adds
  still-adds c e f t =
      omega (
        arith,
        ap (λ (h : Group). (process_at h i).recoveries) e,
        ap (adds (is_recover s) (eqb (taker_of s) i)) f,
        adds_none (is_recover s) (eqb (taker_of s) i),
      )

  step-adds : Adds (course g l s)
  unfolding settled
  step-adds =
      course-by Adds g l s (still-adds Idles refl refl) (λ k. still-adds (Refuses k) refl refl)
      (λ h e. taken-adds (on_crash (process_at g (taker_of s)))
      (omega (arith, crash-recoveries (process_at g (taker_of s)), ap bit_of (idle-no-recover g s e))))
      (λ h e. taken-adds (cut_if (is_cut s) (event_of g l s)) (cut-recoveries (is_cut s) (event_of g l s) ∙ event-recoveries g l s))

-- of a step, and of a list of steps from a state of a run on
next-recoveries : (vs : List ℕ) (a : State) (s : Step) (i : ℕ) → Basic vs a → 1 ≤ i → i ≤ greatest_size
    → (process_of (next a s) i).recoveries
    ≡ (process_of a i).recoveries + adds (is_recover s) (eqb (taker_of s) i) (stepped a.group a.store s).says.applied
unfolding next stepped Adds
next-recoveries vs a s i h lo hi = step-adds a.group a.store s i h.sized lo hi (course-fine a.group a.store s)

after-recoveries : (vs : List ℕ) (a : State) (ss : List Step) (i : ℕ) → Basic vs a → 1 ≤ i → i ≤ greatest_size
    → (process_of (after a ss) i).recoveries ≡ (process_of a i).recoveries + recovers_of i a ss
unfolding after recovers_of
after-recoveries vs a [] i h lo hi = omega arith
after-recoveries vs a (s ∷ ss) i h lo hi =
    omega (arith, after-recoveries vs (next a s) ss i (basic-next vs a s h) lo hi, next-recoveries vs a s i h lo hi)

start-recoveries : (vs l : List ℕ) (i : ℕ) → Begins vs l → Of vs i → (process_of (start_state vs l) i).recoveries ≡ 0
unfolding begun fresh
start-recoveries vs l i b o =
    ap (λ (a : State). (process_of a i).recoveries) (start_is vs l b)
    ∙ ap (λ (p : Process). p.recoveries) (started-process vs (length vs) i o.low o.high b.few)

pub recoveries-counted : RecoveriesCounted
recoveries-counted vs l ss b i o =
    omega (arith, after-recoveries vs (start_state vs l) ss i (basic-start vs l b) o.low (omega (arith, b.few, o.high)), start-recoveries vs l i b o)

-- ---- its limit

event-fits : (g : Group) (l : List ℕ) (s : Step) → recovers_past g s ≡ false → (process_at g (taker_of s)).recoveries ≤ most_recoveries
    → (event_of g l s).process.recoveries ≤ most_recoveries
unfolding recovers_past is_recover taker_of
event-fits g l (DeliverE i j r c) e h = omega (arith, event-recoveries g l (DeliverE i j r c), h)
event-fits g l (DeliverS i j r c) e h = omega (arith, event-recoveries g l (DeliverS i j r c), h)
event-fits g l (DeliverF i j r c) e h = omega (arith, event-recoveries g l (DeliverF i j r c), h)
event-fits g l (DeliverDecision i j c) e h = omega (arith, event-recoveries g l (DeliverDecision i j c), h)
event-fits g l (Suspect i c) e h = omega (arith, event-recoveries g l (Suspect i c), h)
event-fits g l (Pause i) e h = omega (arith, event-recoveries g l (Pause i), h)
event-fits g l (Crash i) e h = omega (arith, event-recoveries g l (Crash i), h)
event-fits g l (Recover i) e h = omega (arith, event-recoveries g l (Recover i), ltb-false most_recoveries ((process_at g i).recoveries + 1) e)

crashed-fits : (p : Process) → p.recoveries ≤ most_recoveries → (crashed p).recoveries ≤ most_recoveries
unfolding crashed
crashed-fits p h = h

pub recoveries-fit : RecoveriesFit
unfolding next
recoveries-fit vs l ss b i o =
    let hi : i ≤ greatest_size = omega (arith, b.few, o.high) in
    throughout vs (λ (a : State). (process_of a i).recoveries ≤ most_recoveries)
    (λ a s h e.
    process-by (λ (p : Process). p.recoveries ≤ most_recoveries) a.group a.store s i h.sized o.low hi crashed-fits e
    (λ p t f. event-fits a.group a.store s p.not-many (subst (λ (k : ℕ). (process_of a k).recoveries ≤ most_recoveries) (sym t) e)))
    (start_state vs l) ss (basic-start vs l b) (omega (arith, start-recoveries vs l i b o))

-- ---- refusal 13

row-thirteen : (t : Bool) → (row t 13 0 ≡ 13) ↔ (t ≡ true)
unfolding row
row-thirteen true = (λ e. refl, λ e. refl)
row-thirteen false = (λ e. absurd (omega arith), λ e. never refl e)

pub refusal-thirteen : RefusalThirteen
refusal-thirteen vs l ss b i o d =
    let k = (process_of (at vs l ss) i).recoveries in
    let rows = recover-rows vs (at vs l ss) i (basic vs l ss b) o d in
    let thirteen = row-thirteen (too_many k) in
    let counted = recoveries-counted vs l ss b i o in
    let fit = recoveries-fit vs l ss b i o in (
      λ e. omega (arith, ltb-true most_recoveries (k + 1) (thirteen.0 (sym rows ∙ e)), counted, fit),
      λ e. rows ∙ thirteen.1 (lt-ltb most_recoveries (k + 1) (omega (arith, counted, e))),
    )
