-- Each step keeps the invariant: from what its refusals and idleness leave, through its event, to the state after it. Assumes nothing.
use mathlib.Core.Path.{◌≡◌, refl, sym, ap, ◌∙◌, subst}
use mathlib.Core.Bool.{Bool, true, false, ◌&&◌, ◌||◌, not}
use mathlib.Core.List.{[], List}
use mathlib.Core.Logic.{◌⊎◌, inl, inr}
use Prim.Native.Nat.{ℕ, zero, suc, ◌^◌, ◌≤◌, ◌<◌}
use native.Mathlib.Decide.{ℕ_discrete}
use native.Mathlib.Omega.{arith}
use lib.Dec.{eqb, ltb}
use lib.ListN.{get_or}
use borrow.Author.Tests.{ltb-false, eqb-false, eq-eqb}
use Rattle.rules.specs.declared.group.Group.{Group}
use Rattle.rules.specs.declared.process.Process.{Process}
use Rattle.rules.specs.declared.process.Next.{Next}
use Rattle.rules.specs.declared.step.Step.{Step}
use Rattle.rules.specs.declared.step.Step.TheVariants.{DeliverE, DeliverS, DeliverF, DeliverDecision, Suspect, Pause, Crash, Recover}
use Rattle.rules.specs.Refusals.{every, strange, late, unsent}
use Rattle.rules.specs.Step.{Course, Idles, Refuses, Takes, idles, or_idle, unless_refused}
use Rattle.rules.proofs.Bare.Run.{State, next}
use Rattle.rules.proofs.Bare.Step.{refusal, course, settled, stepped}
use Rattle.rules.specs.Limits.{greatest_size, last_round, among}
use Rattle.rules.specs.Tally.{holds}
use Rattle.rules.specs.Layout.{process_at, with_process}
use Rattle.rules.specs.Store.{slot, decision_slot, kind_e, kind_f}
use Rattle.rules.specs.Kinds.{taker_of, numbers_of, round_of, delivers, slot_of, is_cut, entry_in, event_of}
use Rattle.rules.specs.Idle.{past_for, in_phase, idle_e, idle_s, idle_f, idle}
use Rattle.rules.proofs.Laws.Bool.{or_left, or_right}
use Rattle.rules.proofs.Laws.Group.{process-put, process-kept}
use Rattle.rules.proofs.Laws.Sound.{second-among, Whole, sound-facts, Passed, refusal-passed, taker-in, Taking, Fine, course-fine}
use Rattle.rules.proofs.Runs.Basics.{Basic, basic-next}
use Rattle.rules.proofs.Agreement.View.{set_p}
use Rattle.rules.proofs.Agreement.Inv.{Inv}
use Rattle.rules.proofs.Agreement.Focus.{take-up}
use Rattle.rules.proofs.Agreement.Seen.{seen, view, entry_at, verdict-at, record-in, view-step}
use Rattle.rules.proofs.Agreement.Stages.{Ready, Kept, crash-kept, cut-kept}
use Rattle.rules.proofs.Agreement.HearE.{E-kept}
use Rattle.rules.proofs.Agreement.HearF.{F-kept}
use Rattle.rules.proofs.Agreement.HearRest.{S-kept, D-kept, suspect-kept, pause-kept, recover-kept}

-- what is kept along a run of the first values vs
pub record Safe (vs : List ℕ) (a : State) : Type 0 where
  pub basic : Basic vs a
  pub inv : Inv (view vs a.group a.store)
  pub small : (i : ℕ) → 1 ≤ i → i ≤ a.group.n → (process_at a.group i).value < 2 ^ 32

-- ---- what is known of a delivery that is neither refused nor idle

-- its sender is of 1..n
from_in : (g : Group) (i j : ℕ) → not (among g.n i && (among g.n j && true)) ≡ false → (1 ≤ j) × (j ≤ g.n)
unfolding every
from_in g i j = second-among g.n i j []

-- its round is not below the receiver's
not-below : (p : Process) (r : ℕ) (b : Bool) → (past_for p r || b) ≡ false → p.round ≤ r
unfolding past_for
not-below p r b e = ltb-false r p.round (or_right p.decided (ltb r p.round) (or_left (p.decided || ltb r p.round) b e))

-- a phase that is not 2 is 1
not-two : (k : ℕ) → (k ≡ 1) ⊎ (k ≡ 2) → eqb k 2 ≡ false → k ≡ 1
not-two k (inl e) f = e
not-two k (inr e) f = absurd (eqb-false k 2 f e)

-- so of an E, and of an F
pub below-E : (p : Process) (j r : ℕ) → idle_e p j r ≡ false → p.round ≤ r
unfolding idle_e
below-E p j r e = not-below p r (in_phase p r 2 || (in_phase p r 1 && holds p.estimates j)) e

pub below-F : (p : Process) (j r : ℕ) → idle_f p j r ≡ false → p.round ≤ r
unfolding idle_f
below-F p j r e = not-below p r (in_phase p r 2 && holds p.estimates j) e

-- an E of the receiver's round finds it in phase 1
first-phase-E : (p : Process) (j r : ℕ) → (p.phase ≡ 1) ⊎ (p.phase ≡ 2) → idle_e p j r ≡ false → p.round ≡ r → p.phase ≡ 1
unfolding idle_e in_phase
first-phase-E p j r f e z =
    let b = in_phase p r 1 && holds p.estimates j in
    let both : (eqb r p.round && eqb p.phase 2) ≡ false = or_left (in_phase p r 2) b (or_right (past_for p r) (in_phase p r 2 || b) e) in
    let same : eqb r p.round ≡ true = eq-eqb r p.round (sym z) in
    not-two p.phase f (ap (λ (t : Bool). t && eqb p.phase 2) (sym same) ∙ both)

-- so does an S
pub first-phase-S : (p : Process) (j r : ℕ) → (p.phase ≡ 1) ⊎ (p.phase ≡ 2) → idle_s p j r ≡ false → p.phase ≡ 1
unfolding idle_s
first-phase-S p j r f e =
    let b = not (eqb r p.round) || eqb p.phase 2 in
    not-two p.phase f
    (or_right (not (eqb r p.round)) (eqb p.phase 2)
    (or_left b (holds p.suspicions j) (or_right (past_for p r) (b || holds p.suspicions j) e)))

-- ---- a step

module _ (vs : List ℕ) (g : Group) (l : List ℕ) (safe : Safe vs (record { group = g; store = l })) where
  -- a process of the group, and the group's size
  whole : (i : ℕ) → 1 ≤ i → i ≤ g.n → Whole g.n (process_at g i)
  whole i a b = (sound-facts g safe.basic.sound).each i a b

  few : g.n ≤ greatest_size
  few = (sound-facts g safe.basic.sound).high

  -- the process that takes it, in hand
  ready : (i : ℕ) → 1 ≤ i → i ≤ g.n → Ready (view vs g l) i (process_at g i)
  ready i a b =
      record {
        inv =
            subst (λ (p : Process). Inv (set_p (view vs g l) i (seen p))) (record-in g i a (omega (arith, few)))
            (take-up (view vs g l) i safe.inv);
        small = safe.small i a b;
        heard = (whole i a b).heard;
      }

  -- its event, where it is neither refused nor idle
  event-kept : (s : Step) → Passed g l s → idle g s ≡ false → Kept (view vs g l) (taker_of s) (event_of g l s)
  unfolding event_of taker_of strange numbers_of every late round_of unsent delivers entry_in slot_of idle
  event-kept (DeliverE i j r c) h f =
      let to = taker-in g (DeliverE i j r c) h.known in
      let from = from_in g i j h.known in
      let p = process_at g i in
      let le = ltb-false last_round r h.early in
      let e = get_or l (slot r j kind_e) 0 in
      E-kept (view vs g l) i j r e to.0 to.1 from.0 from.1 (entry_at l kind_e r j le from.0 (omega (arith, few, from.1)))
      (eqb-false e 0 h.sent) p (ready i to.0 to.1) (below-E p j r f) (first-phase-E p j r (whole i to.0 to.1).in-phase f)
  event-kept (DeliverS i j r c) h f =
      let to = taker-in g (DeliverS i j r c) h.known in
      S-kept (view vs g l) i to.0 to.1 (process_at g i) (ready i to.0 to.1) j
      (first-phase-S (process_at g i) j r (whole i to.0 to.1).in-phase f)
  event-kept (DeliverF i j r c) h f =
      let to = taker-in g (DeliverF i j r c) h.known in
      let from = from_in g i j h.known in
      let p = process_at g i in
      let le = ltb-false last_round r h.early in
      let e = get_or l (slot r j kind_f) 0 in
      F-kept (view vs g l) i j r e to.0 to.1 from.0 from.1 (entry_at l kind_f r j le from.0 (omega (arith, few, from.1)))
      (eqb-false e 0 h.sent) p (ready i to.0 to.1) (below-F p j r f) (whole i to.0 to.1).in-phase
  event-kept (DeliverDecision i j c) h f =
      let to = taker-in g (DeliverDecision i j c) h.known in
      let from = from_in g i j h.known in
      let e = get_or l (decision_slot j) 0 in
      D-kept (view vs g l) i to.0 to.1 (process_at g i) (ready i to.0 to.1) j e
      (verdict-at l j from.0 (omega (arith, few, from.1))) (eqb-false e 0 h.sent)
  event-kept (Suspect i c) h f =
      let to = taker-in g (Suspect i c) h.known in
      suspect-kept (view vs g l) i to.0 to.1 (process_at g i) (ready i to.0 to.1)
  event-kept (Pause i) h f =
      let to = taker-in g (Pause i) h.known in
      pause-kept (view vs g l) i to.0 to.1 (process_at g i) (ready i to.0 to.1)
  event-kept (Crash i) h f =
      let to = taker-in g (Crash i) h.known in
      let r = ready i to.0 to.1 in
      crash-kept (view vs g l) i to.0 to.1 (process_at g i) r.inv r.small
  event-kept (Recover i) h f =
      let to = taker-in g (Recover i) h.known in
      recover-kept (view vs g l) i to.0 to.1 (process_at g i) (ready i to.0 to.1)

  -- its course: where a process takes it, the invariant is kept
  abbrev KeptBy : Course → Type 0
  KeptBy Idles = Unit {0}
  KeptBy (Refuses k) = Unit {0}
  KeptBy (Takes i x) = Kept (view vs g l) i x

  -- a step that is not refused: a cut of an idle delivery is a crash
  passed-kept : (s : Step) → Passed g l s → (t cut : Bool) → idle g s ≡ t
      → KeptBy (or_idle t cut (taker_of s) (process_at g (taker_of s)) (event_of g l s))
  unfolding or_idle idles
  passed-kept s h true true e =
      let to = taker-in g s h.known in
      let r = ready (taker_of s) to.0 to.1 in
      crash-kept (view vs g l) (taker_of s) to.0 to.1 (process_at g (taker_of s)) r.inv r.small
  passed-kept s h true false e = tt
  passed-kept s h false cut e =
      let to = taker-in g s h.known in
      cut-kept (view vs g l) (taker_of s) to.0 to.1 cut (event_of g l s) (event-kept s h e)

  -- any step
  course-kept : (s : Step) → KeptBy (course g l s)
  unfolding course unless_refused
  course-kept s = go (refusal g l s) refl
    where
      go : (k : ℕ) → refusal g l s ≡ k → KeptBy (unless_refused k g l s)
      go zero e = passed-kept s (refusal-passed g l s e) (idle g s) (is_cut s) refl
      go (suc k) e = tt

  -- the state after it, but for what every state is
  record Goes (g' : Group) (l' : List ℕ) : Type 0 where
    inv : Inv (view vs g' l')
    small : (i : ℕ) → 1 ≤ i → i ≤ g'.n → (process_at g' i).value < 2 ^ 32

  -- where a process takes it
  taken : (i : ℕ) (x : Next) → Taking g.n i x → Kept (view vs g l) i x
      → Goes (settled g l (Takes i x)).group (settled g l (Takes i x)).store
  unfolding settled with_process
  taken i x t k =
      record {
        inv =
            subst Inv
            (sym (view-step vs g l i x safe.basic.sized t.low t.small safe.basic.long t.first t.second))
            k.all;
        small = λ j a b. go j a b (ℕ_discrete j i);
      }
    where
      go : (j : ℕ) → 1 ≤ j → j ≤ g.n → Dec (j ≡ i) → (process_at (with_process g i x.process) j).value < 2 ^ 32
      go j a b (yes e) =
          subst (λ (p : Process). p.value < 2 ^ 32)
          (sym (ap (process_at (with_process g i x.process)) e ∙ process-put g i x.process safe.basic.sized t.low t.small))
          k.small
      go j a b (no ne) =
          subst (λ (p : Process). p.value < 2 ^ 32)
          (sym (process-kept g i j x.process t.low t.small a (omega (arith, few)) ne))
          (safe.small j a b)

  -- and where it is idle or refused
  goes : (s : Step) → Goes (stepped g l s).group (stepped g l s).store
  unfolding stepped settled
  goes s = go (course g l s) (course-fine g l s) (course-kept s)
    where
      go : (c : Course) → Fine g.n c → KeptBy c → Goes (settled g l c).group (settled g l c).store
      go Idles f k = record { inv = safe.inv; small = safe.small }
      go (Refuses n) f k = record { inv = safe.inv; small = safe.small }
      go (Takes i x) f k = taken i x f k

-- one step of a run
pub safe-next : (vs : List ℕ) (a : State) (s : Step) → Safe vs a → Safe vs (next a s)
unfolding next
safe-next vs a s h =
    let k = goes vs a.group a.store h s in
    record { basic = basic-next vs a s h.basic; inv = k.inv; small = k.small }
