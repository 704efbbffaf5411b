-- What changes no depth: being down, and a step that delivers nothing; and a cut leaves the depth of the same step uncut. Assumes nothing.
use mathlib.Core.Path.{◌≡◌, refl, sym, ap, ◌∙◌}
use mathlib.Core.Bool.{Bool, true, false, not}
use mathlib.Core.List.{List, [], ◌∷◌}
use mathlib.Core.Logic.{◌⊎◌, inl, inr}
use Prim.Native.Nat.{ℕ, zero, suc, ◌+◌, ◌≤◌, ◌<◌, max}
use native.Mathlib.Omega.{arith}
use lib.ListN.{length}
use borrow.Author.Tests.{not-false}
use Rattle.rules.specs.declared.group.Group.{Group}
use Rattle.rules.specs.declared.step.Step.{Step}
use Rattle.rules.specs.declared.step.Step.TheVariants.{DeliverE, DeliverS, DeliverF, DeliverDecision, Suspect, Pause, Crash, Recover}
use Rattle.rules.specs.Layout.{process_at}
use Rattle.rules.specs.Kinds.{taker_of, numbers_of, round_of, delivers, slot_of, is_cut, entry_in, event_of}
use Rattle.rules.specs.Idle.{idle}
use Rattle.rules.specs.Depths.{delivered_depth, depth_after}
use Rattle.rules.specs.Refusals.{strange, late, is_recover, down, unsent, misnamed, impossible, recovers_past, enters_past, too_deep, refusal}
use Rattle.rules.specs.Step.{or_idle, unless_refused, course, settled, stepped}
use Rattle.rules.specs.Run.{State, start_state, next, after}
use Rattle.rules.specs.Safety.{at, process_depth, message_depth, says, DownThrough, cut, AboveKept, Link, DepthRecovery, QuietKeepsDepths, CutKeepsDepth}
use Rattle.rules.proofs.Bare.Step.{begun}
use Rattle.rules.proofs.Laws.Group.{depth-started}
use Rattle.rules.proofs.Runs.Cases.{never}
use Rattle.rules.proofs.Depths.Basics.{DeepBasic, deep-size, deep-next, start-deep, deep-start, deep-throughout, deep-basic-after, deep-basic}
use Rattle.rules.proofs.Runs.Carried.{above-blank}
use Rattle.rules.proofs.Depths.Steps.{depth-unheard}
use Rattle.rules.proofs.Depths.Chains.{applied-passed, applied-taker, rest-false, depth-cases, depth-own}

-- ---- being down

no-recover : (s : Step) → delivers s ≡ true → is_recover s ≡ false
unfolding delivers is_recover
no-recover (DeliverE i j r c) e = refl
no-recover (DeliverS i j r c) e = refl
no-recover (DeliverF i j r c) e = refl
no-recover (DeliverDecision i j c) e = refl
no-recover (Suspect i c) e = never refl e
no-recover (Pause i) e = never refl e
no-recover (Crash i) e = never refl e
no-recover (Recover i) e = never refl e

-- a delivery is heard by a process that is up
heard-up : (a : State) (s : Step) → Link a s → (process_at a.group (taker_of s)).up ≡ true
unfolding down
heard-up a s e =
    not-false (process_at a.group (taker_of s)).up
    (rest-false (not (is_recover s)) (not (process_at a.group (taker_of s)).up) (ap not (no-recover s e.delivery)) (applied-passed a s e.applied).up)

-- so a step leaves the depth of one that is down
down-next : (vs : List ℕ) (a : State) (s : Step) (i : ℕ) → DeepBasic vs a → 1 ≤ i → (process_at a.group i).up ≡ false → process_depth (next a s) i ≡ process_depth a i
down-next vs a s i h lo d =
    depth-unheard vs a h s i lo (λ e f. never d (ap (λ (k : ℕ). (process_at a.group k).up) (sym f) ∙ heard-up a s e))

-- and so do many, while it stays down
down-after : (vs : List ℕ) (a : State) (ts : List Step) (i : ℕ) → DeepBasic vs a → 1 ≤ i → DownThrough a ts i
    → process_depth (after a ts) i ≡ process_depth a i
unfolding after DownThrough
down-after vs a [] i h lo d = refl
down-after vs a (s ∷ ts) i h lo d =
    down-after vs (next a s) ts i (deep-next vs a h s) lo d.1 ∙ down-next vs a s i h lo d.0

-- ---- above n

-- no process above n takes a step that is heard, so that its depth stays 0
above-next : (vs : List ℕ) (a : State) (s : Step) (i : ℕ) → DeepBasic vs a → length vs < i → process_depth (next a s) i ≡ process_depth a i
above-next vs a s i h lo =
    depth-unheard vs a h s i (omega (arith, lo)) (λ e f. omega (arith, (applied-taker a s e.applied).1, deep-size vs a h, lo, f))

pub above_kept : AboveKept
unfolding begun
above_kept vs l d ss b i lo hi = (
  above-blank vs l d ss b i lo hi,
  deep-throughout vs (λ (a : State). process_depth a i ≡ 0) (λ a s h e. above-next vs a s i h lo ∙ e) (start_state vs l d) ss (deep-start vs l d b)
      (ap (λ (a : State). process_depth a i) (start-deep vs l d b) ∙ depth-started vs (length vs) i),
)

-- ---- steps that deliver nothing

quiet_next : (vs : List ℕ) (a : State) (s : Step) (i : ℕ) → DeepBasic vs a → 1 ≤ i → delivers s ≡ false → process_depth (next a s) i ≡ process_depth a i
quiet_next vs a s i h lo e = depth-unheard vs a h s i lo (λ k. never e k.delivery)

pub depth-recovery : DepthRecovery
unfolding delivers
depth-recovery vs l d ss b ts i o down =
    let h = deep-basic vs l d ss b in
    let still = down-after vs (at vs l d ss) ts i h o.low down in
    (still, quiet_next vs (after (at vs l d ss) ts) (Recover i) i (deep-basic-after vs (at vs l d ss) ts h) o.low refl ∙ still)

pub quiet-keeps-depths : QuietKeepsDepths
quiet-keeps-depths vs l d ss b s i o e = quiet_next vs (at vs l d ss) s i (deep-basic vs l d ss b) o.low e

-- ---- a cut

-- a step is applied where it is neither refused nor idle, and is not refused where it is applied
passed-applied : (a : State) (s : Step) → refusal a.group a.store a.depths s ≡ 0 → idle a.group s ≡ false → (says a s).applied ≡ true
unfolding stepped settled course unless_refused or_idle
passed-applied a s z e =
    ap (λ (k : ℕ). (settled a.group a.store a.depths (depth_after a.group a.depths s) (unless_refused k a.group a.store s)).says.applied) z
    ∙ ap
    (λ (t : Bool). (settled a.group a.store a.depths (depth_after a.group a.depths s) (or_idle t (is_cut s) (taker_of s) (process_at a.group (taker_of s)) (event_of a.group a.store s))).says.applied)
    e

applied-number : (a : State) (s : Step) → (says a s).applied ≡ true → refusal a.group a.store a.depths s ≡ 0
unfolding stepped settled course unless_refused
applied-number a s = go (refusal a.group a.store a.depths s)
  where
    go : (k : ℕ) → (settled a.group a.store a.depths (depth_after a.group a.depths s) (unless_refused k a.group a.store s)).says.applied ≡ true → k ≡ 0
    go zero e = refl
    go (suc k) e = never refl e

-- what does not look at it
record CutSame (g : Group) (l d : List ℕ) (s : Step) : Type 0 where
  delivery : delivers (cut s) ≡ delivers s
  number : refusal g l d (cut s) ≡ refusal g l d s
  idleness : idle g (cut s) ≡ idle g s
  taker : taker_of (cut s) ≡ taker_of s
  place : slot_of (cut s) ≡ slot_of s

cut-same : (g : Group) (l d : List ℕ) (s : Step) → CutSame g l d s
unfolding cut delivers refusal too_deep delivered_depth strange numbers_of late round_of down is_recover taker_of unsent entry_in slot_of misnamed impossible recovers_past enters_past idle event_of
cut-same g l d (DeliverE i j r c) = record { delivery = refl; number = refl; idleness = refl; taker = refl; place = refl }
cut-same g l d (DeliverS i j r c) = record { delivery = refl; number = refl; idleness = refl; taker = refl; place = refl }
cut-same g l d (DeliverF i j r c) = record { delivery = refl; number = refl; idleness = refl; taker = refl; place = refl }
cut-same g l d (DeliverDecision i j c) = record { delivery = refl; number = refl; idleness = refl; taker = refl; place = refl }
cut-same g l d (Suspect i c) = record { delivery = refl; number = refl; idleness = refl; taker = refl; place = refl }
cut-same g l d (Pause i) = record { delivery = refl; number = refl; idleness = refl; taker = refl; place = refl }
cut-same g l d (Crash i) = record { delivery = refl; number = refl; idleness = refl; taker = refl; place = refl }
cut-same g l d (Recover i) = record { delivery = refl; number = refl; idleness = refl; taker = refl; place = refl }

module _ (vs : List ℕ) (a : State) (h : DeepBasic vs a) (s : Step) where
  same : CutSame a.group a.store a.depths s
  same = cut-same a.group a.store a.depths s

  -- heard cut, it is heard uncut, and the other way round
  heard-cut : Link a s → Link a (cut s)
  heard-cut e =
      record {
        delivery = same.delivery ∙ e.delivery;
        applied = passed-applied a (cut s) (same.number ∙ applied-number a s e.applied) (same.idleness ∙ e.not-idle);
        not-idle = same.idleness ∙ e.not-idle;
      }

  cut-heard : Link a (cut s) → Link a s
  cut-heard e =
      record {
        delivery = sym same.delivery ∙ e.delivery;
        applied = passed-applied a s (sym same.number ∙ applied-number a (cut s) e.applied) (sym same.idleness ∙ e.not-idle);
        not-idle = sym same.idleness ∙ e.not-idle;
      }

  cut-depth : (i : ℕ) → 1 ≤ i → process_depth (next a (cut s)) i ≡ process_depth (next a s) i
  cut-depth i lo = go (depth-cases vs a h s i lo) (depth-cases vs a h (cut s) i lo)
    where
      go : (Link a s × (taker_of s ≡ i)) ⊎ (process_depth (next a s) i ≡ process_depth a i)
          → (Link a (cut s) × (taker_of (cut s) ≡ i)) ⊎ (process_depth (next a (cut s)) i ≡ process_depth a i)
          → process_depth (next a (cut s)) i ≡ process_depth (next a s) i
      go (inl e) f =
          depth-own vs a h (cut s) i lo (heard-cut e.0) (same.taker ∙ e.1)
          ∙ ap (λ (k : ℕ). max (process_depth a i) (message_depth a k + 1)) same.place ∙ sym (depth-own vs a h s i lo e.0 e.1)
      go (inr e) (inr f) = f ∙ sym e
      go (inr e) (inl f) =
          depth-own vs a h (cut s) i lo f.0 f.1 ∙ ap (λ (k : ℕ). max (process_depth a i) (message_depth a k + 1)) same.place
          ∙ sym (depth-own vs a h s i lo (cut-heard f.0) (sym same.taker ∙ f.1))

pub cut-keeps-depth : CutKeepsDepth
cut-keeps-depth vs l d ss b s i o = cut-depth vs (at vs l d ss) (deep-basic vs l d ss b) s i o.low
