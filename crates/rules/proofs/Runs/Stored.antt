-- First values never change, decisions stay, and the stored record: what is down keeps it, a pause and a crash keep it, a recovery keeps it but for its own count,
-- a cut stores that of the step uncut.
-- Assumes nothing.
use mathlib.Core.Path.{◌≡◌, refl, sym, ap, subst, ◌∙◌}
use mathlib.Core.Bool.{Bool, true, false, ◌&&◌, ◌||◌, not}
use mathlib.Core.List.{List, [], ◌∷◌}
use mathlib.Core.Logic.{◌≢◌}
use Prim.Native.Nat.{ℕ, zero, suc, ◌-◌, ◌≤◌}
use native.Mathlib.Decide.{ℕ_discrete}
use native.Mathlib.Omega.{arith}
use lib.Dec.{eqb, ltb}
use lib.ListN.{length, get_or}
use borrow.Author.Tests.{not-true, not-false}
use Rattle.rules.specs.declared.group.Group.{Group}
use Rattle.rules.specs.declared.process.Process.{Process}
use Rattle.rules.specs.declared.process.Next.{Next}
use Rattle.rules.specs.declared.step.Step.{Step}
use Rattle.rules.specs.declared.step.Step.TheVariants.{DeliverE, DeliverS, DeliverF, DeliverDecision, Suspect, Pause, Crash, Recover}
use Rattle.rules.specs.Refusals.{is_recover, down, may_suspect, impossible, strange, late, unsent, misnamed, recovers_past, enters_past}
use Rattle.rules.specs.Start.{fresh}
use Rattle.rules.specs.Step.{Course, idles, or_idle, unless_refused}
use Rattle.rules.specs.Safety.{Of, cut, back_unless, back}
use Rattle.rules.proofs.Bare.Run.{State, start_state, next, after}
use Rattle.rules.proofs.Bare.Statements.{Begins, at, process_of, FirstValuesStay, DecisionsStay, DownThrough, Recovery, DownKeeps, GoingDownKeeps, CutStores}
use Rattle.rules.proofs.Bare.Step.{begun, refusal_by, refusal, course, settled, stepped}
use Rattle.rules.specs.Limits.{greatest_size}
use Rattle.rules.specs.Layout.{process_at, with_process, Sized}
use Rattle.rules.specs.Records.{Stored, stored}
use Rattle.rules.specs.Events.{paused, crashed, recovered, quiet, on_pause, on_crash, on_recover, cut_if}
use Rattle.rules.specs.Kinds.{taker_of, is_cut, entry_in, event_of, numbers_of, round_of, delivers, slot_of}
use Rattle.rules.specs.Idle.{past_for, idle, idle_e, idle_s, idle_f}
use Rattle.rules.proofs.Laws.Bool.{and_left, or_left}
use Rattle.rules.proofs.Laws.Group.{process-put, process-kept, started-process}
use Rattle.rules.proofs.Laws.Sound.{Passed, refusal-passed, taker-in, sound-facts}
use Rattle.rules.proofs.Runs.Basics.{Basic, basic, basic-start, basic-next, start_is}
use Rattle.rules.proofs.Runs.Cases.{never, throughout, put-by, process-by}
use Rattle.rules.proofs.Runs.Fields.{event-keeps}
use Rattle.rules.proofs.Runs.Recoveries.{back_as, recover-leaves}

-- ---- first values

event-first : (g : Group) (l : List ℕ) (s : Step) → (event_of g l s).process.first ≡ (process_at g (taker_of s)).first
unfolding recovered
event-first g l s = event-keeps (λ (x : ℕ × ℕ). x.0) g l s (λ e. refl)

crashed-first : (v : ℕ) (p : Process) → p.first ≡ v → (crashed p).first ≡ v
unfolding crashed
crashed-first v p e = e

-- process i of a run is one of 1..16
small : {vs l : List ℕ} {i : ℕ} → Begins vs l → Of vs i → i ≤ greatest_size
small b o = omega arith

start_first : (vs l : List ℕ) (i : ℕ) → Begins vs l → Of vs i → (process_of (start_state vs l) i).first ≡ get_or vs (i - 1) 0
unfolding begun fresh
start_first vs l i b o =
    ap (λ (a : State). (process_of a i).first) (start_is vs l b)
    ∙ ap (λ (p : Process). p.first) (started-process vs (length vs) i o.low o.high b.few)

pub first-values : FirstValuesStay
unfolding next
first-values vs l ss b i o =
    throughout vs (λ (a : State). (process_of a i).first ≡ v)
    (λ a s h e.
    process-by (λ (p : Process). p.first ≡ v) a.group a.store s i h.sized o.low (small b o) (crashed-first v) e
    (λ p t f. event-first a.group a.store s ∙ ap (λ (k : ℕ). (process_of a k).first) t ∙ e))
    (start_state vs l) ss (basic-start vs l b) (start_first vs l i b o)
  where
    v : ℕ
    v = get_or vs (i - 1) 0

-- ---- decisions stay

-- the process has decided v
record Decided (v : ℕ) (p : Process) : Type 0 where
  decided : p.decided ≡ true
  decision : p.decision ≡ v

-- a message that is not past for a process finds it undecided
not-past : (p : Process) (r : ℕ) (t : Bool) → (past_for p r || t) ≡ false → p.decided ≡ false
unfolding past_for
not-past p r t e = or_left p.decided (ltb r p.round) (or_left (p.decided || ltb r p.round) t e)

-- a process that can suspect is undecided
unsuspecting : (p : Process) → not (may_suspect p) ≡ false → p.decided ≡ false
unfolding may_suspect
unsuspecting p e =
    not-true p.decided (and_left (not p.decided) (eqb p.phase 1 && not p.marked) (not-false (may_suspect p) e))

-- no event of a decided process changes its decision
event-decided : (v : ℕ) (g : Group) (l : List ℕ) (s : Step) → Passed g l s → idle g s ≡ false
    → Decided v (process_at g (taker_of s)) → Decided v (event_of g l s).process
unfolding event_of taker_of idle idle_e idle_s idle_f impossible on_pause paused on_crash crashed on_recover recovered quiet
event-decided v g l (DeliverE i j r c) h f d = never (not-past (process_at g i) r _ f) d.decided
event-decided v g l (DeliverS i j r c) h f d = never (not-past (process_at g i) r _ f) d.decided
event-decided v g l (DeliverF i j r c) h f d = never (not-past (process_at g i) r _ f) d.decided
event-decided v g l (DeliverDecision i j c) h f d = never f d.decided
event-decided v g l (Suspect i c) h f d = never (unsuspecting (process_at g i) h.possible) d.decided
event-decided v g l (Pause i) h f d = record { decided = d.decided; decision = d.decision }
event-decided v g l (Crash i) h f d = record { decided = d.decided; decision = d.decision }
event-decided v g l (Recover i) h f d = record { decided = d.decided; decision = d.decision }

crashed-decided : (v : ℕ) (p : Process) → Decided v p → Decided v (crashed p)
unfolding crashed
crashed-decided v p d = record { decided = d.decided; decision = d.decision }

-- by a step, from a state of a run on
step-decided : (vs : List ℕ) (a : State) (s : Step) (i v : ℕ) → Basic vs a → 1 ≤ i → i ≤ greatest_size
    → Decided v (process_of a i) → Decided v (process_of (next a s) i)
unfolding next
step-decided vs a s i v h lo hi d =
    process-by (Decided v) a.group a.store s i h.sized lo hi (crashed-decided v) d
    (λ p t f. event-decided v a.group a.store s p f (subst (λ (k : ℕ). Decided v (process_of a k)) (sym t) d))

pub decisions-stay : DecisionsStay
decisions-stay vs l ss b ts i v o h =
    let d = throughout vs (λ (a : State). Decided v (process_of a i))
    (λ a s c. step-decided vs a s i v c o.low (small b o))
    (at vs l ss) ts (basic vs l ss b) (record { decided = h.decided; decision = h.decision }) in
    record { decided = d.decided; decision = d.decision }

-- ---- the stored record

-- a crash keeps it
crashed-stored : (r : Stored) (p : Process) → stored p ≡ r → stored (crashed p) ≡ r
unfolding stored crashed
crashed-stored r p e = e

-- the steps whose events keep it: those that neither deliver nor suspect
Still : Step → Type 0
Still s = (g : Group) (l : List ℕ) → stored (event_of g l s).process ≡ stored (process_at g (taker_of s))

pause-still : (i : ℕ) → Still (Pause i)
unfolding Still event_of taker_of on_pause paused quiet stored
pause-still i g l = refl

crash-still : (i : ℕ) → Still (Crash i)
unfolding Still event_of taker_of on_crash crashed quiet stored
crash-still i g l = refl

-- whoever recovers takes a recover
recover-is : (s : Step) → is_recover s ≡ true → s ≡ Recover (taker_of s)
unfolding is_recover taker_of
recover-is (DeliverE i j r c) e = never refl e
recover-is (DeliverS i j r c) e = never refl e
recover-is (DeliverF i j r c) e = never refl e
recover-is (DeliverDecision i j c) e = never refl e
recover-is (Suspect i c) e = never refl e
recover-is (Pause i) e = never refl e
recover-is (Crash i) e = never refl e
recover-is (Recover i) e = refl

-- a step that process i takes only where its event keeps the stored record
stored-step : (vs : List ℕ) (a : State) (s : Step) (i : ℕ) → Basic vs a → 1 ≤ i → i ≤ greatest_size
    → (Passed a.group a.store s → taker_of s ≡ i → Still s) → stored (process_of (next a s) i) ≡ stored (process_of a i)
unfolding next Still
stored-step vs a s i h lo hi still =
    process-by (λ (p : Process). stored p ≡ stored (process_of a i)) a.group a.store s i h.sized lo hi
    (crashed-stored (stored (process_of a i))) refl
    (λ p t f. still p t a.group a.store ∙ ap (λ (k : ℕ). stored (process_of a k)) t)

pub going-down-keeps : GoingDownKeeps
going-down-keeps vs l ss b i o =
    let h = basic vs l ss b in (
      stored-step vs (at vs l ss) (Pause i) i h o.low (small b o) (λ p t. pause-still i),
      stored-step vs (at vs l ss) (Crash i) i h o.low (small b o) (λ p t. crash-still i),
    )

-- whoever takes a step while it is down recovers
down-recovers : (r u : Bool) → (not r && not u) ≡ false → u ≡ false → r ≡ true
down-recovers true u e d = refl
down-recovers false true e d = sym d
down-recovers false false e d = sym e

down_step : (vs : List ℕ) (a : State) (s : Step) (i : ℕ) → Basic vs a → 1 ≤ i → i ≤ greatest_size → (process_of a i).up ≡ false → s ≢ Recover i
    → stored (process_of (next a s) i) ≡ stored (process_of a i)
unfolding down
down_step vs a s i h lo hi d ne =
    stored-step vs a s i h lo hi
    (λ p t.
    absurd (ne (recover-is s (down-recovers (is_recover s) (process_of a (taker_of s)).up p.up (ap (λ (k : ℕ). (process_of a k).up) t ∙ d)) ∙ ap Recover t)))

pub down-keeps : DownKeeps
down-keeps vs l ss b s i o d ne = down_step vs (at vs l ss) s i (basic vs l ss b) o.low (small b o) d ne

-- its recover adds one, or is refused and leaves it down
back-stored : (t : Bool) (p : Process) → stored (back_as t p) ≡ back_unless t (stored p)
unfolding back_as back_unless stored recovered
back-stored true p = refl
back-stored false p = refl

still-down : (t : Bool) (p : Process) → (back_as t p).up ≡ false → stored (back_as t p) ≡ stored p
unfolding back_as recovered
still-down true p d = refl
still-down false p d = never d refl

module _ (vs : List ℕ) (i : ℕ) (o : Of vs i) (hi : i ≤ greatest_size) where
  recover-stored : (a : State) → Basic vs a → (process_of a i).up ≡ false → stored (process_of (next a (Recover i)) i) ≡ back (stored (process_of a i))
  unfolding back stored
  recover-stored a h d = ap stored (recover-leaves vs a i h o hi d) ∙ back-stored _ (process_of a i)

  -- a step before and after which it is down
  down-still : (a : State) (s : Step) → Basic vs a → (process_of a i).up ≡ false → (process_of (next a s) i).up ≡ false
      → stored (process_of (next a s) i) ≡ stored (process_of a i)
  unfolding is_recover taker_of
  down-still a s h d e = go (is_recover s) refl (ℕ_discrete (taker_of s) i)
    where
      go : (t : Bool) → is_recover s ≡ t → Dec (taker_of s ≡ i) → stored (process_of (next a s) i) ≡ stored (process_of a i)
      go false f k = down_step vs a s i h o.low hi d (λ g. never f (ap is_recover g))
      go true f (no ne) = down_step vs a s i h o.low hi d (λ g. ne (ap taker_of g))
      go true f (yes k) =
          let is = recover-is s f ∙ ap Recover k in
          let left = ap (λ (t : Step). process_of (next a t) i) is ∙ recover-leaves vs a i h o hi d in
          ap stored left ∙ still-down _ (process_of a i) (sym (ap (λ (p : Process). p.up) left) ∙ e)

down-first : (a : State) (ts : List Step) (i : ℕ) → DownThrough a ts i → (process_of a i).up ≡ false
unfolding DownThrough
down-first a [] i d = d
down-first a (s ∷ ts) i d = d.0

-- down through a list of steps and then recovered
down-through : (vs : List ℕ) (a : State) (ts : List Step) (i : ℕ) → Basic vs a → Of vs i → i ≤ greatest_size → DownThrough a ts i
    → stored (process_of (next (after a ts) (Recover i)) i) ≡ back (stored (process_of a i))
unfolding DownThrough after
down-through vs a [] i h o hi d = recover-stored vs i o hi a h d
down-through vs a (s ∷ ts) i h o hi d =
    down-through vs (next a s) ts i (basic-next vs a s h) o hi d.1 ∙ ap back (down-still vs i o hi a s h d.0 (down-first (next a s) ts i d.1))

pub recovery : Recovery
recovery vs l ss b ts i o d = down-through vs (at vs l ss) ts i (basic vs l ss b) o (small b o) d

-- ---- cuts

-- no row of the refusals looks at the cut
cut-refusal : (g : Group) (l : List ℕ) (s : Step) → refusal g l (cut s) ≡ refusal g l s
unfolding refusal refusal_by cut strange numbers_of late round_of down is_recover taker_of unsent delivers entry_in slot_of misnamed impossible recovers_past enters_past idle event_of
cut-refusal g l (DeliverE i j r c) = refl
cut-refusal g l (DeliverS i j r c) = refl
cut-refusal g l (DeliverF i j r c) = refl
cut-refusal g l (DeliverDecision i j c) = refl
cut-refusal g l (Suspect i c) = refl
cut-refusal g l (Pause i) = refl
cut-refusal g l (Crash i) = refl
cut-refusal g l (Recover i) = refl

-- what process j has stored after a course
leaves : Group → List ℕ → ℕ → Course → Stored
leaves g l j c = stored (process_at (settled g l c).group j)

module _ (g : Group) (l : List ℕ) (j : ℕ) (sized : Sized g) (low : 1 ≤ j) (high : j ≤ greatest_size) where
  -- by an event of process i, cut and not, idle and not
  cut-event : (t c : Bool) (i : ℕ) (x : Next) → 1 ≤ i → i ≤ greatest_size
      → leaves g l j (or_idle t true i (process_at g i) x) ≡ leaves g l j (or_idle t c i (process_at g i) x)
  unfolding leaves or_idle idles settled cut_if on_crash quiet
  cut-event true true i x lo hi = refl
  cut-event true false i x lo hi =
      put-by (λ (q : Process). stored q ≡ stored (process_at g j)) g i j (crashed (process_at g i)) sized lo hi low high (λ ne. refl)
      (λ e. crashed-stored (stored (process_at g j)) (process_at g i) (ap (λ (k : ℕ). stored (process_at g k)) e))
  cut-event false true i x lo hi = refl
  cut-event false false i x lo hi =
      put-by (λ (q : Process). stored (process_at (with_process g i (crashed x.process)) j) ≡ stored q) g i j x.process sized lo hi low high
      (λ ne. ap stored (process-kept g i j (crashed x.process) lo hi low high ne))
      (λ e.
      ap stored (ap (process_at (with_process g i (crashed x.process))) (sym e) ∙ process-put g i (crashed x.process) sized lo hi)
      ∙ crashed-stored (stored x.process) x.process refl)

  -- by a step that is not refused
  cut-passed : (s : Step) → 1 ≤ taker_of s → taker_of s ≤ greatest_size
      → leaves g l j (unless_refused 0 g l (cut s)) ≡ leaves g l j (unless_refused 0 g l s)
  unfolding unless_refused cut idle is_cut taker_of event_of entry_in slot_of
  cut-passed (DeliverE i k r c) lo hi = cut-event (idle g (DeliverE i k r c)) c i (event_of g l (DeliverE i k r c)) lo hi
  cut-passed (DeliverS i k r c) lo hi = cut-event (idle g (DeliverS i k r c)) c i (event_of g l (DeliverS i k r c)) lo hi
  cut-passed (DeliverF i k r c) lo hi = cut-event (idle g (DeliverF i k r c)) c i (event_of g l (DeliverF i k r c)) lo hi
  cut-passed (DeliverDecision i k c) lo hi = cut-event (idle g (DeliverDecision i k c)) c i (event_of g l (DeliverDecision i k c)) lo hi
  cut-passed (Suspect i c) lo hi = cut-event false c i (event_of g l (Suspect i c)) lo hi
  cut-passed (Pause i) lo hi = refl
  cut-passed (Crash i) lo hi = refl
  cut-passed (Recover i) lo hi = refl

  -- by any step
  cut_step : (s : Step) → leaves g l j (course g l (cut s)) ≡ leaves g l j (course g l s)
  unfolding course unless_refused
  cut_step s = ap (λ (k : ℕ). leaves g l j (unless_refused k g l (cut s))) (cut-refusal g l s) ∙ go (refusal g l s) refl
    where
      go : (k : ℕ) → refusal g l s ≡ k → leaves g l j (unless_refused k g l (cut s)) ≡ leaves g l j (unless_refused k g l s)
      go zero e =
          let p = refusal-passed g l s e in
          let to = taker-in g s p.known in
          cut-passed s to.0 (omega (arith, (sound-facts g p.sound).high))
      go (suc k) e = refl

pub cut-stores : CutStores
unfolding next stepped leaves
cut-stores vs l ss b s i o =
    cut_step (at vs l ss).group (at vs l ss).store i (basic vs l ss b).sized o.low (small b o) s
