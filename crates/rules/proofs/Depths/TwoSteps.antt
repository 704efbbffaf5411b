-- Statement 13: without suspicions and cuts, where the first E that each process takes is process 1's, every decision by E has depth 2; and the depth of a decided process stays.
-- Assumes nothing.
use Rattle.std.specs.Prelude.{Option, Some, None}
use mathlib.Core.Path.{◌≡◌, refl, sym, ap, subst, ◌∙◌}
use mathlib.Core.Bool.{Bool, true, false, ◌&&◌, ◌||◌, not}
use mathlib.Core.List.{List, [], ◌∷◌, ◌++◌}
use mathlib.Core.Logic.{◌≢◌, ◌⊎◌, inl, inr}
use Prim.Native.Nat.{ℕ, zero, suc, ◌+◌, ◌-◌, ◌%◌, ◌≤◌, ◌<◌, max}
use native.Mathlib.Decide.{ℕ_discrete}
use native.Mathlib.Nat.{zero-mod}
use native.Mathlib.Omega.{arith}
use lib.Dec.{eqb, ltb}
use lib.ListN.{length, get_or}
use borrow.Author.Tests.{ltb-false, le-ltb, eqb-true, eqb-false, eq-eqb, ne_eqb, not-true}
use Rattle.rules.specs.declared.group.Group.{Group}
use Rattle.rules.specs.declared.process.Process.{Process}
use Rattle.rules.specs.declared.process.Message.{Message}
use Rattle.rules.specs.declared.process.Message.TheVariants.{E, S, F, Decision}
use Rattle.rules.specs.declared.process.Next.{Next}
use Rattle.rules.specs.declared.step.Step.{Step}
use Rattle.rules.specs.declared.step.Step.TheVariants.{DeliverE, DeliverS, DeliverF, DeliverDecision, Suspect, Pause, Crash, Recover}
use Rattle.rules.specs.Layout.{forgetting}
use Rattle.rules.specs.Depths.{depth_after}
use Rattle.rules.specs.Refusals.{every, strange, late, unsent, refusal}
use Rattle.rules.specs.Start.{fresh}
use Rattle.rules.specs.Step.{Course, Idles, Refuses, Takes, idles, or_idle, unless_refused, hand_overs, course, settled, stepped}
use Rattle.rules.specs.Run.{State, state_of, start_state, next, after}
use Rattle.rules.specs.Safety.{Begins, at, process_depth, message_depth, process_of, says, DecisionDepthStays, is_suspicion, plain, delivers_e, takes_e, sender_of, led_by, TwoSteps}
use Rattle.rules.proofs.Bare.Run.{State as Bare}
use Rattle.rules.proofs.Bare.Step.{begun}
use Rattle.rules.specs.Limits.{greatest_size, last_round, store_length, coordinator, among}
use Rattle.rules.specs.Tally.{bit_of, count, holds, joined, meets}
use Rattle.rules.specs.Layout.{process_at, with_process, with_depth}
use Rattle.rules.specs.Store.{slot, kind_e, kind_s, kind_f, proposer_of, value_of, place_of, hand_over, sent_in}
use Rattle.rules.proofs.Laws.Store.{place_by}
use Rattle.rules.specs.Events.{takes, joins_estimates, decides, marks, paused, crashed, recovered, quiet, changed, jumps_if, jumps, relays_if, relays, decides_if, decides_at, on_e, on_decision, on_suspect, on_pause, on_crash, on_recover, cut_if}
use Rattle.rules.specs.Kinds.{taker_of, numbers_of, round_of, delivers, slot_of, is_cut, entry_in, event_of}
use Rattle.rules.specs.Idle.{past_for, idle_e, idle_s, idle_f, idle}
use Rattle.rules.proofs.Bare.Run as run
use Rattle.rules.proofs.Laws.Bool.{and_left, and_right, and_both, or_case, or_left}
use Rattle.rules.proofs.Laws.Tally.{holds-joined, holds-other, holds-empty, meets-count, joined-below}
use Rattle.rules.proofs.Laws.Count.{count-le}
use Rattle.rules.proofs.Laws.Store.{Place, IsMessage, entry-nonzero, place-lt, hand_over-own, hand_over-other, hand_over-length, opened-own, opened-other, opened-sent}
use Rattle.rules.proofs.Laws.Group.{process-put, process-kept, started-process, started-size}
use Rattle.rules.proofs.Laws.Sound.{named-entry, second-among, taker-in, Taking, Fine}
use Rattle.rules.proofs.Laws.Passing.{DeepPassed, deep-passed}
use Rattle.rules.proofs.Laws.Group.{process-deep, process-forgets, depth-started}
use Rattle.rules.proofs.Runs.Cases.{never, process-by, handed-by}
use Rattle.rules.proofs.Runs.Tallies.{overs-stay}
use Rattle.rules.proofs.Depths.Basics.{DeepBasic, deep-size, deep-few, deep-whole, deep-fine, next-forgets, deep-next, start-deep, deep-start, deep-throughout, deep-basic, deep_more}
use Rattle.rules.proofs.Depths.Steps.{depth-heard, depth-unheard, message-kept, message-new}

-- ---- the depth of a decided process stays

-- a message that is not past for a process finds it undecided
not-past : (p : Process) (r : ℕ) (t : Bool) → (past_for p r || t) ≡ false → p.decided ≡ false
unfolding past_for
not-past p r t e = or_left p.decided (ltb r p.round) (or_left (p.decided || ltb r p.round) t e)

-- so does a delivery that is not idle
heard-undecided : (g : Group) (s : Step) → delivers s ≡ true → idle g s ≡ false → (process_at g (taker_of s)).decided ≡ false
unfolding delivers taker_of idle idle_e idle_s idle_f
heard-undecided g (DeliverE i j r c) d f = not-past (process_at g i) r _ f
heard-undecided g (DeliverS i j r c) d f = not-past (process_at g i) r _ f
heard-undecided g (DeliverF i j r c) d f = not-past (process_at g i) r _ f
heard-undecided g (DeliverDecision i j c) d f = f
heard-undecided g (Suspect i c) d f = never refl d
heard-undecided g (Pause i) d f = never refl d
heard-undecided g (Crash i) d f = never refl d
heard-undecided g (Recover i) d f = never refl d

-- no event undoes a decision
event-decided : (g : Group) (l : List ℕ) (s : Step) → idle g s ≡ false → (process_at g (taker_of s)).decided ≡ true → (event_of g l s).process.decided ≡ true
unfolding event_of taker_of delivers on_suspect marks on_pause paused on_crash crashed on_recover recovered quiet
event-decided g l (DeliverE i j r c) f e = never (heard-undecided g (DeliverE i j r c) refl f) e
event-decided g l (DeliverS i j r c) f e = never (heard-undecided g (DeliverS i j r c) refl f) e
event-decided g l (DeliverF i j r c) f e = never (heard-undecided g (DeliverF i j r c) refl f) e
event-decided g l (DeliverDecision i j c) f e = never (heard-undecided g (DeliverDecision i j c) refl f) e
event-decided g l (Suspect i c) f e = e
event-decided g l (Pause i) f e = e
event-decided g l (Crash i) f e = e
event-decided g l (Recover i) f e = e

crash-decided : (p : Process) → p.decided ≡ true → (crashed p).decided ≡ true
unfolding crashed
crash-decided p e = e

module _ (vs : List ℕ) (i : ℕ) (lo : 1 ≤ i) where
  -- whoever has decided has decided after any step, and hears nothing
  decided-next : (a : State) (s : Step) → DeepBasic vs a → i ≤ greatest_size → (process_of a i).decided ≡ true → (process_of (next a s) i).decided ≡ true
  unfolding run.next
  decided-next a s h hi e =
      let before : (process_at (forgetting a.group) i).decided ≡ true = ap (λ (p : Process). p.decided) (process-forgets a.group i) ∙ e in
      ap (λ (p : Process). p.decided) (sym (process-forgets (next a s).group i))
      ∙ ap (λ (b : Bare). (process_at b.group i).decided) (next-forgets vs a h s)
      ∙ process-by (λ (p : Process). p.decided ≡ true) (forgetting a.group) a.store s i h.basic.sized lo hi crash-decided before
      (λ p t f. event-decided (forgetting a.group) a.store s f (ap (λ (k : ℕ). (process_at (forgetting a.group) k).decided) t ∙ before))

  depth-next : (a : State) (s : Step) → DeepBasic vs a → (process_of a i).decided ≡ true → process_depth (next a s) i ≡ process_depth a i
  depth-next a s h e =
      depth-unheard vs a h s i lo
      (λ w t. never (heard-undecided a.group s w.delivery w.not-idle) (ap (λ (k : ℕ). (process_of a k).decided) t ∙ e))

  decided-depth : (a : State) (ts : List Step) → DeepBasic vs a → i ≤ greatest_size → (process_of a i).decided ≡ true → process_depth (after a ts) i ≡ process_depth a i
  decided-depth a ts h hi e =
      (deep-throughout vs (λ (b : State). ((process_of b i).decided ≡ true) × (process_depth b i ≡ process_depth a i))
      (λ b s k p. (decided-next b s k hi p.0, depth-next b s k p.0 ∙ p.1)) a ts h (e, refl)).1

pub decision-depth-stays : DecisionDepthStays
decision-depth-stays vs l d ss b ts i o e =
    decided-depth vs i o.low (at vs l d ss) ts (deep-basic vs l d ss b) (omega (arith, o.high, b.few)) e

-- ---- what is known of a process, of the entries, and of a state

-- of process i that has not decided: whether it has taken an E, its tally, its depth k, and the entry e of its E of round 0
record Open (i : ℕ) (t : Bool) (tally k e : ℕ) : Type 0 where
  untaken : t ≡ false → (k ≡ 0) × (tally ≡ 0)
  taken : t ≡ true → (1 ≤ k) × (k ≤ 2)
  sent : t ≡ true → 2 ≤ i → e ≢ 0
  heard : (j : ℕ) → 2 ≤ j → holds tally j ≡ true → 2 ≤ k

record Early (i : ℕ) (t : Bool) (p : Process) (k e : ℕ) : Type 0 where
  round : p.round ≡ 0
  phase : p.phase ≡ 1
  undecided : p.decided ≡ false → Open i t p.estimates k e

-- Es of round 0 alone, but for decisions: process 1's, of depth 0, and others of depth 1
record Entries (l d : List ℕ) : Type 0 where
  none : (r j k : ℕ) → Place r j k → 1 ≤ r + k → get_or l (slot r j k) 0 ≡ 0
  first : get_or l 0 0 ≢ 0
  first-depth : get_or d 0 0 ≡ 0
  relayed : (j : ℕ) → 2 ≤ j → j ≤ greatest_size → get_or l (slot 0 j kind_e) 0 ≢ 0 → get_or d (slot 0 j kind_e) 0 ≡ 1

record Good (took : ℕ → Bool) (a : State) : Type 0 where
  each : (i : ℕ) → 1 ≤ i → i ≤ a.group.n → Early i (took i) (process_at a.group i) (process_depth a i) (get_or a.store (slot 0 i kind_e) 0)
  entries : Entries a.store a.depths

-- ---- what is handed over

-- none, a decision, or an E of round 0, which says that T holds
abbrev Mild : Type 0 → Option Message → Type 0
Mild T None = Unit {0}
Mild T (Some (E r q v)) = T × (r ≡ 0)
Mild T (Some (S r)) = ⊥
Mild T (Some (F r q v)) = ⊥
Mild T (Some (Decision v)) = Unit {0}

-- an entry below the decisions that turns from 0 is that of process i's E of round 0
mild-turn : (T : Type 0) (i : ℕ) (m : Option Message) (l : List ℕ) (q : ℕ) → Mild T m → q < store_length - greatest_size → get_or l q 0 ≡ 0 → get_or (hand_over i m l) q 0 ≢ 0
    → T × (q ≡ slot 0 i kind_e)
unfolding place_of hand_over
mild-turn T i None l q m lt z ne = absurd (ne z)
mild-turn T i (Some (E r p v)) l q m lt z ne = (m.0, by (ℕ_discrete q (slot r i kind_e)))
  where
    by : Dec (q ≡ slot r i kind_e) → q ≡ slot 0 i kind_e
    by (yes e) = omega (arith, m.1)
    by (no other) = absurd (ne (hand_over-other i (Some (E r p v)) l q other ∙ z))
mild-turn T i (Some (S r)) l q m lt z ne = absurd m
mild-turn T i (Some (F r p v)) l q m lt z ne = absurd m
mild-turn T i (Some (Decision v)) l q m lt z ne = absurd (ne (hand_over-other i (Some (Decision v)) l q (omega arith) ∙ z))

overs-turn : (T : Type 0) (i : ℕ) (x : Next) (l : List ℕ) (q : ℕ) → Mild T x.first → Mild T x.second → q < store_length - greatest_size → get_or l q 0 ≡ 0
    → get_or (hand_overs i x l) q 0 ≢ 0 → T × (q ≡ slot 0 i kind_e)
unfolding hand_overs
overs-turn T i x l q one two lt z ne = by (ℕ_discrete (get_or (hand_over i x.first l) q 0) 0)
  where
    by : Dec (get_or (hand_over i x.first l) q 0 ≡ 0) → T × (q ≡ slot 0 i kind_e)
    by (yes e) = mild-turn T i x.second (hand_over i x.first l) q two lt e ne
    by (no turned) = mild-turn T i x.first l q one lt z turned

-- a first message that is one is sent
first-sent : (n i : ℕ) (x : Next) (l : List ℕ) → Taking n i x → store_length ≤ length l → IsMessage x.first → get_or (hand_overs i x l) (place_by i x.first) 0 ≢ 0
unfolding hand_overs
first-sent n i x l t long is =
    let lt = place-lt i x.first t.small t.first in
    handed-by (λ (e : ℕ). e ≢ 0) i x.second (hand_over i x.first l) (place_by i x.first)
    (omega (arith, place-lt i x.second t.small t.second, hand_over-length i x.first l))
    (named-entry n i x.second t.low t.second-named)
    (λ z. named-entry n i x.first t.low t.first-named is (sym (hand_over-own i x.first l is (omega arith)) ∙ z))

-- ---- a step that is not cut

-- a process takes it, with its event
record Took (a : State) (s : Step) : Type 0 where
  passed : DeepPassed a.group a.store a.depths s
  busy : idle a.group s ≡ false
  applies : (says a s).applied ≡ true
  group : (next a s).group
      ≡ with_depth (with_process a.group (taker_of s) (event_of a.group a.store s).process) (taker_of s) (depth_after a.group a.depths s)
  store : (next a s).store ≡ hand_overs (taker_of s) (event_of a.group a.store s) a.store
  taking : Taking a.group.n (taker_of s) (event_of a.group a.store s)

-- or it changes nothing
step-took : (vs : List ℕ) (a : State) (s : Step) → DeepBasic vs a → is_cut s ≡ false → ((next a s ≡ a) × ((says a s).applied ≡ false)) ⊎ Took a s
unfolding next stepped settled course unless_refused or_idle idles cut_if
step-took vs a s h uncut = go (refusal g l d s) refl
  where
    g : Group
    g = a.group

    l : List ℕ
    l = a.store

    d : List ℕ
    d = a.depths

    k : ℕ
    k = depth_after g d s

    x : Next
    x = event_of g l s

    still : (c : Course) → course g l d s ≡ c → state_of (settled g l d k c) ≡ a → (settled g l d k c).says.applied ≡ false
        → ((next a s ≡ a) × ((says a s).applied ≡ false)) ⊎ Took a s
    still c e f u = inl (ap (λ (c : Course). state_of (settled g l d k c)) e ∙ f, ap (λ (c : Course). (settled g l d k c).says.applied) e ∙ u)

    took : DeepPassed g l d s → idle g s ≡ false → course g l d s ≡ Takes (taker_of s) x → ((next a s ≡ a) × ((says a s).applied ≡ false)) ⊎ Took a s
    took p f e =
        inr
        (record {
          passed = p;
          busy = f;
          applies = ap (λ (c : Course). (settled g l d k c).says.applied) e;
          group = ap (λ (c : Course). (settled g l d k c).group) e;
          store = ap (λ (c : Course). (settled g l d k c).store) e;
          taking = subst (λ (c : Course). Fine g.n c) e (deep-fine vs a h s);
        })

    by : DeepPassed g l d s → course g l d s ≡ or_idle (idle g s) (is_cut s) (taker_of s) (process_at g (taker_of s)) x → (t : Bool) → idle g s ≡ t
        → ((next a s ≡ a) × ((says a s).applied ≡ false)) ⊎ Took a s
    by p e true f = still Idles (rw (e, f, uncut)) refl refl
    by p e false f = took p f (rw (e, f, uncut))

    go : (m : ℕ) → refusal g l d s ≡ m → ((next a s ≡ a) × ((says a s).applied ≡ false)) ⊎ Took a s
    go zero e = by (deep-passed g l d s e) (ap (λ (m : ℕ). unless_refused m g l s) e) (idle g s) refl
    go (suc m) e = still (Refuses (suc m)) (ap (λ (m : ℕ). unless_refused m g l s) e) refl refl

module _ (vs : List ℕ) (a : State) (h : DeepBasic vs a) (s : Step) (t : Took a s) where
  abbrev taker : ℕ
  taker = taker_of s

  abbrev event : Next
  event = event_of a.group a.store s

  -- the records after it
  own-process : process_at (next a s).group taker ≡ event.process
  own-process =
      ap (λ (g : Group). process_at g taker) t.group
      ∙ process-deep (with_process a.group taker event.process) taker (depth_after a.group a.depths s) taker
      ∙ process-put a.group taker event.process h.sized t.taking.low t.taking.small

  other-process : (m : ℕ) → 1 ≤ m → m ≤ greatest_size → m ≢ taker → process_at (next a s).group m ≡ process_at a.group m
  other-process m lo hi ne =
      ap (λ (g : Group). process_at g m) t.group
      ∙ process-deep (with_process a.group taker event.process) taker (depth_after a.group a.depths s) m
      ∙ process-kept a.group taker m event.process t.taking.low t.taking.small lo hi ne

  -- what is sent stays sent
  stays : (q : ℕ) → get_or a.store q 0 ≢ 0 → get_or (next a s).store q 0 ≢ 0
  stays q sent z = overs-stay a.group.n taker event a.store t.taking h.basic.long q sent (ap (λ (l : List ℕ). get_or l q 0) (sym t.store) ∙ z)

  module _ (T : Type 0) (one : Mild T event.first) (two : Mild T event.second) where
    turns : (q : ℕ) → q < store_length - greatest_size → get_or a.store q 0 ≡ 0 → get_or (next a s).store q 0 ≢ 0 → T × (q ≡ slot 0 taker kind_e)
    turns q lt z ne =
        overs-turn T taker event a.store q one two lt z (λ e. ne (ap (λ (l : List ℕ). get_or l q 0) t.store ∙ e))

    -- the entries are kept, where an E that is new has depth 1
    entries-kept : (T → get_or a.store (slot 0 taker kind_e) 0 ≡ 0 → process_depth (next a s) taker ≡ 1) → Entries a.store a.depths
        → Entries (next a s).store (next a s).depths
    entries-kept new e =
        record {
          none = λ r j k p le. still r j k p le (ℕ_discrete (get_or (next a s).store (slot r j k) 0) 0);
          first = stays 0 e.first;
          first-depth = message-kept vs a h s 0 e.first ∙ e.first-depth;
          relayed = λ j lo hi sent. dates j lo hi sent (ℕ_discrete (get_or a.store (slot 0 j kind_e) 0) 0);
        }
      where
        still : (r j k : ℕ) → Place r j k → 1 ≤ r + k → Dec (get_or (next a s).store (slot r j k) 0 ≡ 0) → get_or (next a s).store (slot r j k) 0 ≡ 0
        still r j k p le (yes z) = z
        still r j k p le (no ne) =
            let w = turns (slot r j k) (omega (arith, p.round, p.low, p.high, p.kind)) (e.none r j k p le) ne in
            absurd (omega (arith, w.1, p.round, p.low, p.high, p.kind, t.taking.low, t.taking.small))

        dates : (j : ℕ) → 2 ≤ j → j ≤ greatest_size → get_or (next a s).store (slot 0 j kind_e) 0 ≢ 0 → Dec (get_or a.store (slot 0 j kind_e) 0 ≡ 0)
            → message_depth (next a s) (slot 0 j kind_e) ≡ 1
        dates j lo hi sent (yes z) =
            let w = turns (slot 0 j kind_e) (omega arith) z sent in
            (message-new vs a h s (slot 0 j kind_e) z sent).1 ∙ new w.0 (ap (λ (q : ℕ). get_or a.store q 0) (sym w.1) ∙ z)
        dates j lo hi sent (no ne) = message-kept vs a h s (slot 0 j kind_e) ne ∙ e.relayed j lo hi ne

    -- so is all, where the taker's is
    good-kept : (took took' : ℕ → Bool) → ((m : ℕ) → m ≢ taker → took' m ≡ took m) → (T → get_or a.store (slot 0 taker kind_e) 0 ≡ 0 → process_depth (next a s) taker ≡ 1)
        → Good took a → Early taker (took' taker) event.process (process_depth (next a s) taker) (get_or (next a s).store (slot 0 taker kind_e) 0)
        → Good took' (next a s)
    good-kept took took' others new good mine =
        record {
          each = λ m lo hi. by m lo (omega (arith, size, few)) (omega (arith, size)) (ℕ_discrete m taker);
          entries = entries-kept new good.entries;
        }
      where
        few : a.group.n ≤ greatest_size
        few = deep-few vs a h

        size : (next a s).group.n ≡ a.group.n
        size = deep-size vs (next a s) (deep-next vs a h s) ∙ sym (deep-size vs a h)

        by : (m : ℕ) → 1 ≤ m → m ≤ greatest_size → m ≤ a.group.n → Dec (m ≡ taker)
            → Early m (took' m) (process_at (next a s).group m) (process_depth (next a s) m) (get_or (next a s).store (slot 0 m kind_e) 0)
        by m lo hi le (yes e) =
            subst (λ (m : ℕ). Early m (took' m) (process_at (next a s).group m) (process_depth (next a s) m) (get_or (next a s).store (slot 0 m kind_e) 0)) (sym e)
            (subst (λ (p : Process). Early taker (took' taker) p (process_depth (next a s) taker) (get_or (next a s).store (slot 0 taker kind_e) 0)) (sym own-process) mine)
        by m lo hi le (no ne) =
            let old = good.each m lo le in
            let same = other-process m lo hi ne in
            let depth : process_depth (next a s) m ≡ process_depth a m = depth-unheard vs a h s m lo (λ w e. ne (sym e)) in
            record {
              round = ap (λ (p : Process). p.round) same ∙ old.round;
              phase = ap (λ (p : Process). p.phase) same ∙ old.phase;
              undecided = λ u.
                  let o = old.undecided (ap (λ (p : Process). p.decided) (sym same) ∙ u) in
                  record {
                    untaken = λ f. let w = o.untaken (sym (others m ne) ∙ f) in (depth ∙ w.0, ap (λ (p : Process). p.estimates) same ∙ w.1);
                    taken = λ f. let w = o.taken (sym (others m ne) ∙ f) in (omega (arith, depth, w.0), omega (arith, depth, w.1));
                    sent = λ f two'. stays (slot 0 m kind_e) (o.sent (sym (others m ne) ∙ f) two');
                    heard = λ j two' f. omega (arith, depth, o.heard j two' (ap (λ (p : Process). holds p.estimates j) (sym same) ∙ f));
                  };
            }

-- ---- whoever has taken an E, after a step

abbrev took_by : (ℕ → Bool) → State → Step → ℕ → Bool
took_by took a s i = took i || (takes_e a s && eqb (taker_of s) i)

or-none : (a b : Bool) → b ≡ false → (a || b) ≡ a
or-none true b e = refl
or-none false b e = e

or-more : (a b : Bool) → b ≡ true → (a || b) ≡ true
or-more true b e = refl
or-more false b e = e

and_no : (a b : Bool) → b ≡ false → (a && b) ≡ false
and_no true b e = e
and_no false b e = refl

module _ (took : ℕ → Bool) (a : State) (s : Step) where
  -- where the step takes none, and but for its taker, those of before
  took-none : takes_e a s ≡ false → (m : ℕ) → took_by took a s m ≡ took m
  took-none e m = or-none (took m) (takes_e a s && eqb (taker_of s) m) (ap (λ (b : Bool). b && eqb (taker_of s) m) e)

  took-other : (m : ℕ) → m ≢ taker_of s → took_by took a s m ≡ took m
  took-other m ne =
      or-none (took m) (takes_e a s && eqb (taker_of s) m) (and_no (takes_e a s) (eqb (taker_of s) m) (ne_eqb (taker_of s) m (λ e. ne (sym e))))

  took-own : takes_e a s ≡ true → took_by took a s (taker_of s) ≡ true
  took-own e =
      or-more (took (taker_of s)) (takes_e a s && eqb (taker_of s) (taker_of s))
      (and_both (takes_e a s) (eqb (taker_of s) (taker_of s)) e (eq-eqb (taker_of s) (taker_of s) refl))

-- the same is known where the same have taken one
good-same : (took took' : ℕ → Bool) (a : State) → ((m : ℕ) → took' m ≡ took m) → Good took a → Good took' a
good-same took took' a same good =
    record {
      each = λ i lo hi.
          subst (λ (t : Bool). Early i t (process_at a.group i) (process_depth a i) (get_or a.store (slot 0 i kind_e) 0)) (sym (same i)) (good.each i lo hi);
      entries = good.entries;
    }

-- ---- an E of round 0

-- the depth k' of process i after it has taken the E of j
record Hop (i tally e j k' : ℕ) : Type 0 where
  low : 1 ≤ k'
  high : k' ≤ 2
  heard : (m : ℕ) → 2 ≤ m → holds (joined tally j) m ≡ true → 2 ≤ k'
  new : 2 ≤ i → e ≡ 0 → k' ≡ 1

hop : (i : ℕ) (t : Bool) (tally k e j m : ℕ) → Open i t tally k e → 1 ≤ j → (t ≡ false → j ≡ 1) → (j ≡ 1 → m ≡ 0) → (2 ≤ j → m ≡ 1) → Hop i tally e j (max k (m + 1))
hop i false tally k e j m o lo led one more =
    let j-one = led refl in
    let z = o.untaken refl in
    let m-none = one j-one in
    record {
      low = omega (arith, z.0);
      high = omega (arith, z.0);
      heard = λ p two f.
          never (holds-other tally j p lo (omega arith) (omega arith) ∙ ap (λ (t : ℕ). holds t p) z.1 ∙ holds-empty p) f;
      new = λ two f. omega (arith, z.0);
    }
hop i true tally k e j m o lo led one more =
    let w = o.taken refl in
    record {
      low = omega (arith, w.0);
      high = shallow (ℕ_discrete j 1);
      heard = λ p two f. by p two (or_case (eqb p j) (holds tally p) (sym (holds-joined tally j p lo (omega arith)) ∙ f));
      new = λ two f. absurd (o.sent refl two f);
    }
  where
    shallow : Dec (j ≡ 1) → max k (m + 1) ≤ 2
    shallow (yes f) = omega (arith, one f, (o.taken refl).1)
    shallow (no ne) = omega (arith, more (omega arith), (o.taken refl).1)

    by : (p : ℕ) → 2 ≤ p → (eqb p j ≡ true) ⊎ (holds tally p ≡ true) → 2 ≤ max k (m + 1)
    by p two (inl f) = omega (arith, more (omega (arith, eqb-true p j f)))
    by p two (inr f) = omega (arith, o.heard p two f)

-- what a process of round 0 does with it
record Heeded (n i j q v : ℕ) (p : Process) (x : Next) : Type 0 where
  round : x.process.round ≡ p.round
  phase : x.process.phase ≡ p.phase
  tally : x.process.estimates ≡ joined p.estimates j
  majority : p.decided ≡ false → x.process.decided ≡ true → meets (joined p.estimates j) n ≡ true
  first : Mild (2 ≤ i) x.first
  second : Mild (2 ≤ i) x.second
  relays : 2 ≤ i → p.estimates ≡ 0 → x.first ≡ Some (E 0 q v)

module _ (n i j q v : ℕ) (p : Process) (low : 1 ≤ i) (round : p.round ≡ 0) where
  -- all but process 1, the coordinator, relay the first E
  abbrev relay : Bool
  relay = eqb p.estimates 0 && not (eqb i (coordinator p.round n))

  at_one : coordinator p.round n ≡ 1
  at_one = ap (λ (r : ℕ). r % n + 1) round ∙ ap (λ (k : ℕ). k + 1) (zero-mod n)

  relay-two : relay ≡ true → 2 ≤ i
  relay-two e =
      let ne : i ≢ coordinator p.round n =
      eqb-false i (coordinator p.round n) (not-true (eqb i (coordinator p.round n)) (and_right (eqb p.estimates 0) (not (eqb i (coordinator p.round n))) e)) in
      by (ℕ_discrete i 1) ne
    where
      by : Dec (i ≡ 1) → i ≢ coordinator p.round n → 2 ≤ i
      by (yes f) ne = absurd (ne (f ∙ sym at_one))
      by (no f) ne = omega arith

  two-relay : 2 ≤ i → p.estimates ≡ 0 → relay ≡ true
  two-relay two z =
      and_both (eqb p.estimates 0) (not (eqb i (coordinator p.round n))) (eq-eqb p.estimates 0 z)
      (ap not (ne_eqb i (coordinator p.round n) (λ e. omega (arith, e ∙ at_one))))

  heeds : (b c : Bool) → relay ≡ b → meets (joined p.estimates j) n ≡ c → Heeded n i j q v p (decides_if c (changed (joins_estimates j) (relays_if b q v p)))
  unfolding decides_if decides changed joins_estimates relays_if takes quiet
  heeds true true e f =
      record {
        round = refl;
        phase = refl;
        tally = refl;
        majority = λ u w. f;
        first = (relay-two e, round);
        second = tt;
        relays = λ two z. ap (λ (r : ℕ). Some (E r q v)) round;
      }
  heeds true false e f =
      record {
        round = refl;
        phase = refl;
        tally = refl;
        majority = λ u w. never u w;
        first = (relay-two e, round);
        second = tt;
        relays = λ two z. ap (λ (r : ℕ). Some (E r q v)) round;
      }
  heeds false true e f =
      record {
        round = refl;
        phase = refl;
        tally = refl;
        majority = λ u w. f;
        first = tt;
        second = tt;
        relays = λ two z. never e (two-relay two z);
      }
  heeds false false e f =
      record {
        round = refl;
        phase = refl;
        tally = refl;
        majority = λ u w. never u w;
        first = tt;
        second = tt;
        relays = λ two z. never e (two-relay two z);
      }

  on_e-heeds : (r : ℕ) → r ≡ 0 → Heeded n i j q v p (on_e n i j r q v p)
  unfolding on_e decides_at relays jumps jumps_if changed joins_estimates relays_if takes quiet
  on_e-heeds r z =
      subst (λ (t : Bool). Heeded n i j q v p (decides_at n (changed (joins_estimates j) (relays n i q v (jumps_if t r q v p)))))
      (sym (le-ltb p.round r (omega arith))) (by relay refl)
    where
      by : (b : Bool) → relay ≡ b → Heeded n i j q v p (decides_at n (changed (joins_estimates j) (relays_if b q v p)))
      by true e = heeds true (meets (joined p.estimates j) n) e refl
      by false e = heeds false (meets (joined p.estimates j) n) e refl

-- two who are counted are not both process 1
two-held : (p : ℕ → Bool) (n : ℕ) → 2 ≤ count p n → (j : ℕ) × (2 ≤ j) × (j ≤ n) × (p j ≡ true)
unfolding count
two-held p zero h = absurd (omega arith)
two-held p (suc zero) h = absurd (omega (arith, count-le p 1))
two-held p (suc (suc n)) h = go (p (suc (suc n))) refl (two-held p (suc n))
  where
    go : (b : Bool) → p (suc (suc n)) ≡ b → (2 ≤ count p (suc n) → (j : ℕ) × (2 ≤ j) × (j ≤ suc n) × (p j ≡ true))
        → (j : ℕ) × (2 ≤ j) × (j ≤ suc (suc n)) × (p j ≡ true)
    go true e ih = (suc (suc n), omega arith, omega arith, e)
    go false e ih = let z : bit_of (p (suc (suc n))) ≡ 0 = ap bit_of e in let r = ih (omega arith) in (r.0, r.1, omega (arith, r.2), r.3)

-- no message of another kind or round comes: what rows 3, 4 and 6 leave
not_there : {A : Type 0} (n : ℕ) (l d : List ℕ) (i j r k : ℕ) → Entries l d → n ≤ greatest_size → k ≤ 2 → 1 ≤ r + k → not (every (among n) (i ∷ j ∷ [])) ≡ false
    → ltb last_round r ≡ false → eqb (get_or l (slot r j k) 0) 0 ≡ false → A
not_there n l d i j r k e few kind more known early sent =
    let from = second-among n i j [] known in
    absurd
    (eqb-false (get_or l (slot r j k) 0) 0 sent
    (e.none r j k (record { round = ltb-false last_round r early; low = from.0; high = omega (arith, from.1); kind = kind }) more))

-- ---- a step that delivers an E

module _ (vs : List ℕ) (a : State) (h : DeepBasic vs a) (took : ℕ → Bool) (good : Good took a) (i j r : ℕ) (c : Bool) (t : Took a (DeliverE i j r c))
    (led : (not (takes_e a (DeliverE i j r c)) || (took i || eqb j 1)) ≡ true) where
  abbrev step : Step
  step = DeliverE i j r c

  abbrev before : Process
  before = process_at a.group i

  abbrev place : ℕ
  place = slot 0 i kind_e

  -- its taker, its sender, and its message, which is of round 0
  to : (1 ≤ i) × (i ≤ a.group.n)
  unfolding taker_of
  to = taker-in a.group step t.passed.known

  from : (1 ≤ j) × (j ≤ a.group.n)
  unfolding strange numbers_of
  from = second-among a.group.n i j [] t.passed.known

  arrives : get_or a.store (slot r j kind_e) 0 ≢ 0
  unfolding unsent delivers entry_in slot_of
  arrives = eqb-false (get_or a.store (slot r j kind_e) 0) 0 t.passed.sent

  round-none : r ≡ 0
  unfolding strange numbers_of late round_of unsent delivers entry_in slot_of
  round-none = by (ℕ_discrete r 0)
    where
      by : Dec (r ≡ 0) → r ≡ 0
      by (yes e) = e
      by (no ne) =
          not_there a.group.n a.store a.depths i j r kind_e good.entries (deep-few vs a h) (omega arith) (omega arith) t.passed.known t.passed.early
          t.passed.sent

  first_one : took i ≡ false → j ≡ 1
  unfolding delivers_e
  first_one f = by (or_case (not (takes_e a step)) (took i || eqb j 1) led)
    where
      or-by : (took i ≡ true) ⊎ (eqb j 1 ≡ true) → j ≡ 1
      or-by (inl e) = never f e
      or-by (inr e) = eqb-true j 1 e

      by : (not (takes_e a step) ≡ true) ⊎ ((took i || eqb j 1) ≡ true) → j ≡ 1
      by (inl e) = never (not-true (takes_e a step) e) t.applies
      by (inr e) = or-by (or_case (took i) (eqb j 1) e)

  -- the taker before it
  mine : Early i (took i) before (process_depth a i) (get_or a.store place 0)
  mine = good.each i to.0 to.1

  unmoved : before.decided ≡ false
  unfolding taker_of delivers
  unmoved = heard-undecided a.group step refl t.busy

  -- its depth after it
  deeper : process_depth (next a step) i ≡ max (process_depth a i) (message_depth a (slot r j kind_e) + 1)
  unfolding taker_of delivers slot_of
  deeper = depth-heard vs a h step (record { delivery = refl; applied = t.applies; not-idle = t.busy })

  hops : Hop i before.estimates (get_or a.store place 0) j (process_depth (next a step) i)
  hops =
      subst (λ (k : ℕ). Hop i before.estimates (get_or a.store place 0) j k) (sym deeper)
      (hop i (took i) before.estimates (process_depth a i) (get_or a.store place 0) j (message_depth a (slot r j kind_e)) (mine.undecided unmoved) from.0 first_one
      (λ e. ap (λ (q : ℕ). message_depth a q) (omega (arith, round-none)) ∙ good.entries.first-depth)
      (λ two.
      let same : slot r j kind_e ≡ slot 0 j kind_e = omega (arith, round-none) in
      ap (λ (q : ℕ). message_depth a q) same
      ∙ good.entries.relayed j two (omega (arith, from.1, deep-few vs a h)) (λ z. arrives (ap (λ (q : ℕ). get_or a.store q 0) same ∙ z))))

  -- what it does
  heeded : Heeded a.group.n i j (proposer_of (entry_in a.store step)) (value_of (entry_in a.store step)) before (event_of a.group a.store step)
  unfolding event_of
  heeded =
      on_e-heeds a.group.n i j (proposer_of (entry_in a.store step)) (value_of (entry_in a.store step)) before to.0 mine.round r round-none

  -- its own E is sent
  own-sent : 2 ≤ i → get_or (next a step).store place 0 ≢ 0
  unfolding taker_of place_of
  own-sent two = by (took i) refl
    where
      by : (b : Bool) → took i ≡ b → get_or (next a step).store place 0 ≢ 0
      by true f = stays vs a h step t place ((mine.undecided unmoved).sent f two)
      by false f =
          let e = heeded.relays two ((mine.undecided unmoved).untaken f).1 in
          let x = event_of a.group a.store step in
          λ z.
          first-sent a.group.n i x a.store t.taking h.basic.long (subst IsMessage (sym e) tt)
          (ap (λ (m : Option Message). get_or (hand_overs i x a.store) (place_by i m) 0) e ∙ ap (λ (l : List ℕ). get_or l place 0) (sym t.store) ∙ z)

  good-E : Good (took_by took a step) (next a step)
  unfolding taker_of delivers_e
  good-E =
      good-kept vs a h step t (2 ≤ i) heeded.first heeded.second took (took_by took a step) (took-other took a step) hops.new good
      (record {
        round = heeded.round ∙ mine.round;
        phase = heeded.phase ∙ mine.phase;
        undecided = λ u.
            record {
              untaken = λ f. never f (took-own took a step t.applies);
              taken = λ f. (hops.low, hops.high);
              sent = λ f two. own-sent two;
              heard = λ m two f. hops.heard m two (ap (λ (k : ℕ). holds k m) (sym heeded.tally) ∙ f);
            };
      })

  -- where it decides, its depth is 2
  decides-two : 2 ≤ a.group.n → (process_of (next a step) i).decided ≡ true → process_depth (next a step) i ≡ 2
  unfolding taker_of
  decides-two two d =
      let now = heeded.majority unmoved (ap (λ (p : Process). p.decided) (sym (own-process vs a h step t)) ∙ d) in
      let all = (deep-whole vs a h).each i to.0 to.1 in
      let n = a.group.n in
      let many = meets-count (joined before.estimates j) n (joined-below before.estimates j n all.heard from.0 from.1) now in
      let w = two-held (holds (joined before.estimates j)) n (omega (arith, many)) in
      omega (arith, hops.heard w.0 w.1 w.3, hops.high)

-- ---- the other steps

-- a process that was p, at the depth k, becomes q, at the depth k'
record Calm (p q : Process) (k k' : ℕ) : Type 0 where
  round : q.round ≡ p.round
  phase : q.phase ≡ p.phase
  undecided : q.decided ≡ false → (p.decided ≡ false) × (k' ≡ k) × ((q.estimates ≡ p.estimates) ⊎ (q.estimates ≡ 0))

calm-early : (i : ℕ) (t : Bool) (p q : Process) (k k' e e' : ℕ) → (e ≢ 0 → e' ≢ 0) → Calm p q k k' → Early i t p k e → Early i t q k' e'
calm-early i t p q k k' e e' stay m old = record { round = m.round ∙ old.round; phase = m.phase ∙ old.phase; undecided = go }
  where
    empties : (q.estimates ≡ p.estimates) ⊎ (q.estimates ≡ 0) → p.estimates ≡ 0 → q.estimates ≡ 0
    empties (inl f) z = f ∙ z
    empties (inr f) z = f

    holders : (q.estimates ≡ p.estimates) ⊎ (q.estimates ≡ 0) → (j : ℕ) → holds q.estimates j ≡ true → holds p.estimates j ≡ true
    holders (inl f) j y = ap (λ (x : ℕ). holds x j) (sym f) ∙ y
    holders (inr f) j y = never (ap (λ (x : ℕ). holds x j) f ∙ holds-empty j) y

    go : q.decided ≡ false → Open i t q.estimates k' e'
    go u =
        let w = m.undecided u in
        let o = old.undecided w.0 in
        record {
          untaken = λ f. (w.1 ∙ (o.untaken f).0, empties w.2 (o.untaken f).1);
          taken = λ f. (omega (arith, w.1, (o.taken f).0), omega (arith, w.1, (o.taken f).1));
          sent = λ f two. stay (o.sent f two);
          heard = λ j two y. omega (arith, w.1, o.heard j two (holders w.2 j y));
        }

module _ (vs : List ℕ) (a : State) (h : DeepBasic vs a) (took : ℕ → Bool) (good : Good took a) where
  -- a step that takes no E and hands none over
  good-calm : (s : Step) → Took a s → takes_e a s ≡ false → Mild ⊥ (event_of a.group a.store s).first → Mild ⊥ (event_of a.group a.store s).second
      → Calm (process_at a.group (taker_of s)) (event_of a.group a.store s).process (process_depth a (taker_of s)) (process_depth (next a s) (taker_of s))
      → Good (took_by took a s) (next a s)
  good-calm s t no-e one two m =
      let i = taker_of s in
      let same = took-none took a s no-e in
      good-kept vs a h s t ⊥ one two took (took_by took a s) (λ k ne. same k) (λ x. absurd x) good
      (subst (λ (b : Bool). Early i b (event_of a.group a.store s).process (process_depth (next a s) i) (get_or (next a s).store (slot 0 i kind_e) 0)) (sym (same i))
      (calm-early i (took i) (process_at a.group i) (event_of a.group a.store s).process (process_depth a i) (process_depth (next a s) i) (get_or a.store (slot 0 i kind_e) 0)
      (get_or (next a s).store (slot 0 i kind_e) 0) (stays vs a h s t (slot 0 i kind_e)) m (good.each i t.taking.low t.taking.high)))

  -- every step that a process takes
  good-taken : (s : Step) → Took a s → is_suspicion s ≡ false → (not (takes_e a s) || (took (taker_of s) || eqb (sender_of s) 1)) ≡ true → Good (took_by took a s) (next a s)
  unfolding is_suspicion taker_of sender_of delivers_e delivers event_of on_decision decides on_pause paused on_crash crashed on_recover recovered quiet strange numbers_of late round_of unsent entry_in slot_of
  good-taken (DeliverE i j r c) t plain led = good-E vs a h took good i j r c t led
  good-taken (DeliverS i j r c) t plain led =
      not_there a.group.n a.store a.depths i j r kind_s good.entries (deep-few vs a h) (omega arith) (omega arith) t.passed.known t.passed.early t.passed.sent
  good-taken (DeliverF i j r c) t plain led =
      not_there a.group.n a.store a.depths i j r kind_f good.entries (deep-few vs a h) (omega arith) (omega arith) t.passed.known t.passed.early t.passed.sent
  good-taken (DeliverDecision i j c) t plain led =
      good-calm (DeliverDecision i j c) t refl tt tt (record { round = refl; phase = refl; undecided = λ u. never u refl })
  good-taken (Suspect i c) t plain led = never plain refl
  good-taken (Pause i) t plain led =
      good-calm (Pause i) t refl tt tt
      (record { round = refl; phase = refl; undecided = λ u. (u, depth-unheard vs a h (Pause i) i t.taking.low (λ w e. never refl w.delivery), inl refl) })
  good-taken (Crash i) t plain led =
      good-calm (Crash i) t refl tt tt
      (record { round = refl; phase = refl; undecided = λ u. (u, depth-unheard vs a h (Crash i) i t.taking.low (λ w e. never refl w.delivery), inr refl) })
  good-taken (Recover i) t plain led =
      good-calm (Recover i) t refl tt tt
      (record { round = refl; phase = refl; undecided = λ u. (u, depth-unheard vs a h (Recover i) i t.taking.low (λ w e. never refl w.delivery), inl refl) })

  -- every plain step
  good-next : (s : Step) → (not (is_suspicion s) && not (is_cut s)) ≡ true → (not (takes_e a s) || (took (taker_of s) || eqb (sender_of s) 1)) ≡ true
      → Good (took_by took a s) (next a s)
  good-next s plain_step led =
      by (step-took vs a s h (not-true (is_cut s) (and_right (not (is_suspicion s)) (not (is_cut s)) plain_step)))
    where
      by : ((next a s ≡ a) × ((says a s).applied ≡ false)) ⊎ Took a s → Good (took_by took a s) (next a s)
      by (inl (e, u)) =
          subst (Good (took_by took a s)) (sym e) (good-same took (took_by took a s) a (took-none took a s (and_no (delivers_e s) (says a s).applied u)) good)
      by (inr t) = good-taken s t (not-true (is_suspicion s) (and_left (not (is_suspicion s)) (not (is_cut s)) plain_step)) led

-- ---- the start

good_start : (vs l d : List ℕ) → Begins vs l d → Good (λ i. false) (start_state vs l d)
unfolding begun fresh
good_start vs l d b =
    record {
      each = each;
      entries =
          record {
            none = none;
            first = first;
            first-depth = first-depth;
            relayed = λ j lo hi sent. absurd (sent (other (slot 0 j kind_e) (omega arith) (omega arith)));
          };
    }
  where
    a : State
    a = start_state vs l d

    long : store_length ≤ length l
    long = b.long

    store : a.store ≡ (begun vs l).store
    store = ap (λ (a : State). a.store) (start-deep vs l d b)

    group : a.group ≡ (begun vs l).group
    group = ap (λ (a : State). a.group) (start-deep vs l d b)

    other : (q : ℕ) → q ≢ 0 → q < store_length → get_or a.store q 0 ≡ 0
    other q ne lt = ap (λ (m : List ℕ). get_or m q 0) store ∙ opened-other (get_or vs 0 0) l long q ne lt

    none : (r j k : ℕ) → Place r j k → 1 ≤ r + k → get_or a.store (slot r j k) 0 ≡ 0
    none r j k p le = other (slot r j k) (omega (arith, p.low)) (omega (arith, p.round, p.high, p.kind))

    first : get_or a.store 0 0 ≢ 0
    first z = entry-nonzero 1 (get_or vs 0 0) (omega arith) (sym (opened-own (get_or vs 0 0) l long) ∙ ap (λ (m : List ℕ). get_or m 0 0) (sym store) ∙ z)

    first-depth : message_depth a 0 ≡ 0
    first-depth =
        let sent : sent_in a.store store_length ≡ 1 = ap (λ (m : List ℕ). sent_in m store_length) store ∙ opened-sent (get_or vs 0 0) l long in
        omega (arith, (deep-start vs l d b).messages 0 (omega arith))

    each : (i : ℕ) → 1 ≤ i → i ≤ a.group.n → Early i false (process_at a.group i) (process_depth a i) (get_or a.store (slot 0 i kind_e) 0)
    each i lo hi =
        let le : i ≤ length vs = omega (arith, ap (λ (g : Group). g.n) group, started-size vs (length vs)) in
        let is = ap (λ (g : Group). process_at g i) group ∙ started-process vs (length vs) i lo le b.few in
        record {
          round = ap (λ (p : Process). p.round) is;
          phase = ap (λ (p : Process). p.phase) is;
          undecided = λ u.
              record {
                untaken = λ f. (
                  ap (λ (b : State). process_depth b i) (start-deep vs l d b) ∙ depth-started vs (length vs) i,
                  ap (λ (p : Process). p.estimates) is,
                );
                taken = λ f. never refl f;
                sent = λ f two. never refl f;
                heard = λ j two f. never (ap (λ (p : Process). holds p.estimates j) is ∙ holds-empty j) f;
              };
        }

-- ---- statement 13

-- from any such state on: process i decides by the E after the steps ts
two_from : (vs : List ℕ) (a : State) (took : ℕ → Bool) (ts us : List Step) (i j r : ℕ) (c : Bool) → DeepBasic vs a → Good took a → 2 ≤ length vs
    → plain (ts ++ (DeliverE i j r c ∷ us)) ≡ true → led_by took a (ts ++ (DeliverE i j r c ∷ us)) ≡ true
    → (process_of (after a ts) i).decided ≡ false → (process_of (next (after a ts) (DeliverE i j r c)) i).decided ≡ true
    → process_depth (next (after a ts) (DeliverE i j r c)) i ≡ 2
unfolding after plain led_by taker_of sender_of
two_from vs a took [] us i j r c h good two p led old new =
    by (step-took vs a s h (not-true (is_cut s) (and_right (not (is_suspicion s)) (not (is_cut s)) (and_left (not (is_suspicion s) && not (is_cut s)) (plain us) p))))
  where
    s : Step
    s = DeliverE i j r c

    rest : Bool
    rest = led_by (took_by took a s) (next a s) us

    by : ((next a s ≡ a) × ((says a s).applied ≡ false)) ⊎ Took a s → process_depth (next a s) i ≡ 2
    by (inl (e, u)) = never (ap (λ (b : State). (process_of b i).decided) e ∙ old) new
    by (inr t) =
        decides-two vs a h took good i j r c t (and_left (not (takes_e a s) || (took i || eqb j 1)) rest led) (omega (arith, deep-size vs a h)) new
two_from vs a took (s ∷ ts) us i j r c h good two p led old new =
    let more = ts ++ (DeliverE i j r c ∷ us) in
    let now = not (takes_e a s) || (took (taker_of s) || eqb (sender_of s) 1) in
    let rest = led_by (took_by took a s) (next a s) more in
    two_from vs (next a s) (took_by took a s) ts us i j r c (deep-next vs a h s)
    (good-next vs a h took good s (and_left (not (is_suspicion s) && not (is_cut s)) (plain more) p) (and_left now rest led)) two
    (and_right (not (is_suspicion s) && not (is_cut s)) (plain more) p) (and_right now rest led) old new

pub two_steps : TwoSteps
unfolding after
two_steps vs l d ss b ts us i j r c two p led split o old new =
    let s = DeliverE i j r c in
    let a = at vs l d ts in
    let now =
    two_from vs (start_state vs l d) (λ i. false) ts us i j r c (deep-start vs l d b) (good_start vs l d b) two (ap plain (sym split) ∙ p)
    (ap (led_by (λ i. false) (start_state vs l d)) (sym split) ∙ led) old new in (
      now,
      ap (λ (ss : List Step). process_depth (at vs l d ss) i) split ∙ ap (λ (b : State). process_depth b i) (deep_more (start_state vs l d) ts (s ∷ us))
          ∙ decided-depth vs i o.low (next a s) us (deep-next vs a (deep-basic vs l d ts b) s) (omega (arith, o.high, b.few)) new ∙ now,
    )
