-- What a process has said it still knows: of each S that it sent it has the mark, unless it is in a later round, and of its decision that it decided. Assumes nothing.
use Rattle.std.specs.Prelude.{Option, Some, None}
use mathlib.Core.Path.{◌≡◌, refl, sym, ap, subst, ◌∙◌}
use mathlib.Core.Bool.{Bool, true, false}
use mathlib.Core.List.{List}
use mathlib.Core.Logic.{◌≢◌}
use Prim.Native.Nat.{ℕ, ◌≤◌, ◌<◌}
use native.Mathlib.Decide.{ℕ_discrete}
use native.Mathlib.Nat.{le_refl, le_trans}
use native.Mathlib.Omega.{arith}
use lib.Dec.{ltb}
use lib.ListN.{length, get_or}
use borrow.Author.Tests.{ltb-true}
use Rattle.rules.specs.declared.group.Group.{Group}
use Rattle.rules.specs.declared.process.Process.{Process}
use Rattle.rules.specs.declared.process.Next.{Next}
use Rattle.rules.specs.declared.process.Message.{Message}
use Rattle.rules.specs.declared.process.Message.TheVariants.{E, S, F, Decision}
use Rattle.rules.specs.declared.step.Step.{Step}
use Rattle.rules.specs.declared.step.Step.TheVariants.{DeliverE, DeliverS, DeliverF, DeliverDecision, Suspect, Pause, Crash, Recover}
use Rattle.rules.specs.Limits.{greatest_size, last_round, store_length}
use Rattle.rules.specs.Layout.{process_at, with_process, Sized}
use Rattle.rules.specs.Store.{slot, decision_slot, kind_s, place_of, message_round, hand_over}
use Rattle.rules.proofs.Laws.Store.{place_by}
use Rattle.rules.specs.Events.{takes, enters, joins_estimates, joins_suspicions, decides, second_phase, marks, paused, crashed, recovered, quiet, changed, jumps_if, jumps}
use Rattle.rules.specs.Events.{relays_if, relays, decides_if, decides_at, goes_to_phase2, goes_to_phase2_if, to_phase2, adopts_if, adopts, opens_if, opens, enters_next_if}
use Rattle.rules.specs.Events.{enters_next_at, on_e, on_s, on_f, on_decision, on_suspect, on_pause, on_crash, on_recover, cut_if}
use Rattle.rules.specs.Kinds.{taker_of, is_cut, event_of}
use Rattle.rules.specs.Step.{Course, Idles, Refuses, Takes, hand_overs}
use Rattle.rules.specs.Start.{started_to, opened}
use Rattle.rules.proofs.Bare.Run.{State, start_state, next}
use Rattle.rules.proofs.Bare.Statements.{Begins, at}
use Rattle.rules.proofs.Bare.Step.{begun, course, settled, stepped}
use Rattle.rules.proofs.Laws.Store.{slot_same, hand_over-other, opened-other}
use Rattle.rules.proofs.Laws.Group.{process-put, process-kept, started-size}
use Rattle.rules.proofs.Laws.Sound.{Taking, Fine, course-fine}
use Rattle.rules.proofs.Runs.Basics.{basic-start, start_is}
use Rattle.rules.proofs.Runs.Cases.{throughout, course-by}

-- ---- a process goes on

-- its round does not fall, in one round it keeps its mark, and it keeps a decision
record Onward (p q : Process) : Type 0 where
  rounds : p.round ≤ q.round
  marks : p.round ≡ q.round → p.marked ≡ true → q.marked ≡ true
  decides : p.decided ≡ true → q.decided ≡ true

onward-same : {p q : Process} → p.round ≡ q.round → p.marked ≡ q.marked → p.decided ≡ q.decided → Onward p q
onward-same a b c = record { rounds = omega arith; marks = λ e m. sym b ∙ m; decides = λ d. sym c ∙ d }

onward-past : {p q : Process} → p.round < q.round → (p.decided ≡ true → q.decided ≡ true) → Onward p q
onward-past lt d = record { rounds = omega arith; marks = λ e m. absurd (omega arith); decides = d }

onward-on : {p q r : Process} → Onward p q → Onward q r → Onward p r
onward-on {p} {q} {r} a b =
    record {
      rounds = le_trans a.rounds b.rounds;
      marks = λ e m. b.marks (omega (arith, a.rounds, b.rounds)) (a.marks (omega (arith, a.rounds, b.rounds)) m);
      decides = λ d. b.decides (a.decides d);
    }

-- ---- what its messages say of it

-- an S, that it is marked in that round; a decision, that it has decided
abbrev True : Process → Option Message → Type 0
True q None = Unit {0}
True q (Some (E r p v)) = Unit {0}
True q (Some (S r)) = (r ≡ q.round) × (q.marked ≡ true)
True q (Some (F r p v)) = Unit {0}
True q (Some (Decision v)) = q.decided ≡ true

-- process p takes an event: it goes on, and its messages are true of it
record Speaks (p : Process) (x : Next) : Type 0 where
  onward : Onward p x.process
  first : True x.process x.first
  second : True x.process x.second

-- on the way its messages say nothing of it
record Half (p : Process) (x : Next) : Type 0 where
  onward : Onward p x.process
  first : (q : Process) → True q x.first
  second : (q : Process) → True q x.second

half-speaks : {p : Process} (x : Next) → Half p x → Speaks p x
half-speaks x h = record { onward = h.onward; first = h.first x.process; second = h.second x.process }

-- ---- the stages

half-quiet : {p q : Process} → Onward p q → Half p (quiet q)
unfolding quiet
half-quiet h = record { onward = h; first = λ q. tt; second = λ q. tt }

onward-jumps : (t : Bool) (r q v : ℕ) (p : Process) → ltb p.round r ≡ t → Onward p (jumps_if t r q v p)
unfolding jumps_if takes enters
onward-jumps true r q v p e = onward-past (ltb-true p.round r e) (λ d. d)
onward-jumps false r q v p e = onward-same refl refl refl

half-relays : {p : Process} (t : Bool) (q v : ℕ) (p₁ : Process) → Onward p p₁ → Half p (relays_if t q v p₁)
unfolding relays_if takes
half-relays true q v p₁ h = record { onward = onward-on h (onward-same refl refl refl); first = λ q. tt; second = λ q. tt }
half-relays false q v p₁ h = half-quiet h

half-joins : {p : Process} (j : ℕ) (x : Next) → Half p x → Half p (changed (joins_estimates j) x)
unfolding changed joins_estimates
half-joins j x h = record { onward = onward-on h.onward (onward-same refl refl refl); first = h.first; second = h.second }

speaks-decides : {p : Process} (t : Bool) (x : Next) → Half p x → Speaks p (decides_if t x)
unfolding decides_if decides
speaks-decides true x h =
    record {
      onward = onward-on h.onward (record { rounds = le_refl x.process.round; marks = λ e m. m; decides = λ d. refl });
      first = h.first (decides x.process.value x.process);
      second = refl;
    }
speaks-decides false x h = half-speaks x h

half-phase2 : {p : Process} (t : Bool) (p₁ : Process) → Onward p p₁ → Half p (goes_to_phase2_if t p₁)
unfolding goes_to_phase2_if goes_to_phase2 second_phase
half-phase2 true p₁ h = record { onward = onward-on h (onward-same refl refl refl); first = λ q. tt; second = λ q. tt }
half-phase2 false p₁ h = half-quiet h

half-adopts : {p : Process} (t : Bool) (q v : ℕ) (x : Next) → Half p x → Half p (adopts_if t q v x)
unfolding adopts_if changed takes
half-adopts true q v x h = record { onward = onward-on h.onward (onward-same refl refl refl); first = h.first; second = h.second }
half-adopts false q v x h = h

opens-true : (t : Bool) (i r v : ℕ) (q : Process) → True q (opens_if t i r v)
unfolding opens_if
opens-true true i r v q = tt
opens-true false i r v q = tt

half-next : {p : Process} (t : Bool) (n i : ℕ) (x : Next) → Half p x → Half p (enters_next_if t n i x)
unfolding enters_next_if enters takes opens
half-next true n i x h =
    record {
      onward = onward-on h.onward (onward-past (omega arith) (λ d. d));
      first = h.first;
      second = opens-true _ i _ x.process.value;
    }
half-next false n i x h = h

-- ---- the events

speaks-crash : (p : Process) → Speaks p (on_crash p)
unfolding on_crash crashed quiet
speaks-crash p = record { onward = onward-same refl refl refl; first = tt; second = tt }

speaks-cut : {p : Process} (c : Bool) (x : Next) → Speaks p x → Speaks p (cut_if c x)
unfolding cut_if on_crash crashed quiet
speaks-cut true x h = record { onward = onward-on h.onward (onward-same refl refl refl); first = tt; second = tt }
speaks-cut false x h = h

speaks-event : (g : Group) (l : List ℕ) (s : Step) → Speaks (process_at g (taker_of s)) (event_of g l s)
unfolding event_of taker_of on_e decides_at relays jumps on_s joins_suspicions on_f enters_next_at adopts to_phase2 on_decision decides on_suspect marks on_pause paused on_crash crashed on_recover recovered quiet
speaks-event g l (DeliverE i j r c) =
    let p = process_at g i in
    speaks-decides _ _ (half-joins j _ (half-relays _ _ _ _ (onward-jumps (ltb p.round r) r _ _ p refl)))
speaks-event g l (DeliverS i j r c) = half-speaks _ (half-phase2 _ _ (onward-same refl refl refl))
speaks-event g l (DeliverF i j r c) =
    let p = process_at g i in
    half-speaks _ (half-next _ g.n i _ (half-joins j _ (half-adopts _ _ _ _ (half-phase2 _ _ (onward-jumps (ltb p.round r) r _ _ p refl)))))
speaks-event g l (DeliverDecision i j c) =
    record { onward = record { rounds = le_refl (process_at g i).round; marks = λ e m. m; decides = λ d. refl }; first = refl; second = tt }
speaks-event g l (Suspect i c) =
    record { onward = record { rounds = le_refl (process_at g i).round; marks = λ e m. refl; decides = λ d. d }; first = (refl, refl); second = tt }
speaks-event g l (Pause i) = record { onward = onward-same refl refl refl; first = tt; second = tt }
speaks-event g l (Crash i) = record { onward = onward-same refl refl refl; first = tt; second = tt }
speaks-event g l (Recover i) = record { onward = onward-same refl refl refl; first = tt; second = tt }

-- the process that takes a course
abbrev SpeaksBy : Group → Course → Type 0
SpeaksBy g Idles = Unit {0}
SpeaksBy g (Refuses k) = Unit {0}
SpeaksBy g (Takes i x) = Speaks (process_at g i) x

course-speaks : (g : Group) (l : List ℕ) (s : Step) → SpeaksBy g (course g l s)
course-speaks g l s =
    course-by (SpeaksBy g) g l s tt (λ k. tt) (λ h e. speaks-crash (process_at g (taker_of s)))
    (λ h e. speaks-cut (is_cut s) (event_of g l s) (speaks-event g l s))

-- ---- a state

-- process p has come to round r, and if it is there it is marked
pub record Marked (r : ℕ) (p : Process) : Type 0 where
  pub came : r ≤ p.round
  pub mark : r ≡ p.round → p.marked ≡ true

pub record Spoken (g : Group) (l : List ℕ) : Type 0 where
  pub suspicions : (i r : ℕ) → 1 ≤ i → i ≤ g.n → r ≤ last_round → get_or l (slot r i kind_s) 0 ≢ 0 → Marked r (process_at g i)
  pub decisions : (i : ℕ) → 1 ≤ i → i ≤ g.n → get_or l (decision_slot i) 0 ≢ 0 → (process_at g i).decided ≡ true

marked-on : {r : ℕ} {p q : Process} → Onward p q → Marked r p → Marked r q
marked-on {r} {p} {q} o m =
    record {
      came = le_trans m.came o.rounds;
      mark = λ e.
          let same : r ≡ p.round = omega (arith, o.rounds, m.came) in
          o.marks (omega (arith, o.rounds, m.came)) (m.mark same);
    }

-- the place of an S is that of no other message; nor is that of a decision
S-place : (i r t : ℕ) (m : Option Message) (q : Process) → 1 ≤ i → i ≤ greatest_size → r ≤ last_round → 1 ≤ t → t ≤ greatest_size → message_round m ≤ last_round
    → slot r i kind_s ≡ place_by t m → True q m → (i ≡ t) × Marked r q
unfolding place_of message_round
S-place i r t None q lo hi le lo' hi' le' e w = absurd (omega arith)
S-place i r t (Some (E k p v)) q lo hi le lo' hi' le' e w = absurd (omega arith)
S-place i r t (Some (S k)) q lo hi le lo' hi' le' e w =
    let same = slot_same r i kind_s k t kind_s (record { round = le; low = lo; high = hi; kind = omega arith })
    (record { round = le'; low = lo'; high = hi'; kind = omega arith }) e in
    (same.1, record { came = omega (arith, same.0, w.0); mark = λ z. w.1 })
S-place i r t (Some (F k p v)) q lo hi le lo' hi' le' e w = absurd (omega arith)
S-place i r t (Some (Decision v)) q lo hi le lo' hi' le' e w = absurd (omega arith)

D-place : (i t : ℕ) (m : Option Message) (q : Process) → 1 ≤ i → 1 ≤ t → t ≤ greatest_size → message_round m ≤ last_round
    → decision_slot i ≡ place_by t m → True q m → (i ≡ t) × (q.decided ≡ true)
unfolding place_of message_round
D-place i t None q lo lo' hi' le' e w = absurd (omega arith)
D-place i t (Some (E k p v)) q lo lo' hi' le' e w = absurd (omega arith)
D-place i t (Some (S k)) q lo lo' hi' le' e w = absurd (omega arith)
D-place i t (Some (F k p v)) q lo lo' hi' le' e w = absurd (omega arith)
D-place i t (Some (Decision v)) q lo lo' hi' le' e w = (omega arith, w)

-- an entry that is sent after the handing over was sent before, or is of one of the two messages
overs-cases : {A : Type 0} (i : ℕ) (x : Next) (l : List ℕ) (k : ℕ) → get_or (hand_overs i x l) k 0 ≢ 0 → (get_or l k 0 ≢ 0 → A) → (k ≡ place_by i x.first → A)
    → (k ≡ place_by i x.second → A) → A
unfolding hand_overs
overs-cases {A} i x l k ne old one two = go (ℕ_discrete k (place_by i x.first)) (ℕ_discrete k (place_by i x.second))
  where
    go : Dec (k ≡ place_by i x.first) → Dec (k ≡ place_by i x.second) → A
    go (yes e) d = one e
    go (no a) (yes e) = two e
    go (no a) (no b) =
        old (λ z. ne (hand_over-other i x.second (hand_over i x.first l) k b ∙ hand_over-other i x.first l k a ∙ z))

-- one step
module _ (g : Group) (l : List ℕ) (sized : Sized g) (few : g.n ≤ greatest_size) (h : Spoken g l) where
  spoken-taken : (t : ℕ) (x : Next) → Taking g.n t x → Speaks (process_at g t) x → Spoken (with_process g t x.process) (hand_overs t x l)
  unfolding with_process
  spoken-taken t x f w =
      record {
        suspicions = λ i r lo hi le ne. S-by i r lo hi le ne (ℕ_discrete i t);
        decisions = λ i lo hi ne. D-by i lo hi ne (ℕ_discrete i t);
      }
    where
      q : Process
      q = x.process

      own : (i : ℕ) → i ≡ t → process_at (with_process g t q) i ≡ q
      own i e = ap (process_at (with_process g t q)) e ∙ process-put g t q sized f.low f.small

      rest : (i : ℕ) → 1 ≤ i → i ≤ g.n → i ≢ t → process_at (with_process g t q) i ≡ process_at g i
      rest i lo hi ne = process-kept g t i q f.low f.small lo (le_trans hi few) ne

      S-by : (i r : ℕ) → 1 ≤ i → i ≤ g.n → r ≤ last_round → get_or (hand_overs t x l) (slot r i kind_s) 0 ≢ 0 → Dec (i ≡ t) → Marked r (process_at (with_process g t q) i)
      S-by i r lo hi le ne (yes e) =
          subst (Marked r) (sym (own i e))
          (overs-cases t x l (slot r i kind_s) ne
          (λ sent. marked-on w.onward (subst (λ (j : ℕ). Marked r (process_at g j)) e (h.suspicions i r lo hi le sent)))
          (λ z. (S-place i r t x.first q lo (le_trans hi few) le f.low f.small f.first z w.first).1)
          (λ z. (S-place i r t x.second q lo (le_trans hi few) le f.low f.small f.second z w.second).1))
      S-by i r lo hi le ne (no away) =
          subst (Marked r) (sym (rest i lo hi away))
          (overs-cases t x l (slot r i kind_s) ne (h.suspicions i r lo hi le)
          (λ z. absurd (away (S-place i r t x.first q lo (le_trans hi few) le f.low f.small f.first z w.first).0))
          (λ z. absurd (away (S-place i r t x.second q lo (le_trans hi few) le f.low f.small f.second z w.second).0)))

      D-by : (i : ℕ) → 1 ≤ i → i ≤ g.n → get_or (hand_overs t x l) (decision_slot i) 0 ≢ 0 → Dec (i ≡ t) → (process_at (with_process g t q) i).decided ≡ true
      D-by i lo hi ne (yes e) =
          subst (λ (p : Process). p.decided ≡ true) (sym (own i e))
          (overs-cases t x l (decision_slot i) ne
          (λ sent. w.onward.decides (subst (λ (j : ℕ). (process_at g j).decided ≡ true) e (h.decisions i lo hi sent)))
          (λ z. (D-place i t x.first q lo f.low f.small f.first z w.first).1)
          (λ z. (D-place i t x.second q lo f.low f.small f.second z w.second).1))
      D-by i lo hi ne (no away) =
          subst (λ (p : Process). p.decided ≡ true) (sym (rest i lo hi away))
          (overs-cases t x l (decision_slot i) ne (h.decisions i lo hi)
          (λ z. absurd (away (D-place i t x.first q lo f.low f.small f.first z w.first).0))
          (λ z. absurd (away (D-place i t x.second q lo f.low f.small f.second z w.second).0)))

  spoken-step : (s : Step) → Spoken (stepped g l s).group (stepped g l s).store
  unfolding stepped settled
  spoken-step s = go (course g l s) (course-fine g l s) (course-speaks g l s)
    where
      go : (c : Course) → Fine g.n c → SpeaksBy g c → Spoken (settled g l c).group (settled g l c).store
      go Idles f w = h
      go (Refuses k) f w = h
      go (Takes t x) f w = spoken-taken t x f w

-- the start
spoken-start : (vs l : List ℕ) → Begins vs l → Spoken (started_to vs (length vs)) (opened (get_or vs 0 0) l)
spoken-start vs l b =
    record {
      suspicions = λ i r lo hi le ne. absurd (ne (opened-other (get_or vs 0 0) l b.long (slot r i kind_s) (omega arith) (in-S i r hi le)));
      decisions = λ i lo hi ne. absurd (ne (opened-other (get_or vs 0 0) l b.long (decision_slot i) (omega arith) (in-D i hi)));
    }
  where
    size : (started_to vs (length vs)).n ≡ length vs
    size = started-size vs (length vs)

    in-S : (i r : ℕ) → i ≤ (started_to vs (length vs)).n → r ≤ last_round → slot r i kind_s < store_length
    in-S i r hi le = omega (arith, size, b.few)

    in-D : (i : ℕ) → i ≤ (started_to vs (length vs)).n → decision_slot i < store_length
    in-D i hi = omega (arith, size, b.few)

-- every state of a run
pub spoken : (vs l : List ℕ) (ss : List Step) → Begins vs l → Spoken (at vs l ss).group (at vs l ss).store
unfolding next begun
spoken vs l ss b =
    throughout vs (λ (a : State). Spoken a.group a.store)
    (λ a s k h. spoken-step a.group a.store k.sized (omega (arith, k.size, b.few)) h s)
    (start_state vs l) ss (basic-start vs l b)
    (subst (λ (a : State). Spoken a.group a.store) (sym (start_is vs l b)) (spoken-start vs l b))
