-- What is handed over again: in a state of a run a message whose entry is sent is an E with that very entry, and a step hands over no more than one message. Assumes nothing.
use Rattle.std.specs.Prelude.{Option, Some, None}
use mathlib.Core.Path.{◌≡◌, refl, sym, ap, subst, ◌∙◌}
use mathlib.Core.Bool.{Bool, true, false, ◌&&◌, ◌||◌, not}
use mathlib.Core.List.{List, []}
use mathlib.Core.Logic.{◌⊎◌, ◌≢◌, inl, inr}
use Prim.Native.Nat.{ℕ, ◌+◌, ◌*◌, ◌%◌, ◌≤◌, ◌<◌}
use native.Mathlib.Nat.{le_trans}
use native.Mathlib.Omega.{arith}
use lib.Count.{ones}
use lib.Dec.{eqb, ltb}
use lib.ListN.{get_or}
use lib.Pow.{pow_pos}
use borrow.Author.Tests.{leb-true, ltb-false, eqb-true, eqb-false, not-true, not-false}
use Rattle.rules.specs.declared.group.Group.{Group}
use Rattle.rules.specs.declared.process.Process.{Process}
use Rattle.rules.specs.declared.process.Next.{Next}
use Rattle.rules.specs.declared.process.Message.{Message}
use Rattle.rules.specs.declared.step.Step.{Step}
use Rattle.rules.specs.declared.step.Step.TheVariants.{DeliverE, DeliverS, DeliverF, DeliverDecision, Suspect, Pause, Crash, Recover}
use Rattle.rules.specs.Limits.{greatest_size, last_round, coordinator, majority}
use Rattle.rules.specs.Tally.{joined, meets}
use Rattle.rules.specs.Layout.{process_at}
use Rattle.rules.specs.Store.{slot, decision_slot, kind_e, kind_s, kind_f, proposer_of, value_of, place_of, message_round, entry_for}
use Rattle.rules.proofs.Laws.Store.{place_by, entry_by}
use Rattle.rules.specs.Events.{takes, enters, joins_estimates, joins_suspicions, second_phase, quiet, changed, relays_if, relays, decides_if, decides_at}
use Rattle.rules.specs.Events.{goes_to_phase2, goes_to_phase2_if, to_phase2, adopts_if, adopts, opens_if, opens, enters_next_if, enters_next_at, on_e, on_s, on_f}
use Rattle.rules.specs.Events.{on_decision, on_suspect, on_pause, on_crash, on_recover, cut_if}
use Rattle.rules.specs.Kinds.{taker_of, numbers_of, round_of, delivers, slot_of, is_cut, entry_in, event_of}
use Rattle.rules.specs.Idle.{past_for, idle_e, idle}
use Rattle.rules.specs.Refusals.{strange, late, unsent, may_suspect, impossible}
use Rattle.rules.specs.Step.{Course, Idles, Refuses, Takes}
use Rattle.rules.specs.Safety.{is_e}
use Rattle.rules.proofs.Bare.Step.{course}
use Rattle.rules.proofs.Laws.Bool.{and_left, and_right, or_left}
use Rattle.rules.proofs.Laws.Tally.{ones-new, ones-zero, holds-empty}
use Rattle.rules.proofs.Laws.Store.{IsMessage, entry-parts}
use Rattle.rules.proofs.Laws.Sound.{second-among, Whole, sound-facts, Passed, taker-in, taker-whole, good-event}
use Rattle.rules.proofs.Agreement.Inv.{Proper}
use Rattle.rules.proofs.Agreement.Seen.{seen, view, entry_at, record-in}
use Rattle.rules.proofs.Agreement.Stages.{jumps-by}
use Rattle.rules.proofs.Agreement.EachStep.{Safe, below-E, below-F, first-phase-S}
use Rattle.rules.proofs.Runs.Cases.{never, course-by}
use Rattle.rules.proofs.Runs.Spoken.{Marked, Spoken}

-- ---- what is fair of an event: at most one message, and one whose entry is sent is an E with that entry

abbrev pub e_by : Option Message → Bool
e_by None = false
e_by (Some m) = is_e m

abbrev pub Again : List ℕ → ℕ → Option Message → Type 0
Again l i m = IsMessage m → get_or l (place_by i m) 0 ≢ 0 → (e_by m ≡ true) × (entry_by i m ≡ get_or l (place_by i m) 0)

pub record Fair (l : List ℕ) (i : ℕ) (x : Next) : Type 0 where
  pub alone : IsMessage x.first → IsMessage x.second → ⊥
  pub first : Again l i x.first
  pub second : Again l i x.second

abbrev pub FairBy : List ℕ → Course → Type 0
FairBy l Idles = Unit {0}
FairBy l (Refuses k) = Unit {0}
FairBy l (Takes i x) = Fair l i x

fair-quiet : (l : List ℕ) (i : ℕ) (p : Process) → Fair l i (quiet p)
unfolding quiet
fair-quiet l i p = record { alone = λ a b. a; first = λ a. absurd a; second = λ a. absurd a }

fair-crash : (l : List ℕ) (i : ℕ) (p : Process) → Fair l i (on_crash p)
unfolding on_crash
fair-crash l i p = fair-quiet l i _

fair-cut : (l : List ℕ) (i : ℕ) (c : Bool) (x : Next) → Fair l i x → Fair l i (cut_if c x)
unfolding cut_if
fair-cut l i true x h = fair-crash l i x.process
fair-cut l i false x h = h

-- ---- what is known of process i with the record p in a state of a run

pub record Past (l : List ℕ) (n i : ℕ) (p : Process) : Type 0 where
  pub low : 1 ≤ i
  pub high : i ≤ n
  pub phase : p.phase ≤ 2
  -- it has come to every round of which it sent an E, and closed every round of which it sent an F
  pub came : (r : ℕ) → r ≤ last_round → get_or l (slot r i kind_e) 0 ≢ 0 → r ≤ p.round
  pub closed : (r : ℕ) → r ≤ last_round → get_or l (slot r i kind_f) 0 ≢ 0 → 2 * r + 2 ≤ 2 * p.round + p.phase
  -- it is marked in a round of which it sent an S, and has decided where it sent its decision
  pub marked : (r : ℕ) → r ≤ last_round → get_or l (slot r i kind_s) 0 ≢ 0 → Marked r p
  pub decided : get_or l (decision_slot i) 0 ≢ 0 → p.decided ≡ true
  -- the E of one round that are sent are one
  pub same : (r j : ℕ) → r ≤ last_round → 1 ≤ j → j ≤ n → get_or l (slot r i kind_e) 0 ≢ 0 → get_or l (slot r j kind_e) 0 ≢ 0
      → get_or l (slot r j kind_e) 0 ≡ get_or l (slot r i kind_e) 0

-- one sender is a majority of 1 alone
one-voice : (n j : ℕ) → 1 ≤ j → j ≤ n → meets (joined 0 j) n ≡ true → n ≡ 1
unfolding meets
one-voice n j lo hi m =
    omega (arith, leb-true (majority n) (ones (joined 0 j)) m, ones-new 0 j n (pow_pos n) lo hi (holds-empty j), (ones-zero 0).1 refl)

-- the round that is entered
enters-round : (r : ℕ) (p : Process) (q v : ℕ) → (takes q v (enters r p)).round ≡ r
unfolding takes enters
enters-round r p q v = refl

module _ (l : List ℕ) (n i : ℕ) (p : Process) (h : Past l n i p) where
  -- ---- an E of round r from j, with the entry e

  module _ (j r e : ℕ) (from_low : 1 ≤ j) (from-high : j ≤ n) (le : r ≤ last_round) (is : get_or l (slot r j kind_e) 0 ≡ e) (real : e ≢ 0) where
    -- the sender joins, and at a majority the process decides
    E-fair : (p₁ : Process) → p₁.round ≡ r → p.decided ≡ false → Fair l i (decides_at n (changed (joins_estimates j) (relays n i (proposer_of e) (value_of e) p₁)))
    unfolding decides_at relays decides_if changed joins_estimates relays_if takes quiet place_of entry_for is_e
    E-fair p₁ at free = go (eqb p₁.estimates 0 && not (eqb i (coordinator p₁.round n))) refl (meets _ n) refl
      where
        go : (t : Bool) → (eqb p₁.estimates 0 && not (eqb i (coordinator p₁.round n))) ≡ t → (u : Bool)
            → meets (changed (joins_estimates j) (relays_if t (proposer_of e) (value_of e) p₁)).process.estimates n ≡ u
            → Fair l i (decides_if u (changed (joins_estimates j) (relays_if t (proposer_of e) (value_of e) p₁)))
        go true first true m =
            let empty = eqb-true p₁.estimates 0 (and_left (eqb p₁.estimates 0) (not (eqb i (coordinator p₁.round n))) first) in
            let other = eqb-false i (coordinator p₁.round n) (not-true _ (and_right (eqb p₁.estimates 0) (not (eqb i (coordinator p₁.round n))) first)) in
            let single = one-voice n j from_low from-high (ap (λ (k : ℕ). meets (joined k j) n) (sym empty) ∙ m) in
            absurd (other (omega (arith, ap (λ (k : ℕ). p₁.round % k) single, h.low, h.high, single)))
        go true first false m =
            record {
              alone = λ a b. b;
              first = λ a sent.
                  let here = ap (λ (k : ℕ). get_or l (slot k i kind_e) 0) at in
                  (refl, entry-parts e ∙ sym is ∙ h.same r j le from_low from-high (λ z. sent (here ∙ z)) (λ z. real (sym is ∙ z)) ∙ sym here);
              second = λ a. absurd a;
            }
        go false first true m = record { alone = λ a b. a; first = λ a. absurd a; second = λ a sent. never free (h.decided sent) }
        go false first false m = record { alone = λ a b. a; first = λ a. absurd a; second = λ a. absurd a }

    fair-E : p.round ≤ r → p.decided ≡ false → Fair l i (on_e n i j r (proposer_of e) (value_of e) p)
    unfolding on_e
    fair-E low free =
        jumps-by (λ p₁. Fair l i (decides_at n (changed (joins_estimates j) (relays n i (proposer_of e) (value_of e) p₁)))) r (proposer_of e) (value_of e) p
        (λ lt. E-fair _ (enters-round r p (proposer_of e) (value_of e)) free) (λ ge. E-fair p (omega arith) free)

  -- ---- an F of round r from j

  -- a process that was not past the round and is in phase 1 of it has sent no F of it
  no-F : (r : ℕ) → r ≤ last_round → (p.round < r) ⊎ ((p.round ≡ r) × (p.phase ≡ 1)) → get_or l (slot r i kind_f) 0 ≢ 0 → ⊥
  no-F r le (inl lt) sent = omega (arith, h.closed r le sent, h.phase)
  no-F r le (inr at) sent = omega (arith, h.closed r le sent)

  module _ (j r q v : ℕ) (from_low : 1 ≤ j) (from-high : j ≤ n) (le : r ≤ last_round) (real : get_or l (slot r j kind_f) 0 ≢ 0) where
    -- on the way: in round r, with no second message; with a first one its tally of estimates is t, and it had sent no F of r
    record Half (t : ℕ) (x : Next) : Type 0 where
      round : x.process.round ≡ r
      first : Again l i x.first
      silent : ¬ IsMessage x.second
      heard : IsMessage x.first → x.process.estimates ≡ t
      new : IsMessage x.first → get_or l (slot r i kind_f) 0 ≢ 0 → ⊥

    F-second : (p₁ : Process) → p₁.round ≡ r → (p₁.phase ≡ 1 → (p.round < r) ⊎ ((p.round ≡ r) × (p.phase ≡ 1))) → (t : Bool) → eqb p₁.phase 1 ≡ t
        → Half 0 (goes_to_phase2_if t p₁)
    unfolding goes_to_phase2_if goes_to_phase2 second_phase quiet place_of
    F-second p₁ at new true e =
        let none = no-F r le (new (eqb-true p₁.phase 1 e)) in
        record {
          round = at;
          first = λ a sent. absurd (none (λ z. sent (ap (λ (k : ℕ). get_or l (slot k i kind_f) 0) at ∙ z)));
          silent = λ a. a;
          heard = λ a. refl;
          new = λ a. none;
        }
    F-second p₁ at new false e = record { round = at; first = λ a. absurd a; silent = λ a. a; heard = λ a. absurd a; new = λ a. absurd a }

    F-adopts : (t : ℕ) (a : Bool) (x : Next) → Half t x → Half t (adopts_if a q v x)
    unfolding adopts_if changed takes
    F-adopts t true x k = record { round = k.round; first = k.first; silent = k.silent; heard = k.heard; new = k.new }
    F-adopts t false x k = k

    F-joins : (x : Next) → Half 0 x → Half (joined 0 j) (changed (joins_estimates j) x)
    unfolding changed joins_estimates
    F-joins x k = record { round = k.round; first = k.first; silent = k.silent; heard = λ a. ap (λ (t : ℕ). joined t j) (k.heard a); new = k.new }

    -- at a majority it enters the next round
    F-enters : p.round ≤ r → (x : Next) → Half (joined 0 j) x → (u : Bool) → meets x.process.estimates n ≡ u → message_round (enters_next_if u n i x).second ≤ last_round
        → Fair l i (enters_next_if u n i x)
    unfolding enters_next_if opens opens_if message_round place_of entry_for is_e
    F-enters low x k true m fits =
        record {
          alone = λ a b.
              let single = one-voice n j from_low from-high (ap (λ (t : ℕ). meets t n) (sym (k.heard a)) ∙ m) in
              let me : j ≡ i = omega (arith, single, h.low, h.high) in
              k.new a (λ z. real (ap (λ (m : ℕ). get_or l (slot r m kind_f) 0) me ∙ z));
          first = k.first;
          second = opened (eqb i (coordinator (x.process.round + 1) n)) fits;
        }
      where
        opened : (w : Bool) → message_round (opens_if w i (x.process.round + 1) x.process.value) ≤ last_round
            → Again l i (opens_if w i (x.process.round + 1) x.process.value)
        opened true fits a sent = absurd (omega (arith, h.came (x.process.round + 1) fits sent, k.round))
        opened false fits a sent = absurd a
    F-enters low x k false m fits = record { alone = λ a b. k.silent b; first = k.first; second = λ b. absurd (k.silent b) }

    fair-F : p.round ≤ r → message_round (on_f n i j r q v p).second ≤ last_round → Fair l i (on_f n i j r q v p)
    unfolding on_f enters_next_at adopts to_phase2
    fair-F low fits =
        F-enters low _
        (F-joins _ (F-adopts 0 _ _ (jumps-by (λ p₁. Half 0 (goes_to_phase2_if (eqb p₁.phase 1) p₁)) r q v p
        (λ lt. F-second (takes q v (enters r p)) (enters-round r p q v) (λ e. inl lt) _ refl) (λ ge. F-second p (omega arith) (λ e. inr (omega arith, e)) _ refl))))
        _ refl fits

  -- ---- the other events

  fair-S : (j : ℕ) → p.round ≤ last_round → p.phase ≡ 1 → Fair l i (on_s n j p)
  unfolding on_s joins_suspicions goes_to_phase2_if goes_to_phase2 quiet place_of
  fair-S j le one = go (meets _ n)
    where
      go : (t : Bool) → Fair l i (goes_to_phase2_if t (joins_suspicions j p))
      go true = record { alone = λ a b. b; first = λ a sent. absurd (no-F p.round le (inr (refl, one)) sent); second = λ a. absurd a }
      go false = record { alone = λ a b. a; first = λ a. absurd a; second = λ a. absurd a }

  fair-decision : (v : ℕ) → p.decided ≡ false → Fair l i (on_decision v p)
  unfolding on_decision place_of
  fair-decision v free = record { alone = λ a b. b; first = λ a sent. never free (h.decided sent); second = λ a. absurd a }

  fair-suspect : p.round ≤ last_round → p.marked ≡ false → Fair l i (on_suspect p)
  unfolding on_suspect place_of
  fair-suspect le free =
      record { alone = λ a b. b; first = λ a sent. never free ((h.marked p.round le sent).mark refl); second = λ a. absurd a }

-- ---- a step that is neither refused nor idle

-- nobody who has decided
undecided : (p : Process) (r : ℕ) (b : Bool) → (past_for p r || b) ≡ false → p.decided ≡ false
unfolding past_for
undecided p r b e = or_left p.decided (ltb r p.round) (or_left (p.decided || ltb r p.round) b e)

module _ (g : Group) (l : List ℕ) where
  fair-event : (s : Step) → Passed g l s → idle g s ≡ false → Past l g.n (taker_of s) (process_at g (taker_of s)) → Fair l (taker_of s) (event_of g l s)
  unfolding event_of taker_of strange numbers_of late round_of unsent delivers entry_in slot_of idle idle_e impossible may_suspect on_pause on_crash on_recover
  fair-event (DeliverE i j r c) h f past =
      let from = second-among g.n i j [] h.known in
      let e = get_or l (slot r j kind_e) 0 in
      fair-E l g.n i (process_at g i) past j r e from.0 from.1 (ltb-false last_round r h.early) refl (eqb-false e 0 h.sent)
      (below-E (process_at g i) j r f) (undecided (process_at g i) r _ f)
  fair-event (DeliverS i j r c) h f past =
      let w = taker-whole g l (DeliverS i j r c) h in
      fair-S l g.n i (process_at g i) past j w.in-round (first-phase-S (process_at g i) j r w.in-phase f)
  fair-event (DeliverF i j r c) h f past =
      let from = second-among g.n i j [] h.known in
      let e = get_or l (slot r j kind_f) 0 in
      let good = good-event g l (DeliverF i j r c) h f (taker-whole g l (DeliverF i j r c) h) in
      fair-F l g.n i (process_at g i) past j r (proposer_of e) (value_of e) from.0 from.1 (ltb-false last_round r h.early) (eqb-false e 0 h.sent)
      (below-F (process_at g i) j r f) (le_trans good.second good.process.in-round)
  fair-event (DeliverDecision i j c) h f past = fair-decision l g.n i (process_at g i) past _ f
  fair-event (Suspect i c) h f past =
      let p = process_at g i in
      let may = not-false (not p.decided && (eqb p.phase 1 && not p.marked)) h.possible in
      fair-suspect l g.n i p past (taker-whole g l (Suspect i c) h).in-round
      (not-true p.marked (and_right (eqb p.phase 1) (not p.marked) (and_right (not p.decided) _ may)))
  fair-event (Pause i) h f past = fair-quiet l i _
  fair-event (Crash i) h f past = fair-quiet l i _
  fair-event (Recover i) h f past = fair-quiet l i _

  -- any step
  fair-course : ((i : ℕ) → 1 ≤ i → i ≤ g.n → Past l g.n i (process_at g i)) → (s : Step) → FairBy l (course g l s)
  fair-course past s =
      course-by (FairBy l) g l s tt (λ k. tt) (λ h e. fair-crash l (taker_of s) (process_at g (taker_of s)))
      (λ h e.
      let to = taker-in g s h.known in
      fair-cut l (taker_of s) (is_cut s) (event_of g l s) (fair-event s h e (past (taker_of s) to.0 to.1)))

-- ---- a state of a run

module _ (vs : List ℕ) (g : Group) (l : List ℕ) (safe : Safe vs (record { group = g; store = l })) (spoken : Spoken g l) where
  pub state-past : (i : ℕ) → 1 ≤ i → i ≤ g.n → Past l g.n i (process_at g i)
  state-past i lo hi =
      record {
        low = lo;
        high = hi;
        phase = phase-two whole.in-phase;
        came = λ r le sent. proper.B r (λ z. sent (sym (entry_at l kind_e r i le lo small) ∙ z));
        closed = λ r le sent. proper.B' r (λ z. sent (sym (entry_at l kind_f r i le lo small) ∙ z));
        marked = λ r le sent. spoken.suspicions i r lo hi le sent;
        decided = spoken.decisions i lo hi;
        same = λ r j le a b mine theirs.
            let at_i = entry_at l kind_e r i le lo small in
            let at_j = entry_at l kind_e r j le a (le_trans b few) in
            sym at_j ∙ (safe.inv.es r j (λ z. theirs (sym at_j ∙ z))).A ∙ sym (safe.inv.es r i (λ z. mine (sym at_i ∙ z))).A ∙ at_i;
      }
    where
      few : g.n ≤ greatest_size
      few = (sound-facts g safe.basic.sound).high

      small : i ≤ greatest_size
      small = le_trans hi few

      whole : Whole g.n (process_at g i)
      whole = (sound-facts g safe.basic.sound).each i lo hi

      phase-two : {k : ℕ} → (k ≡ 1) ⊎ (k ≡ 2) → k ≤ 2
      phase-two (inl e) = omega arith
      phase-two (inr e) = omega arith

      proper : Proper (view vs g l) safe.inv.can i (seen (process_at g i))
      proper = subst (λ (p : Process). Proper (view vs g l) safe.inv.can i (seen p)) (record-in g i lo small) (safe.inv.procs i lo hi)

  pub state-fair : (s : Step) → FairBy l (course g l s)
  state-fair = fair-course g l state-past
