-- A sound group: the plain facts behind the table's row 2, that every event keeps them, and so that every step leaves a sound group sound. Assumes nothing.
use Rattle.std.specs.Prelude.{Option, Some, None}
use mathlib.Core.Path.{◌≡◌, refl, sym, ap, subst, ◌∙◌}
use mathlib.Core.Bool.{Bool, true, false, ◌&&◌, ◌||◌, not}
use mathlib.Core.List.{List, [], ◌∷◌}
use mathlib.Core.Logic.{◌≢◌, ◌⊎◌, inl, inr, ⊎_map}
use Prim.Native.Nat.{ℕ, zero, suc, ◌+◌, ◌-◌, ◌^◌, ◌≤◌, ◌<◌, zero-le}
use native.Mathlib.Decide.{ℕ_discrete}
use native.Mathlib.Omega.{arith}
use lib.Dec.{eqb, leb, ltb}
use lib.ListN.{length, get_or, length-append}
use lib.Pow.{pow_pos}
use borrow.Author.Tests.{leb-true, le-leb, ltb-false, eqb-true, not-false}
use Rattle.rules.specs.declared.group.Group.{Group}
use Rattle.rules.specs.declared.process.Process.{Process}
use Rattle.rules.specs.declared.process.Next.{Next}
use Rattle.rules.specs.declared.process.Message.{Message}
use Rattle.rules.specs.declared.process.Message.TheVariants.{E, S, F, Decision}
use Rattle.rules.specs.declared.step.Step.{Step}
use Rattle.rules.specs.declared.step.Step.TheVariants.{DeliverE, DeliverS, DeliverF, DeliverDecision, Suspect, Pause, Crash, Recover}
use Rattle.rules.specs.Refusals.{row, all_of, every, short, whole, strange, late, down, unsent, misnamed, impossible, recovers_past, enters_past, miscounted}
use Rattle.rules.specs.Start.{fresh, started_to}
use Rattle.rules.specs.Step.{Course, Idles, Refuses, Takes, idles, or_idle, unless_refused, handed_of, hand_overs, sent_by, again_by}
use Rattle.rules.proofs.Bare.Step.{Outcome, refused, damaged, refusal_by, refusal, start_refusal_by, start_refusal, course, settled, stepped, unless_refused_start, begun, started}
use Rattle.rules.specs.Limits.{greatest_size, last_round, store_length, coordinator, among}
use Rattle.rules.specs.Tally.{meets, within}
use Rattle.rules.specs.Layout.{process_at, with_process, Sized, blank_group}
use Rattle.rules.specs.Store.{proposer_of, value_of, message_round, entry_for, hand_over, one, sent_in}
use Rattle.rules.proofs.Laws.Store.{entry_by}
use Rattle.rules.specs.Events.{takes, enters, joins_estimates, joins_suspicions, decides, second_phase, marks, paused, crashed, recovered, quiet, changed, jumps_if, jumps, relays_if, relays, decides_if, decides_at, goes_to_phase2, goes_to_phase2_if, to_phase2, adopts_if, adopts, opens_if, opens, enters_next_if, enters_next_at, on_e, on_s, on_f, on_decision, on_suspect, on_pause, on_crash, on_recover, cut_if}
use Rattle.rules.specs.Kinds.{taker_of, numbers_of, round_of, delivers, is_cut, entry_in, event_of}
use Rattle.rules.specs.Idle.{idle}
use Rattle.rules.proofs.Laws.Bool.{and_left, and_right, and_both, or_case}
use Rattle.rules.proofs.Laws.All.{all-each, all-every}
use Rattle.rules.proofs.Laws.Row.{row_zero, among-true, among_in}
use Rattle.rules.proofs.Laws.Tally.{joined-below, within-true}
use Rattle.rules.proofs.Laws.Store.{IsMessage, entry-nonzero, hand_over-length, hand_over-past, hand_over-sent}
use Rattle.rules.proofs.Laws.Group.{process-put, process-kept, with_size, sized-with, sized-blank, sized-started, started-size, started-process}

-- ---- a whole process and a sound group

-- what the numbers of a process of 1..n keep to, with its round at most b
pub record Facts (b n round phase proposer estimates suspicions : ℕ) : Type 0 where
  pub in-round : round ≤ b
  pub in-phase : (phase ≡ 1) ⊎ (phase ≡ 2)
  pub low : 1 ≤ proposer
  pub high : proposer ≤ n
  pub heard : estimates < 2 ^ n
  pub suspected : suspicions < 2 ^ n

abbrev pub WholeUpTo : ℕ → ℕ → Process → Type 0
WholeUpTo b n p = Facts b n p.round p.phase p.proposer p.estimates p.suspicions

abbrev pub Whole : ℕ → Process → Type 0
Whole n p = WholeUpTo last_round n p

-- the test says just that
pub whole-facts : (n : ℕ) (p : Process) → whole n p ≡ true → Whole n p
unfolding whole
whole-facts n p e =
    let a = leb p.round last_round in
    let b = eqb p.phase 1 || eqb p.phase 2 in
    let c = among n p.proposer in
    let d = within p.estimates n in
    let f = within p.suspicions n in
    let e₁ = and_right a (b && (c && (d && f))) e in
    let e₂ = and_right b (c && (d && f)) e₁ in
    let e₃ = and_right c (d && f) e₂ in
    let named = among-true n p.proposer (and_left c (d && f) e₂) in
    record {
      in-round = leb-true p.round last_round (and_left a (b && (c && (d && f))) e);
      in-phase =
          ⊎_map (eqb-true p.phase 1) (eqb-true p.phase 2)
          (or_case (eqb p.phase 1) (eqb p.phase 2) (and_left b (c && (d && f)) e₁));
      low = named.0;
      high = named.1;
      heard = (within-true p.estimates n).0 (and_left d f e₃);
      suspected = (within-true p.suspicions n).0 (and_right d f e₃);
    }

phase-test : (k : ℕ) → (k ≡ 1) ⊎ (k ≡ 2) → (eqb k 1 || eqb k 2) ≡ true
phase-test k (inl e) = rw e
phase-test k (inr e) = rw e

pub facts-whole : (n : ℕ) (p : Process) → Whole n p → whole n p ≡ true
unfolding whole
facts-whole n p h =
    let d = (within-true p.estimates n).1 h.heard in
    let f = (within-true p.suspicions n).1 h.suspected in
    rw (le-leb p.round last_round h.in-round, phase-test p.phase h.in-phase, among_in n p.proposer h.low h.high, d, f)

-- a group of 1 to 16 whole processes
pub record Sound (g : Group) : Type 0 where
  pub low : 1 ≤ g.n
  pub high : g.n ≤ greatest_size
  pub each : (i : ℕ) → 1 ≤ i → i ≤ g.n → Whole g.n (process_at g i)

-- the test says just that
module _ (g : Group) where
  whole-at : ℕ → Bool
  whole-at i = whole g.n (process_at g i)

  pub sound-facts : damaged g ≡ false → Sound g
  unfolding damaged whole-at
  sound-facts e =
      let both = not-false (among greatest_size g.n && all_of whole-at g.n) e in
      let sized = among-true greatest_size g.n (and_left (among greatest_size g.n) (all_of whole-at g.n) both) in
      let all = and_right (among greatest_size g.n) (all_of whole-at g.n) both in
      record {
        low = sized.0;
        high = sized.1;
        each = λ i a b. whole-facts g.n (process_at g i) (all-each whole-at g.n i a b all);
      }

  pub facts-sound : Sound g → damaged g ≡ false
  unfolding damaged whole-at
  facts-sound h =
      let sized = among_in greatest_size g.n h.low h.high in
      let all = all-every whole-at g.n (λ i a b. facts-whole g.n (process_at g i) (h.each i a b)) in
      ap not (and_both (among greatest_size g.n) (all_of whole-at g.n) sized all)

-- ---- the stages of an event

-- the estimate that a message carries has a proposer of 1..n
abbrev pub Named : ℕ → Option Message → Type 0
Named n None = Unit {0}
Named n (Some (E r q v)) = (1 ≤ q) × (q ≤ n)
Named n (Some (S r)) = Unit {0}
Named n (Some (F r q v)) = (1 ≤ q) × (q ≤ n)
Named n (Some (Decision v)) = Unit {0}

-- a next record that is whole up to round b, with messages to match: the first of a round, the second of the record's own at most
pub record Good (b n : ℕ) (x : Next) : Type 0 where
  pub process : WholeUpTo b n x.process
  pub first : message_round x.first ≤ last_round
  pub second : message_round x.second ≤ x.process.round
  pub first-named : Named n x.first
  pub second-named : Named n x.second

-- with a bound on its round, it is whole up to that
pub good-within : {b c n : ℕ} {x : Next} → Good b n x → x.process.round ≤ c → Good c n x
good-within h le =
    record {
      process =
          record {
            in-round = le;
            in-phase = h.process.in-phase;
            low = h.process.low;
            high = h.process.high;
            heard = h.process.heard;
            suspected = h.process.suspected;
          };
      first = h.first;
      second = h.second;
      first-named = h.first-named;
      second-named = h.second-named;
    }

-- other tallies with no sender above n
retallied : {b n r f q e s t u : ℕ} → Facts b n r f q e s → t < 2 ^ n → u < 2 ^ n → Facts b n r f q t u
retallied h ht hu =
    record { in-round = h.in-round; in-phase = h.in-phase; low = h.low; high = h.high; heard = ht; suspected = hu }

module _ (n : ℕ) where
  -- an estimate is taken whose proposer is of 1..n
  pub whole_takes : (q v : ℕ) (p : Process) → 1 ≤ q → q ≤ n → Whole n p → Whole n (takes q v p)
  unfolding takes
  whole_takes q v p lo hi h =
      record {
        in-round = h.in-round;
        in-phase = h.in-phase;
        low = lo;
        high = hi;
        heard = h.heard;
        suspected = h.suspected;
      }

  -- a round is entered
  pub whole-enters : (b r : ℕ) (p : Process) → r ≤ b → Whole n p → WholeUpTo b n (enters r p)
  unfolding enters
  whole-enters b r p le h =
      record { in-round = le; in-phase = inl refl; low = h.low; high = h.high; heard = pow_pos n; suspected = pow_pos n }

  -- a sender joins the one tally or the other
  pub whole-estimates : (j : ℕ) (p : Process) → 1 ≤ j → j ≤ n → Whole n p → Whole n (joins_estimates j p)
  unfolding joins_estimates
  whole-estimates j p lo hi h = retallied h (joined-below p.estimates j n h.heard lo hi) h.suspected

  pub whole-suspicions : (j : ℕ) (p : Process) → 1 ≤ j → j ≤ n → Whole n p → Whole n (joins_suspicions j p)
  unfolding joins_suspicions
  whole-suspicions j p lo hi h = retallied h h.heard (joined-below p.suspicions j n h.suspected lo hi)

  -- phase 2
  pub whole-second : (p : Process) → Whole n p → Whole n (second_phase p)
  unfolding second_phase
  whole-second p h =
      record {
        in-round = h.in-round;
        in-phase = inr refl;
        low = h.low;
        high = h.high;
        heard = pow_pos n;
        suspected = h.suspected;
      }

  -- nothing is handed over
  pub good-quiet : (p : Process) → Whole n p → Good last_round n (quiet p)
  unfolding quiet message_round
  good-quiet p h = record { process = h; first = zero-le; second = zero-le; first-named = tt; second-named = tt }

  -- a crash, of its own or by a cut
  pub good-crash : (p : Process) → Whole n p → Good last_round n (on_crash p)
  unfolding on_crash crashed
  good-crash p h = good-quiet (crashed p) (retallied h (pow_pos n) (pow_pos n))

  pub good-cut : (cut : Bool) (x : Next) → Good last_round n x → Good last_round n (cut_if cut x)
  unfolding cut_if
  good-cut true x h = good-crash x.process h.process
  good-cut false x h = h

  -- a change of the record that keeps it whole, and its round
  pub good-changed : (f : Process → Process) (x : Next) → (f x.process).round ≡ x.process.round → Whole n (f x.process) → Good last_round n x
      → Good last_round n (changed f x)
  unfolding changed
  good-changed f x e w h =
      record { process = w; first = h.first; second = omega arith; first-named = h.first-named; second-named = h.second-named }

  -- j joins the tally of estimates
  pub good-joins : (j : ℕ) (x : Next) → 1 ≤ j → j ≤ n → Good last_round n x → Good last_round n (changed (joins_estimates j) x)
  unfolding joins_estimates
  good-joins j x lo hi h = good-changed (joins_estimates j) x refl (whole-estimates j x.process lo hi h.process) h

  -- a decision, where the test holds
  pub good-decides : (t : Bool) (x : Next) → Good last_round n x → Good last_round n (decides_if t x)
  unfolding decides_if decides message_round
  good-decides true x h =
      record { process = h.process; first = h.first; second = zero-le; first-named = h.first-named; second-named = tt }
  good-decides false x h = h

  -- phase 2, where the test holds
  pub good-phase2 : (t : Bool) (p : Process) → Whole n p → Good last_round n (goes_to_phase2_if t p)
  unfolding goes_to_phase2_if goes_to_phase2 message_round
  good-phase2 true p h =
      record {
        process = whole-second p h;
        first = h.in-round;
        second = zero-le;
        first-named = (h.low, h.high);
        second-named = tt;
      }
  good-phase2 false p h = good-quiet p h

  -- the coordinator's E of a round that it enters
  opens-round : (t : Bool) (i r v : ℕ) → message_round (opens_if t i r v) ≤ r
  unfolding opens_if message_round
  opens-round true i r v = omega arith
  opens-round false i r v = zero-le

  opens-named : (t : Bool) (i r v : ℕ) → 1 ≤ i → i ≤ n → Named n (opens_if t i r v)
  unfolding opens_if
  opens-named true i r v lo hi = (lo, hi)
  opens-named false i r v lo hi = tt

  -- the next round is entered, where the test holds: it may be one more than the last
  pub good-next : (t : Bool) (i : ℕ) (x : Next) → 1 ≤ i → i ≤ n → Good last_round n x → Good (suc last_round) n (enters_next_if t n i x)
  unfolding enters_next_if enters opens
  good-next true i x lo hi h =
      let r = x.process.round + 1 in
      let v = x.process.value in
      record {
        process = whole-enters (suc last_round) r (takes i v x.process) (omega arith) (whole_takes i v x.process lo hi h.process);
        first = h.first;
        second = opens-round (eqb i (coordinator r n)) i r v;
        first-named = h.first-named;
        second-named = opens-named (eqb i (coordinator r n)) i r v lo hi;
      }
  good-next false i x lo hi h = good-within h (omega arith)

  -- the stages that take the estimate (q, v) of a message, where the test holds
  module _ (q v : ℕ) (lo : 1 ≤ q) (hi : q ≤ n) where
    pub whole-jumps : (t : Bool) (r : ℕ) (p : Process) → r ≤ last_round → Whole n p → Whole n (jumps_if t r q v p)
    unfolding jumps_if
    whole-jumps true r p le h = whole_takes q v (enters r p) lo hi (whole-enters last_round r p le h)
    whole-jumps false r p le h = h

    pub good-relays : (t : Bool) (p : Process) → Whole n p → Good last_round n (relays_if t q v p)
    unfolding relays_if message_round
    good-relays true p h =
        record {
          process = whole_takes q v p lo hi h;
          first = h.in-round;
          second = zero-le;
          first-named = (lo, hi);
          second-named = tt;
        }
    good-relays false p h = good-quiet p h

    pub good-adopts : (t : Bool) (x : Next) → Good last_round n x → Good last_round n (adopts_if t q v x)
    unfolding adopts_if takes
    good-adopts true x h = good-changed (takes q v) x refl (whole_takes q v x.process lo hi h.process) h
    good-adopts false x h = h

-- ---- events

-- process i of n; of a delivery the sender j
module _ (n i j : ℕ) (p : Process) (to_low : 1 ≤ i) (to_high : i ≤ n) (from_low : 1 ≤ j) (from-high : j ≤ n) (h : Whole n p) where
  -- a message of round r with the estimate (q, v)
  module _ (r q v : ℕ) (le : r ≤ last_round) (lo : 1 ≤ q) (hi : q ≤ n) where
    pub good-E : Good last_round n (on_e n i j r q v p)
    unfolding on_e decides_at relays jumps
    good-E =
        let after = jumps_if (ltb p.round r) r q v p in
        let test = eqb after.estimates 0 && not (eqb i (coordinator after.round n)) in
        let y = changed (joins_estimates j) (relays_if test q v after) in
        let relayed = good-relays n q v lo hi test after (whole-jumps n q v lo hi (ltb p.round r) r p le h) in
        good-decides n (meets y.process.estimates n) y (good-joins n j (relays_if test q v after) from_low from-high relayed)

    pub good-F : Good (suc last_round) n (on_f n i j r q v p)
    unfolding on_f enters_next_at adopts to_phase2 jumps
    good-F =
        let after = jumps_if (ltb p.round r) r q v p in
        let x = goes_to_phase2_if (eqb after.phase 1) after in
        let test = eqb q (coordinator x.process.round n) in
        let y = changed (joins_estimates j) (adopts_if test q v x) in
        let second = good-phase2 n (eqb after.phase 1) after (whole-jumps n q v lo hi (ltb p.round r) r p le h) in
        let adopted = good-adopts n q v lo hi test x second in
        good-next n (meets y.process.estimates n) i y to_low to_high (good-joins n j (adopts_if test q v x) from_low from-high adopted)

  pub good-S : Good last_round n (on_s n j p)
  unfolding on_s
  good-S =
      good-phase2 n (meets (joins_suspicions j p).suspicions n) (joins_suspicions j p)
      (whole-suspicions n j p from_low from-high h)

-- the others keep all but what is not looked at
module _ (n : ℕ) (p : Process) (h : Whole n p) where
  pub good-decision : (v : ℕ) → Good last_round n (on_decision v p)
  unfolding on_decision decides message_round
  good-decision v = record { process = h; first = zero-le; second = zero-le; first-named = tt; second-named = tt }

  pub good-suspect : Good last_round n (on_suspect p)
  unfolding on_suspect marks message_round
  good-suspect = record { process = h; first = h.in-round; second = zero-le; first-named = tt; second-named = tt }

  pub good-pause : Good last_round n (on_pause p)
  unfolding on_pause paused
  good-pause = good-quiet n (paused p) h

  pub good-recover : Good last_round n (on_recover p)
  unfolding on_recover recovered
  good-recover = good-quiet n (recovered p) h

-- ---- the course of a step

-- what it means that no row refuses
pub record Passed (g : Group) (l : List ℕ) (s : Step) : Type 0 where
  pub long : short l ≡ false
  pub sound : damaged g ≡ false
  pub known : strange g s ≡ false
  pub early : late s ≡ false
  pub up : down g s ≡ false
  pub sent : unsent l s ≡ false
  pub named : misnamed g l s ≡ false
  pub possible : impossible g s ≡ false
  pub not-many : recovers_past g s ≡ false
  pub within-rounds : enters_past g l s ≡ false

-- so of the table with what is told of the depths
pub record PassedBy (short_depths damage deep : Bool) (g : Group) (l : List ℕ) (s : Step) : Type 0 where
  pub long : short l ≡ false
  pub deep_long : short_depths ≡ false
  pub sound : damage ≡ false
  pub known : strange g s ≡ false
  pub early : late s ≡ false
  pub up : down g s ≡ false
  pub sent : unsent l s ≡ false
  pub named : misnamed g l s ≡ false
  pub shallow : deep ≡ false
  pub possible : impossible g s ≡ false
  pub not-many : recovers_past g s ≡ false
  pub within-rounds : enters_past g l s ≡ false

pub by-passed : (t u w : Bool) (g : Group) (l : List ℕ) (s : Step) → refusal_by t u w g l s ≡ 0 → PassedBy t u w g l s
unfolding refusal_by
by-passed t u w g l s e =
    let r₈ = row (enters_past g l s) 8 0 in
    let r₁₃ = row (recovers_past g s) 13 r₈ in
    let r₇ = row (impossible g s) 7 r₁₃ in
    let r₁₄ = row w 14 r₇ in
    let r₂ = row (misnamed g l s) 2 r₁₄ in
    let r₆ = row (unsent l s) 6 r₂ in
    let r₅ = row (down g s) 5 r₆ in
    let r₄ = row (late s) 4 r₅ in
    let r₃ = row (strange g s) 3 r₄ in
    let a = row_zero (short l) 10 (row t 14 (row u 2 r₃)) e in
    let a' = row_zero t 13 (row u 2 r₃) a.1 in
    let b = row_zero u 1 r₃ a'.1 in
    let c = row_zero (strange g s) 2 r₄ b.1 in
    let d = row_zero (late s) 3 r₅ c.1 in
    let f = row_zero (down g s) 4 r₆ d.1 in
    let h = row_zero (unsent l s) 5 r₂ f.1 in
    let i = row_zero (misnamed g l s) 1 r₁₄ h.1 in
    let i' = row_zero w 13 r₇ i.1 in
    let j = row_zero (impossible g s) 6 r₁₃ i'.1 in
    let k = row_zero (recovers_past g s) 12 r₈ j.1 in
    record {
      long = a.0;
      deep_long = a'.0;
      sound = b.0;
      known = c.0;
      early = d.0;
      up = f.0;
      sent = h.0;
      named = i.0;
      shallow = i'.0;
      possible = j.0;
      not-many = k.0;
      within-rounds = (row_zero (enters_past g l s) 7 0 k.1).0;
    }

-- so no row of the table without depths does, where the group is not damaged
pub passed-of : {t u w : Bool} {g : Group} {l : List ℕ} {s : Step} → PassedBy t u w g l s → damaged g ≡ false → Passed g l s
passed-of h sound =
    record {
      long = h.long;
      sound = sound;
      known = h.known;
      early = h.early;
      up = h.up;
      sent = h.sent;
      named = h.named;
      possible = h.possible;
      not-many = h.not-many;
      within-rounds = h.within-rounds;
    }

pub refusal-passed : (g : Group) (l : List ℕ) (s : Step) → refusal g l s ≡ 0 → Passed g l s
unfolding refusal
refusal-passed g l s e = let h = by-passed false (damaged g) false g l s e in passed-of h h.sound

-- the first and the second number of a step that are of 1..n
first-among : (n i : ℕ) (ms : List ℕ) → not (every (among n) (i ∷ ms)) ≡ false → (1 ≤ i) × (i ≤ n)
unfolding every
first-among n i ms e = among-true n i (and_left (among n i) (every (among n) ms) (not-false (among n i && every (among n) ms) e))

pub second-among : (n i j : ℕ) (ms : List ℕ) → not (every (among n) (i ∷ j ∷ ms)) ≡ false → (1 ≤ j) × (j ≤ n)
unfolding every
second-among n i j ms e =
    let rest = every (among n) ms in
    let both = not-false (among n i && (among n j && rest)) e in
    among-true n j (and_left (among n j) rest (and_right (among n i) (among n j && rest) both))

-- the process that takes a step is of 1..n
pub taker-in : (g : Group) (s : Step) → strange g s ≡ false → (1 ≤ taker_of s) × (taker_of s ≤ g.n)
unfolding strange numbers_of taker_of
taker-in g (DeliverE i j r c) e = first-among g.n i (j ∷ []) e
taker-in g (DeliverS i j r c) e = first-among g.n i (j ∷ []) e
taker-in g (DeliverF i j r c) e = first-among g.n i (j ∷ []) e
taker-in g (DeliverDecision i j c) e = first-among g.n i (j ∷ []) e
taker-in g (Suspect i c) e = first-among g.n i [] e
taker-in g (Pause i) e = first-among g.n i [] e
taker-in g (Crash i) e = first-among g.n i [] e
taker-in g (Recover i) e = first-among g.n i [] e

-- what is known of an E or an F that is not refused: its receiver, its sender, its round and its estimate
pub record Carried (n i j r q : ℕ) : Type 0 where
  pub to_low : 1 ≤ i
  pub to_high : i ≤ n
  pub from_low : 1 ≤ j
  pub from-high : j ≤ n
  pub round : r ≤ last_round
  pub low : 1 ≤ q
  pub high : q ≤ n

carried : (n i j r q : ℕ) → not (every (among n) (i ∷ j ∷ [])) ≡ false → ltb last_round r ≡ false → not (among n q) ≡ false → Carried n i j r q
carried n i j r q known early named =
    let to = first-among n i (j ∷ []) known in
    let from = second-among n i j [] known in
    let by = among-true n q (not-false (among n q) named) in
    record {
      to_low = to.0;
      to_high = to.1;
      from_low = from.0;
      from-high = from.1;
      round = ltb-false last_round r early;
      low = by.0;
      high = by.1;
    }

not-past : (a b : Bool) → a ≡ false → (not a && b) ≡ false → b ≡ false
not-past true b e h = cc
not-past false b e h = h

-- the event of a step that is neither refused nor idle
pub good-event : (g : Group) (l : List ℕ) (s : Step) → Passed g l s → idle g s ≡ false → Whole g.n (process_at g (taker_of s))
    → Good last_round g.n (event_of g l s)
unfolding event_of taker_of strange numbers_of late round_of misnamed delivers enters_past
good-event g l (DeliverE i j r c) h f w =
    let e = entry_in l (DeliverE i j r c) in
    let k = carried g.n i j r (proposer_of e) h.known h.early h.named in
    good-E g.n i j (process_at g i) k.to_low k.to_high k.from_low k.from-high w r (proposer_of e) (value_of e) k.round k.low k.high
good-event g l (DeliverS i j r c) h f w =
    let to = first-among g.n i (j ∷ []) h.known in
    let from = second-among g.n i j [] h.known in
    good-S g.n i j (process_at g i) to.0 to.1 from.0 from.1 w
good-event g l (DeliverF i j r c) h f w =
    let e = entry_in l (DeliverF i j r c) in
    let k = carried g.n i j r (proposer_of e) h.known h.early h.named in
    let next = on_f g.n i j r (proposer_of e) (value_of e) (process_at g i) in
    let good = good-F g.n i j (process_at g i) k.to_low k.to_high k.from_low k.from-high w r (proposer_of e) (value_of e) k.round k.low k.high in
    let in-rounds = not-past (idle g (DeliverF i j r c)) (ltb last_round next.process.round) f h.within-rounds in
    good-within good (ltb-false last_round next.process.round in-rounds)
good-event g l (DeliverDecision i j c) h f w = good-decision g.n (process_at g i) w (value_of (entry_in l (DeliverDecision i j c)))
good-event g l (Suspect i c) h f w = good-suspect g.n (process_at g i) w
good-event g l (Pause i) h f w = good-pause g.n (process_at g i) w
good-event g l (Crash i) h f w = good-crash g.n (process_at g i) w
good-event g l (Recover i) h f w = good-recover g.n (process_at g i) w

-- what is known of process i that takes a step and of what it does
pub record Taking (n i : ℕ) (x : Next) : Type 0 where
  pub low : 1 ≤ i
  pub high : i ≤ n
  pub small : i ≤ greatest_size
  pub process : Whole n x.process
  pub first : message_round x.first ≤ last_round
  pub second : message_round x.second ≤ last_round
  pub first-named : Named n x.first
  pub second-named : Named n x.second

abbrev pub Fine : ℕ → Course → Type 0
Fine n Idles = Unit {0}
Fine n (Refuses k) = Unit {0}
Fine n (Takes i x) = Taking n i x

-- a step that is not refused: what its process does with it, and the course
module _ (g : Group) (l : List ℕ) (s : Step) (h : Passed g l s) where
  taking : (x : Next) → Good last_round g.n x → Taking g.n (taker_of s) x
  taking x good =
      let sound = sound-facts g h.sound in
      let to = taker-in g s h.known in
      record {
        low = to.0;
        high = to.1;
        small = omega arith;
        process = good.process;
        first = good.first;
        second = omega arith;
        first-named = good.first-named;
        second-named = good.second-named;
      }

  pub taker-whole : Whole g.n (process_at g (taker_of s))
  taker-whole = let to = taker-in g s h.known in (sound-facts g h.sound).each (taker_of s) to.0 to.1

  pub passed-fine : (t cut : Bool) → idle g s ≡ t → Fine g.n (or_idle t cut (taker_of s) (process_at g (taker_of s)) (event_of g l s))
  unfolding or_idle idles
  passed-fine true true e =
      taking (on_crash (process_at g (taker_of s))) (good-crash g.n (process_at g (taker_of s)) taker-whole)
  passed-fine true false e = tt
  passed-fine false cut e =
      taking (cut_if cut (event_of g l s)) (good-cut g.n cut (event_of g l s) (good-event g l s h e taker-whole))

-- every course is fine, of any group and any store: where they are not, it refuses
pub course-fine : (g : Group) (l : List ℕ) (s : Step) → Fine g.n (course g l s)
unfolding course unless_refused
course-fine g l s = go (refusal g l s) refl
  where
    go : (k : ℕ) → refusal g l s ≡ k → Fine g.n (unless_refused k g l s)
    go zero e = passed-fine g l s (refusal-passed g l s e) (idle g s) (is_cut s) refl
    go (suc k) e = tt

-- ---- the outcome of a step

-- a refused step leaves all as it was
pub refusal-keeps : (g : Group) (l : List ℕ) (s : Step) → refusal g l s ≢ 0 → stepped g l s ≡ refused g l (refusal g l s)
unfolding stepped course settled unless_refused
refusal-keeps g l s = go (refusal g l s)
  where
    go : (k : ℕ) → k ≢ 0 → settled g l (unless_refused k g l s) ≡ refused g l k
    go zero ne = absurd (ne refl)
    go (suc k) ne = refl

-- what is true of the group and store as they were, and of those that a process leaves, is true after every step
pub step_by : (P : Group → List ℕ → Type 0) (g : Group) (l : List ℕ) (s : Step) → P g l
    → ((i : ℕ) (x : Next) → Taking g.n i x → P (with_process g i x.process) (hand_overs i x l))
    → P (stepped g l s).group (stepped g l s).store
unfolding stepped settled
step_by P g l s a b = go (course g l s) (course-fine g l s)
  where
    go : (c : Course) → Fine g.n c → P (settled g l c).group (settled g l c).store
    go Idles f = a
    go (Refuses k) f = a
    go (Takes i x) f = b i x f

-- a message that names its proposer has an entry that is not 0
pub named-entry : (n i : ℕ) (m : Option Message) → 1 ≤ i → Named n m → IsMessage m → entry_by i m ≢ 0
unfolding entry_for
named-entry n i None lo h is e = is
named-entry n i (Some (E r q v)) lo h is e = entry-nonzero q v h.0 e
named-entry n i (Some (S r)) lo h is e = entry-nonzero i 0 lo e
named-entry n i (Some (F r q v)) lo h is e = entry-nonzero q v h.0 e
named-entry n i (Some (Decision v)) lo h is e = entry-nonzero i v lo e

-- a whole process put into a sound group
pub sound-with : (g : Group) (i : ℕ) (p : Process) → Sized g → Sound g → 1 ≤ i → i ≤ g.n → Whole g.n p → Sound (with_process g i p)
unfolding with_process
sound-with g i p sized sound lo hi h = record { low = sound.low; high = sound.high; each = λ j a b. go j a b (ℕ_discrete j i) }
  where
    go : (j : ℕ) → 1 ≤ j → j ≤ g.n → Dec (j ≡ i) → Whole g.n (process_at (with_process g i p) j)
    go j a b (yes e) =
        subst (λ (q : Process). Whole g.n q)
        (sym (ap (process_at (with_process g i p)) e ∙ process-put g i p sized lo (omega arith)))
        h
    go j a b (no ne) =
        subst (λ (q : Process). Whole g.n q) (sym (process-kept g i j p lo (omega arith) a (omega arith) ne)) (sound.each j a b)

-- what a process hands over: the length stays, entries past the store stay, and what is handed over is what more is sent and what is repeated
module _ (n i : ℕ) (x : Next) (l : List ℕ) where
  pub overs-length : length (hand_overs i x l) ≡ length l
  unfolding hand_overs
  overs-length = hand_over-length i x.second (hand_over i x.first l) ∙ hand_over-length i x.first l

  module _ (h : Taking n i x) where
    pub overs-past : (k : ℕ) → store_length ≤ k → get_or (hand_overs i x l) k 0 ≡ get_or l k 0
    unfolding hand_overs
    overs-past k le =
        hand_over-past i x.second (hand_over i x.first l) h.small h.second k le
        ∙ hand_over-past i x.first l h.small h.first k le

    pub overs-sent : store_length ≤ length l → sent_in (hand_overs i x l) store_length + again_by i x l ≡ sent_in l store_length + sent_by i x
    unfolding hand_overs handed_of sent_by again_by
    overs-sent long =
        let m = hand_over i x.first l in
        let first = hand_over-sent i x.first l h.small h.first long (named-entry n i x.first h.low h.first-named) in
        let room : store_length ≤ length m = omega (arith, hand_over-length i x.first l) in
        let two = hand_over-sent i x.second m h.small h.second room (named-entry n i x.second h.low h.second-named) in
        omega (arith, length-append (one i x.first) (one i x.second))

module _ (g : Group) (l : List ℕ) (s : Step) where
  -- the group keeps its size and its sixteen members
  pub step-size : (stepped g l s).group.n ≡ g.n
  step-size =
      step_by (λ (g' : Group) (l' : List ℕ). g'.n ≡ g.n) g l s refl (λ i x h. with_size g i x.process)

  pub sized-step : Sized g → Sized (stepped g l s).group
  sized-step sized =
      step_by (λ (g' : Group) (l' : List ℕ). Sized g') g l s sized (λ i x h. sized-with g i x.process sized)

  -- a sound group stays sound
  pub sound-step : Sized g → damaged g ≡ false → damaged (stepped g l s).group ≡ false
  sound-step sized e =
      step_by (λ (g' : Group) (l' : List ℕ). damaged g' ≡ false) g l s e
      (λ i x h.
      facts-sound (with_process g i x.process)
      (sound-with g i x.process sized (sound-facts g e) h.low h.high h.process))

  -- records above n stay
  pub step-above : (j : ℕ) → g.n < j → j ≤ greatest_size → process_at (stepped g l s).group j ≡ process_at g j
  step-above j a b =
      step_by (λ (g' : Group) (l' : List ℕ). process_at g' j ≡ process_at g j) g l s refl
      (λ i x h. process-kept g i j x.process h.low h.small (omega arith) b (omega arith))

  -- the store keeps its length, and all that stands past it
  pub step-length : length (stepped g l s).store ≡ length l
  step-length =
      step_by (λ (g' : Group) (l' : List ℕ). length l' ≡ length l) g l s refl (λ i x h. overs-length g.n i x l)

  pub step_past : (k : ℕ) → store_length ≤ k → get_or (stepped g l s).store k 0 ≡ get_or l k 0
  step_past k le =
      step_by (λ (g' : Group) (l' : List ℕ). get_or l' k 0 ≡ get_or l k 0) g l s refl (λ i x h. overs-past g.n i x l h k le)

  -- *sent* is what more is sent, and *again*
  pub step-sent : store_length ≤ length l
      → sent_in (stepped g l s).store store_length + (stepped g l s).says.again ≡ sent_in l store_length + (stepped g l s).says.sent
  unfolding stepped settled
  step-sent long = go (course g l s) (course-fine g l s)
    where
      go : (c : Course) → Fine g.n c → sent_in (settled g l c).store store_length + (settled g l c).says.again ≡ sent_in l store_length + (settled g l c).says.sent
      go Idles f = omega arith
      go (Refuses k) f = omega arith
      go (Takes i x) f = overs-sent g.n i x l f long

-- ---- a start

-- what it means that no row refuses
pub start-passed : (vs l : List ℕ) → start_refusal vs l ≡ 0 → (store_length ≤ length l) × (1 ≤ length vs) × (length vs ≤ greatest_size)
unfolding start_refusal start_refusal_by row short miscounted
start-passed vs l e =
    let a = row_zero (ltb (length l) store_length) 10 (row (not (among greatest_size (length vs))) 1 0) e in
    let b = row_zero (not (among greatest_size (length vs))) 0 0 a.1 in
    let sized = among-true greatest_size (length vs) (not-false (among greatest_size (length vs)) b.0) in
    (ltb-false (length l) store_length a.0, sized.0, sized.1)

pub whole_fresh : (n i v : ℕ) → 1 ≤ i → i ≤ n → Whole n (fresh i v)
unfolding fresh
whole_fresh n i v lo hi = record { in-round = zero-le; in-phase = inl refl; low = lo; high = hi; heard = pow_pos n; suspected = pow_pos n }

pub sound-started : (vs : List ℕ) → 1 ≤ length vs → length vs ≤ greatest_size → Sound (started_to vs (length vs))
sound-started vs lo hi =
    record {
      low = omega (arith, size);
      high = omega (arith, size);
      each = λ i a b. each i a (omega (arith, size));
    }
  where
    g : Group
    g = started_to vs (length vs)

    size : g.n ≡ length vs
    size = started-size vs (length vs)

    each : (i : ℕ) → 1 ≤ i → i ≤ length vs → Whole g.n (process_at g i)
    each i a b =
        subst (λ (p : Process). Whole g.n p) (sym (started-process vs (length vs) i a b hi))
        (whole_fresh g.n i (get_or vs (i - 1) 0) a (omega (arith, size)))

-- a refused start gives a group of size 0 and leaves the store; one that is not begins
pub start-refused : (vs l : List ℕ) → start_refusal vs l ≢ 0 → started vs l ≡ refused (blank_group 0) l (start_refusal vs l)
unfolding started unless_refused_start
start-refused vs l = go (start_refusal vs l)
  where
    go : (k : ℕ) → k ≢ 0 → unless_refused_start k vs l ≡ refused (blank_group 0) l k
    go zero ne = absurd (ne refl)
    go (suc k) ne = refl

pub start-begun : (vs l : List ℕ) → start_refusal vs l ≡ 0 → started vs l ≡ begun vs l
unfolding started unless_refused_start
start-begun vs l e = ap (λ (k : ℕ). unless_refused_start k vs l) e

-- a start that is not refused makes a sound group
pub sound-start : (vs l : List ℕ) → start_refusal vs l ≡ 0 → damaged (started vs l).group ≡ false
unfolding begun
sound-start vs l e =
    let h = start-passed vs l e in
    ap (λ (o : Outcome). damaged o.group) (start-begun vs l e)
    ∙ facts-sound (started_to vs (length vs)) (sound-started vs h.1 h.2)

-- any start makes sixteen members
pub sized-start : (vs l : List ℕ) → Sized (started vs l).group
unfolding started unless_refused_start begun
sized-start vs l = go (start_refusal vs l)
  where
    go : (k : ℕ) → Sized (unless_refused_start k vs l).group
    go zero = sized-started vs (length vs)
    go (suc k) = sized-blank 0
