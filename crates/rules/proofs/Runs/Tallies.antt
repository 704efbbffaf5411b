-- Statement 8: whoever is in a tally has sent that message, so that a decision by E, a move to phase 2 by S and a next round each come with a majority of senders.
-- Assumes nothing.
use Rattle.std.specs.Prelude.{Option}
use mathlib.Core.Path.{◌≡◌, refl, sym, ap, ap₂, subst, ◌∙◌}
use mathlib.Core.Bool.{Bool, true, false, ◌&&◌, ◌||◌, not}
use mathlib.Core.List.{List, [], ◌∷◌}
use mathlib.Core.Logic.{◌⊎◌, ◌≢◌, inl, inr}
use Prim.Native.Nat.{ℕ, ◌+◌, ◌-◌, ◌*◌, ◌^◌, ◌≤◌, ◌<◌}
use native.Mathlib.Decide.{ℕ_discrete}
use native.Mathlib.Omega.{arith}
use lib.Count.{ones}
use lib.Dec.{eqb, ltb}
use lib.ListN.{length, get_or, set}
use lib.Pow.{pow_pos}
use borrow.Author.Tests.{leb-true, ltb-true, ltb-false, lt-ltb, eqb-true, eqb-false, eq-eqb, ne_eqb, not-false}
use Rattle.rules.specs.declared.group.Group.{Group}
use Rattle.rules.specs.declared.process.Process.{Process}
use Rattle.rules.specs.declared.process.Next.{Next}
use Rattle.rules.specs.declared.process.Message.{Message}
use Rattle.rules.specs.declared.step.Step.{Step}
use Rattle.rules.specs.declared.step.Step.TheVariants.{DeliverE, DeliverS, DeliverF, DeliverDecision, Suspect, Pause, Crash, Recover}
use Rattle.rules.specs.Refusals.{every, strange, unsent}
use Rattle.rules.specs.Start.{fresh, started_to, opened}
use Rattle.rules.specs.Step.{Course, Idles, Refuses, Takes, hand_overs}
use Rattle.rules.specs.Safety.{Majority, joined_if, estimates_with}
use Rattle.rules.proofs.Bare.Run.{State, start_state, next}
use Rattle.rules.proofs.Bare.Statements.{Begins, at, process_of, TalliesHeard, DecidesWithMajority, Phase2WithMajority, NextRoundWithMajority}
use Rattle.rules.proofs.Bare.Step.{begun, course, settled, stepped}
use Rattle.rules.specs.Limits.{greatest_size, last_round, store_length, majority, coordinator, among}
use Rattle.rules.specs.Tally.{holds, joined, meets, within}
use Rattle.rules.specs.Layout.{process_at, with_process, Sized}
use Rattle.rules.specs.Store.{slot, kind_e, kind_s, kind_f, proposer_of, value_of, message_round, hand_over}
use Rattle.rules.proofs.Laws.Store.{place_by, entry_by}
use Rattle.rules.specs.Events.{takes, enters, joins_estimates, joins_suspicions, decides, second_phase, marks, paused, crashed, recovered, quiet, changed, jumps_if, jumps, relays_if, relays, decides_if, decides_at, goes_to_phase2, goes_to_phase2_if, to_phase2, adopts_if, adopts, enters_next_if, enters_next_at, on_e, on_s, on_f, on_decision, on_suspect, on_pause, on_crash, on_recover, cut_if}
use Rattle.rules.specs.Kinds.{taker_of, numbers_of, delivers, is_cut, slot_of, entry_in, event_of}
use Rattle.rules.specs.Idle.{past_for, idle_e, idle_s, idle_f, idle, in_phase}
use Rattle.rules.proofs.Laws.Bool.{and_both, or_case, or_left, or_right}
use Rattle.rules.proofs.Laws.Tally.{holds-joined, holds-empty, joined-below}
use Rattle.rules.proofs.Laws.Store.{IsMessage, place-lt, own, other, handing, hand_over-length}
use Rattle.rules.proofs.Laws.Group.{process-put, process-kept, started-process, started-size}
use Rattle.rules.proofs.Laws.Sound.{named-entry, second-among, Whole, Sound, sound-facts, Named, Taking, Fine, course-fine, Passed, taker-in}
use Rattle.rules.proofs.Runs.Cases.{course-by}
use Rattle.rules.proofs.Runs.Basics.{onward, Basic, basic-start, basic-next, start_is}

-- ---- a tally whose members have sent a message

-- everyone of 1..n in the tally t has sent its message of round r and kind k
abbrev pub Voiced : List ℕ → ℕ → ℕ → ℕ → ℕ → Type 0
Voiced l n r k t = (j : ℕ) → 1 ≤ j → j ≤ n → holds t j ≡ true → get_or l (slot r j k) 0 ≢ 0

module _ (l : List ℕ) (n r k : ℕ) where
  -- nobody is in the empty tally
  voiced-empty : Voiced l n r k 0
  voiced-empty j a b h = let z : ◌≡◌ {A = ℕ} 0 1 = cc (holds-empty j) in absurd (omega arith)

  -- a sender whose message is sent joins
  voiced-joined : (t j : ℕ) → 1 ≤ j → get_or l (slot r j k) 0 ≢ 0 → Voiced l n r k t → Voiced l n r k (joined t j)
  voiced-joined t j lo sent v i a b h = go (or_case (eqb i j) (holds t i) (sym (holds-joined t j i lo a) ∙ h))
    where
      go : (eqb i j ≡ true) ⊎ (holds t i ≡ true) → get_or l (slot r i k) 0 ≢ 0
      go (inl e) = λ z. sent (ap (λ (x : ℕ). get_or l (slot r x k) 0) (sym (eqb-true i j e)) ∙ z)
      go (inr e) = v i a b e

  -- at a majority, as many have sent it
  voiced-majority : (t : ℕ) → t < 2 ^ n → Voiced l n r k t → meets t n ≡ true → Majority n l r k t
  unfolding meets within
  voiced-majority t below v m = record { meets = leb-true (majority n) (ones t) m; senders = lt-ltb t (2 ^ n) below; sent = v }

-- ---- a process that has heard only what is sent

-- what the tally of estimates counts: E in phase 1, F in phase 2
abbrev pub tally_kind : ℕ → ℕ
tally_kind phase = 2 * (phase - 1)

-- the tallies e and s of a process in round r and phase f
pub record Hears (l : List ℕ) (n r f e s : ℕ) : Type 0 where
  pub estimates : Voiced l n r (tally_kind f) e
  pub suspicions : Voiced l n r kind_s s

abbrev pub HearsAt : List ℕ → ℕ → Process → Type 0
HearsAt l n p = Hears l n p.round p.phase p.estimates p.suspicions

-- with empty tallies it has heard nobody
hears-nobody : (l : List ℕ) (n r f : ℕ) → Hears l n r f 0 0
hears-nobody l n r f = record { estimates = voiced-empty l n r (tally_kind f); suspicions = voiced-empty l n r kind_s }

-- every entry that is sent stays sent
abbrev pub Stays : List ℕ → List ℕ → Type 0
Stays l m = (k : ℕ) → get_or l k 0 ≢ 0 → get_or m k 0 ≢ 0

-- so does what was heard
hears-stays : {l m : List ℕ} {n r f e s : ℕ} → Stays l m → Hears l n r f e s → Hears m n r f e s
hears-stays {l} {m} {n} {r} {f} {e} {s} stays h =
    record {
      estimates = λ j a b t. stays (slot r j (tally_kind f)) (h.estimates j a b t);
      suspicions = λ j a b t. stays (slot r j kind_s) (h.suspicions j a b t);
    }

-- they stay as process i hands over
module _ (n i : ℕ) (lo : 1 ≤ i) (hi : i ≤ greatest_size) where
  over-stays : (m : Option Message) (l : List ℕ) → message_round m ≤ last_round → Named n m → store_length ≤ length l → Stays l (hand_over i m l)
  over-stays m l le named long k sent =
      handing (λ (l' : List ℕ). get_or l' k 0 ≢ 0) i m l (λ none. sent) (λ is. go is (ℕ_discrete k (place_by i m)))
    where
      go : IsMessage m → Dec (k ≡ place_by i m) → get_or (set l (place_by i m) (entry_by i m)) k 0 ≢ 0
      go is (yes e) = λ z.
          named-entry n i m lo named is
          (sym (own l (place_by i m) (entry_by i m) (omega (arith, place-lt i m hi le)))
          ∙ ap (λ (x : ℕ). get_or (set l (place_by i m) (entry_by i m)) x 0) (sym e) ∙ z)
      go is (no ne) = λ z. sent (sym (other l (place_by i m) (entry_by i m) k ne) ∙ z)

pub overs-stay : (n i : ℕ) (x : Next) (l : List ℕ) → Taking n i x → store_length ≤ length l → Stays l (hand_overs i x l)
unfolding hand_overs
overs-stay n i x l h long k sent =
    let once = hand_over i x.first l in
    over-stays n i h.low h.small x.second once h.second h.second-named (omega (arith, hand_over-length i x.first l)) k
    (over-stays n i h.low h.small x.first l h.first h.first-named long k sent)

-- ---- the stages of an E and of an F

-- where the sender joins: in round r and phase f, with only what is sent heard, and no sender above n
record Ripe (l : List ℕ) (n r f at-round at-phase e s : ℕ) : Type 0 where
  round : at-round ≡ r
  phase : at-phase ≡ f
  hears : Hears l n at-round at-phase e s
  below : e < 2 ^ n

abbrev RipeAt : List ℕ → ℕ → ℕ → ℕ → Process → Type 0
RipeAt l n r f p = Ripe l n r f p.round p.phase p.estimates p.suspicions

module _ (l : List ℕ) (n r f : ℕ) {at-round at-phase e s : ℕ} (h : Ripe l n r f at-round at-phase e s) where
  -- j joins, whose message is sent
  ripe-joined : (j : ℕ) → 1 ≤ j → j ≤ n → get_or l (slot r j (tally_kind f)) 0 ≢ 0 → Ripe l n r f at-round at-phase (joined e j) s
  ripe-joined j lo hi sent =
      record {
        round = h.round;
        phase = h.phase;
        hears =
            record {
              estimates =
                  voiced-joined l n at-round (tally_kind at-phase) e j lo
                  (λ z. sent (ap₂ (λ (x y : ℕ). get_or l (slot x j (tally_kind y)) 0) (sym h.round) (sym h.phase) ∙ z)) h.hears.estimates;
              suspicions = h.hears.suspicions;
            };
        below = joined-below e j n h.below lo hi;
      }

  -- at a majority, as many have sent it
  ripe-majority : meets e n ≡ true → Majority n l r (tally_kind f) e
  ripe-majority m =
      voiced-majority l n r (tally_kind f) e h.below
      (λ j a b t z. h.hears.estimates j a b t
      (ap₂ (λ (x y : ℕ). get_or l (slot x j (tally_kind y)) 0) h.round h.phase ∙ z))
      m

-- a process of round r in phase 2, or one that goes there
second-ripe : (l : List ℕ) (n r : ℕ) (t : Bool) (p : Process) → eqb p.phase 1 ≡ t → p.round ≡ r → (p.phase ≡ 1) ⊎ (p.phase ≡ 2) → HearsAt l n p
    → p.estimates < 2 ^ n → RipeAt l n r 2 (goes_to_phase2_if t p).process
unfolding goes_to_phase2_if goes_to_phase2 second_phase quiet
second-ripe l n r true p e same f h b =
    record {
      round = same;
      phase = refl;
      hears = record { estimates = voiced-empty l n p.round kind_f; suspicions = h.suspicions };
      below = pow_pos n;
    }
second-ripe l n r false p e same f h b = record { round = same; phase = two f (eqb-false p.phase 1 e); hears = h; below = b }
  where
    two : {f : ℕ} → (f ≡ 1) ⊎ (f ≡ 2) → f ≢ 1 → f ≡ 2
    two (inl a) no_one = absurd (no_one a)
    two (inr b) no_one = b

-- after the jump, if any, a process that was not past round r is in it
module _ (l : List ℕ) (n r q v : ℕ) (p : Process) (w : Whole n p) (h : HearsAt l n p) (le : p.round ≤ r) where
  -- to join phase 1: it was not in phase 2 of that round
  jumped-one : (t : Bool) → ltb p.round r ≡ t → (p.round ≡ r → p.phase ≢ 2) → RipeAt l n r 1 (jumps_if t r q v p)
  unfolding jumps_if takes enters
  jumped-one true e ne = record { round = refl; phase = refl; hears = hears-nobody l n r 1; below = pow_pos n }
  jumped-one false e ne =
      let same : p.round ≡ r = omega (arith, ltb-false p.round r e) in
      record { round = same; phase = one w.in-phase (ne same); hears = h; below = w.heard }
    where
      one : {f : ℕ} → (f ≡ 1) ⊎ (f ≡ 2) → f ≢ 2 → f ≡ 1
      one (inl a) no-two = a
      one (inr b) no-two = absurd (no-two b)

  -- to join phase 2: it is in phase 2, or goes there
  jumped-two : (t : Bool) → ltb p.round r ≡ t → RipeAt l n r 2 (to_phase2 (jumps_if t r q v p)).process
  unfolding jumps_if takes enters to_phase2
  jumped-two true e =
      second-ripe l n r (eqb 1 1) (jumps_if true r q v p) refl refl (inl refl) (hears-nobody l n r 1) (pow_pos n)
  jumped-two false e =
      second-ripe l n r (eqb p.phase 1) p refl (omega (arith, ltb-false p.round r e)) w.in-phase h w.heard

-- a relay changes nothing of this
relayed-ripe : (l : List ℕ) (n r f : ℕ) (t : Bool) (q v : ℕ) (p : Process) → RipeAt l n r f p → RipeAt l n r f (relays_if t q v p).process
unfolding relays_if takes quiet
relayed-ripe l n r f true q v p h = h
relayed-ripe l n r f false q v p h = h

-- nor does an adoption
adopted-ripe : (l : List ℕ) (n r f : ℕ) (t : Bool) (q v : ℕ) (x : Next) → RipeAt l n r f x.process → RipeAt l n r f (adopts_if t q v x).process
unfolding adopts_if changed takes
adopted-ripe l n r f true q v x h = h
adopted-ripe l n r f false q v x h = h

-- the sender joins
joined-ripe : (l : List ℕ) (n r f j : ℕ) (x : Next) → 1 ≤ j → j ≤ n → get_or l (slot r j (tally_kind f)) 0 ≢ 0 → RipeAt l n r f x.process
    → RipeAt l n r f (changed (joins_estimates j) x).process
unfolding changed joins_estimates
joined-ripe l n r f j x lo hi sent h = ripe-joined l n r f h j lo hi sent

-- ---- events

-- a message of kind k and round r from j that is sent
pub record Arrives (l : List ℕ) (n j r k : ℕ) : Type 0 where
  pub low : 1 ≤ j
  pub high : j ≤ n
  pub sent : get_or l (slot r j k) 0 ≢ 0

-- what rows 3 and 6 leave
arrival : (l : List ℕ) (n i j r k : ℕ) → not (every (among n) (i ∷ j ∷ [])) ≡ false → (true && eqb (get_or l (slot r j k) 0) 0) ≡ false → Arrives l n j r k
arrival l n i j r k known sent =
    let from = second-among n i j [] known in
    record { low = from.0; high = from.1; sent = eqb-false (get_or l (slot r j k) 0) 0 sent }

-- what is not idle is not past;
not-past : (p : Process) (r : ℕ) (b : Bool) → (past_for p r || b) ≡ false → p.round ≤ r
unfolding past_for
not-past p r b e = ltb-false r p.round (or_right p.decided (ltb r p.round) (or_left (past_for p r) b e))

-- an E does not come to phase 2 of its round;
not-two : (p : Process) (r : ℕ) (b : Bool) → (in_phase p r 2 || b) ≡ false → p.round ≡ r → p.phase ≢ 2
unfolding in_phase
not-two p r b e same f =
    let no-phase = or_left (in_phase p r 2) b e in
    let yes-phase = and_both (eqb r p.round) (eqb p.phase 2) (eq-eqb r p.round (sym same)) (eq-eqb p.phase 2 f) in
    let z : ◌≡◌ {A = ℕ} 0 1 = cc in
    omega arith

-- and an S comes to its own round
not_same : (p : Process) (r : ℕ) (b c : Bool) → ((not (eqb r p.round) || b) || c) ≡ false → r ≡ p.round
not_same p r b c e =
    eqb-true r p.round (not-false (eqb r p.round) (or_left (not (eqb r p.round)) b (or_left (not (eqb r p.round) || b) c e)))

-- whether a process that is not past round r is in its phase 1, or in its phase 2, by the tests of the stages
in-first : {n : ℕ} (p : Process) (r : ℕ) → Whole n p → p.round ≤ r → (p.round ≡ r → p.phase ≢ 2) → not (ltb p.round r) ≡ in_phase p r 1
unfolding in_phase
in-first p r w le two = go (ltb p.round r) refl
  where
    one : {f : ℕ} → (f ≡ 1) ⊎ (f ≡ 2) → f ≢ 2 → f ≡ 1
    one (inl a) no-two = a
    one (inr b) no-two = absurd (no-two b)

    go : (t : Bool) → ltb p.round r ≡ t → not t ≡ (eqb r p.round && eqb p.phase 1)
    go true e = sym (ap (λ (b : Bool). b && eqb p.phase 1) (ne_eqb r p.round (omega (arith, ltb-true p.round r e))))
    go false e =
        let same : p.round ≡ r = omega (arith, ltb-false p.round r e) in
        sym (and_both (eqb r p.round) (eqb p.phase 1) (eq-eqb r p.round (sym same)) (eq-eqb p.phase 1 (one w.in-phase (two same))))

in-second : {n : ℕ} (p : Process) (r q v : ℕ) → Whole n p → p.round ≤ r
    → (not (ltb p.round r) && not (eqb (jumps_if (ltb p.round r) r q v p).phase 1)) ≡ in_phase p r 2
unfolding in_phase jumps_if
in-second p r q v w le = go (ltb p.round r) refl
  where
    other : (f : ℕ) → (f ≡ 1) ⊎ (f ≡ 2) → not (eqb f 1) ≡ eqb f 2
    other f (inl e) = rw e
    other f (inr e) = rw e

    go : (t : Bool) → ltb p.round r ≡ t → (not t && not (eqb (jumps_if t r q v p).phase 1)) ≡ (eqb r p.round && eqb p.phase 2)
    go true e = sym (ap (λ (b : Bool). b && eqb p.phase 2) (ne_eqb r p.round (omega (arith, ltb-true p.round r e))))
    go false e =
        let same : r ≡ p.round = omega (arith, ltb-false p.round r e) in
        other p.phase w.in-phase ∙ sym (ap (λ (b : Bool). b && eqb p.phase 2) (eq-eqb r p.round same))

module _ (l : List ℕ) (n i j r : ℕ) (p : Process) (w : Whole n p) (h : HearsAt l n p) where
  -- an E: the record that its last stage takes
  module _ (q v : ℕ) (m : Arrives l n j r kind_e) (busy : idle_e p j r ≡ false) where
    abbrev last-E : Next
    last-E = changed (joins_estimates j) (relays n i q v (jumps r q v p))

    ripe-E : RipeAt l n r 1 last-E.process
    unfolding jumps relays idle_e
    ripe-E =
        let rest = in_phase p r 1 && holds p.estimates j in
        let p' = jumps_if (ltb p.round r) r q v p in
        let t = eqb p'.estimates 0 && not (eqb i (coordinator p'.round n)) in
        let jumped =
        jumped-one l n r q v p w h (not-past p r (in_phase p r 2 || rest) busy) (ltb p.round r) refl
        (not-two p r rest (or_right (past_for p r) (in_phase p r 2 || rest) busy)) in
        joined-ripe l n r 1 j (relays_if t q v p') m.low m.high m.sent (relayed-ripe l n r 1 t q v p' jumped)

    hears-E : HearsAt l n (on_e n i j r q v p).process
    unfolding on_e decides_at decides_if decides
    hears-E = go (meets last-E.process.estimates n)
      where
        go : (t : Bool) → HearsAt l n (decides_if t last-E).process
        go true = ripe-E.hears
        go false = ripe-E.hears

    -- up to there it has decided nothing
    undecided : (s t : Bool) → (changed (joins_estimates j) (relays_if s q v (jumps_if t r q v p))).process.decided ≡ p.decided
    unfolding changed joins_estimates relays_if jumps_if takes enters quiet
    undecided true true = refl
    undecided true false = refl
    undecided false true = refl
    undecided false false = refl

    -- the tally that it has then: its own, or an empty one where it jumps, with the sender
    joined-E : (s t : Bool) → (changed (joins_estimates j) (relays_if s q v (jumps_if t r q v p))).process.estimates ≡ joined_if (not t) p.estimates j
    unfolding changed joins_estimates relays_if jumps_if takes enters quiet joined_if
    joined-E true true = refl
    joined-E true false = refl
    joined-E false true = refl
    joined-E false false = refl

    tally-E : last-E.process.estimates ≡ estimates_with j r 1 p
    unfolding relays jumps idle_e
    tally-E =
        let rest = in_phase p r 1 && holds p.estimates j in
        let p' = jumps_if (ltb p.round r) r q v p in
        joined-E (eqb p'.estimates 0 && not (eqb i (coordinator p'.round n))) (ltb p.round r)
        ∙ ap (λ (b : Bool). joined_if b p.estimates j)
        (in-first p r w (not-past p r (in_phase p r 2 || rest) busy) (not-two p r rest (or_right (past_for p r) (in_phase p r 2 || rest) busy)))

    -- it decides with a majority
    decides-E : p.decided ≡ false → (on_e n i j r q v p).process.decided ≡ true → Majority n l r kind_e last-E.process.estimates
    unfolding on_e decides_at decides_if relays jumps
    decides-E old = go (meets last-E.process.estimates n) refl
      where
        go : (t : Bool) → meets last-E.process.estimates n ≡ t → (decides_if t last-E).process.decided ≡ true
            → Majority n l r kind_e last-E.process.estimates
        go true e new = ripe-majority l n r 1 ripe-E e
        go false e new =
            let p' = jumps_if (ltb p.round r) r q v p in
            let same = undecided (eqb p'.estimates 0 && not (eqb i (coordinator p'.round n))) (ltb p.round r) in
            let z : ◌≡◌ {A = ℕ} 0 1 = cc in
            absurd (omega arith)

  -- an F likewise
  module _ (q v : ℕ) (m : Arrives l n j r kind_f) (busy : idle_f p j r ≡ false) where
    abbrev last-F : Next
    last-F = changed (joins_estimates j) (adopts n q v (to_phase2 (jumps r q v p)))

    ripe-F : RipeAt l n r 2 last-F.process
    unfolding jumps adopts idle_f
    ripe-F =
        let x = to_phase2 (jumps_if (ltb p.round r) r q v p) in
        let t = eqb q (coordinator x.process.round n) in
        let jumped = jumped-two l n r q v p w h (not-past p r (in_phase p r 2 && holds p.estimates j) busy) (ltb p.round r) refl in
        joined-ripe l n r 2 j (adopts_if t q v x) m.low m.high m.sent (adopted-ripe l n r 2 t q v x jumped)

    hears-F : HearsAt l n (on_f n i j r q v p).process
    unfolding on_f enters_next_at enters_next_if enters
    hears-F = go (meets last-F.process.estimates n)
      where
        go : (t : Bool) → HearsAt l n (enters_next_if t n i last-F).process
        go true = hears-nobody l n (last-F.process.round + 1) 1
        go false = ripe-F.hears

    -- the tally that it has then: its own in phase 2 of that round, or an empty one, with the sender
    joined-F : (s t u : Bool) → (changed (joins_estimates j) (adopts_if s q v (goes_to_phase2_if u (jumps_if t r q v p)))).process.estimates ≡ joined_if (not t && not u) p.estimates j
    unfolding changed joins_estimates adopts_if goes_to_phase2_if goes_to_phase2 second_phase jumps_if takes enters quiet joined_if
    joined-F true true true = refl
    joined-F true true false = refl
    joined-F true false true = refl
    joined-F true false false = refl
    joined-F false true true = refl
    joined-F false true false = refl
    joined-F false false true = refl
    joined-F false false false = refl

    tally-F : last-F.process.estimates ≡ estimates_with j r 2 p
    unfolding adopts to_phase2 jumps idle_f
    tally-F =
        let p' = jumps_if (ltb p.round r) r q v p in
        let x = goes_to_phase2_if (eqb p'.phase 1) p' in
        joined-F (eqb q (coordinator x.process.round n)) (ltb p.round r) (eqb p'.phase 1)
        ∙ ap (λ (b : Bool). joined_if b p.estimates j) (in-second p r q v w (not-past p r (in_phase p r 2 && holds p.estimates j) busy))

    -- it enters the next round with a majority
    next-F : (on_f n i j r q v p).process.round ≡ r + 1 → Majority n l r kind_f last-F.process.estimates
    unfolding on_f enters_next_at enters_next_if
    next-F = go (meets last-F.process.estimates n) refl
      where
        go : (t : Bool) → meets last-F.process.estimates n ≡ t → (enters_next_if t n i last-F).process.round ≡ r + 1
            → Majority n l r kind_f last-F.process.estimates
        go true e new = ripe-majority l n r 2 ripe-F e
        go false e new = absurd (omega (arith, ripe-F.round))

  -- an S, of the round that the process is in
  module _ (m : Arrives l n j r kind_s) (busy : idle_s p j r ≡ false) where
    same-round : r ≡ p.round
    unfolding idle_s
    same-round =
        let away = not (eqb r p.round) || eqb p.phase 2 in
        not_same p r (eqb p.phase 2) (holds p.suspicions j) (or_right (past_for p r) (away || holds p.suspicions j) busy)

    suspected : Voiced l n r kind_s (joined p.suspicions j)
    suspected =
        voiced-joined l n r kind_s p.suspicions j m.low m.sent
        (subst (λ (x : ℕ). Voiced l n x kind_s p.suspicions) (sym same-round) h.suspicions)

    hears-S : HearsAt l n (on_s n j p).process
    unfolding on_s joins_suspicions goes_to_phase2_if goes_to_phase2 second_phase quiet
    hears-S = go (meets (joins_suspicions j p).suspicions n)
      where
        own-round : Voiced l n p.round kind_s (joined p.suspicions j)
        own-round = subst (λ (x : ℕ). Voiced l n x kind_s (joined p.suspicions j)) same-round suspected

        go : (t : Bool) → HearsAt l n (goes_to_phase2_if t (joins_suspicions j p)).process
        go true = record { estimates = voiced-empty l n p.round kind_f; suspicions = own-round }
        go false = record { estimates = h.estimates; suspicions = own-round }

    -- it goes to phase 2 with a majority
    second-S : p.phase ≡ 1 → (on_s n j p).process.phase ≡ 2 → Majority n l r kind_s (joined p.suspicions j)
    unfolding on_s joins_suspicions goes_to_phase2_if goes_to_phase2 quiet
    second-S old = go (meets (joins_suspicions j p).suspicions n) refl
      where
        go : (t : Bool) → meets (joins_suspicions j p).suspicions n ≡ t → (goes_to_phase2_if t (joins_suspicions j p)).process.phase ≡ 2
            → Majority n l r kind_s (joined p.suspicions j)
        go true e new =
            voiced-majority l n r kind_s (joined p.suspicions j) (joined-below p.suspicions j n w.suspected m.low m.high) suspected e
        go false e new = absurd (omega arith)

-- ---- a step

-- what holds of a course that is idle, of one that refuses, of a crash and of the step's event, cut or not, holds of the step's course
by-course : (P : Course → Type 0) (g : Group) (l : List ℕ) (s : Step) → P Idles → ((k : ℕ) → P (Refuses k))
    → (Passed g l s → P (Takes (taker_of s) (on_crash (process_at g (taker_of s)))))
    → (Passed g l s → idle g s ≡ false → (cut : Bool) → P (Takes (taker_of s) (cut_if cut (event_of g l s)))) → P (course g l s)
by-course P g l s a b c d = course-by P g l s a b (λ h t. c h) (λ h t. d h t (is_cut s))

-- the taker of a step that is not refused is whole
taker-whole : (g : Group) (l : List ℕ) (s : Step) → Passed g l s → Whole g.n (process_at g (taker_of s))
taker-whole g l s h = let to = taker-in g s h.known in (sound-facts g h.sound).each (taker_of s) to.0 to.1

-- the messages of its deliveries are sent
module _ (g : Group) (l : List ℕ) (i j r : ℕ) (c : Bool) where
  arrives-E : Passed g l (DeliverE i j r c) → Arrives l g.n j r kind_e
  unfolding strange numbers_of unsent delivers entry_in slot_of
  arrives-E h = arrival l g.n i j r kind_e h.known h.sent

  arrives-S : Passed g l (DeliverS i j r c) → Arrives l g.n j r kind_s
  unfolding strange numbers_of unsent delivers entry_in slot_of
  arrives-S h = arrival l g.n i j r kind_s h.known h.sent

  arrives-F : Passed g l (DeliverF i j r c) → Arrives l g.n j r kind_f
  unfolding strange numbers_of unsent delivers entry_in slot_of
  arrives-F h = arrival l g.n i j r kind_f h.known h.sent

-- its event leaves it with only what is sent heard
event-hears : (g : Group) (l : List ℕ) (s : Step) → Passed g l s → idle g s ≡ false → HearsAt l g.n (process_at g (taker_of s))
    → HearsAt l g.n (event_of g l s).process
unfolding event_of taker_of idle
event-hears g l (DeliverE i j r c) h f hears =
    let e = entry_in l (DeliverE i j r c) in
    hears-E l g.n i j r (process_at g i) (taker-whole g l (DeliverE i j r c) h) hears (proposer_of e) (value_of e) (arrives-E g l i j r c h) f
event-hears g l (DeliverS i j r c) h f hears =
    hears-S l g.n i j r (process_at g i) (taker-whole g l (DeliverS i j r c) h) hears (arrives-S g l i j r c h) f
event-hears g l (DeliverF i j r c) h f hears =
    let e = entry_in l (DeliverF i j r c) in
    hears-F l g.n i j r (process_at g i) (taker-whole g l (DeliverF i j r c) h) hears (proposer_of e) (value_of e) (arrives-F g l i j r c h) f
event-hears g l (DeliverDecision i j c) h f hears = unfold on_decision decides in hears
event-hears g l (Suspect i c) h f hears = unfold on_suspect marks in hears
event-hears g l (Pause i) h f hears = unfold on_pause quiet paused in hears
event-hears g l (Crash i) h f hears = unfold on_crash quiet crashed in hears-nobody l g.n (process_at g i).round (process_at g i).phase
event-hears g l (Recover i) h f hears = unfold on_recover quiet recovered in hears

-- a crash, of its own or by a cut
crash-hears : (l : List ℕ) (n : ℕ) (p : Process) → HearsAt l n (on_crash p).process
unfolding on_crash quiet crashed
crash-hears l n p = hears-nobody l n p.round p.phase

cut-hears : (l : List ℕ) (n : ℕ) (cut : Bool) (x : Next) → HearsAt l n x.process → HearsAt l n (cut_if cut x).process
unfolding cut_if
cut-hears l n true x h = crash-hears l n x.process
cut-hears l n false x h = h

-- ---- every process of a group

-- each has heard only what is sent
abbrev pub AllHear : Group → List ℕ → Type 0
AllHear g l = (i : ℕ) → 1 ≤ i → i ≤ g.n → HearsAt l g.n (process_at g i)

module _ (g : Group) (l : List ℕ) (sized : Sized g) (sound : Sound g) (long : store_length ≤ length l) (all : AllHear g l) where
  -- one of them is put back, and hands over
  all-with : (i : ℕ) (x : Next) → Taking g.n i x → HearsAt l g.n x.process → AllHear (with_process g i x.process) (hand_overs i x l)
  unfolding with_process
  all-with i x t h k lo hi = hears-stays (overs-stay g.n i x l t long) (go (ℕ_discrete k i))
    where
      go : Dec (k ≡ i) → HearsAt l g.n (process_at (with_process g i x.process) k)
      go (yes e) =
          subst (λ (p : Process). HearsAt l g.n p)
          (sym (ap (process_at (with_process g i x.process)) e ∙ process-put g i x.process sized t.low t.small))
          h
      go (no ne) =
          subst (λ (p : Process). HearsAt l g.n p)
          (sym (process-kept g i k x.process t.low t.small lo (omega (arith, sound.high)) ne))
          (all k lo hi)

  -- every step keeps it
  all-step : (s : Step) → AllHear (stepped g l s).group (stepped g l s).store
  unfolding stepped settled
  all-step s =
      by-course (λ (c : Course). Fine g.n c → AllHear (settled g l c).group (settled g l c).store) g l s (λ t. all) (λ k t. all)
      (λ h t. all-with (taker_of s) (on_crash (process_at g (taker_of s))) t (crash-hears l g.n (process_at g (taker_of s))))
      (λ h f cut t.
      let to = taker-in g s h.known in
      all-with (taker_of s) (cut_if cut (event_of g l s)) t
      (cut-hears l g.n cut (event_of g l s) (event-hears g l s h f (all (taker_of s) to.0 to.1))))
      (course-fine g l s)

-- a start: every tally is empty
all-started : (vs l : List ℕ) → length vs ≤ greatest_size → AllHear (started_to vs (length vs)) l
unfolding fresh
all-started vs l few i lo hi =
    let g = started_to vs (length vs) in
    subst (λ (p : Process). HearsAt l g.n p)
    (sym (started-process vs (length vs) i lo (omega (arith, started-size vs (length vs))) few))
    (hears-nobody l g.n 0 1)

-- ---- every state of a run

-- a state of the run where each process has heard only what is sent
record Heeds (vs : List ℕ) (a : State) : Type 0 where
  basics : Basic vs a
  all : AllHear a.group a.store

-- the start, a step, and every state
heeds-start : (vs l : List ℕ) → Begins vs l → Heeds vs (start_state vs l)
unfolding begun
heeds-start vs l b =
    record {
      basics = basic-start vs l b;
      all =
          subst (λ (a : State). AllHear a.group a.store) (sym (start_is vs l b))
          (all-started vs (opened (get_or vs 0 0) l) b.few);
    }

heeds-next : (vs : List ℕ) (a : State) (s : Step) → Heeds vs a → Heeds vs (next a s)
unfolding next
heeds-next vs a s h =
    let k = h.basics in
    record {
      basics = basic-next vs a s k;
      all = all-step a.group a.store k.sized (sound-facts a.group k.sound) k.long h.all s;
    }

heeds : (vs l : List ℕ) (ss : List Step) → Begins vs l → Heeds vs (at vs l ss)
heeds vs l ss b = onward (Heeds vs) (heeds-next vs) (start_state vs l) ss (heeds-start vs l b)

-- whoever is in a tally sent that message
pub tallies-heard : TalliesHeard
tallies-heard vs l ss b i j oi oj =
    let a = at vs l ss in
    let k = heeds vs l ss b in
    let size = k.basics.size in
    let h = k.all i oi.low (omega (arith, oi.high)) in
    let high : j ≤ a.group.n = omega (arith, oj.high) in
    let r = (process_of a i).round in
    record {
      estimates = λ f t z. h.estimates j oj.low high t (ap (λ (x : ℕ). get_or a.store (slot r j (tally_kind x)) 0) f ∙ z);
      answers = λ f t z. h.estimates j oj.low high t (ap (λ (x : ℕ). get_or a.store (slot r j (tally_kind x)) 0) f ∙ z);
      suspicions = λ t. h.suspicions j oj.low high t;
    }

-- ---- majorities

-- what a crash keeps of the taker is after a step as it was, or as the step's event leaves it
abbrev Came : {A : Type 0} → (Process → A) → Group → List ℕ → Step → Group → Type 0
Came f g l s g' =
    (f (process_at g' (taker_of s)) ≡ f (process_at g (taker_of s)))
    ⊎ (Passed g l s × (idle g s ≡ false) × (f (process_at g' (taker_of s)) ≡ f (event_of g l s).process))

-- a cut keeps it
cut_keeps : {A : Type 0} (f : Process → A) → ((p : Process) → f (crashed p) ≡ f p) → (cut : Bool) (x : Next) → f (cut_if cut x).process ≡ f x.process
unfolding cut_if on_crash quiet
cut_keeps f keeps true x = keeps x.process
cut_keeps f keeps false x = refl

-- so it comes
came : {A : Type 0} (f : Process → A) → ((p : Process) → f (crashed p) ≡ f p) → (g : Group) (l : List ℕ) (s : Step) → Sized g
    → Came f g l s (stepped g l s).group
unfolding stepped settled on_crash quiet
came f keeps g l s sized =
    by-course (λ (c : Course). Fine g.n c → Came f g l s (settled g l c).group) g l s (λ t. inl refl) (λ k t. inl refl)
    (λ h t.
    let p = process_at g (taker_of s) in
    inl (ap f (process-put g (taker_of s) (crashed p) sized t.low t.small) ∙ keeps p))
    (λ h e cut t.
    let x = cut_if cut (event_of g l s) in
    inr (h, e, ap f (process-put g (taker_of s) x.process sized t.low t.small) ∙ cut_keeps f keeps cut (event_of g l s)))
    (course-fine g l s)

module _ (g : Group) (l : List ℕ) (sized : Sized g) (all : AllHear g l) (i j r : ℕ) (c : Bool) where
  -- the taker has heard only what is sent
  taker-hears : (s : Step) → Passed g l s → HearsAt l g.n (process_at g (taker_of s))
  taker-hears s h = let to = taker-in g s h.known in all (taker_of s) to.0 to.1

  -- a decision by an E
  decides-step : (process_at g i).decided ≡ false → (process_at (stepped g l (DeliverE i j r c)).group i).decided ≡ true → Majority g.n l r kind_e (estimates_with j r 1 (process_at g i))
  unfolding taker_of idle event_of crashed
  decides-step old new = go (came (λ (p : Process). p.decided) (λ p. refl) g l s sized)
    where
      s : Step
      s = DeliverE i j r c

      go : Came (λ (p : Process). p.decided) g l s (stepped g l s).group → Majority g.n l r kind_e (estimates_with j r 1 (process_at g i))
      go (inl same) = let z : ◌≡◌ {A = ℕ} 0 1 = cc in absurd (omega arith)
      go (inr (h, f, e)) =
          let w = taker-whole g l s h in
          let m = arrives-E g l i j r c h in
          let q = proposer_of (entry_in l s) in
          let v = value_of (entry_in l s) in
          subst (Majority g.n l r kind_e) (tally-E l g.n i j r (process_at g i) w (taker-hears s h) q v m f)
          (decides-E l g.n i j r (process_at g i) w (taker-hears s h) q v m f old (sym e ∙ new))

  -- phase 2 by an S
  second-step : (process_at g i).phase ≡ 1 → (process_at (stepped g l (DeliverS i j r c)).group i).phase ≡ 2 → Majority g.n l r kind_s (joined (process_at g i).suspicions j)
  unfolding taker_of idle event_of crashed
  second-step old new = go (came (λ (p : Process). p.phase) (λ p. refl) g l s sized)
    where
      s : Step
      s = DeliverS i j r c

      go : Came (λ (p : Process). p.phase) g l s (stepped g l s).group → Majority g.n l r kind_s (joined (process_at g i).suspicions j)
      go (inl same) = absurd (omega arith)
      go (inr (h, f, e)) =
          second-S l g.n i j r (process_at g i) (taker-whole g l s h) (taker-hears s h) (arrives-S g l i j r c h) f old (sym e ∙ new)

  -- the next round by an F
  round-step : (process_at g i).round ≤ r → (process_at (stepped g l (DeliverF i j r c)).group i).round ≡ r + 1 → Majority g.n l r kind_f (estimates_with j r 2 (process_at g i))
  unfolding taker_of idle event_of crashed
  round-step old new = go (came (λ (p : Process). p.round) (λ p. refl) g l s sized)
    where
      s : Step
      s = DeliverF i j r c

      go : Came (λ (p : Process). p.round) g l s (stepped g l s).group → Majority g.n l r kind_f (estimates_with j r 2 (process_at g i))
      go (inl same) = absurd (omega arith)
      go (inr (h, f, e)) =
          let w = taker-whole g l s h in
          let m = arrives-F g l i j r c h in
          let q = proposer_of (entry_in l s) in
          let v = value_of (entry_in l s) in
          subst (Majority g.n l r kind_f) (tally-F l g.n i j r (process_at g i) w (taker-hears s h) q v m f)
          (next-F l g.n i j r (process_at g i) w (taker-hears s h) q v m f (sym e ∙ new))

-- a decision by E, a move to phase 2 by S and a next round by F come with a majority that sent it
pub decides-with-majority : DecidesWithMajority
unfolding next
decides-with-majority vs l ss b i j r c o old new =
    let a = at vs l ss in
    let k = heeds vs l ss b in
    subst (λ (n : ℕ). Majority n a.store r kind_e (estimates_with j r 1 (process_of a i))) k.basics.size (decides-step a.group a.store k.basics.sized k.all i j r c old new)

pub phase2-with-majority : Phase2WithMajority
unfolding next
phase2-with-majority vs l ss b i j r c o old new =
    let a = at vs l ss in
    let k = heeds vs l ss b in
    subst (λ (n : ℕ). Majority n a.store r kind_s (joined (process_of a i).suspicions j)) k.basics.size (second-step a.group a.store k.basics.sized k.all i j r c old new)

pub next-round-with-majority : NextRoundWithMajority
unfolding next
next-round-with-majority vs l ss b i j r c o old new =
    let a = at vs l ss in
    let k = heeds vs l ss b in
    subst (λ (n : ℕ). Majority n a.store r kind_f (estimates_with j r 2 (process_of a i))) k.basics.size (round-step a.group a.store k.basics.sized k.all i j r c old new)
