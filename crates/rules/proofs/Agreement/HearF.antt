-- The delivery of an F that is not idle: a jump, phase 2 with an F of the estimate held before, the coordinator's estimate taken, the sender joined, and at a majority the next
-- round, with an E of whoever coordinates it. Assumes nothing.
use mathlib.Core.Path.{◌≡◌, refl, sym, ap, ap₂, ◌∙◌, subst}
use mathlib.Core.Bool.{Bool, true, false}
use mathlib.Core.Logic.{◌≢◌, ◌⊎◌, inl, inr}
use Prim.Native.Nat.{ℕ, ◌+◌, ◌^◌, ◌≤◌, ◌<◌}
use native.Mathlib.Omega.{arith}
use lib.Dec.{eqb}
use borrow.Author.Tests.{eqb-true, eqb-false}
use Rattle.rules.specs.declared.process.Process.{Process}
use Rattle.rules.specs.declared.process.Next.{Next}
use Rattle.rules.specs.Limits.{coordinator, majority}
use Rattle.rules.specs.Tally.{joined, meets, count}
use Rattle.rules.specs.Store.{entry_of, proposer_of, value_of}
use Rattle.rules.specs.Events.{takes, enters, second_phase, joins_estimates, quiet, changed, jumps, goes_to_phase2, goes_to_phase2_if, to_phase2, adopts_if, adopts, opens_if, opens, enters_next_if, enters_next_at, on_f}
use Rattle.rules.proofs.Laws.Tally.{joined-below}
use Rattle.rules.proofs.Laws.Store.{entry-parts, entry-proposer, entry_value}
use Rattle.rules.proofs.Agreement.Upd.{upd2, upd2-cases}
use Rattle.rules.proofs.Agreement.View.{Proc, View, who, what, coord, c, set_p, put_e}
use Rattle.rules.proofs.Agreement.Inv.{Inv}
use Rattle.rules.proofs.Agreement.Moves.{an_f, stayed, entered}
use Rattle.rules.proofs.Agreement.Focus.{proc-path}
use Rattle.rules.proofs.Agreement.Focus as focus
use Rattle.rules.proofs.Agreement.Rules.{adopt_f, join_f, enter, enter_e, add}
use Rattle.rules.proofs.Agreement.Seen.{seen, hand, hand-n, heard_in, decision_of, heard-none, heard-join, heard-majority}
use Rattle.rules.proofs.Agreement.Stages.{moved, Ready, Kept, Half, half-kept, value-lt, quiet-half, jump-ready, phase2-half, jumps-by}

module _ (A : View) (i j r e : ℕ) (low : 1 ≤ i) (high : i ≤ A.n) (from_low : 1 ≤ j) (from-high : j ≤ A.n) (sent : A.F r j ≡ e) (real : e ≢ 0) where
  -- after the jump, or where there is none
  record Here (p : Process) : Type 0 where
    ready : Ready A i p
    round : p.round ≡ r
    phase : (p.phase ≡ 1) ⊎ (p.phase ≡ 2)

  -- the jump
  there : (p : Process) → Ready A i p → p.round ≤ r → (p.phase ≡ 1) ⊎ (p.phase ≡ 2) → Here (jumps r (proposer_of e) (value_of e) p)
  unfolding takes enters
  there p h le f =
      jumps-by Here r (proposer_of e) (value_of e) p
      (λ l.
      record {
        ready = jump-ready A i low high p r e h l (an_f j (λ z. real (sym sent ∙ z)) (sym sent));
        round = refl;
        phase = inl refl;
      })
      (λ ge. record { ready = h; round = omega arith; phase = f })

  -- in phase 2 of the round, with the delivered F in the store before and after its own
  record Second (x : Next) : Type 0 where
    half : Half A i x
    round : x.process.round ≡ r
    phase : x.process.phase ≡ 2
    told : (hand A i x.first).F r j ≡ e

  -- phase 2, with the F
  closing : (p : Process) → Here p → p.phase ≡ 1 → Second (goes_to_phase2 p)
  unfolding goes_to_phase2 second_phase
  closing p h f =
      record {
        half = phase2-half A i low high p h.ready f;
        round = h.round;
        phase = refl;
        told = go (upd2-cases A.F p.round i (entry_of p.proposer p.value) r j);
      }
    where
      after : ℕ → ℕ → ℕ
      after = upd2 A.F p.round i (entry_of p.proposer p.value)

      none : A.F p.round i ≡ 0
      none = focus.no-F A i low high (seen p) h.ready.inv f

      -- i itself has sent no F of r
      go : (after r j ≡ A.F r j) ⊎ ((p.round ≡ r) × (i ≡ j) × (after r j ≡ entry_of p.proposer p.value)) → after r j ≡ e
      go (inl z) = z ∙ sent
      go (inr y) = absurd (real (sym sent ∙ ap₂ A.F (sym y.0) (sym y.1) ∙ none))

  -- if it is in phase 1
  closes : (p : Process) → Here p → Second (to_phase2 p)
  unfolding to_phase2 goes_to_phase2_if quiet
  closes p h = go (eqb p.phase 1) refl h.phase
    where
      go : (t : Bool) → eqb p.phase 1 ≡ t → (p.phase ≡ 1) ⊎ (p.phase ≡ 2) → Second (goes_to_phase2_if t p)
      go true x f = closing p h (eqb-true p.phase 1 x)
      go false x (inl f) = absurd (eqb-false p.phase 1 x f)
      go false x (inr f) =
          record { half = quiet-half A i low high p h.ready; round = h.round; phase = f; told = sent }

  -- the F is taken or not, and its sender joins: in any group of this size with that F
  module _ (p : Process) (round : p.round ≡ r) (phase : p.phase ≡ 2) (B : View) (en : B.n ≡ A.n) (told : B.F r j ≡ e) (inv : Inv (set_p B i (seen p))) where
    told_here : B.F p.round j ≡ e
    told_here = ap (λ (s : ℕ). B.F s j) round ∙ told

    real-here : B.F p.round j ≢ 0
    real-here z = real (sym told_here ∙ z)

    leader : coordinator p.round A.n ≡ c B p.round
    unfolding coord
    leader = ap (λ (n : ℕ). coordinator p.round n) (sym en)

    by : who (B.F p.round j) ≡ proposer_of e
    unfolding who
    by = ap proposer_of told_here

    takes-F : proposer_of e ≡ coordinator p.round A.n → Inv (set_p B i (seen (joins_estimates j (takes (proposer_of e) (value_of e) p))))
    unfolding joins_estimates takes
    takes-F w =
        moved B i low (omega (arith, en)) (seen p) inv B t (seen q)
        (proc-path t (seen q) refl refl (told_here ∙ sym (entry-parts e)) (λ k. sym (heard-join p.estimates j from_low k)) refl)
        (adopt_f j phase real-here (by ∙ w ∙ leader))
      where
        q : Process
        q = joins_estimates j (takes (proposer_of e) (value_of e) p)

        t : Proc
        t = stayed (seen p) (B.F p.round j) (add (heard_in p.estimates) j) (decision_of p.decided p.decision)

    joins-F : proposer_of e ≢ coordinator p.round A.n → Inv (set_p B i (seen (joins_estimates j p)))
    unfolding joins_estimates
    joins-F w =
        moved B i low (omega (arith, en)) (seen p) inv B t (seen q)
        (proc-path t (seen q) refl refl refl (λ k. sym (heard-join p.estimates j from_low k)) refl)
        (join_f j phase real-here (λ z. w (sym by ∙ z ∙ sym leader)))
      where
        q : Process
        q = joins_estimates j p

        t : Proc
        t =
            stayed (seen p) (entry_of p.proposer p.value) (add (heard_in p.estimates) j) (decision_of p.decided p.decision)

  -- so it keeps both
  hears : (x : Next) → Second x → Second (changed (joins_estimates j) (adopts A.n (proposer_of e) (value_of e) x))
  unfolding changed joins_estimates adopts adopts_if takes
  hears x h = go (eqb (proposer_of e) (coordinator p.round A.n)) refl
    where
      p : Process
      p = x.process

      B : View
      B = hand A i x.first

      en : B.n ≡ A.n
      en = hand-n A i x.first

      fits : joined p.estimates j < 2 ^ A.n
      fits = joined-below p.estimates j A.n h.half.heard from_low from-high

      go : (t : Bool) → eqb (proposer_of e) (coordinator p.round A.n) ≡ t → Second (changed (joins_estimates j) (adopts_if t (proposer_of e) (value_of e) x))
      go true y =
          let w = eqb-true (proposer_of e) (coordinator p.round A.n) y in
          record {
            half =
                record {
                  all = takes-F p h.round h.phase B en h.told h.half.all w;
                  part = takes-F p h.round h.phase A refl sent h.half.part w;
                  small = value-lt e;
                  heard = fits;
                  silent = h.half.silent;
                };
            round = h.round;
            phase = h.phase;
            told = h.told;
          }
      go false y =
          let w = eqb-false (proposer_of e) (coordinator p.round A.n) y in
          record {
            half =
                record {
                  all = joins-F p h.round h.phase B en h.told h.half.all w;
                  part = joins-F p h.round h.phase A refl sent h.half.part w;
                  small = h.half.small;
                  heard = fits;
                  silent = h.half.silent;
                };
            round = h.round;
            phase = h.phase;
            told = h.told;
          }

  -- the next round
  module _ (x : Next) (h : Second x) (big : meets x.process.estimates A.n ≡ true) where
    abbrev now : Process
    now = x.process

    -- its record there
    abbrev later : Process
    later = enters (x.process.round + 1) (takes i x.process.value x.process)

    abbrev own : ℕ
    own = entry_of i x.process.value

    path : entered (seen x.process) (entry_of i x.process.value) ≡ seen (enters (x.process.round + 1) (takes i x.process.value x.process))
    unfolding enters takes
    path = proc-path (entered (seen now) own) (seen later) refl refl refl (λ k. sym (heard-none k)) refl

    many : (B : View) → B.n ≡ A.n → majority B.n ≤ count (heard_in x.process.estimates) B.n
    many B en =
        subst (λ (n : ℕ). majority n ≤ count (heard_in now.estimates) n) (sym en)
        (heard-majority now.estimates A.n h.half.heard big)

    mine : who (entry_of i x.process.value) ≡ i
    unfolding who
    mine = entry-proposer i now.value h.half.small

    same : what (entry_of i x.process.value) ≡ what (entry_of x.process.proposer x.process.value)
    unfolding what
    same =
        entry_value i now.value h.half.small ∙ sym (entry_value now.proposer now.value h.half.small)

    goes_on : (B : View) → B.n ≡ A.n → Inv (set_p B i (seen x.process))
        → Inv (set_p B i (seen (enters (x.process.round + 1) (takes i x.process.value x.process))))
    goes_on B en inv =
        moved B i low (omega (arith, en)) (seen now) inv B (entered (seen now) own) (seen later) path
        (enter h.phase (many B en) own mine same)

    leads-on : (B : View) → B.n ≡ A.n → Inv (set_p B i (seen x.process)) → i ≡ coordinator (x.process.round + 1) A.n
        → Inv (set_p (put_e B (x.process.round + 1) i (entry_of i x.process.value)) i
        (seen (enters (x.process.round + 1) (takes i x.process.value x.process))))
    unfolding coord
    leads-on B en inv w =
        moved B i low (omega (arith, en)) (seen now) inv (put_e B (now.round + 1) i own) (entered (seen now) own) (seen later) path
        (enter_e h.phase (many B en) own mine same (w ∙ ap (λ (n : ℕ). coordinator (now.round + 1) n) (sym en)))

    next-all : Inv (set_p (hand (hand A i x.first) i (opens A.n i (x.process.round + 1) x.process.value)) i
        (seen (enters (x.process.round + 1) (takes i x.process.value x.process))))
    unfolding opens opens_if
    next-all = go (eqb i (coordinator (now.round + 1) A.n)) refl
      where
        B : View
        B = hand A i x.first

        en : B.n ≡ A.n
        en = hand-n A i x.first

        go : (t : Bool) → eqb i (coordinator (now.round + 1) A.n) ≡ t → Inv (set_p (hand B i (opens_if t i (now.round + 1) now.value)) i (seen later))
        go true y = leads-on B en h.half.all (eqb-true i (coordinator (now.round + 1) A.n) y)
        go false y = goes_on B en h.half.all

    next-kept : Kept A i (enters_next_if true A.n i x)
    unfolding enters_next_if enters takes
    next-kept = record { all = next-all; part = goes_on A refl h.half.part; small = h.half.small }

  -- at a majority
  finishes : (x : Next) → Second x → Kept A i (enters_next_at A.n i x)
  unfolding enters_next_at enters_next_if
  finishes x h = go (meets x.process.estimates A.n) refl
    where
      go : (t : Bool) → meets x.process.estimates A.n ≡ t → Kept A i (enters_next_if t A.n i x)
      go true big = next-kept x h big
      go false big = half-kept A i x h.half

  -- the delivery, whole and cut
  pub F-kept : (p : Process) → Ready A i p → p.round ≤ r → (p.phase ≡ 1) ⊎ (p.phase ≡ 2)
      → Kept A i (on_f A.n i j r (proposer_of e) (value_of e) p)
  unfolding on_f
  F-kept p h le f =
      let q = jumps r (proposer_of e) (value_of e) p in
      let x = to_phase2 q in
      finishes (changed (joins_estimates j) (adopts A.n (proposer_of e) (value_of e) x)) (hears x (closes q (there p h le f)))
