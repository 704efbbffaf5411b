-- The delivery of an E that is not idle: a jump, the first E taken and relayed, the sender joined, and at a majority the decision. Assumes nothing.
use mathlib.Core.Path.{◌≡◌, refl, sym, ap, ◌∙◌, subst}
use mathlib.Core.Bool.{Bool, true, false, ◌&&◌, not}
use mathlib.Core.Logic.{◌≢◌}
use mathlib.Core.Option.{some}
use Prim.Native.Nat.{ℕ, ◌^◌, ◌≤◌, ◌<◌}
use native.Mathlib.Omega.{arith}
use lib.Dec.{eqb}
use borrow.Author.Tests.{eqb-true, eqb-false, not-false}
use Rattle.rules.specs.declared.process.Process.{Process}
use Rattle.rules.specs.declared.process.Next.{Next}
use Rattle.rules.specs.Limits.{coordinator, majority}
use Rattle.rules.specs.Tally.{joined, meets, count}
use Rattle.rules.specs.Store.{entry_of, proposer_of, value_of}
use Rattle.rules.specs.Events.{takes, enters, joins_estimates, decides, quiet, changed, jumps, relays_if, relays, decides_if, decides_at, on_e}
use Rattle.rules.proofs.Laws.Tally.{joined-below}
use Rattle.rules.proofs.Laws.Store.{entry-parts, entry_value}
use Rattle.rules.proofs.Agreement.View.{Proc, View, what, coord, set_p, put_e, put_d}
use Rattle.rules.proofs.Agreement.Inv.{Inv}
use Rattle.rules.proofs.Agreement.Moves.{an_e, stayed}
use Rattle.rules.proofs.Agreement.Focus.{proc-path}
use Rattle.rules.proofs.Agreement.Rules.{adopt, relay, join, decide, announce, Leads, heard_one, coordinates, add}
use Rattle.rules.proofs.Agreement.Seen.{seen, hand, hand-n, heard_in, decision_of, heard-join, heard-majority, heard-some}
use Rattle.rules.proofs.Agreement.Stages.{moved, Ready, Kept, Half, half-kept, value-lt, jump-ready, jumps-by}

module _ (A : View) (i j r e : ℕ) (low : 1 ≤ i) (high : i ≤ A.n) (from_low : 1 ≤ j) (from-high : j ≤ A.n) (sent : A.E r j ≡ e) (real : e ≢ 0) where
  -- after the jump, or where there is none
  record Here (p : Process) : Type 0 where
    ready : Ready A i p
    round : p.round ≡ r
    phase : p.phase ≡ 1

  -- the jump
  there : (p : Process) → Ready A i p → p.round ≤ r → (p.round ≡ r → p.phase ≡ 1) → Here (jumps r (proposer_of e) (value_of e) p)
  unfolding takes enters
  there p h le f =
      jumps-by Here r (proposer_of e) (value_of e) p
      (λ l.
      record {
        ready = jump-ready A i low high p r e h l (an_e j (λ z. real (sym sent ∙ z)) (sym sent));
        round = refl;
        phase = refl;
      })
      (λ ge. let z : p.round ≡ r = omega arith in record { ready = h; round = z; phase = f z })

  -- after the join
  record Joined (x : Next) : Type 0 where
    half : Half A i x
    phase : x.process.phase ≡ 1

  module _ (p : Process) (h : Here p) where
    sent-here : A.E p.round j ≡ e
    sent-here = ap (λ (s : ℕ). A.E s j) h.round ∙ sent

    real-here : A.E p.round j ≢ 0
    real-here z = real (sym sent-here ∙ z)

    fits : joined p.estimates j < 2 ^ A.n
    fits = joined-below p.estimates j A.n h.ready.heard from_low from-high

    -- it takes the estimate, and relays it
    adopts : Joined (changed (joins_estimates j) (relays_if true (proposer_of e) (value_of e) p))
    unfolding changed joins_estimates relays_if takes
    adopts = record { half = record { all = all'; part = part'; small = value-lt e; heard = fits; silent = refl }; phase = h.phase }
      where
        q : Process
        q = joins_estimates j (takes (proposer_of e) (value_of e) p)

        t : Proc
        t = stayed (seen p) (A.E p.round j) (add (heard_in p.estimates) j) (decision_of p.decided p.decision)

        part' : Inv (set_p A i (seen q))
        part' =
            moved A i low high (seen p) h.ready.inv A t (seen q)
            (proc-path t (seen q) refl refl (sent-here ∙ sym (entry-parts e)) (λ k. sym (heard-join p.estimates j from_low k)) refl)
            (adopt j h.phase real-here)

        all' : Inv (set_p (put_e A p.round i (entry_of (proposer_of e) (value_of e))) i (seen q))
        all' =
            moved A i low high (seen q) part' (put_e A p.round i (entry_of (proposer_of e) (value_of e))) (seen q) (seen q) refl
            (relay j h.phase real-here (entry-parts e ∙ sym sent-here))

    -- it has one already: it has heard somebody, or it coordinates the round
    leads : (eqb p.estimates 0 && not (eqb i (coordinator p.round A.n))) ≡ false → Leads A i (seen p)
    unfolding coord
    leads = go (eqb p.estimates 0) refl
      where
        go : (t : Bool) → eqb p.estimates 0 ≡ t → (t && not (eqb i (coordinator p.round A.n))) ≡ false → Leads A i (seen p)
        go false x y = let s = heard-some p.estimates A.n h.ready.heard (eqb-false p.estimates 0 x) in heard_one s.0 s.1
        go true x y =
            coordinates (eqb-true i (coordinator p.round A.n) (not-false (eqb i (coordinator p.round A.n)) y))

    joins : Leads A i (seen p) → Joined (changed (joins_estimates j) (relays_if false (proposer_of e) (value_of e) p))
    unfolding changed joins_estimates relays_if quiet
    joins d =
        record {
          half = record { all = part'; part = part'; small = h.ready.small; heard = fits; silent = refl };
          phase = h.phase;
        }
      where
        q : Process
        q = joins_estimates j p

        t : Proc
        t =
            stayed (seen p) (entry_of p.proposer p.value) (add (heard_in p.estimates) j) (decision_of p.decided p.decision)

        part' : Inv (set_p A i (seen q))
        part' =
            moved A i low high (seen p) h.ready.inv A t (seen q)
            (proc-path t (seen q) refl refl refl (λ k. sym (heard-join p.estimates j from_low k)) refl)
            (join j h.phase real-here d)

    hears : Joined (changed (joins_estimates j) (relays A.n i (proposer_of e) (value_of e) p))
    unfolding relays
    hears = go (eqb p.estimates 0 && not (eqb i (coordinator p.round A.n))) refl
      where
        go : (t : Bool) → (eqb p.estimates 0 && not (eqb i (coordinator p.round A.n))) ≡ t
            → Joined (changed (joins_estimates j) (relays_if t (proposer_of e) (value_of e) p))
        go true x = adopts
        go false x = joins (leads x)

  -- the decision
  module _ (x : Next) (h : Joined x) where
    decision : (B : View) → B.n ≡ A.n → meets x.process.estimates A.n ≡ true → Inv (set_p B i (seen x.process))
        → Inv (set_p B i (seen (decides x.process.value x.process)))
    unfolding decides decision_of what
    decision B en big inv =
        moved B i low (omega arith) (seen p) inv B t (seen (decides p.value p))
        (proc-path t (seen (decides p.value p)) refl refl refl (λ k. refl) (ap some (entry_value p.proposer p.value h.half.small)))
        (decide h.phase
        (subst (λ (n : ℕ). majority n ≤ count (heard_in p.estimates) n) (sym en) (heard-majority p.estimates A.n h.half.heard big)))
      where
        p : Process
        p = x.process

        t : Proc
        t =
            stayed (seen p) (entry_of p.proposer p.value) (heard_in p.estimates) (some (what (entry_of p.proposer p.value)))

    decided : meets x.process.estimates A.n ≡ true → Kept A i (decides_if true x)
    unfolding decides_if decides decision_of what
    decided big =
        record {
          all =
              moved B i low (omega (arith, en)) (seen q) (decision B en big h.half.all) (put_d B i (entry_of i p.value)) (seen q) (seen q) refl
              (announce (entry_of i p.value) (ap some (sym (entry_value i p.value h.half.small))));
          part = decision A refl big h.half.part;
          small = h.half.small;
        }
      where
        p : Process
        p = x.process

        q : Process
        q = decides p.value p

        B : View
        B = hand A i x.first

        en : B.n ≡ A.n
        en = hand-n A i x.first

    finishes : Kept A i (decides_at A.n x)
    unfolding decides_at decides_if
    finishes = go (meets x.process.estimates A.n) refl
      where
        go : (t : Bool) → meets x.process.estimates A.n ≡ t → Kept A i (decides_if t x)
        go true big = decided big
        go false big = half-kept A i x h.half

  -- the delivery, whole and cut
  pub E-kept : (p : Process) → Ready A i p → p.round ≤ r → (p.round ≡ r → p.phase ≡ 1)
      → Kept A i (on_e A.n i j r (proposer_of e) (value_of e) p)
  unfolding on_e
  E-kept p h le f =
      let q = jumps r (proposer_of e) (value_of e) p in
      finishes (changed (joins_estimates j) (relays A.n i (proposer_of e) (value_of e) q)) (hears q (there p h le f))
