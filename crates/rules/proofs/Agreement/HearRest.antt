-- The other events: the delivery of an S and of a decision, a suspicion, a pause, a crash and a recovery. Assumes nothing.
use mathlib.Core.Path.{◌≡◌, refl, sym, ap, ◌∙◌}
use mathlib.Core.Bool.{Bool, true, false}
use mathlib.Core.Logic.{◌≢◌}
use mathlib.Core.Option.{some}
use Prim.Native.Nat.{ℕ, ◌≤◌}
use Rattle.rules.specs.declared.process.Process.{Process}
use Rattle.rules.specs.Tally.{meets}
use Rattle.rules.specs.Store.{entry_of, value_of}
use Rattle.rules.specs.Events.{joins_suspicions, decides, marks, paused, recovered, quiet, goes_to_phase2_if, on_s, on_decision, on_suspect, on_pause, on_recover}
use Rattle.rules.proofs.Laws.Store.{entry_value}
use Rattle.rules.proofs.Agreement.View.{Proc, View, what, set_p, put_d}
use Rattle.rules.proofs.Agreement.Inv.{Inv}
use Rattle.rules.proofs.Agreement.Moves.{stayed}
use Rattle.rules.proofs.Agreement.Focus.{proc-path}
use Rattle.rules.proofs.Agreement.Rules.{learn, announce}
use Rattle.rules.proofs.Agreement.Seen.{seen, heard_in, decision_of}
use Rattle.rules.proofs.Agreement.Stages.{moved, Ready, Kept, half-kept, value-lt, quiet-half, phase2-half}

module _ (A : View) (i : ℕ) (low : 1 ≤ i) (high : i ≤ A.n) (p : Process) (h : Ready A i p) where
  -- an S: the mark, the suspicions, up and down are not seen
  suspects : (j : ℕ) → Ready A i (joins_suspicions j p)
  unfolding joins_suspicions
  suspects j = record { inv = h.inv; small = h.small; heard = h.heard }

  -- at a majority of suspicions it goes to phase 2
  pub S-kept : (j : ℕ) → p.phase ≡ 1 → Kept A i (on_s A.n j p)
  unfolding on_s goes_to_phase2_if joins_suspicions
  S-kept j f = go (meets (joins_suspicions j p).suspicions A.n)
    where
      go : (t : Bool) → Kept A i (goes_to_phase2_if t (joins_suspicions j p))
      go true = half-kept A i (goes_to_phase2_if true (joins_suspicions j p)) (phase2-half A i low high (joins_suspicions j p) (suspects j) f)
      go false = half-kept A i (quiet (joins_suspicions j p)) (quiet-half A i low high (joins_suspicions j p) (suspects j))

  -- a decision
  pub D-kept : (j e : ℕ) → A.D j ≡ e → e ≢ 0 → Kept A i (on_decision (value_of e) p)
  unfolding on_decision decides decision_of what
  D-kept j e sent real =
      record {
        all =
            moved A i low high (seen q) part' (put_d A i (entry_of i (value_of e))) (seen q) (seen q) refl
            (announce (entry_of i (value_of e)) (ap some (sym (entry_value i (value_of e) (value-lt e)))));
        part = part';
        small = h.small;
      }
    where
      q : Process
      q = decides (value_of e) p

      t : Proc
      t = stayed (seen p) (entry_of p.proposer p.value) (heard_in p.estimates) (some (what (A.D j)))

      part' : Inv (set_p A i (seen q))
      part' =
          moved A i low high (seen p) h.inv A t (seen q)
          (proc-path t (seen q) refl refl refl (λ k. refl) (ap (λ (d : ℕ). some (value_of d)) sent))
          (learn j (λ z. real (sym sent ∙ z)))

  -- a suspicion, a pause and a recovery
  pub suspect-kept : Kept A i (on_suspect p)
  unfolding on_suspect marks
  suspect-kept = record { all = h.inv; part = h.inv; small = h.small }

  pub pause-kept : Kept A i (on_pause p)
  unfolding on_pause quiet paused
  pause-kept = record { all = h.inv; part = h.inv; small = h.small }

  pub recover-kept : Kept A i (on_recover p)
  unfolding on_recover quiet recovered
  recover-kept = record { all = h.inv; part = h.inv; small = h.small }
