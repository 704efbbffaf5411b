-- What the stages of an event keep: no stage of an F before the last leaves the rounds 0 to 63. Assumes nothing.
use mathlib.Core.Path.{◌≡◌, refl, ap, ◌∙◌}
use mathlib.Core.Bool.{Bool, true, false}
use Prim.Native.Nat.{ℕ, ◌≤◌}
use lib.Dec.{eqb, ltb}
use Rattle.rules.specs.declared.process.Process.{Process}
use Rattle.rules.specs.declared.process.Next.{Next}
use Rattle.rules.specs.Limits.{coordinator, last_round}
use Rattle.rules.specs.Events.{takes, enters, jumps, jumps_if, second_phase, quiet, goes_to_phase2, goes_to_phase2_if, to_phase2, changed, adopts, adopts_if, joins_estimates}

-- the stages, by the cases of their tests
jumps_if-round : (b : Bool) (r q v : ℕ) (p : Process) → p.round ≤ last_round → r ≤ last_round → (jumps_if b r q v p).round ≤ last_round
unfolding jumps_if takes enters
jumps_if-round true r q v p hp hr = hr
jumps_if-round false r q v p hp hr = hp

goes_to_phase2_if-round : (b : Bool) (p : Process) → (goes_to_phase2_if b p).process.round ≡ p.round
unfolding goes_to_phase2_if goes_to_phase2 second_phase quiet
goes_to_phase2_if-round true p = refl
goes_to_phase2_if-round false p = refl

adopts_if-round : (b : Bool) (q v : ℕ) (x : Next) → (adopts_if b q v x).process.round ≡ x.process.round
unfolding adopts_if changed takes
adopts_if-round true q v x = refl
adopts_if-round false q v x = refl

-- after a jump the round is the process's or the message's
pub jumps-round : (r q v : ℕ) (p : Process) → p.round ≤ last_round → r ≤ last_round → (jumps r q v p).round ≤ last_round
unfolding jumps
jumps-round r q v p = jumps_if-round (ltb p.round r) r q v p

-- the other stages keep the round
pub to_phase2-round : (p : Process) → (to_phase2 p).process.round ≡ p.round
unfolding to_phase2
to_phase2-round p = goes_to_phase2_if-round (eqb p.phase 1) p

pub adopts-round : (n q v : ℕ) (x : Next) → (adopts n q v x).process.round ≡ x.process.round
unfolding adopts
adopts-round n q v x = adopts_if-round (eqb q (coordinator x.process.round n)) q v x

pub joins-round : (j : ℕ) (x : Next) → (changed (joins_estimates j) x).process.round ≡ x.process.round
unfolding changed joins_estimates
joins-round j x = refl

-- of an F: the round where its last stage begins, after the jump, phase 2, the adoption and the join
pub f-round : (n j r q v : ℕ) (p : Process) → p.round ≤ last_round → r ≤ last_round
    → (changed (joins_estimates j) (adopts n q v (to_phase2 (jumps r q v p)))).process.round ≤ last_round
f-round n j r q v p hp hr = rw (joins-round, adopts-round, to_phase2-round) (jumps-round r q v p hp hr)

-- ---- the events as chains of their stages

module _ (n i j r q v : ℕ) (p : Process) {jumped : Process} (hj : jumped ≡ jumps r q v p) where
  -- of an F, up to the join, and whole
  pub joined-F : {moved adopted joined : Next} → moved ≡ to_phase2 jumped → adopted ≡ adopts n q v moved → joined ≡ changed (joins_estimates j) adopted
      → joined ≡ changed (joins_estimates j) (adopts n q v (to_phase2 (jumps r q v p)))
  joined-F a b c = c ∙ ap (changed (joins_estimates j)) (b ∙ ap (adopts n q v) (a ∙ ap to_phase2 hj))
