-- Document 01, "Steps": "The first of these that holds makes the step *idle*". Assumes nothing.
use Rattle.std.specs.Prelude.{Bool, false, ◌&&◌, ◌||◌, not, ℕ, eqb, ltb}
use Rattle.rules.specs.declared.group.Group.{Group}
use Rattle.rules.specs.declared.process.Process.{Process}
use Rattle.rules.specs.declared.step.Step.{Step}
use Rattle.rules.specs.declared.step.Step.TheVariants.{DeliverE, DeliverS, DeliverF, DeliverDecision, Suspect, Pause, Crash, Recover}
use Rattle.rules.specs.Layout.{process_at}
use Rattle.rules.specs.Tally.{holds}

-- "i has decided; the kind is E, F or S and the message's round is below i's"
unfoldable pub past_for : Process → ℕ → Bool
past_for p r = p.decided || ltb r p.round

-- same round, and i in the phase
unfoldable pub in_phase : Process → ℕ → ℕ → Bool
in_phase p r phase = eqb r p.round && eqb p.phase phase

-- "E, same round, i in phase 2; .. E (phase 1) .., same round, j already in the estimate tally"
unfoldable pub idle_e : Process → ℕ → ℕ → Bool
idle_e p j r = past_for p r || (in_phase p r 2 || (in_phase p r 1 && holds p.estimates j))

-- "S, and the round differs or i is in phase 2; .. S and j already in the suspicion tally"
unfoldable pub idle_s : Process → ℕ → ℕ → Bool
idle_s p j r = past_for p r || ((not (eqb r p.round) || eqb p.phase 2) || holds p.suspicions j)

-- ".. F (phase 2), same round, j already in the estimate tally"
unfoldable pub idle_f : Process → ℕ → ℕ → Bool
idle_f p j r = past_for p r || (in_phase p r 2 && holds p.estimates j)

-- only deliveries are idle; a decision where i has decided
unfoldable pub idle : Group → Step → Bool
idle g (DeliverE i j r c) = idle_e (process_at g i) j r
idle g (DeliverS i j r c) = idle_s (process_at g i) j r
idle g (DeliverF i j r c) = idle_f (process_at g i) j r
idle g (DeliverDecision i j c) = (process_at g i).decided
idle g (Suspect i c) = false
idle g (Pause i) = false
idle g (Crash i) = false
idle g (Recover i) = false
