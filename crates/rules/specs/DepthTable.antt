-- Request 2026-06: the worked runs of docs/MODEL.md with the depths that they must give, as rows of the table in `Table`. The values are 7, 9 and 5.
-- Assumes nothing.
use Rattle.std.specs.Prelude.{Bool, true, false, ◌&&◌, List, [], ◌∷◌, ℕ, eqb, replicate}
use Rattle.std.specs.Bool.{beq}
use Rattle.rules.specs.declared.step.Step.{Step}
use Rattle.rules.specs.declared.step.Step.TheVariants.{DeliverE, DeliverS, DeliverF, DeliverDecision, Suspect, Crash, Recover}
use Rattle.rules.specs.Limits.{store_length}
use Rattle.rules.specs.Run.{State, start_state, after}
use Rattle.rules.specs.Safety.{process_of, process_depth, message_depth, plain, led}

-- a process, whether it has decided, and its depth; and a place of the store with the depth of its message
pub record Deep : Type 0 where
  pub process : ℕ
  pub decided : Bool
  pub depth : ℕ

abbrev pub decides_at : ℕ → ℕ → Deep
decides_at i k = record { process = i; decided = true; depth = k }

abbrev pub waits_at : ℕ → ℕ → Deep
waits_at i k = record { process = i; decided = false; depth = k }

pub record AtDepth : Type 0 where
  pub place : ℕ
  pub depth : ℕ

abbrev pub at_depth : ℕ → ℕ → AtDepth
at_depth q k = record { place = q; depth = k }

-- a run: its steps, and whether they keep what statement 13 asks, no suspicion and no cut, and each process's first E of process 1; then what it must end with
pub record DepthRow : Type 0 where
  pub steps : List Step
  pub asked : Bool
  pub processes : List Deep
  pub messages : List AtDepth

-- ---- that it holds

unfoldable pub all_deep : State → List Deep → Bool
all_deep a [] = true
all_deep a (x ∷ xs) = (beq (process_of a x.process).decided x.decided && eqb (process_depth a x.process) x.depth) && all_deep a xs

unfoldable pub all_at_depth : State → List AtDepth → Bool
all_at_depth a [] = true
all_at_depth a (x ∷ xs) = eqb (message_depth a x.place) x.depth && all_at_depth a xs

unfoldable pub ends : State → DepthRow → Bool
ends a r = all_deep a r.processes && all_at_depth a r.messages

-- from the start a on
unfoldable pub holds_from : State → DepthRow → Bool
holds_from a r = beq (plain r.steps && led a r.steps) r.asked && ends (after a r.steps) r

unfoldable pub depths_hold : List DepthRow → Bool
depths_hold [] = true
depths_hold (r ∷ rs) = holds_from (start_state (7 ∷ 9 ∷ 5 ∷ []) (replicate store_length 0) (replicate store_length 0)) r && depths_hold rs

-- ---- the table

-- all decide by E at 2; the relays of processes 2 and 3, at places 3 and 6, have depth 1, and the decisions, at 3,072 and on, 2
unfoldable pub good_run : DepthRow
good_run =
    record {
      steps =
          DeliverE 1 1 0 false ∷ DeliverE 2 1 0 false ∷ DeliverE 3 1 0 false ∷ DeliverE 1 2 0 false ∷ DeliverE 2 2 0 false ∷ DeliverE 3 2 0 false ∷ [];
      asked = true;
      processes = decides_at 1 2 ∷ decides_at 2 2 ∷ decides_at 3 2 ∷ [];
      messages = at_depth 0 0 ∷ at_depth 3 1 ∷ at_depth 6 1 ∷ at_depth 3072 2 ∷ at_depth 3073 2 ∷ at_depth 3074 2 ∷ [];
    }

-- process 3 hears the relay of process 2 before process 1's own E, and decides at 3
unfoldable pub relay_first : DepthRow
relay_first =
    record {
      steps = DeliverE 2 1 0 false ∷ DeliverE 3 2 0 false ∷ DeliverE 3 3 0 false ∷ [];
      asked = false;
      processes = waits_at 1 0 ∷ waits_at 2 1 ∷ decides_at 3 3 ∷ [];
      messages = at_depth 3 1 ∷ at_depth 6 2 ∷ at_depth 3074 3 ∷ [];
    }

-- process 1 crashes, and the two others suspect it: S has 0, F 1, the E of round 1 2 and its relay 3. They decide at 4, and process 1, which recovers and hears a decision, at 5
unfoldable pub coordinator_crashes : DepthRow
coordinator_crashes =
    record {
      steps =
          Crash 1
          ∷ Suspect 2 false
          ∷ Suspect 3 false
          ∷ DeliverS 2 2 0 false
          ∷ DeliverS 2 3 0 false
          ∷ DeliverS 3 2 0 false
          ∷ DeliverS 3 3 0 false
          ∷ DeliverF 2 2 0 false
          ∷ DeliverF 2 3 0 false
          ∷ DeliverE 3 2 1 false
          ∷ DeliverE 3 3 1 false
          ∷ DeliverE 2 2 1 false
          ∷ DeliverE 2 3 1 false
          ∷ Recover 1
          ∷ DeliverDecision 1 3 false
          ∷ [];
      asked = false;
      processes = decides_at 1 5 ∷ decides_at 2 4 ∷ decides_at 3 4 ∷ [];
      messages = at_depth 4 0 ∷ at_depth 5 1 ∷ at_depth 51 2 ∷ at_depth 54 3 ∷ at_depth 3073 4 ∷ at_depth 3072 5 ∷ [];
    }

-- a cut keeps the depth and hands nothing over; back, process 2 hears process 1's E again, which is no more than it has, and its relay gets that depth
unfoldable pub cut_keeps : DepthRow
cut_keeps =
    record {
      steps = DeliverE 3 1 0 false ∷ DeliverE 2 3 0 true ∷ Recover 2 ∷ DeliverE 2 1 0 false ∷ [];
      asked = false;
      processes = waits_at 2 2 ∷ waits_at 3 1 ∷ [];
      messages = at_depth 3 2 ∷ at_depth 6 1 ∷ [];
    }

unfoldable pub depth_table : List DepthRow
depth_table = good_run ∷ relay_first ∷ coordinator_crashes ∷ cut_keeps ∷ []
