-- Document 01, "Records and the message store": the record of a process. Assumes nothing.
-- "A process has: its first value; round; phase (1 or 2); estimate (a proposer and a value); suspicion mark; decision or none; up or down; and two tallies,
-- estimates heard and suspicions heard." This is the struct `Process`: `decision` is one where `decided` is true, and none otherwise.
-- Request 2026-03: "Each process record gains its number of recoveries, kept through crashes", and "It is part of the stored record".
use Rattle.std.specs.Prelude.{Bool, false, ℕ}
use Rattle.rules.specs.declared.process.Process.{Process}

-- a record by its fields, in this order
abbrev pub process_with : ℕ → ℕ → ℕ → ℕ → ℕ → Bool → Bool → ℕ → ℕ → Bool → ℕ → ℕ → Process
process_with first round phase proposer value marked decided decision recoveries up estimates suspicions =
    record {
      first = first;
      round = round;
      phase = phase;
      proposer = proposer;
      value = value;
      marked = marked;
      decided = decided;
      decision = decision;
      recoveries = recoveries;
      up = up;
      estimates = estimates;
      suspicions = suspicions;
    }

-- "All but the tallies and up/down is the *stored record*."
pub record Stored : Type 0 where
  pub first : ℕ
  pub round : ℕ
  pub phase : ℕ
  pub proposer : ℕ
  pub value : ℕ
  pub marked : Bool
  pub decided : Bool
  pub decision : ℕ
  pub recoveries : ℕ

unfoldable pub stored : Process → Stored
stored p =
    record {
      first = p.first;
      round = p.round;
      phase = p.phase;
      proposer = p.proposer;
      value = p.value;
      marked = p.marked;
      decided = p.decided;
      decision = p.decision;
      recoveries = p.recoveries;
    }

-- "Records above n, and all records of a group of size 0, have every number 0, no mark, no decision, empty tallies and are down; no step changes those above n."
unfoldable pub blank : Process
blank = process_with 0 0 0 0 0 false false 0 0 false 0 0
