-- The theorem: demand 3 and all that is said of runs, as one statement. Every part is proved in a file of its own. Assumes nothing.
use Rattle.rules.specs.Safety.{Safety}
use Rattle.rules.proofs.Runs.Carried.{agreement, validity, first-values, decisions-stay, recovery, down-keeps, going-down-keeps, cut-stores, refusal-six}
use Rattle.rules.proofs.Runs.Carried.{past-kept, sent-counts, sound-entries, tallies-fit, tallies-heard, decides-with-majority, phase2-with-majority}
use Rattle.rules.proofs.Runs.Carried.{next-round-with-majority, recoveries-counted, recoveries-fit, refusal-thirteen}
use Rattle.rules.proofs.Depths.Basics.{sound-group, never-damaged, depths-change-nothing, depths-fit}
use Rattle.rules.proofs.Runs.Traffic.{sent-stays, at_most_two, at_most_one, equal-repeats, only-e-repeats}
use Rattle.rules.proofs.Depths.Kept.{above_kept, depth-recovery, quiet-keeps-depths, cut-keeps-depth}
use Rattle.rules.proofs.Depths.TwoSteps.{decision-depth-stays, two_steps}
use Rattle.rules.proofs.Depths.Chains.{depth-is-longest}

-- No two processes ever hold different decisions; each decided value is some process's first value, and first values never change; a decision that is held is held ever after;
-- and a recovered process has the round, phase, estimate, mark, decision and number of recoveries that it last stored, with the recovery itself counted, and the depth that it had.
pub safety : Safety
safety =
    record {
      agreement = agreement;
      validity = validity;
      firsts = first-values;
      decisions = decisions-stay;
      recovery = recovery;
      down = down-keeps;
      going-down = going-down-keeps;
      cuts = cut-stores;
      six = refusal-six;
      sent = sent-stays;
      past = past-kept;
      counts = sent-counts;
      above = above_kept;
      group = sound-group;
      entries = sound-entries;
      never = never-damaged;
      tallies = tallies-fit;
      heard = tallies-heard;
      decides = decides-with-majority;
      second-phase = phase2-with-majority;
      next-round = next-round-with-majority;
      recoveries = recoveries-counted;
      few-recoveries = recoveries-fit;
      thirteen = refusal-thirteen;
      nothing-else = depths-change-nothing;
      limits = depths-fit;
      depth = depth-recovery;
      quiet = quiet-keeps-depths;
      cut-depth = cut-keeps-depth;
      decision-depth = decision-depth-stays;
      two_steps = two_steps;
      longest = depth-is-longest;
      two = at_most_two;
      one = at_most_one;
      equal = equal-repeats;
      only-e = only-e-repeats;
    }
