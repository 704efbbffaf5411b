-- Document 01, "The schedule file and the report": the counts of a section's line. Assumes nothing.
use Rattle.std.specs.Prelude.{List, [], length}
use Rattle.rules.specs.Tally.{bit_of}
use Rattle.rules.specs.Answers.{Said, is_refused, total, all_sent, all_again}
use Rattle.schedule.specs.declared.counts.Counts.{Counts}

-- "Section lines: the count of steps in the section, those applied, idle and refused, then sent and decided." Of the answers to its steps.
-- "*decided* the processes that decide there". Request 2026-05: "*Sent* counts every message handed over, and a new field *again*, right after it, counts those whose entry
-- was sent before."
unfoldable pub counts_in : List Said → Counts
counts_in as' =
    record {
      steps = length as';
      applied = total (λ a. bit_of a.applied) as';
      idle = total (λ a. bit_of a.idle) as';
      refused = total (λ a. bit_of (is_refused a)) as';
      sent = all_sent as';
      again = all_again as';
      decided = total (λ a. bit_of a.decided) as';
    }

-- of no steps
abbrev pub none : Counts
none = counts_in []
