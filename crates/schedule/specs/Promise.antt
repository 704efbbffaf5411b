-- What holds of every file that is read as a schedule, stated over the definition of the run that the contracts cite. The proofs are in proofs/Promise. Assumes nothing.
use Rattle.std.specs.Prelude.{◌≡◌, List, ◌++◌, ℕ, ◌+◌, ◌≤◌, length, Ok}
use Rattle.rules.specs.Limits.{store_length}
use Rattle.rules.specs.Tally.{count}
use Rattle.rules.specs.Layout.{process_at, depth_at}
use Rattle.rules.specs.Store.{sent_in}
use Rattle.rules.specs.Run.{start_state}
use Rattle.rules.specs.Safety.{Of, Holds, FirstValue, recovers_of, Longest}
use Rattle.rules.specs.declared.group.Group.{Group}
use Rattle.schedule.specs.Schedule.{Schedule, read_file}
use Rattle.schedule.specs.Run.{RanOver, run_of}
use Rattle.schedule.specs.declared.counts.Counts.{Counts}
use Rattle.schedule.specs.declared.run.Ran.{Ran}

-- "Every step is applied, idle or refused": the three counts of a section add up to its steps
abbrev pub AddsUp : Counts → Type 0
AddsUp c = c.applied + c.idle + c.refused ≡ c.steps

-- how many processes of a group hold a decision
abbrev pub deciders : Group → ℕ
deciders g = count (λ i. (process_at g i).decided) g.n

-- of the schedule h and of all that its run over the stores l and d, of at least 3,088 numbers each, yields
pub record Promise (h : Schedule) (l d : List ℕ) (o : RanOver) : Type 0 where
  -- it was run, and this was answered
  pub ran : Ran
  pub is_run : o.ran ≡ Ok ran
  -- both sections have as many steps as were read
  pub warmup : ran.warmup.steps ≡ length h.warmup
  pub measured : ran.measured.steps ≡ length h.measured
  pub warmup-adds : AddsUp ran.warmup
  pub measured-adds : AddsUp ran.measured
  -- "1 + all sent − all again now equals the sent entries in the store."
  pub sent : 1 + (ran.warmup.sent + ran.measured.sent) ≡ sent_in o.store store_length + (ran.warmup.again + ran.measured.again)
  -- both *decided* together are the processes that hold a decision
  pub decided : deciders ran.group ≡ ran.warmup.decided + ran.measured.decided
  -- no two processes hold different decisions, and each is some process's first value
  pub agreement : (i j v w : ℕ) → Of h.values i → Of h.values j
      → Holds (process_at ran.group i) v → Holds (process_at ran.group j) w → v ≡ w
  pub validity : (i v : ℕ) → Of h.values i → Holds (process_at ran.group i) v → FirstValue h.values v
  -- the number of recoveries of each process counts the applied recovers of both sections
  pub recoveries : (i : ℕ) → Of h.values i → (process_at ran.group i).recoveries ≡ recovers_of i (start_state h.values l d) (h.warmup ++ h.measured)
  -- the depth of each process, which the last field of its line shows where it has decided, is the length of the longest chain of deliveries that ends at it
  pub depths : (i : ℕ) → Of h.values i → Longest h.values l d (h.warmup ++ h.measured) i (depth_at ran.group i)

-- the promise of the program: every file that is read as a schedule keeps it
abbrev pub Promised : Type 0
Promised = (s l d : List ℕ) (h : Schedule) → read_file s ≡ Ok h → store_length ≤ length l → store_length ≤ length d → Promise h l d (run_of s l d)
