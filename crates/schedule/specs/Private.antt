-- What the parts of the reader and of the run ask and yield, for the contracts of the private functions. No public contract cites this page: a reader may skip it. Assumes nothing.
use Rattle.std.specs.Prelude.{◌≡◌, Bool, List, [], ◌∷◌, ◌≢◌, ℕ, ◌+◌, ◌-◌, ◌*◌, ◌≤◌, ◌<◌, length, get_or, take, Result, Ok, Err}
use Rattle.rules.specs.Layout.{Sized}
use Rattle.rules.specs.Tally.{bit_of}
use Rattle.rules.specs.Answers.{Said, is_refused}
use Rattle.rules.specs.Step.{Ready}
use Rattle.rules.specs.Run.{State, after}
use Rattle.rules.specs.declared.group.Group.{Group}
use Rattle.rules.specs.declared.step.Step.{Step}
use Rattle.schedule.specs.Limits.{most_steps}
use Rattle.text.specs.Number.{number_at}
use Rattle.text.specs.Read.{Read, on_read}
use Rattle.text.specs.declared.number.Broken.{Broken}
use Rattle.schedule.specs.Lines.{Rows, lines_at}
use Rattle.schedule.specs.Line.{next_number, line_at}
use Rattle.schedule.specs.Header.{header_at}
use Rattle.schedule.specs.Schedule.{Schedule, values_from, warmup_from, read_file, fault_at, part_at}
use Rattle.schedule.specs.Run.{counts_of, ran_over, run_by}
use Rattle.schedule.specs.declared.fault.BrokenLine.{BrokenLine}
use Rattle.schedule.specs.declared.fault.Fault.{Fault}
use Rattle.schedule.specs.declared.fault.Flaw.{Flaw}
use Rattle.schedule.specs.declared.part.Part.{Part}
use Rattle.schedule.specs.declared.file.Opening.{Opening}
use Rattle.schedule.specs.declared.file.Places.{Places}
use Rattle.schedule.specs.declared.file.Form.{Form}
use Rattle.schedule.specs.declared.counts.Counts.{Counts}
use Rattle.schedule.specs.declared.run.Ran.{Ran}
use Rattle.schedule.specs.declared.first.Values.{Values}

-- ---- places

-- end is the place after the last LF, 0 where there is none
pub record LastLf (s : List ℕ) (end : ℕ) : Type 0 where
  pub high : end ≤ length s
  pub lf : 0 < end → get_or s (end - 1) 0 ≡ 10
  pub none : (j : ℕ) → end ≤ j → get_or s j 0 ≢ 10

-- what a reader read, and where it stands behind it
unfoldable pub read_to : Result Step Broken → ℕ → Read Step
read_to (Err broken) m = Err broken
read_to (Ok st) m = Ok (st, m)

-- the place after some lines
unfoldable pub rows_end : {A : Type 0} → Rows A → Result ℕ BrokenLine
rows_end (Err broken) = Err broken
rows_end (Ok (xs, m)) = Ok m

-- ---- what is known to keep the form

-- a number that ends within the file
pub record KnownNumber (s : List ℕ) (at : ℕ) : Type 0 where
  pub value : ℕ
  pub next : ℕ
  pub is : number_at s at ≡ Ok (value, next)
  pub inside : next < length s

pub record KnownNext (s : List ℕ) (at : ℕ) (wanted : Bool) : Type 0 where
  pub value : ℕ
  pub next : ℕ
  pub is : next_number s at wanted ≡ Ok (value, next)
  pub inside : next < length s

pub record KnownLine (s : List ℕ) (at : ℕ) : Type 0 where
  pub step : Step
  pub next : ℕ
  pub is : line_at s at ≡ Ok (step, next)

-- ---- the parts of a file

-- a section's first line, which is the file's line-th, or the fault of its form
unfoldable pub heading_at : List ℕ → ℕ → List ℕ → ℕ → Result (ℕ × ℕ) Fault
heading_at s at w line = on_read (header_at s at w) (λ p. Err (fault_at Flaw.Form line at p)) (λ k a. Ok (k, a))

abbrev pub values_of : Values → List ℕ
values_of v = take v.n v.all

-- what the values of n lines are, as they were read into an array
unfoldable pub values_read : ℕ → Result (List ℕ × ℕ) BrokenLine → Rows ℕ
values_read n (Err broken) = Err broken
values_read n (Ok (vs, m)) = Ok (take n vs, m)

-- some steps whose lines stand from one place up to another
pub record StepsAt (s : List ℕ) (count at m : ℕ) (ss : List Step) : Type 0 where
  pub are : lines_at (line_at s) count 0 at ≡ Ok (ss, m)
  pub long : length ss ≡ count

pub record PartGood (s : List ℕ) (at : ℕ) (w : List ℕ) (line left k a m : ℕ) : Type 0 where
  pub steps : List Step
  pub are : StepsAt s k a m steps
  pub few : k ≤ left
  pub is : part_at s at w line left ≡ Ok (steps, m)

unfoldable pub PartIs : List ℕ → ℕ → List ℕ → ℕ → ℕ → Result Part Fault → Type 0
PartIs s at w line left (Err f) = part_at s at w line left ≡ Err f
PartIs s at w line left (Ok p) = PartGood s at w line left p.count p.start p.end

-- the opening of a file: whatever is read of it begins so
pub record OpeningGood (s : List ℕ) (v : Values) (at : ℕ) : Type 0 where
  pub low : 1 ≤ v.n
  pub within : at ≤ length s
  pub is : values_from s ≡ warmup_from s (values_of v) at

unfoldable pub ValuesAre : List ℕ → Result Opening Fault → Type 0
ValuesAre s (Err f) = values_from s ≡ Err f
ValuesAre s (Ok o) = OpeningGood s o.values o.at

-- the two sections of steps behind n values
pub record SectionsGood (s : List ℕ) (n at : ℕ) (p : Places) : Type 0 where
  pub warmup : List Step
  pub measured : List Step
  pub warmup-end : ℕ
  pub measured-end : ℕ
  pub warmup-are : StepsAt s p.warmup p.start warmup-end warmup
  pub measured-are : StepsAt s p.measured p.middle measured-end measured
  pub few : p.warmup + p.measured ≤ most_steps
  pub is : (vs : List ℕ) → length vs ≡ n → warmup_from s vs at ≡ Ok (record { values = vs; warmup = warmup; measured = measured })

unfoldable pub StepsAre : List ℕ → ℕ → ℕ → Result Places Fault → Type 0
StepsAre s n at (Err f) = (vs : List ℕ) → length vs ≡ n → warmup_from s vs at ≡ Err f
StepsAre s n at (Ok p) = SectionsGood s n at p

-- a sound file: its schedule, and where the steps stand
pub record FormGood (s : List ℕ) (v : Values) (p : Places) : Type 0 where
  pub warmup : List Step
  pub measured : List Step
  pub warmup-end : ℕ
  pub measured-end : ℕ
  pub low : 1 ≤ v.n
  pub warmup-are : StepsAt s p.warmup p.start warmup-end warmup
  pub measured-are : StepsAt s p.measured p.middle measured-end measured
  pub few : p.warmup + p.measured ≤ most_steps
  pub is : read_file s ≡ Ok (record { values = values_of v; warmup = warmup; measured = measured })

unfoldable pub FormIs : List ℕ → Result Form Fault → Type 0
FormIs s (Err f) = read_file s ≡ Err f
FormIs s (Ok r) = FormGood s r.values r.places

-- ---- the run

-- with one more step, which answered a; and with each step of a list
unfoldable pub counted : Counts → Said → Counts
counted c a =
    record {
      steps = c.steps + 1;
      applied = c.applied + bit_of a.applied;
      idle = c.idle + bit_of a.idle;
      refused = c.refused + bit_of (is_refused a);
      sent = c.sent + a.sent;
      again = c.again + a.again;
      decided = c.decided + bit_of a.decided;
    }

unfoldable pub counted_all : Counts → List Said → Counts
counted_all c [] = c
counted_all c (a ∷ as') = counted_all (counted c a) as'

-- of k steps that are all refused
unfoldable pub refused_all : ℕ → Counts
refused_all k = record { steps = k; applied = 0; idle = 0; refused = k; sent = 0; again = 0; decided = 0 }

-- counts that have room for one more step
pub record Room (c : Counts) : Type 0 where
  pub steps : c.steps ≤ most_steps
  pub applied : c.applied ≤ most_steps
  pub idle : c.idle ≤ most_steps
  pub refused : c.refused ≤ most_steps
  pub sent : c.sent ≤ most_steps * 256
  pub again : c.again ≤ most_steps * 256
  pub decided : c.decided ≤ most_steps

-- a group that is sound over stores that are long, and some steps to take
pub record RunReady (s : List ℕ) (at count : ℕ) (g : Group) (l d : List ℕ) : Type 0 where
  pub ready : Ready g l d
  pub sized : Sized g
  pub steps : List Step
  pub end : ℕ
  pub are : StepsAt s count at end steps
  pub few : count ≤ most_steps

-- whatever steps stand there were taken
abbrev pub state_with : Group → List ℕ → List ℕ → State
state_with g l d = record { group = g; store = l; depths = d }

pub record RanSteps (ss : List Step) (g : Group) (l d : List ℕ) (g' : Group) (l' d' : List ℕ) (c : Counts) : Type 0 where
  pub state : state_with g' l' d' ≡ after (state_with g l d) ss
  pub counts : c ≡ counts_of (state_with g l d) ss

abbrev pub RanTo : List ℕ → ℕ → ℕ → Group → List ℕ → List ℕ → Group → List ℕ → List ℕ → Counts → Type 0
RanTo s at count g l d g' l' d' c = (ss : List Step) (m : ℕ) → StepsAt s count at m ss → RanSteps ss g l d g' l' d' c

-- both sections
pub record BothReady (s : List ℕ) (p : Places) (g : Group) (l d : List ℕ) : Type 0 where
  pub ready : Ready g l d
  pub sized : Sized g
  pub warmup : List Step
  pub measured : List Step
  pub warmup-end : ℕ
  pub measured-end : ℕ
  pub warmup-are : StepsAt s p.warmup p.start warmup-end warmup
  pub measured-are : StepsAt s p.measured p.middle measured-end measured
  pub few : p.warmup + p.measured ≤ most_steps

pub record RanBoth (ws ms : List Step) (g : Group) (l d : List ℕ) (r : Ran) (l' d' : List ℕ) : Type 0 where
  pub warmup : r.warmup ≡ counts_of (state_with g l d) ws
  pub measured : r.measured ≡ counts_of (after (state_with g l d) ws) ms
  pub state : state_with r.group l' d' ≡ after (after (state_with g l d) ws) ms

abbrev pub BothRan : List ℕ → Places → Group → List ℕ → List ℕ → Ran → List ℕ → List ℕ → Type 0
BothRan s p g l d r l' d' = (ws ms : List Step) (a b : ℕ) → StepsAt s p.warmup p.start a ws → StepsAt s p.measured p.middle b ms → RanBoth ws ms g l d r l' d'

-- a sound file's run
abbrev pub SoundRan : List ℕ → List ℕ → List ℕ → Ran → List ℕ → List ℕ → Type 0
SoundRan s l d r l' d' = (h : Schedule) → read_file s ≡ Ok h → ran_over (Ok r) l' d' ≡ run_by (Ok h) l d
