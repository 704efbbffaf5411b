-- A start and a step without depths: a device of the proofs about records and entries. `Bare/Same` carries what is shown of it over to the step that the contracts cite. Assumes nothing.
use mathlib.Core.Bool.{Bool, false, ◌&&◌, not}
use mathlib.Core.List.{List}
use Prim.Native.Nat.{ℕ, zero, suc}
use lib.ListN.{length, get_or}
use Rattle.rules.specs.declared.group.Group.{Group}
use Rattle.rules.specs.declared.step.Step.{Step}
use Rattle.rules.specs.Limits.{greatest_size, among}
use Rattle.rules.specs.Layout.{process_at, with_process, blank_group}
use Rattle.rules.specs.Answers.{Said, says_applied, says_idle, says_refused}
use Rattle.rules.specs.Refusals.{row, all_of, short, miscounted, whole, strange, late, down, unsent, misnamed, impossible, recovers_past, enters_past}
use Rattle.rules.specs.Start.{started_to, opened}
use Rattle.rules.specs.Step.{Course, Idles, Refuses, Takes, unless_refused, hand_overs, sent_by, again_by, decides_now}

-- ---- refusals: the rows of depths as truth values

unfoldable pub damaged : Group → Bool
damaged g = not (among greatest_size g.n && all_of (λ i. whole g.n (process_at g i)) g.n)

unfoldable pub start_refusal_by : Bool → List ℕ → List ℕ → ℕ
start_refusal_by short_depths vs l = row (short l) 11 (row short_depths 14 (row (miscounted vs) 1 0))

unfoldable pub start_refusal : List ℕ → List ℕ → ℕ
start_refusal vs l = start_refusal_by false vs l

unfoldable pub refusal_by : Bool → Bool → Bool → Group → List ℕ → Step → ℕ
refusal_by short_depths damage too_deep g l s =
    row (short l) 11
    (row short_depths 14
    (row damage 2
    (row (strange g s) 3
    (row (late s) 4
    (row (down g s) 5
    (row (unsent l s) 6
    (row (misnamed g l s) 2
    (row too_deep 14
    (row (impossible g s) 7
    (row (recovers_past g s) 13
    (row (enters_past g l s) 8 0)))))))))))

unfoldable pub refusal : Group → List ℕ → Step → ℕ
refusal g l s = refusal_by false (damaged g) false g l s

-- ---- a start and a step

pub record Outcome : Type 0 where
  pub group : Group
  pub store : List ℕ
  pub says : Said

abbrev pub outcome : Group → List ℕ → Said → Outcome
outcome g l a = record { group = g; store = l; says = a }

abbrev pub refused : Group → List ℕ → ℕ → Outcome
refused g l k = outcome g l (says_refused k)

unfoldable pub begun : List ℕ → List ℕ → Outcome
begun vs l = outcome (started_to vs (length vs)) (opened (get_or vs 0 0) l) (says_applied 1 0 false)

unfoldable pub unless_refused_start : ℕ → List ℕ → List ℕ → Outcome
unless_refused_start zero vs l = begun vs l
unless_refused_start (suc k) vs l = refused (blank_group 0) l (suc k)

unfoldable pub started : List ℕ → List ℕ → Outcome
started vs l = unless_refused_start (start_refusal vs l) vs l

unfoldable pub course : Group → List ℕ → Step → Course
course g l s = unless_refused (refusal g l s) g l s

unfoldable pub settled : Group → List ℕ → Course → Outcome
settled g l Idles = outcome g l says_idle
settled g l (Refuses k) = refused g l k
settled g l (Takes i x) =
    outcome (with_process g i x.process) (hand_overs i x l) (says_applied (sent_by i x) (again_by i x l) (decides_now (process_at g i) x.process))

unfoldable pub stepped : Group → List ℕ → Step → Outcome
stepped g l s = settled g l (course g l s)
