-- A run: any finite list of steps from a start, with what was handed over. Assumes nothing.
-- That refusal 6 comes "exactly when neither the start nor any earlier applied step handed that message over" is said of `handed_from`, in Safety.
use Rattle.std.specs.Prelude.{List, [], ◌∷◌, ◌++◌, ℕ, get_or}
use Rattle.rules.specs.declared.group.Group.{Group}
use Rattle.rules.specs.declared.step.Step.{Step}
use Rattle.rules.specs.Store.{Handed, handed}
use Rattle.rules.specs.Answers.{Outcome, Said}
use Rattle.rules.specs.Start.{started, first_message}
use Rattle.rules.specs.Step.{Course, Idles, Refuses, Takes, handed_of, course, stepped}

-- the group, the store and the depths of its messages between two steps
pub record State : Type 0 where
  pub group : Group
  pub store : List ℕ
  pub depths : List ℕ

abbrev pub state_of : Outcome → State
state_of o = record { group = o.group; store = o.store; depths = o.depths }

-- after a start over the stores l and d, after one step, and after a list of steps: "a run goes on after a refused step"
unfoldable pub start_state : List ℕ → List ℕ → List ℕ → State
start_state vs l d = state_of (started vs l d)

unfoldable pub next : State → Step → State
next a s = state_of (stepped a.group a.store a.depths s)

unfoldable pub after : State → List Step → State
after a [] = a
after a (s ∷ ss) = after (next a s) ss

-- what each step of the list answers
unfoldable pub answers : State → List Step → List Said
answers a [] = []
answers a (s ∷ ss) = (stepped a.group a.store a.depths s).says ∷ answers (next a s) ss

-- ---- what is handed over: by a course, by one step, and by a list of steps, in their order

unfoldable pub handed_by_course : Course → List Handed
handed_by_course Idles = []
handed_by_course (Refuses k) = []
handed_by_course (Takes i x) = handed_of i x

unfoldable pub handed_by : State → Step → List Handed
handed_by a s = handed_by_course (course a.group a.store a.depths s)

unfoldable pub handed_in : State → List Step → List Handed
handed_in a [] = []
handed_in a (s ∷ ss) = handed_by a s ++ handed_in (next a s) ss

-- by the start and then by the list of steps
unfoldable pub handed_from : List ℕ → List ℕ → List ℕ → List Step → List Handed
handed_from vs l d ss = handed 1 (first_message (get_or vs 0 0)) ∷ handed_in (start_state vs l d) ss
