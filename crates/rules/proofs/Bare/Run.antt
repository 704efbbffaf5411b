-- A run without depths, as a device. Assumes nothing.
use mathlib.Core.List.{List, [], ◌∷◌, ◌++◌}
use Prim.Native.Nat.{ℕ}
use lib.ListN.{get_or}
use Rattle.rules.specs.declared.group.Group.{Group}
use Rattle.rules.specs.declared.step.Step.{Step}
use Rattle.rules.specs.Answers.{Said}
use Rattle.rules.specs.Start.{first_message}
use Rattle.rules.specs.Layout.{forgetting}
use Rattle.rules.specs.Store.{Handed, handed}
use Rattle.rules.specs.Run.{handed_by_course, State as Whole}
use Rattle.rules.proofs.Bare.Step.{Outcome, started, course, stepped}

-- the group and the store between two steps
pub record State : Type 0 where
  pub group : Group
  pub store : List ℕ

-- that of a state with depths, which are forgotten
abbrev pub forgotten : Whole → State
forgotten a = record { group = forgetting a.group; store = a.store }

abbrev pub state_of : Outcome → State
state_of o = record { group = o.group; store = o.store }

unfoldable pub start_state : List ℕ → List ℕ → State
start_state vs l = state_of (started vs l)

unfoldable pub next : State → Step → State
next a s = state_of (stepped a.group a.store s)

unfoldable pub after : State → List Step → State
after a [] = a
after a (s ∷ ss) = after (next a s) ss

unfoldable pub answers : State → List Step → List Said
answers a [] = []
answers a (s ∷ ss) = (stepped a.group a.store s).says ∷ answers (next a s) ss

unfoldable pub handed_by : State → Step → List Handed
handed_by a s = handed_by_course (course a.group a.store s)

unfoldable pub handed_in : State → List Step → List Handed
handed_in a [] = []
handed_in a (s ∷ ss) = handed_by a s ++ handed_in (next a s) ss

unfoldable pub handed_from : List ℕ → List ℕ → List Step → List Handed
handed_from vs l ss = handed 1 (first_message (get_or vs 0 0)) ∷ handed_in (start_state vs l) ss
