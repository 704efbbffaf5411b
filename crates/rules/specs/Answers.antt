-- Document 01, "Steps" and "Refusals": what a step answers, and its whole outcome. Assumes nothing.
use Rattle.std.specs.Prelude.{Bool, true, false, ◌&&◌, not, List, [], ◌∷◌, ℕ, ◌+◌, Result, Ok, Err}
use Rattle.rules.specs.declared.group.Group.{Group}
use Rattle.rules.specs.declared.step.Answer.{Answer}
use Rattle.rules.specs.declared.step.Answer.TheVariants.{Idle, Applied}
use Rattle.rules.specs.declared.refusal.Refusal.{Refusal}
use Rattle.rules.specs.declared.refusal.Refusal.TheVariants.{Values, Damaged, NoProcess, NoRound, Down, NotSent, NotPossible, PastLastRound, ShortStore, TooManyRecoveries, TooDeep}

-- "Every step is applied, idle or refused": which of the three, the refusal's number, *sent*, *again*, and whether the process decided. Request 2026-05:
-- "*Sent* counts every message handed over, and a new field *again*, right after it, counts those whose entry was sent before."
pub record Said : Type 0 where
  pub applied : Bool
  pub idle : Bool
  pub refusal : ℕ
  pub sent : ℕ
  pub again : ℕ
  pub decided : Bool

abbrev pub says_applied : ℕ → ℕ → Bool → Said
says_applied sent again decided = record { applied = true; idle = false; refusal = 0; sent = sent; again = again; decided = decided }

abbrev pub says_idle : Said
says_idle = record { applied = false; idle = true; refusal = 0; sent = 0; again = 0; decided = false }

abbrev pub says_refused : ℕ → Said
says_refused k = record { applied = false; idle = false; refusal = k; sent = 0; again = 0; decided = false }

-- the number of each refusal in the table
unfoldable pub number_of : Refusal → ℕ
number_of Values = 1
number_of Damaged = 2
number_of NoProcess = 3
number_of NoRound = 4
number_of Down = 5
number_of NotSent = 6
number_of NotPossible = 7
number_of PastLastRound = 8
number_of ShortStore = 11
number_of TooManyRecoveries = 13
number_of TooDeep = 14

-- what each case of an answer says
unfoldable pub said : Result Answer Refusal → Said
said (Ok Idle) = says_idle
said (Ok (Applied sent again decided)) = says_applied sent again decided
said (Err r) = says_refused (number_of r)

-- neither applied nor idle
abbrev pub is_refused : Said → Bool
is_refused a = not a.applied && not a.idle

-- what a list of answers adds up to, where each counts as much as f says; all *sent*, and all *again*
unfoldable pub total : (Said → ℕ) → List Said → ℕ
total f [] = 0
total f (a ∷ as') = f a + total f as'

abbrev pub all_sent : List Said → ℕ
all_sent as' = total (λ a. a.sent) as'

abbrev pub all_again : List Said → ℕ
all_again as' = total (λ a. a.again) as'

-- all that a start or a step yields: the group, the content of both stores, and what is said
pub record Outcome : Type 0 where
  pub group : Group
  pub store : List ℕ
  pub depths : List ℕ
  pub says : Said

abbrev pub outcome : Group → List ℕ → List ℕ → Said → Outcome
outcome g l d a = record { group = g; store = l; depths = d; says = a }

-- refused by k: the "same group", and "No refusal changes the store."
abbrev pub refused : Group → List ℕ → List ℕ → ℕ → Outcome
refused g l d k = outcome g l d (says_refused k)
