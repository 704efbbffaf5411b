-- A contract of start or step leaves one result: what it returns, and what both stores then hold. Assumes nothing.
use mathlib.Core.Path.{◌≡◌, refl, sym, ap, ◌∙◌}
use mathlib.Core.Bool.{Bool, true, false}
use mathlib.Core.List.{List}
use Prim.Native.Nat.{ℕ}
use Rattle.rules.specs.declared.group.Group.{Group}
use Rattle.rules.specs.declared.step.Step.{Step}
use Rattle.rules.specs.declared.step.Answer.{Answer}
use Rattle.rules.specs.declared.step.Answer.TheVariants.{Idle, Applied}
use Rattle.rules.specs.declared.refusal.Refusal.{Refusal}
use Rattle.rules.specs.declared.refusal.Refusal.TheVariants.{Values, Damaged, NoProcess, NoRound, Down, NotSent, NotPossible, PastLastRound, ShortStore, TooManyRecoveries, TooDeep}
use Rattle.std.specs.Prelude.{Result, Ok, Err, cond, eqb}
use Rattle.rules.specs.declared.group.Taken.{Taken}
use Rattle.rules.specs.Answers.{Said, number_of, said, Outcome, outcome}
use Rattle.rules.specs.Start.{started}
use Rattle.rules.specs.Step.{stepped}

-- the refusal with a number
refusal_of : ℕ → Refusal
refusal_of k =
    cond (eqb k 1) Values
    (cond (eqb k 2) Damaged
    (cond (eqb k 3) NoProcess
    (cond (eqb k 4) NoRound
    (cond (eqb k 5) Down
    (cond (eqb k 6) NotSent
    (cond (eqb k 7) NotPossible
    (cond (eqb k 8) PastLastRound
    (cond (eqb k 11) ShortStore
    (cond (eqb k 13) TooManyRecoveries
    TooDeep)))))))))

refusal-number : (r : Refusal) → refusal_of (number_of r) ≡ r
unfolding refusal_of number_of
refusal-number Values = refl
refusal-number Damaged = refl
refusal-number NoProcess = refl
refusal-number NoRound = refl
refusal-number Down = refl
refusal-number NotSent = refl
refusal-number NotPossible = refl
refusal-number PastLastRound = refl
refusal-number ShortStore = refl
refusal-number TooManyRecoveries = refl
refusal-number TooDeep = refl

-- the answer that says this
answer_of : Bool → Bool → Said → Result Answer Refusal
answer_of true i s = Ok (Applied s.sent s.again s.decided)
answer_of false true s = Ok Idle
answer_of false false s = Err (refusal_of s.refusal)

answer-said : (a : Result Answer Refusal) → answer_of (said a).applied (said a).idle (said a) ≡ a
unfolding answer_of said
answer-said (Ok Idle) = refl
answer-said (Ok (Applied sent again decided)) = refl
answer-said (Err r) = ap (λ (q : Refusal). Err q) (refusal-number r)

-- two answers that say the same are one
pub said-one : (a b : Result Answer Refusal) → said a ≡ said b → a ≡ b
said-one a b e = sym (answer-said a) ∙ ap (λ (s : Said). answer_of s.applied s.idle s) e ∙ answer-said b

-- an outcome has one group, one content of each store and one answer; so have the steps on a lent group
module _ {g₁ g₂ : Group} {l₁ l₂ d₁ d₂ : List ℕ} {a₁ a₂ : Result Answer Refusal} where
  pub outcome-one : (o : Outcome) → outcome g₁ l₁ d₁ (said a₁) ≡ o → outcome g₂ l₂ d₂ (said a₂) ≡ o → (g₁ ≡ g₂) × (l₁ ≡ l₂) × (d₁ ≡ d₂) × (a₁ ≡ a₂)
  outcome-one o e₁ e₂ =
      let e = e₁ ∙ sym e₂ in (
        ap (λ (x : Outcome). x.group) e,
        ap (λ (x : Outcome). x.store) e,
        ap (λ (x : Outcome). x.depths) e,
        said-one a₁ a₂ (ap (λ (x : Outcome). x.says) e),
      )

  pub lent_one : (g : Group) (l d : List ℕ) (s : Step) → outcome g₁ l₁ d₁ (said a₁) ≡ stepped g l d s → outcome g₂ l₂ d₂ (said a₂) ≡ stepped g l d s
      → (g₁ ≡ g₂) × (l₁ ≡ l₂) × (d₁ ≡ d₂) × (a₁ ≡ a₂)
  lent_one g l d s = outcome-one (stepped g l d s)

-- a returned group and answer, with the stores left: the start's, and the step's
taken-one : (o : Outcome) (a b : Taken) (la lb da db : List ℕ) → outcome a.group la da (said a.answer) ≡ o
    → outcome b.group lb db (said b.answer) ≡ o → (a ≡ b) × (la ≡ lb) × (da ≡ db)
taken-one o a b la lb da db e₁ e₂ =
    let same = outcome-one o e₁ e₂ in
    (λ k. record { group = same.0 k; answer = same.3 k }, same.1, same.2)

pub start-one : (vs l d : List ℕ) (a b : Taken) (la lb da db : List ℕ)
    → outcome a.group la da (said a.answer) ≡ started vs l d → outcome b.group lb db (said b.answer) ≡ started vs l d
    → (a ≡ b) × (la ≡ lb) × (da ≡ db)
start-one vs l d = taken-one (started vs l d)

pub step-one : (g : Group) (l d : List ℕ) (s : Step) (a b : Taken) (la lb da db : List ℕ)
    → outcome a.group la da (said a.answer) ≡ stepped g l d s → outcome b.group lb db (said b.answer) ≡ stepped g l d s
    → (a ≡ b) × (la ≡ lb) × (da ≡ db)
step-one g l d s = taken-one (stepped g l d s)

-- where a contract says that the result is a value that the arguments fix, as those of `Group::process`, `Group::depth` and of the limits do, there is one result
pub value-one : {A : Type 0} {wanted a b : A} → a ≡ wanted → b ≡ wanted → a ≡ b
value-one x y = x ∙ sym y
