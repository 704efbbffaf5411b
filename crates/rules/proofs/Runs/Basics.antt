-- Runs step by step: what is shown of the start and kept by each step holds of every state of a run; and what every other proof about runs leans on. Assumes nothing.
use mathlib.Core.Path.{◌≡◌, refl, ap, ◌∙◌}
use mathlib.Core.Bool.{false}
use mathlib.Core.List.{List, [], ◌∷◌, ◌++◌}
use Prim.Native.Nat.{ℕ, ◌≤◌}
use native.Mathlib.Omega.{arith}
use lib.ListN.{length, get_or}
use borrow.Author.Tests.{le-ltb}
use Rattle.rules.specs.declared.step.Step.{Step}
use Rattle.rules.specs.Limits.{greatest_size, store_length}
use Rattle.rules.specs.Layout.{Sized}
use Rattle.rules.specs.Refusals.{row, short, miscounted}
use Rattle.rules.proofs.Bare.Run.{State, state_of, start_state, next, after}
use Rattle.rules.proofs.Bare.Statements.{Begins, at}
use Rattle.rules.proofs.Bare.Step.{damaged, start_refusal_by, start_refusal, Outcome, started, begun}
use Rattle.rules.proofs.Laws.Row.{among_in}
use Rattle.rules.proofs.Laws.Group.{started-size}
use Rattle.rules.proofs.Laws.Store.{opened-length}
use Rattle.rules.proofs.Laws.Sound.{start-begun, sound-start, sized-start, sound-step, sized-step, step-size, step-length}

-- from any state on
pub onward : (P : State → Type 0) → ((a : State) (s : Step) → P a → P (next a s)) → (a : State) (ss : List Step) → P a → P (after a ss)
unfolding after
onward P step a [] h = h
onward P step a (s ∷ ss) h = onward P step (next a s) ss (step a s h)

-- a list of steps in two parts
pub after_more : (a : State) (ss ts : List Step) → after a (ss ++ ts) ≡ after (after a ss) ts
unfolding after
after_more a [] ts = refl
after_more a (s ∷ ss) ts = after_more (next a s) ss ts

-- ---- what every state of a run is: its lists have their lengths, the group is of the run's size and not damaged, and the store is long

pub record Basic (vs : List ℕ) (a : State) : Type 0 where
  pub sized : Sized a.group
  pub size : a.group.n ≡ length vs
  pub sound : damaged a.group ≡ false
  pub long : store_length ≤ length a.store

begun-size : (vs l : List ℕ) → (begun vs l).group.n ≡ length vs
unfolding begun
begun-size vs l = started-size vs (length vs)

begun-long : (vs l : List ℕ) → started vs l ≡ begun vs l → store_length ≤ length l → store_length ≤ length (started vs l).store
unfolding begun
begun-long vs l e h = omega (arith, ap (λ (o : Outcome). length o.store) e, opened-length (get_or vs 0 0) l h)

-- a start of a run is not refused
pub not-refused : (vs l : List ℕ) → Begins vs l → start_refusal vs l ≡ 0
unfolding start_refusal start_refusal_by row short miscounted
not-refused vs l b =
    rw (le-ltb (length l) store_length b.long, among_in greatest_size (length vs) b.some b.few)

pub start_is : (vs l : List ℕ) → Begins vs l → start_state vs l ≡ state_of (begun vs l)
unfolding start_state
start_is vs l b = ap state_of (start-begun vs l (not-refused vs l b))

pub basic-start : (vs l : List ℕ) → Begins vs l → Basic vs (start_state vs l)
unfolding start_state
basic-start vs l b =
    let z = not-refused vs l b in
    let e = start-begun vs l z in
    record {
      sized = sized-start vs l;
      size = ap (λ (o : Outcome). o.group.n) e ∙ begun-size vs l;
      sound = sound-start vs l z;
      long = begun-long vs l e b.long;
    }

pub basic-next : (vs : List ℕ) (a : State) (s : Step) → Basic vs a → Basic vs (next a s)
unfolding next
basic-next vs a s h =
    record {
      sized = sized-step a.group a.store s h.sized;
      size = step-size a.group a.store s ∙ h.size;
      sound = sound-step a.group a.store s h.sized h.sound;
      long = omega (arith, step-length a.group a.store s, h.long);
    }

pub basic : (vs l : List ℕ) (ss : List Step) → Begins vs l → Basic vs (at vs l ss)
basic vs l ss b = onward (Basic vs) (basic-next vs) (start_state vs l) ss (basic-start vs l b)
