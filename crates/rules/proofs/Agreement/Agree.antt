-- Agreement and validity: the start has the invariant, each step keeps it, and it gives both. Assumes nothing.
use Rattle.std.specs.Prelude.{Some}
use mathlib.Core.Path.{◌≡◌, refl, sym, ap, ap₂, ◌∙◌, subst}
use mathlib.Core.List.{List}
use mathlib.Core.Option.{some}
use Prim.Native.Nat.{ℕ, ◌-◌, ◌^◌, ◌≤◌, ◌<◌}
use native.Mathlib.Omega.{arith}
use lib.ListN.{length, get_or}
use Rattle.rules.specs.declared.group.Group.{Group}
use Rattle.rules.specs.declared.process.Process.{Process}
use Rattle.rules.specs.declared.step.Step.{Step}
use Rattle.rules.specs.Limits.{store_length}
use Rattle.rules.specs.Layout.{process_at}
use Rattle.rules.specs.Store.{kind_e, kind_f, message_round, cleared}
use Rattle.rules.specs.Start.{fresh, started_to, first_message, opened}
use Rattle.rules.specs.Safety.{Of, Holds}
use Rattle.rules.proofs.Bare.Run.{State, start_state}
use Rattle.rules.proofs.Bare.Statements.{Begins, at, process_of, Agreement, Validity}
use Rattle.rules.proofs.Bare.Step.{begun}
use Rattle.rules.proofs.Laws.Group.{started-size, started-process}
use Rattle.rules.proofs.Laws.Store.{cleared-length, cleared-below, entry-proposer, entry_value}
use Rattle.rules.proofs.Laws.Sound.{sound-facts}
use Rattle.rules.proofs.Runs.Basics.{onward, basic-start, start_is}
use Rattle.rules.proofs.Agreement.View.{Proc, View, who, what, put_e}
use Rattle.rules.proofs.Agreement.Inv.{Inv}
use Rattle.rules.proofs.Agreement.Inv as inv
use Rattle.rules.proofs.Agreement.Opening.{Fresh, Start, started}
use Rattle.rules.proofs.Agreement.Seen.{seen, view, decision_of, entry-none, verdict-none, record-in, heard-none, view-hand}
use Rattle.rules.proofs.Agreement.EachStep.{Safe, safe-next}

-- ---- the start

module _ (vs l : List ℕ) (b : Begins vs l) where
  -- the group that it makes, and its size
  abbrev group : Group
  group = started_to vs (length vs)

  size : (started_to vs (length vs)).n ≡ length vs
  size = started-size vs (length vs)

  -- its processes
  process-is : (i : ℕ) → 1 ≤ i → i ≤ (started_to vs (length vs)).n → process_at (started_to vs (length vs)) i ≡ fresh i (get_or vs (i - 1) 0)
  process-is i lo hi = started-process vs (length vs) i lo (omega (arith, size)) b.few

  -- as they are seen
  record_is : (i : ℕ) → 1 ≤ i → i ≤ (started_to vs (length vs)).n → (view vs (started_to vs (length vs)) l).proc i ≡ seen (fresh i (get_or vs (i - 1) 0))
  record_is i lo hi = ap seen (record-in group i lo (omega (arith, size, b.few)) ∙ process-is i lo hi)

  -- a first value fits its field
  first_small : (i : ℕ) → 1 ≤ i → i ≤ (started_to vs (length vs)).n → get_or vs (i - 1) 0 < 2 ^ 32
  first_small i lo hi = b.small (i - 1) (omega (arith, size))

  -- before the first message
  abbrev before : View
  before = view vs (started_to vs (length vs)) (cleared store_length l)

  -- each of them is fresh
  new : (p : ℕ) → get_or vs (p - 1) 0 < 2 ^ 32 → Fresh before p (seen (fresh p (get_or vs (p - 1) 0)))
  unfolding fresh who what decision_of
  new p small =
      record {
        round = refl;
        phase = refl;
        own = entry-proposer p (get_or vs (p - 1) 0) small;
        value = entry_value p (get_or vs (p - 1) 0) small;
        deaf = heard-none;
        undecided = refl;
      }

  -- nothing is sent yet
  nothing-sent : Start before
  nothing-sent =
      record {
        procs = λ p lo hi. subst (Fresh before p) (sym (record_is p lo hi)) (new p (first_small p lo hi));
        no_e = λ r p. entry-none (cleared store_length l) kind_e r p (omega arith) (cleared-below store_length l);
        no_f = λ r p. entry-none (cleared store_length l) kind_f r p (omega arith) (cleared-below store_length l);
        no_d = λ p. verdict-none (cleared store_length l) p (cleared-below store_length l);
      }

  -- after it
  start-inv : Inv (view vs (started_to vs (length vs)) (opened (get_or vs 0 0) l))
  unfolding opened message_round fresh
  start-inv =
      subst Inv
      (sym (view-hand 1 (cleared store_length l) (omega arith) (omega arith) room vs group (Some (first_message (get_or vs 0 0))) (omega arith)))
      (subst (λ (e : ℕ). Inv (put_e before 0 1 e)) (ap (λ (q : Proc). q.est) (record_is 1 (omega arith) some-process))
      (started before nothing-sent some-process))
    where
      room : store_length ≤ length (cleared store_length l)
      room = omega (arith, cleared-length store_length l b.long, b.long)

      some-process : 1 ≤ group.n
      some-process = omega (arith, size, b.some)

  -- the estimates fit their field
  start_small : (i : ℕ) → 1 ≤ i → i ≤ (started_to vs (length vs)).n → (process_at (started_to vs (length vs)) i).value < 2 ^ 32
  unfolding fresh
  start_small i lo hi = subst (λ (p : Process). p.value < 2 ^ 32) (sym (process-is i lo hi)) (first_small i lo hi)

  -- the state of a start
  pub safe-start : Safe vs (start_state vs l)
  unfolding begun
  safe-start =
      record {
        basic = basic-start vs l b;
        inv = subst (λ (a : State). Inv (view vs a.group a.store)) (sym (start_is vs l b)) start-inv;
        small =
            subst (λ (a : State). (i : ℕ) → 1 ≤ i → i ≤ a.group.n → (process_at a.group i).value < 2 ^ 32)
            (sym (start_is vs l b)) start_small;
      }

-- every state of a run
pub safe : (vs l : List ℕ) (ss : List Step) → Begins vs l → Safe vs (at vs l ss)
safe vs l ss b = onward (Safe vs) (safe-next vs) (start_state vs l) ss (safe-start vs l b)

-- ---- the two statements

-- a process of a run that holds a decision, as it is seen
module _ (vs : List ℕ) (a : State) (h : Safe vs a) (i : ℕ) (of : Of vs i) where
  -- it is of the group
  in_group : i ≤ a.group.n
  in_group = omega (arith, h.basic.size, of.high)

  -- its decision
  holds-seen : (v : ℕ) → Holds (process_of a i) v → ((view vs a.group a.store).proc i).dec ≡ some v
  unfolding decision_of
  holds-seen v d =
      ap (λ (p : Process). decision_of p.decided p.decision)
      (record-in a.group i of.low (omega (arith, (sound-facts a.group h.basic.sound).high)))
      ∙ ap₂ decision_of d.decided d.decision

-- any two processes that hold decisions hold the same
pub agreement : Agreement
agreement vs l ss b i j v w of-i of-j d e =
    let a = at vs l ss in
    let h = safe vs l ss b in
    inv.agreement (view vs a.group a.store) h.inv i j v w of-i.low (in_group vs a h i of-i) of-j.low (in_group vs a h j of-j)
    (holds-seen vs a h i of-i v d) (holds-seen vs a h j of-j w e)

-- each decided value is the first value of some process
pub validity : Validity
validity vs l ss b i v of d =
    let a = at vs l ss in
    let h = safe vs l ss b in
    let some_IsFirst = inv.validity (view vs a.group a.store) h.inv i v of.low (in_group vs a h i of) (holds-seen vs a h i of v d) in
    record {
      whose = some_IsFirst.at;
      process = record { low = some_IsFirst.low; high = omega (arith, h.basic.size, some_IsFirst.high) };
      value = some_IsFirst.has;
    }
