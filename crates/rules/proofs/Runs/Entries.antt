-- The store of a run: a step leaves what is sent sent, entries past the store stay, and what is sent is 1 and all *sent* without all *again*; records above n stay blank. Assumes nothing.
use mathlib.Core.Path.{◌≡◌, ap, ◌∙◌}
use mathlib.Core.List.{List, [], ◌∷◌}
use mathlib.Core.Logic.{◌≢◌}
use Prim.Native.Nat.{ℕ, ◌+◌, ◌≤◌}
use native.Mathlib.Omega.{arith}
use lib.ListN.{length, get_or}
use Rattle.rules.specs.declared.group.Group.{Group}
use Rattle.rules.specs.declared.step.Step.{Step}
use Rattle.rules.specs.Limits.{store_length}
use Rattle.rules.specs.Records.{blank}
use Rattle.rules.specs.Store.{sent_in}
use Rattle.rules.specs.Answers.{total, all_sent, all_again}
use Rattle.rules.proofs.Bare.Run.{State, start_state, next, after, answers}
use Rattle.rules.proofs.Bare.Statements.{process_of, PastKept, SentCounts, AboveKept}
use Rattle.rules.proofs.Bare.Step.{begun, stepped}
use Rattle.rules.proofs.Laws.Store.{opened-past, opened-sent}
use Rattle.rules.proofs.Laws.Group.{started-blank}
use Rattle.rules.proofs.Laws.Sound.{named-entry, step_by, step_past, step-above, step-sent}
use Rattle.rules.proofs.Runs.Basics.{Basic, basic-start, basic-next, start_is, onward}
use Rattle.rules.proofs.Runs.Cases.{throughout, overs-by}

-- ---- what is sent stays sent

-- one step
pub step_stays : (g : Group) (l : List ℕ) (s : Step) (k : ℕ) → store_length ≤ length l → get_or l k 0 ≢ 0 → get_or (stepped g l s).store k 0 ≢ 0
step_stays g l s k long ne =
    step_by (λ (g' : Group) (l' : List ℕ). get_or l' k 0 ≢ 0) g l s ne
    (λ i x h.
    overs-by (λ (e : ℕ). e ≢ 0) g.n i x l k h long (named-entry g.n i x.first h.low h.first-named)
    (named-entry g.n i x.second h.low h.second-named) ne)

-- ---- what no step touches

pub past-kept : PastKept
unfolding next begun
past-kept vs l ss b k le =
    onward (λ (a : State). get_or a.store k 0 ≡ get_or l k 0) (λ a s e. step_past a.group a.store s k le ∙ e) (start_state vs l) ss
    (ap (λ (a : State). get_or a.store k 0) (start_is vs l b) ∙ opened-past (get_or vs 0 0) l b.long k le)

pub above_kept : AboveKept
unfolding next begun
above_kept vs l ss b i lo hi =
    throughout vs (λ (a : State). process_of a i ≡ blank)
    (λ a s h e. step-above a.group a.store s i (omega (arith, h.size)) hi ∙ e)
    (start_state vs l) ss (basic-start vs l b)
    (ap (λ (a : State). process_of a i) (start_is vs l b) ∙ started-blank vs (length vs) i lo hi)

-- ---- how many are sent

-- from any state of a run on
counts-on : (vs : List ℕ) (a : State) (ss : List Step) → Basic vs a
    → sent_in a.store store_length + all_sent (answers a ss) ≡ sent_in (after a ss).store store_length + all_again (answers a ss)
unfolding after answers total next
counts-on vs a [] h = omega arith
counts-on vs a (s ∷ ss) h =
    let rest = counts-on vs (next a s) ss (basic-next vs a s h) in
    omega (arith, step-sent a.group a.store s h.long)

pub sent-counts : SentCounts
unfolding begun
sent-counts vs l ss b =
    let first : sent_in (start_state vs l).store store_length ≡ 1 =
    ap (λ (a : State). sent_in a.store store_length) (start_is vs l b) ∙ opened-sent (get_or vs 0 0) l b.long in
    omega (arith, counts-on vs (start_state vs l) ss (basic-start vs l b))
