-- The cases of a step, for the proofs about runs: which course it takes, what it leaves of one process, and what it leaves of one entry of the store. Assumes nothing.
use Rattle.std.specs.Prelude.{Option}
use mathlib.Core.Path.{◌≡◌, refl, sym, ap, subst, ◌∙◌}
use mathlib.Core.Bool.{Bool, true, false}
use mathlib.Core.List.{List, [], ◌∷◌}
use mathlib.Core.Logic.{◌≢◌}
use Prim.Native.Nat.{ℕ, zero, suc, ◌≤◌, ◌<◌}
use native.Mathlib.Decide.{ℕ_discrete}
use native.Mathlib.Omega.{arith}
use lib.ListN.{length, get_or, set}
use Rattle.rules.specs.declared.group.Group.{Group}
use Rattle.rules.specs.declared.process.Process.{Process}
use Rattle.rules.specs.declared.process.Message.{Message}
use Rattle.rules.specs.declared.process.Next.{Next}
use Rattle.rules.specs.declared.step.Step.{Step}
use Rattle.rules.specs.Step.{Course, Idles, Refuses, Takes, idles, or_idle, unless_refused, hand_overs}
use Rattle.rules.proofs.Bare.Run.{State, next, after}
use Rattle.rules.proofs.Bare.Step.{refusal, course, settled, stepped}
use Rattle.rules.specs.Limits.{greatest_size, store_length}
use Rattle.rules.specs.Layout.{process_at, with_process, Sized}
use Rattle.rules.specs.Store.{hand_over}
use Rattle.rules.proofs.Laws.Store.{place_by, entry_by}
use Rattle.rules.specs.Events.{crashed, quiet, on_crash, cut_if}
use Rattle.rules.specs.Kinds.{taker_of, is_cut, event_of}
use Rattle.rules.specs.Idle.{idle}
use Rattle.rules.proofs.Laws.Store.{IsMessage, place-lt, hand_over-length, handing, own, other}
use Rattle.rules.proofs.Laws.Group.{process-put, process-kept}
use Rattle.rules.proofs.Laws.Sound.{Passed, refusal-passed, Taking, Fine, course-fine}
use Rattle.rules.proofs.Runs.Basics.{Basic, basic-next}

-- a test does not both fail and hold
pub never : {A : Type 0} {t : Bool} → t ≡ false → t ≡ true → A
never e f = let z : ◌≡◌ {A = Bool} false true = sym e ∙ f in let y : ◌≡◌ {A = ℕ} 0 1 = cc in absurd (omega arith)

-- what each step keeps in a state of a run is kept from any such state on
pub throughout : (vs : List ℕ) (P : State → Type 0) → ((a : State) (s : Step) → Basic vs a → P a → P (next a s))
    → (a : State) (ss : List Step) → Basic vs a → P a → P (after a ss)
unfolding after
throughout vs P step a [] b h = h
throughout vs P step a (s ∷ ss) b h = throughout vs P step (next a s) ss (basic-next vs a s b) (step a s b h)

-- ---- the course

module _ (P : Course → Type 0) (g : Group) (l : List ℕ) (s : Step) where
  -- it refuses, idles, crashes by the cut of an idle delivery, or takes the event, cut or not
  pub course-by : P Idles → ((k : ℕ) → P (Refuses k))
      → (Passed g l s → idle g s ≡ true → P (Takes (taker_of s) (on_crash (process_at g (taker_of s)))))
      → (Passed g l s → idle g s ≡ false → P (Takes (taker_of s) (cut_if (is_cut s) (event_of g l s))))
      → P (course g l s)
  unfolding course unless_refused or_idle idles
  course-by none refuse crash take = go (refusal g l s) refl
    where
      passed : (t c : Bool) → idle g s ≡ t → is_cut s ≡ c → Passed g l s
          → P (or_idle t c (taker_of s) (process_at g (taker_of s)) (event_of g l s))
      passed true true e f h = crash h e
      passed true false e f h = none
      passed false c e f h = subst (λ (d : Bool). P (Takes (taker_of s) (cut_if d (event_of g l s)))) f (take h e)

      go : (k : ℕ) → refusal g l s ≡ k → P (unless_refused k g l s)
      go zero e = passed (idle g s) (is_cut s) refl refl (refusal-passed g l s e)
      go (suc k) e = refuse (suc k)

-- ---- one process

-- what is put into a group is seen by its own number alone
pub put-by : (Q : Process → Type 0) (g : Group) (i j : ℕ) (q : Process) → Sized g → 1 ≤ i → i ≤ greatest_size → 1 ≤ j → j ≤ greatest_size
    → (j ≢ i → Q (process_at g j)) → (i ≡ j → Q q) → Q (process_at (with_process g i q) j)
put-by Q g i j q sized lo hi lo' hi' old new = go (ℕ_discrete j i)
  where
    go : Dec (j ≡ i) → Q (process_at (with_process g i q) j)
    go (yes e) = subst Q (sym (ap (process_at (with_process g i q)) e ∙ process-put g i q sized lo hi)) (new (sym e))
    go (no ne) = subst Q (sym (process-kept g i j q lo hi lo' hi' ne)) (old ne)

-- a cut event leaves its record, crashed or not
cut_by : (Q : Process → Type 0) → ((p : Process) → Q p → Q (crashed p)) → (c : Bool) (x : Next) → Q x.process → Q (cut_if c x).process
unfolding cut_if on_crash quiet
cut_by Q crash true x h = crash x.process h
cut_by Q crash false x h = h

-- what a crash keeps, and what the event keeps where process i takes it, holds of process i after every step
pub process-by : (Q : Process → Type 0) (g : Group) (l : List ℕ) (s : Step) (i : ℕ) → Sized g → 1 ≤ i → i ≤ greatest_size
    → ((p : Process) → Q p → Q (crashed p)) → Q (process_at g i)
    → (Passed g l s → taker_of s ≡ i → idle g s ≡ false → Q (event_of g l s).process)
    → Q (process_at (stepped g l s).group i)
unfolding stepped settled on_crash quiet
process-by Q g l s i sized lo hi crash old new =
    course-by P g l s (λ f. old) (λ k f. old)
    (λ h t f. put (on_crash (process_at g (taker_of s))) f (λ e. crash (process_at g (taker_of s)) (subst (λ (j : ℕ). Q (process_at g j)) (sym e) old)))
    (λ h t f. put (cut_if (is_cut s) (event_of g l s)) f (λ e. cut_by Q crash (is_cut s) (event_of g l s) (new h e t)))
    (course-fine g l s)
  where
    P : Course → Type 0
    P c = Fine g.n c → Q (process_at (settled g l c).group i)

    put : (x : Next) → Taking g.n (taker_of s) x → (taker_of s ≡ i → Q x.process) → Q (process_at (settled g l (Takes (taker_of s) x)).group i)
    put x t h = put-by Q g (taker_of s) i x.process sized t.low t.small lo hi (λ ne. old) h

-- ---- one entry

-- what holds of an entry, and of that of the message where it is one, holds of it after the handing over
pub handed-by : (Q : ℕ → Type 0) (i : ℕ) (m : Option Message) (l : List ℕ) (k : ℕ) → place_by i m < length l → (IsMessage m → Q (entry_by i m)) → Q (get_or l k 0)
    → Q (get_or (hand_over i m l) k 0)
handed-by Q i m l k lt new old =
    handing (λ (l' : List ℕ). Q (get_or l' k 0)) i m l (λ no. old) (λ is. written (new is) (ℕ_discrete k (place_by i m)))
  where
    written : Q (entry_by i m) → Dec (k ≡ place_by i m) → Q (get_or (set l (place_by i m) (entry_by i m)) k 0)
    written h (yes e) =
        subst Q (sym (ap (λ (j : ℕ). get_or (set l (place_by i m) (entry_by i m)) j 0) e ∙ own l (place_by i m) (entry_by i m) lt)) h
    written h (no ne) = subst Q (sym (other l (place_by i m) (entry_by i m) k ne)) old

-- of both messages of a process that takes a step
pub overs-by : (Q : ℕ → Type 0) (n i : ℕ) (x : Next) (l : List ℕ) (k : ℕ) → Taking n i x → store_length ≤ length l
    → (IsMessage x.first → Q (entry_by i x.first)) → (IsMessage x.second → Q (entry_by i x.second)) → Q (get_or l k 0)
    → Q (get_or (hand_overs i x l) k 0)
unfolding hand_overs
overs-by Q n i x l k t long one two old =
    let room : place_by i x.first < length l = omega (arith, place-lt i x.first t.small t.first) in
    let more : place_by i x.second < length (hand_over i x.first l) =
    omega (arith, place-lt i x.second t.small t.second, hand_over-length i x.first l) in
    handed-by Q i x.second (hand_over i x.first l) k more two (handed-by Q i x.first l k room one old)
