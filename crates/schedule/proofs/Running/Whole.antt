-- The laws of a file's run, whole: both sections from a start, a store that is too short, and what is answered. Assumes nothing.
use mathlib.Core.Path.{◌≡◌, refl, sym, ap, ap₂, ◌∙◌, subst}
use mathlib.Core.Bool.{Bool, true, false, ◌||◌}
use mathlib.Core.List.{List, [], ◌∷◌}
use native.Mathlib.Omega.{arith}
use Prim.Native.Nat.{ℕ, suc, ◌+◌, ◌≤◌}
use lib.Dec.{ltb}
use lib.ListN.{length}
use borrow.Author.Tests.{le-ltb, ltb-false}
use Rattle.std.specs.Prelude.{Result, Ok, Err, is_err}
use Rattle.rules.specs.Limits.{greatest_size, store_length}
use Rattle.rules.specs.Layout.{Sized}
use Rattle.rules.specs.Refusals.{row, short, miscounted, damaged, start_refusal, refusal}
use Rattle.rules.specs.Answers.{Said, said, says_refused, is_refused, total, Outcome, outcome}
use Rattle.rules.specs.declared.step.Answer.{Answer}
use Rattle.rules.specs.declared.step.Answer.TheVariants.{Idle, Applied}
use Rattle.rules.specs.declared.refusal.Refusal.{Refusal}
use Rattle.rules.specs.Start.{unless_refused_start, started}
use Rattle.rules.specs.Step.{stepped, Ready}
use Rattle.rules.specs.Run.{State, state_of, start_state, next, after, answers}
use Rattle.rules.specs.declared.group.Group.{Group}
use Rattle.rules.specs.declared.step.Step.{Step}
use Rattle.rules.proofs.Cited.{or_left, or_right, among_in, deep-keeps, deep-sound-step, deep-sized-step, deep-step-length, depths-step-length, Starting, deep-starting}
use Rattle.schedule.specs.Schedule.{Schedule, Reading, Fits, read_file}
use Rattle.schedule.specs.Run.{counts_of, has_run, run_by, run_of, begins, between}
use Rattle.schedule.specs.Run.{ran_over}
use Rattle.schedule.specs.Private.{counted, counted_all, refused_all, values_of, FormGood, FormIs, RunReady, state_with, RanSteps, RanTo, BothReady, RanBoth, BothRan, SoundRan}
use Rattle.schedule.specs.declared.counts.Counts.{Counts}
use Rattle.schedule.specs.declared.fault.Fault.{Fault}
use Rattle.schedule.specs.declared.file.Form.{Form}
use Rattle.schedule.specs.declared.file.Places.{Places}
use Rattle.schedule.specs.declared.run.Ran.{Ran}
use Rattle.schedule.specs.declared.first.Values.{Values}
use Rattle.schedule.specs.Counts.{counts_in}
use Rattle.schedule.proofs.Running.Counts.{counted_is}
use Rattle.schedule.proofs.Files.First.{file-read}

-- ---- a sound group over long stores stays so

pub record Steady (a : State) : Type 0 where
  pub sized : Sized a.group
  pub ready : Ready a.group a.store a.depths

steady-next : (a : State) (s : Step) → Steady a → Steady (next a s)
unfolding next
steady-next a s h =
    record {
      sized = deep-sized-step a.group a.store a.depths s h.sized;
      ready = record {
        long = omega (arith, deep-step-length a.group a.store a.depths s, h.ready.long);
        deep_long = omega (arith, depths-step-length a.group a.store a.depths s, h.ready.deep_long);
        sound = deep-sound-step a.group a.store a.depths s h.sized h.ready.sound;
      };
    }

pub steady-after : (a : State) (ss : List Step) → Steady a → Steady (after a ss)
unfolding after
steady-after a [] h = h
steady-after a (s ∷ ss) h = steady-after (next a s) ss (steady-next a s h)

-- ---- both sections

module _ (s : List ℕ) (p : Places) (g : Group) (l d : List ℕ) (h : BothReady s p g l d) where
  pub both_first : RunReady s p.start p.warmup g l d
  both_first = record { ready = h.ready; sized = h.sized; steps = h.warmup; end = h.warmup-end; are = h.warmup-are; few = omega (arith, h.few) }

  module _ (g₁ : Group) (l₁ d₁ : List ℕ) (c : Counts) (r : RanTo s p.start p.warmup g l d g₁ l₁ d₁ c) where
    first-ran : RanSteps h.warmup g l d g₁ l₁ d₁ c
    first-ran = r h.warmup h.warmup-end h.warmup-are

    then-steady : Steady (state_with g₁ l₁ d₁)
    then-steady = subst Steady (sym first-ran.state) (steady-after (state_with g l d) h.warmup (record { sized = h.sized; ready = h.ready }))

    pub both-second : RunReady s p.middle p.measured g₁ l₁ d₁
    both-second =
        record {
          ready = then-steady.ready;
          sized = then-steady.sized;
          steps = h.measured;
          end = h.measured-end;
          are = h.measured-are;
          few = omega (arith, h.few);
        }

    pub both-ran : (g₂ : Group) (l₂ d₂ : List ℕ) (k : Counts) → RanTo s p.middle p.measured g₁ l₁ d₁ g₂ l₂ d₂ k
        → BothRan s p g l d (record { warmup = c; measured = k; group = g₂ }) l₂ d₂
    both-ran g₂ l₂ d₂ k q ws ms a b u v =
        let x = r ws a u in let y = q ms b v in
        record {
          warmup = x.counts;
          measured = y.counts ∙ ap (λ (t : State). counts_of t ms) x.state;
          state = y.state ∙ ap (λ (t : State). after t ms) x.state;
        }

-- ---- a store that is too short: the same number refuses every step

module _ (a : State) (m : ℕ) (h : (s : Step) → refusal a.group a.store a.depths s ≡ suc m) where
  refuses : (s : Step) → stepped a.group a.store a.depths s ≡ outcome a.group a.store a.depths (says_refused (suc m))
  refuses s =
      deep-keeps a.group a.store a.depths s (λ z. let y : suc m ≡ 0 = sym (h s) ∙ z in omega arith)
      ∙ ap (λ (k : ℕ). outcome a.group a.store a.depths (says_refused k)) (h s)

  stays : (s : Step) → next a s ≡ a
  unfolding next
  stays s = ap state_of (refuses s)

  pub short-state : (ss : List Step) → after a ss ≡ a
  unfolding after
  short-state [] = refl
  short-state (s ∷ ss) = ap (λ (b : State). after b ss) (stays s) ∙ short-state ss

  one_more : (k : ℕ) → counted (refused_all k) (says_refused (suc m)) ≡ refused_all (k + 1)
  unfolding counted refused_all
  one_more k = refl

  short-from : (k : ℕ) (ss : List Step) → counted_all (refused_all k) (answers a ss) ≡ refused_all (k + length ss)
  unfolding answers counted_all
  short-from k [] = ap refused_all (omega arith)
  short-from k (s ∷ ss) =
      ap₂ (λ (x : Said) (b : State). counted_all (counted (refused_all k) x) (answers b ss)) (ap (λ (o : Outcome). o.says) (refuses s)) (stays s)
      ∙ ap (λ (d : Counts). counted_all d (answers a ss)) (one_more k) ∙ short-from (k + 1) ss ∙ ap refused_all (omega arith)

  pub short-counts : (ss : List Step) → counts_of a ss ≡ refused_all (length ss)
  unfolding counts_of counts_in total refused_all
  short-counts ss = sym (counted_is (answers a ss)) ∙ short-from 0 ss ∙ ap refused_all (omega arith)

-- 11 where the store is, else 14 where the depths are
short-number : (a : State) → (ltb (length a.store) store_length || ltb (length a.depths) store_length) ≡ true
    → (m : ℕ) × ((s : Step) → refusal a.group a.store a.depths s ≡ suc m)
unfolding refusal row short
short-number a = go (ltb (length a.store) store_length) (ltb (length a.depths) store_length) refl refl
  where
    go : (x y : Bool) → ltb (length a.store) store_length ≡ x → ltb (length a.depths) store_length ≡ y → (x || y) ≡ true
        → (m : ℕ) × ((s : Step) → refusal a.group a.store a.depths s ≡ suc m)
    go true y e f z = (10, λ s. rw e)
    go false true e f z = (13, λ s. rw (e, f))
    go false false e f z = let y : ◌≡◌ {A = ℕ} 0 1 = cc in absurd (omega arith)

-- neither is
not_short : (m n : ℕ) → (ltb m store_length || ltb n store_length) ≡ false → (store_length ≤ m) × (store_length ≤ n)
not_short m n e =
    (ltb-false m store_length (or_left (ltb m store_length) (ltb n store_length) e), ltb-false n store_length (or_right (ltb m store_length) (ltb n store_length) e))

-- ---- the start

module _ (vs l d : List ℕ) (some : 1 ≤ length vs) (few : length vs ≤ greatest_size) (g : Group) (l₁ d₁ : List ℕ) (x : Said) (e : outcome g l₁ d₁ x ≡ started vs l d) where
  begin-is : start_state vs l d ≡ state_with g l₁ d₁
  unfolding start_state
  begin-is = ap state_of (sym e)

  starts : Starting vs l d (start_refusal vs l d)
  starts = deep-starting vs l d

  same-long : (length l₁ ≡ length l) × (length d₁ ≡ length d)
  unfolding started
  same-long = (ap (λ (o : Outcome). length o.store) e ∙ starts.store, ap (λ (o : Outcome). length o.depths) e ∙ starts.depths)

  passes : store_length ≤ length l₁ → store_length ≤ length d₁ → start_refusal vs l d ≡ 0
  unfolding start_refusal row short miscounted
  passes h k =
      rw (le-ltb (length l) store_length (omega (arith, same-long)), le-ltb (length d) store_length (omega (arith, same-long)), among_in greatest_size (length vs) some few)

  -- the start is refused over a short store alone
  pub begin-refused : is_refused x ≡ (ltb (length l₁) store_length || ltb (length d₁) store_length)
  unfolding started unless_refused_start start_refusal row short miscounted
  begin-refused =
      ap (λ (o : Outcome). is_refused o.says) e ∙ go (ltb (length l) store_length) (ltb (length d) store_length) refl refl
      ∙ ap₂ (λ (m n : ℕ). ltb m store_length || ltb n store_length) (sym same-long.0) (sym same-long.1)
    where
      go : (a b : Bool) → ltb (length l) store_length ≡ a → ltb (length d) store_length ≡ b
          → is_refused (started vs l d).says ≡ (ltb (length l) store_length || ltb (length d) store_length)
      go true b p q = rw p
      go false true p q = rw (p, q)
      go false false p q = rw (p, q, among_in greatest_size (length vs) some few)

  pub begin-steady : store_length ≤ length l₁ → store_length ≤ length d₁ → Steady (state_with g l₁ d₁)
  unfolding started
  begin-steady h k =
      record {
        sized = subst Sized (ap (λ (o : Outcome). o.group) (sym e)) starts.sized;
        ready = record { long = h; deep_long = k; sound = ap damaged (ap (λ (o : Outcome). o.group) e) ∙ starts.sound (passes h k) };
      }

-- an answer that is an error is a refusal
pub said-err : (a : Result Answer Refusal) → is_refused (said a) ≡ is_err a
unfolding said
said-err (Ok Idle) = refl
said-err (Ok (Applied sent again decided)) = refl
said-err (Err r) = refl

-- ---- a sound file

abbrev is_schedule : Reading → Schedule → Schedule
is_schedule (Err f) z = z
is_schedule (Ok h) z = h

same-schedule : {h k : Schedule} → ◌≡◌ {A = Reading} (Ok h) (Ok k) → h ≡ k
same-schedule {h} {k} e = ap (λ (r : Reading). is_schedule r h) e

module _ (s : List ℕ) (v : Values) (p : Places) (h : FormGood s v p) (l d : List ℕ) (g : Group) (l₁ d₁ : List ℕ) (x : Said) (e : outcome g l₁ d₁ x ≡ started (values_of v) l d) where
  abbrev schedule : Schedule
  schedule = record { values = values_of v; warmup = h.warmup; measured = h.measured }

  fits : Fits schedule
  fits = (file-read s schedule h.is).1

  begun-is : begins schedule l d ≡ state_with g l₁ d₁
  begun-is = begin-is (values_of v) l d fits.size.0 fits.size.1 g l₁ d₁ x e

  pub is-short : is_refused x ≡ (ltb (length l₁) store_length || ltb (length d₁) store_length)
  is-short = begin-refused (values_of v) l d fits.size.0 fits.size.1 g l₁ d₁ x e

  pub sound-ready : (ltb (length l₁) store_length || ltb (length d₁) store_length) ≡ false → BothReady s p g l₁ d₁
  sound-ready k =
      let long = not_short (length l₁) (length d₁) k in
      let t = begin-steady (values_of v) l d fits.size.0 fits.size.1 g l₁ d₁ x e long.0 long.1 in
      record {
        ready = t.ready;
        sized = t.sized;
        warmup = h.warmup;
        measured = h.measured;
        warmup-end = h.warmup-end;
        measured-end = h.measured-end;
        warmup-are = h.warmup-are;
        measured-are = h.measured-are;
        few = h.few;
      }

  module _ (r : Ran) (l' d' : List ℕ) where
    has-run : RanBoth h.warmup h.measured g l₁ d₁ r l' d' → ran_over (Ok r) l' d' ≡ run_by (Ok schedule) l d
    unfolding run_by has_run
    has-run b =
        let from : state_with g l₁ d₁ ≡ begins schedule l d = sym begun-is in
        let end : state_with r.group l' d' ≡ after (between schedule l d) h.measured = b.state ∙ ap (λ (t : State). after (after t h.warmup) h.measured) from in
        let one : r.warmup ≡ counts_of (begins schedule l d) h.warmup = b.warmup ∙ ap (λ (t : State). counts_of t h.warmup) from in
        let two : r.measured ≡ counts_of (between schedule l d) h.measured = b.measured ∙ ap (λ (t : State). counts_of (after t h.warmup) h.measured) from in
        λ k. ran_over (Ok (record { warmup = one k; measured = two k; group = (end k).group })) (end k).store (end k).depths

    any-schedule : ran_over (Ok r) l' d' ≡ run_by (Ok schedule) l d → SoundRan s l d r l' d'
    any-schedule b k q = b ∙ ap (λ (t : Schedule). run_by (Ok t) l d) (same-schedule (sym h.is ∙ q))

    pub sound-both : BothRan s p g l₁ d₁ r l' d' → SoundRan s l d r l' d'
    sound-both b = any-schedule (has-run (b h.warmup h.measured h.warmup-end h.measured-end h.warmup-are h.measured-are))

  pub sound-short : (ltb (length l₁) store_length || ltb (length d₁) store_length) ≡ true → (w m : Counts)
      → w ≡ refused_all p.warmup → m ≡ refused_all p.measured
      → SoundRan s l d (record { warmup = w; measured = m; group = g }) l₁ d₁
  sound-short k w m ew em =
      let a = state_with g l₁ d₁ in
      let z = short-number a k in
      let still : after a h.warmup ≡ a = short-state a z.0 z.1 h.warmup in
      any-schedule (record { warmup = w; measured = m; group = g }) l₁ d₁
      (has-run (record { warmup = w; measured = m; group = g }) l₁ d₁
      (record {
        warmup = ew ∙ ap refused_all (sym h.warmup-are.long) ∙ sym (short-counts a z.0 z.1 h.warmup);
        measured = em ∙ ap refused_all (sym h.measured-are.long) ∙ sym (short-counts a z.0 z.1 h.measured)
            ∙ ap (λ (t : State). counts_of t h.measured) (sym still);
        state = sym (ap (λ (t : State). after t h.measured) still ∙ short-state a z.0 z.1 h.measured);
      }))

-- ---- any file

pub run-long : (s : List ℕ) {f : Fault} → read_file s ≡ Err f → (l d : List ℕ) → ran_over (Err f) l d ≡ run_of s l d
unfolding run_of run_by
run-long s e l d = ap (λ (t : Reading). run_by t l d) (sym e)

module _ (s : List ℕ) {r : Result Form Fault} (h : FormIs s r) where
  pub run-bad : {f : Fault} → r ≡ Err f → (l d : List ℕ) → ran_over (Err f) l d ≡ run_of s l d
  unfolding run_of run_by FormIs
  run-bad g l d = ap (λ (t : Reading). run_by t l d) (sym (subst (FormIs s) g h))

  module _ {f : Form} (g : r ≡ Ok f) where
    pub run-form : FormGood s f.values f.places
    unfolding FormIs
    run-form = subst (FormIs s) g h

    pub run-good : (q : Ran) (l d l' d' : List ℕ) → SoundRan s l d q l' d' → ran_over (Ok q) l' d' ≡ run_of s l d
    unfolding run_of
    run-good q l d l' d' b =
        let w = run-form in
        b (record { values = values_of f.values; warmup = w.warmup; measured = w.measured }) w.is ∙ ap (λ (t : Reading). run_by t l d) (sym w.is)
