-- The promise of the program: what holds of every file that is read as a schedule. Assumes nothing.
use mathlib.Core.Path.{◌≡◌, refl, sym, ap, subst}
use mathlib.Core.List.{List, [], ◌∷◌, ◌++◌}
use native.Mathlib.Omega.{arith}
use Prim.Native.Nat.{ℕ, zero, suc, ◌+◌, ◌≤◌, ◌<◌, ◌^◌}
use lib.ListN.{length, get_or}
use Rattle.std.specs.Prelude.{Ok}
use Rattle.rules.specs.Limits.{store_length}
use Rattle.rules.specs.Tally.{bit_of}
use Rattle.rules.specs.Layout.{process_at, depth_at}
use Rattle.rules.specs.Store.{sent_in}
use Rattle.rules.specs.Answers.{Said, is_refused, total}
use Rattle.rules.specs.Depths.{depth_after}
use Rattle.rules.specs.Step.{Course, Idles, Refuses, Takes, settled, stepped, course}
use Rattle.rules.specs.Run.{State, next, after, answers}
use Rattle.rules.specs.Safety.{Begins, at, Of, Holds, says, FirstValue, recovers_of, Longest}
use Rattle.rules.specs.declared.group.Group.{Group}
use Rattle.rules.specs.declared.step.Step.{Step}
use Rattle.rules.proofs.Cited.{deep_more, safety}
use Rattle.text.specs.Number.{most}
use Rattle.schedule.specs.Counts.{counts_in}
use Rattle.schedule.specs.Schedule.{Schedule, Reading, read_file, Fits}
use Rattle.schedule.specs.Lines.{Every}
use Rattle.schedule.specs.Run.{ran_over, counts_of, begins, between, at_end, has_run, run_by, run_of}
use Rattle.schedule.specs.Promise.{AddsUp, deciders, Promise, Promised}
use Rattle.schedule.proofs.Files.First.{file-read}
use Rattle.schedule.proofs.Running.Decided.{start-decided, reached-start, reached-after, run-decided}

-- ---- the counts of a section

-- as many answers as steps
answers-length : (a : State) (ss : List Step) → length (answers a ss) ≡ length ss
unfolding answers
answers-length a [] = refl
answers-length a (s ∷ ss) = let rest = answers-length (next a s) ss in omega arith

-- every step is one of applied, idle and refused
abbrev OneOf : Said → Type 0
OneOf x = bit_of x.applied + bit_of x.idle + bit_of (is_refused x) ≡ 1

settled-one : (g : Group) (l d : List ℕ) (k : ℕ) (c : Course) → OneOf (settled g l d k c).says
unfolding settled
settled-one g l d k Idles = refl
settled-one g l d k (Refuses j) = refl
settled-one g l d k (Takes i x) = refl

step-one : (a : State) (s : Step) → OneOf (says a s)
unfolding stepped
step-one a s = settled-one a.group a.store a.depths (depth_after a.group a.depths s) (course a.group a.store a.depths s)

section-adds : (a : State) (ss : List Step) → AddsUp (counts_of a ss)
unfolding counts_of counts_in answers total
section-adds a [] = refl
section-adds a (s ∷ ss) = let rest = section-adds (next a s) ss in omega (arith, step-one a s)

section-steps : (a : State) (ss : List Step) → (counts_of a ss).steps ≡ length ss
unfolding counts_of counts_in
section-steps a ss = answers-length a ss

-- ---- two sections

-- what the answers to both add up to
total-more : (f : Said → ℕ) (a : State) (ss ts : List Step)
    → total f (answers a (ss ++ ts)) ≡ total f (answers a ss) + total f (answers (after a ss) ts)
unfolding after answers total
total-more f a [] ts = omega arith
total-more f a (s ∷ ss) ts = let rest = total-more f (next a s) ss ts in omega arith

-- ---- a schedule that fits starts a run

every-at : {A : Type 0} (P : A → Type 0) (xs : List A) (d : A) (i : ℕ) → Every P xs → i < length xs → P (get_or xs i d)
unfolding Every
every-at P [] d i h lt = absurd (omega arith)
every-at P (x ∷ xs) d zero h lt = h.0
every-at P (x ∷ xs) d (suc i) h lt = every-at P xs d i h.1 (omega arith)

below : (v : ℕ) → v ≤ most → v < 2 ^ 32
below v h = omega arith

fits-begins : (h : Schedule) (l d : List ℕ) → Fits h → store_length ≤ length l → store_length ≤ length d → Begins h.values l d
fits-begins h l d f long deep_long =
    record {
      some = f.size.0;
      few = f.size.1;
      small = λ i lt. below (get_or h.values i 0) (every-at (λ v. v ≤ most) h.values 0 i f.small lt);
      long = long;
      deep_long = deep_long;
    }

-- ---- the run of a schedule

module _ (h : Schedule) (l d : List ℕ) (b : Begins h.values l d) where
  abbrev steps : List Step
  steps = h.warmup ++ h.measured

  -- its end is the state after the steps of both sections
  end_is : at h.values l d steps ≡ at_end h l d
  end_is = deep_more (begins h l d) h.warmup h.measured

  sent-both : 1 + ((counts_of (begins h l d) h.warmup).sent + (counts_of (between h l d) h.measured).sent)
      ≡ sent_in (at_end h l d).store store_length + ((counts_of (begins h l d) h.warmup).again + (counts_of (between h l d) h.measured).again)
  unfolding counts_of counts_in
  sent-both =
      let all = safety.counts h.values l d steps b in
      let same : sent_in (at h.values l d steps).store store_length ≡ sent_in (at_end h l d).store store_length =
      ap (λ (a : State). sent_in a.store store_length) end_is in
      let sent = total-more (λ x. x.sent) (begins h l d) h.warmup h.measured in
      let again = total-more (λ x. x.again) (begins h l d) h.warmup h.measured in
      omega arith

  decided-both : deciders (at_end h l d).group ≡ (counts_of (begins h l d) h.warmup).decided + (counts_of (between h l d) h.measured).decided
  unfolding counts_of counts_in
  decided-both =
      let r = reached-start h.values l d in
      let one = run-decided h.values l d b (begins h l d) h.warmup r in
      let two = run-decided h.values l d b (between h l d) h.measured (reached-after h.values l d (begins h l d) h.warmup r) in
      let start = start-decided h.values l d b in
      omega arith

  -- what holds of the state after the steps of both sections holds of the end
  at-end : (P : State → Type 0) → P (at h.values l d steps) → P (at_end h l d)
  at-end P x = subst P end_is x

  run-promise : Promise h l d (ran_over (Ok (has_run h l d)) (at_end h l d).store (at_end h l d).depths)
  unfolding has_run
  run-promise =
      record {
        ran = has_run h l d;
        is_run = refl;
        warmup = section-steps (begins h l d) h.warmup;
        measured = section-steps (between h l d) h.measured;
        warmup-adds = section-adds (begins h l d) h.warmup;
        measured-adds = section-adds (between h l d) h.measured;
        sent = sent-both;
        decided = decided-both;
        agreement =
            at-end
            (λ (a : State).
            (i j v w : ℕ) → Of h.values i → Of h.values j → Holds (process_at a.group i) v → Holds (process_at a.group j) w → v ≡ w)
            (safety.agreement h.values l d steps b);
        validity =
            at-end (λ (a : State). (i v : ℕ) → Of h.values i → Holds (process_at a.group i) v → FirstValue h.values v)
            (safety.validity h.values l d steps b);
        recoveries =
            at-end (λ (a : State). (i : ℕ) → Of h.values i → (process_at a.group i).recoveries ≡ recovers_of i (begins h l d) steps)
            (safety.recoveries h.values l d steps b);
        depths =
            at-end (λ (a : State). (i : ℕ) → Of h.values i → Longest h.values l d steps i (depth_at a.group i))
            (safety.longest h.values l d steps b);
      }

run_is : (s l d : List ℕ) (h : Schedule) → read_file s ≡ Ok h → run_of s l d ≡ ran_over (Ok (has_run h l d)) (at_end h l d).store (at_end h l d).depths
unfolding run_of run_by
run_is s l d h e = ap (λ (r : Reading). run_by r l d) e

pub promised : Promised
promised s l d h e long deep_long =
    subst (Promise h l d) (sym (run_is s l d h e)) (run-promise h l d (fits-begins h l d (file-read s h e).1 long deep_long))
