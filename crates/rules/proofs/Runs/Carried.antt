-- What is shown of the run without depths holds of the run that start and step make: each statement is carried over. Assumes nothing.
use mathlib.Core.Path.{◌≡◌, refl, sym, ap, ap₂, subst, ◌∙◌}
use mathlib.Core.Bool.{Bool, ◌&&◌, not}
use mathlib.Core.List.{List, [], ◌∷◌, ◌++◌}
use mathlib.Core.Logic.{◌↔◌, ◌≢◌}
use Prim.Native.Nat.{ℕ, ◌+◌, ◌≤◌, ◌<◌}
use native.Mathlib.Omega.{arith}
use lib.Dec.{eqb}
use lib.Count.{ones}
use lib.ListN.{length, get_or}
use Rattle.rules.specs.declared.process.Process.{Process}
use Rattle.rules.specs.declared.step.Step.{Step}
use Rattle.rules.specs.declared.step.Step.TheVariants.{DeliverE, DeliverS, DeliverF, Pause, Crash, Recover}
use Rattle.rules.specs.Limits.{greatest_size, store_length, most_recoveries}
use Rattle.rules.specs.Tally.{joined, bit_of}
use Rattle.rules.specs.Layout.{process_at, forgetting}
use Rattle.rules.specs.Records.{stored, blank}
use Rattle.rules.specs.Store.{kind_e, kind_s, kind_f, proposer_of, Handed, handed, sent_in}
use Rattle.rules.specs.Kinds.{taker_of}
use Rattle.rules.specs.Refusals.{strange, is_recover, down}
use Rattle.rules.specs.Answers.{all_sent, all_again}
use Rattle.rules.specs.Run.{State, start_state, next, after, answers, handed_by_course, handed_by, handed_in, handed_from}
use Rattle.rules.specs.Start.{first_message}
use Rattle.rules.specs.Safety.{Begins, at, Of, process_of, Holds, refusal_at, Agreement, Validity, FirstValuesStay, DecisionsStay, DownThrough, cut, back}
use Rattle.rules.specs.Safety.{Recovery, DownKeeps, GoingDownKeeps, CutStores, Among, Comes, RefusalSix, PastKept, SentCounts, SoundEntries}
use Rattle.rules.specs.Safety.{TalliesFit, Heard, TalliesHeard, Majority, estimates_with, DecidesWithMajority, Phase2WithMajority, NextRoundWithMajority}
use Rattle.rules.specs.Safety.{recovers_of, RecoveriesCounted, RecoveriesFit, RefusalThirteen}
use Rattle.rules.proofs.Bare.Step as base
use Rattle.rules.proofs.Bare.Run.{State as Bare, forgotten}
use Rattle.rules.proofs.Bare.Run as run
use Rattle.rules.proofs.Bare.Statements as bare
use Rattle.rules.proofs.Bare.Same.{course-same, refusal-same}
use Rattle.rules.proofs.Laws.Group.{process-forgets}
use Rattle.rules.proofs.Depths.Basics.{DeepBasic, bare-begins, deep-limits, next-forgets, says-forgets, deep-next, start-forgets, deep-start, deep-basic-after, deep-basic}
use Rattle.rules.proofs.Depths.Basics.{after-forgets, run-forgets, answers_stay, past-depths-kept}
use Rattle.rules.proofs.Agreement.Agree as agree
use Rattle.rules.proofs.Runs.Stored as kept
use Rattle.rules.proofs.Runs.Handing as handing
use Rattle.rules.proofs.Runs.Entries as entries
use Rattle.rules.proofs.Runs.Sound as sound
use Rattle.rules.proofs.Runs.Tallies as tallies
use Rattle.rules.proofs.Runs.Recoveries as recoveries

-- ---- a state of a run, and the one without depths that it is with its depths forgotten

module _ {vs : List ℕ} {a : State} {c : Bare} (h : DeepBasic vs a) (e : forgotten a ≡ c) where
  -- it has the same records
  process-carried : (i : ℕ) → i ≤ greatest_size → bare.process_of c i ≡ process_of a i
  process-carried i hi = ap (λ (c : Bare). bare.process_of c i) (sym e) ∙ process-forgets a.group i

  -- the same entries
  store-carried : c.store ≡ a.store
  store-carried = ap (λ (c : Bare). c.store) (sym e)

  -- and refuses the same
  refusal-carried : (s : Step) → base.refusal c.group c.store s ≡ refusal_at a s
  refusal-carried s = ap (λ (c : Bare). base.refusal c.group c.store s) (sym e) ∙ sym (refusal-same a (deep-limits vs a h) s)

-- a process that stays down stays down so
down-carried : (vs : List ℕ) (a : State) (ts : List Step) (i : ℕ) → DeepBasic vs a → i ≤ greatest_size → DownThrough a ts i → bare.DownThrough (forgotten a) ts i
unfolding DownThrough bare.DownThrough
down-carried vs a [] i h hi d = ap (λ (p : Process). p.up) (process-forgets a.group i) ∙ d
down-carried vs a (s ∷ ts) i h hi d = (
  ap (λ (p : Process). p.up) (process-forgets a.group i) ∙ d.0,
  subst (λ (c : Bare). bare.DownThrough c ts i) (next-forgets vs a h s) (down-carried vs (next a s) ts i (deep-next vs a h s) hi d.1),
)

-- the same messages are handed over
handed-carried : (vs : List ℕ) (a : State) (ss : List Step) → DeepBasic vs a → run.handed_in (forgotten a) ss ≡ handed_in a ss
unfolding handed_in run.handed_in handed_by run.handed_by
handed-carried vs a [] h = refl
handed-carried vs a (s ∷ ss) h =
    ap₂ (λ (xs ys : List Handed). xs ++ ys) (ap handed_by_course (sym (course-same a (deep-limits vs a h) s)))
    (ap (λ (c : Bare). run.handed_in c ss) (sym (next-forgets vs a h s)) ∙ handed-carried vs (next a s) ss (deep-next vs a h s))

-- and the same recovers are applied
recovers-carried : (vs : List ℕ) (a : State) (ss : List Step) (i : ℕ) → DeepBasic vs a → bare.recovers_of i (forgotten a) ss ≡ recovers_of i a ss
unfolding recovers_of bare.recovers_of
recovers-carried vs a [] i h = refl
recovers-carried vs a (s ∷ ss) i h =
    ap₂ ◌+◌ (ap (λ (x : Bool). bit_of (is_recover s && (eqb (taker_of s) i && x))) (ap (λ x. x.applied) (sym (says-forgets vs a h s))))
    (ap (λ (c : Bare). bare.recovers_of i c ss) (sym (next-forgets vs a h s)) ∙ recovers-carried vs (next a s) ss i (deep-next vs a h s))

-- ---- the states of a run

module _ (vs l d : List ℕ) (ss : List Step) (b : Begins vs l d) where
  abbrev a : State
  a = at vs l d ss

  h : DeepBasic vs a
  h = deep-basic vs l d ss b

  small : {i : ℕ} → Of vs i → i ≤ greatest_size
  small o = omega (arith, o.high, b.few)

  -- after the steps ss, after some more, and after one more
  here : (i : ℕ) → i ≤ greatest_size → bare.process_of (bare.at vs l ss) i ≡ process_of a i
  here = process-carried h (run-forgets vs l d ss b)

  store-here : (bare.at vs l ss).store ≡ a.store
  store-here = store-carried h (run-forgets vs l d ss b)

  later-forgets : (ts : List Step) → forgotten (after a ts) ≡ run.after (bare.at vs l ss) ts
  later-forgets ts = after-forgets vs a ts h ∙ ap (λ (c : Bare). run.after c ts) (run-forgets vs l d ss b)

  later : (ts : List Step) (i : ℕ) → i ≤ greatest_size → bare.process_of (run.after (bare.at vs l ss) ts) i ≡ process_of (after a ts) i
  later ts = process-carried (deep-basic-after vs a ts h) (later-forgets ts)

  then : (s : Step) (i : ℕ) → i ≤ greatest_size → bare.process_of (run.next (bare.at vs l ss) s) i ≡ process_of (next a s) i
  then s = process-carried (deep-next vs a h s) (next-forgets vs a h s ∙ ap (λ (c : Bare). run.next c s) (run-forgets vs l d ss b))

  refusal-here : (s : Step) → base.refusal (bare.at vs l ss).group (bare.at vs l ss).store s ≡ refusal_at a s
  refusal-here = refusal-carried h (run-forgets vs l d ss b)

  recovers-here : (i : ℕ) → bare.recovers_of i (run.start_state vs l) ss ≡ recovers_of i (start_state vs l d) ss
  recovers-here i =
      ap (λ (c : Bare). bare.recovers_of i c ss) (sym (start-forgets vs l d b)) ∙ recovers-carried vs (start_state vs l d) ss i (deep-start vs l d b)

  -- a delivery that none of 11 to 5 stops
  comes-here : (s : Step) → Comes a.group s → Comes (bare.at vs l ss).group s
  unfolding strange down forgetting
  comes-here s c =
      let up : process_of a (taker_of s) ≡ process_at (forgetting a.group) (taker_of s) =
      sym (process-forgets a.group (taker_of s)) in
      subst (λ (x : Bare). Comes x.group s) (run-forgets vs l d ss b)
      (record {
        delivery = c.delivery;
        numbers = c.numbers;
        round = c.round;
        up = ap (λ (p : Process). not (is_recover s) && not p.up) (sym up) ∙ c.up;
      })

-- ---- 1 to 3

pub agreement : Agreement
agreement vs l d ss b i j v w oi oj x y =
    agree.agreement vs l ss (bare-begins b) i j v w oi oj (subst (λ (p : Process). Holds p v) (sym (here vs l d ss b i (small vs l d ss b oi))) x)
    (subst (λ (p : Process). Holds p w) (sym (here vs l d ss b j (small vs l d ss b oj))) y)

pub validity : Validity
validity vs l d ss b i v o x =
    agree.validity vs l ss (bare-begins b) i v o (subst (λ (p : Process). Holds p v) (sym (here vs l d ss b i (small vs l d ss b o))) x)

pub first-values : FirstValuesStay
first-values vs l d ss b i o =
    ap (λ (p : Process). p.first) (sym (here vs l d ss b i (small vs l d ss b o))) ∙ kept.first-values vs l ss (bare-begins b) i o

pub decisions-stay : DecisionsStay
decisions-stay vs l d ss b ts i v o x =
    let hi = small vs l d ss b o in
    subst (λ (p : Process). Holds p v) (later vs l d ss b ts i hi)
    (kept.decisions-stay vs l ss (bare-begins b) ts i v o (subst (λ (p : Process). Holds p v) (sym (here vs l d ss b i hi)) x))

-- ---- 4

pub recovery : Recovery
recovery vs l d ss b ts i o down =
    let hi = small vs l d ss b o in
    let a = after (at vs l d ss) ts in
    let k = deep-basic-after vs (at vs l d ss) ts (h vs l d ss b) in
    let last = next-forgets vs a k (Recover i) ∙ ap (λ (c : Bare). run.next c (Recover i)) (later-forgets vs l d ss b ts) in
    ap stored (sym (process-carried (deep-next vs a k (Recover i)) last i hi))
    ∙ kept.recovery vs l ss (bare-begins b) ts i o
    (subst (λ (c : Bare). bare.DownThrough c ts i) (run-forgets vs l d ss b) (down-carried vs (at vs l d ss) ts i (h vs l d ss b) hi down))
    ∙ ap (λ (p : Process). back (stored p)) (here vs l d ss b i hi)

pub down-keeps : DownKeeps
down-keeps vs l d ss b s i o down ne =
    let hi = small vs l d ss b o in
    ap stored (sym (then vs l d ss b s i hi))
    ∙ kept.down-keeps vs l ss (bare-begins b) s i o (ap (λ (p : Process). p.up) (here vs l d ss b i hi) ∙ down) ne ∙ ap stored (here vs l d ss b i hi)

pub going-down-keeps : GoingDownKeeps
going-down-keeps vs l d ss b i o =
    let hi = small vs l d ss b o in
    let both = kept.going-down-keeps vs l ss (bare-begins b) i o in
    let now = ap stored (here vs l d ss b i hi) in
    (ap stored (sym (then vs l d ss b (Pause i) i hi)) ∙ both.0 ∙ now, ap stored (sym (then vs l d ss b (Crash i) i hi)) ∙ both.1 ∙ now)

pub cut-stores : CutStores
cut-stores vs l d ss b s i o =
    let hi = small vs l d ss b o in
    ap stored (sym (then vs l d ss b (cut s) i hi)) ∙ kept.cut-stores vs l ss (bare-begins b) s i o ∙ ap stored (then vs l d ss b s i hi)

-- ---- 5

pub refusal-six : RefusalSix
unfolding handed_from run.handed_from
refusal-six vs l d ss b s c =
    let same : run.handed_from vs l ss ≡ handed_from vs l d ss =
    ap (λ (xs : List Handed). handed 1 (first_message (get_or vs 0 0)) ∷ xs)
    (ap (λ (x : Bare). run.handed_in x ss) (sym (start-forgets vs l d b)) ∙ handed-carried vs (start_state vs l d) ss (deep-start vs l d b)) in
    subst (λ (k : ℕ). (k ≡ 6) ↔ ¬ Among s (handed_from vs l d ss)) (refusal-here vs l d ss b s)
    (subst (λ (hs : List Handed). (base.refusal (bare.at vs l ss).group (bare.at vs l ss).store s ≡ 6) ↔ ¬ Among s hs) same
    (handing.refusal-six vs l ss (bare-begins b) s (comes-here vs l d ss b s c)))

-- ---- 6 and 7

pub past-kept : PastKept
past-kept vs l d ss b k le =
    (ap (λ (m : List ℕ). get_or m k 0) (sym (store-here vs l d ss b)) ∙ entries.past-kept vs l ss (bare-begins b) k le, past-depths-kept vs l d ss b k le)

pub sent-counts : SentCounts
sent-counts vs l d ss b =
    subst (λ (m : List ℕ). 1 + all_sent (answers (start_state vs l d) ss) ≡ sent_in m store_length + all_again (answers (start_state vs l d) ss)) (store-here vs l d ss b)
    (subst (λ xs. 1 + all_sent xs ≡ sent_in (bare.at vs l ss).store store_length + all_again xs) (sym (answers_stay vs l d ss b)) (entries.sent-counts vs l ss (bare-begins b)))

pub above-blank : (vs l d : List ℕ) (ss : List Step) → Begins vs l d → (i : ℕ) → length vs < i → i ≤ greatest_size → process_of (at vs l d ss) i ≡ blank
above-blank vs l d ss b i lo hi = sym (here vs l d ss b i hi) ∙ entries.above_kept vs l ss (bare-begins b) i lo hi

pub sound-entries : SoundEntries
sound-entries vs l d ss b =
    subst (λ (m : List ℕ). (k : ℕ) → k < store_length → get_or m k 0 ≢ 0 → (1 ≤ proposer_of (get_or m k 0)) × (proposer_of (get_or m k 0) ≤ length vs))
    (store-here vs l d ss b) (sound.sound-entries vs l ss (bare-begins b))

-- ---- 8

pub tallies-fit : TalliesFit
tallies-fit vs l d ss b i o =
    subst (λ (p : Process). (ones p.estimates ≤ length vs) × (ones p.suspicions ≤ length vs)) (here vs l d ss b i (small vs l d ss b o))
    (sound.tallies-fit vs l ss (bare-begins b) i o)

pub tallies-heard : TalliesHeard
tallies-heard vs l d ss b i j oi oj =
    subst (λ (m : List ℕ). Heard (process_of (at vs l d ss) i) m j) (store-here vs l d ss b)
    (subst (λ (p : Process). Heard p (bare.at vs l ss).store j) (here vs l d ss b i (small vs l d ss b oi)) (tallies.tallies-heard vs l ss (bare-begins b) i j oi oj))

-- a majority that a process has heard, by the tally that its record gives
majority-here : (vs l d : List ℕ) (ss : List Step) (b : Begins vs l d) (i r k : ℕ) (t : Process → ℕ) → i ≤ greatest_size
    → Majority (length vs) (bare.at vs l ss).store r k (t (bare.process_of (bare.at vs l ss) i)) → Majority (length vs) (at vs l d ss).store r k (t (process_of (at vs l d ss) i))
majority-here vs l d ss b i r k t hi x =
    subst (λ (m : List ℕ). Majority (length vs) m r k (t (process_of (at vs l d ss) i))) (store-here vs l d ss b)
    (subst (λ (p : Process). Majority (length vs) (bare.at vs l ss).store r k (t p)) (here vs l d ss b i hi) x)

pub decides-with-majority : DecidesWithMajority
decides-with-majority vs l d ss b i j r c o old new =
    let hi = small vs l d ss b o in
    majority-here vs l d ss b i r kind_e (estimates_with j r 1) hi
    (tallies.decides-with-majority vs l ss (bare-begins b) i j r c o (ap (λ (p : Process). p.decided) (here vs l d ss b i hi) ∙ old)
    (ap (λ (p : Process). p.decided) (then vs l d ss b (DeliverE i j r c) i hi) ∙ new))

pub phase2-with-majority : Phase2WithMajority
phase2-with-majority vs l d ss b i j r c o old new =
    let hi = small vs l d ss b o in
    majority-here vs l d ss b i r kind_s (λ p. joined p.suspicions j) hi
    (tallies.phase2-with-majority vs l ss (bare-begins b) i j r c o (ap (λ (p : Process). p.phase) (here vs l d ss b i hi) ∙ old)
    (ap (λ (p : Process). p.phase) (then vs l d ss b (DeliverS i j r c) i hi) ∙ new))

pub next-round-with-majority : NextRoundWithMajority
next-round-with-majority vs l d ss b i j r c o old new =
    let hi = small vs l d ss b o in
    majority-here vs l d ss b i r kind_f (estimates_with j r 2) hi
    (tallies.next-round-with-majority vs l ss (bare-begins b) i j r c o (omega (arith, ap (λ (p : Process). p.round) (here vs l d ss b i hi), old))
    (ap (λ (p : Process). p.round) (then vs l d ss b (DeliverF i j r c) i hi) ∙ new))

-- ---- 9

pub recoveries-counted : RecoveriesCounted
recoveries-counted vs l d ss b i o =
    ap (λ (p : Process). p.recoveries) (sym (here vs l d ss b i (small vs l d ss b o)))
    ∙ recoveries.recoveries-counted vs l ss (bare-begins b) i o ∙ recovers-here vs l d ss b i

pub recoveries-fit : RecoveriesFit
recoveries-fit vs l d ss b i o =
    subst (λ (p : Process). p.recoveries ≤ most_recoveries) (here vs l d ss b i (small vs l d ss b o)) (recoveries.recoveries-fit vs l ss (bare-begins b) i o)

pub refusal-thirteen : RefusalThirteen
refusal-thirteen vs l d ss b i o down =
    subst (λ (k : ℕ). (refusal_at (at vs l d ss) (Recover i) ≡ 13) ↔ (k ≡ most_recoveries)) (recovers-here vs l d ss b i)
    (subst (λ (k : ℕ). (k ≡ 13) ↔ (bare.recovers_of i (run.start_state vs l) ss ≡ most_recoveries)) (refusal-here vs l d ss b (Recover i))
    (recoveries.refusal-thirteen vs l ss (bare-begins b) i o (ap (λ (p : Process). p.up) (here vs l d ss b i (small vs l d ss b o)) ∙ down)))
