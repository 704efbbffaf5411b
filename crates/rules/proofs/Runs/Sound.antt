-- No group of a run is damaged and no entry is, so that refusals 2 and 11 never come; and no tally is greater than n. Assumes nothing.
use Rattle.std.specs.Prelude.{Option, Some, None}
use mathlib.Core.Path.{◌≡◌, refl, sym, ap, subst, ◌∙◌}
use mathlib.Core.Bool.{Bool, true, false, ◌&&◌, not}
use mathlib.Core.List.{List}
use mathlib.Core.Logic.{◌≢◌}
use Prim.Native.Nat.{ℕ, ◌+◌, ◌-◌, ◌^◌, ◌≤◌, ◌<◌}
use native.Mathlib.Decide.{ℕ_discrete}
use native.Mathlib.Omega.{arith}
use lib.Count.{ones}
use lib.Dec.{eqb, ltb}
use lib.ListN.{length, get_or}
use borrow.Author.Tests.{le-ltb, eqb-false}
use Rattle.rules.specs.declared.group.Group.{Group}
use Rattle.rules.specs.declared.process.Process.{Process}
use Rattle.rules.specs.declared.process.Next.{Next}
use Rattle.rules.specs.declared.process.Message.{Message}
use Rattle.rules.specs.declared.process.Message.TheVariants.{E, S, F, Decision}
use Rattle.rules.specs.declared.step.Step.{Step}
use Rattle.rules.specs.declared.step.Step.TheVariants.{DeliverE, DeliverS, DeliverF, DeliverDecision, Suspect, Pause, Crash, Recover}
use Rattle.rules.specs.Refusals.{row, short, strange, late, down, unsent, misnamed, impossible, recovers_past, enters_past}
use Rattle.rules.specs.Start.{fresh, started_to, opened}
use Rattle.rules.specs.Step.{Course, hand_overs}
use Rattle.rules.proofs.Bare.Run.{State, start_state, next}
use Rattle.rules.proofs.Bare.Statements.{Begins, at, process_of, SoundGroup, SoundEntries, NeverTwoNorEleven, TalliesFit}
use Rattle.rules.proofs.Bare.Step.{begun, damaged, refusal_by, refusal, settled, stepped}
use Rattle.rules.specs.Limits.{greatest_size, store_length, among}
use Rattle.rules.specs.Tally.{holds}
use Rattle.rules.specs.Layout.{process_at, Sized}
use Rattle.rules.specs.Store.{entry_of, proposer_of, value_of, entry_for}
use Rattle.rules.proofs.Laws.Store.{entry_by}
use Rattle.rules.specs.Events.{takes, enters, joins_estimates, joins_suspicions, decides, second_phase, marks, paused, crashed, recovered, quiet, changed, jumps_if, jumps, relays_if, relays, decides_if, decides_at, goes_to_phase2, goes_to_phase2_if, to_phase2, adopts_if, adopts, opens_if, opens, enters_next_if, enters_next_at, on_e, on_s, on_f, on_decision, on_suspect, on_pause, on_crash, on_recover, cut_if}
use Rattle.rules.specs.Kinds.{taker_of, is_cut, delivers, slot_of, entry_in, event_of}
use Rattle.rules.specs.Private.{number_rows}
use Rattle.rules.proofs.Laws.Row.{row-pass, among_in}
use Rattle.rules.proofs.Laws.Count.{count-le}
use Rattle.rules.proofs.Laws.Tally.{ones-count}
use Rattle.rules.proofs.Laws.Store.{IsMessage, entry-proposer, opened-own, opened-other}
use Rattle.rules.proofs.Laws.Group.{started-process}
use Rattle.rules.proofs.Laws.Sound.{Named, sound-facts, taker-in, Passed, Taking, Fine, course-fine}
use Rattle.rules.proofs.Laws.Course.{place-low}
use Rattle.rules.proofs.Runs.Basics.{Basic, basic, basic-start, start_is}
use Rattle.rules.proofs.Runs.Cases.{never, throughout, course-by, process-by, overs-by}

pub sound-group : SoundGroup
sound-group vs l ss b = (basic vs l ss b).sound

-- ---- tallies

ones-fit : (t n : ℕ) → t < 2 ^ n → ones t ≤ n
ones-fit t n h = omega (arith, ones-count t n h, count-le (holds t) n)

pub tallies-fit : TalliesFit
tallies-fit vs l ss b i o =
    let a = basic vs l ss b in
    let n = (at vs l ss).group.n in
    let w = (sound-facts (at vs l ss).group a.sound).each i o.low (omega (arith, a.size)) in (
      omega (arith, a.size, ones-fit (process_of (at vs l ss) i).estimates n w.heard),
      omega (arith, a.size, ones-fit (process_of (at vs l ss) i).suspicions n w.suspected),
    )

-- ---- every value keeps below 2^32

-- of a message
abbrev Light : Option Message → Type 0
Light None = Unit {0}
Light (Some (E r q v)) = v < 2 ^ 32
Light (Some (S r)) = Unit {0}
Light (Some (F r q v)) = v < 2 ^ 32
Light (Some (Decision v)) = v < 2 ^ 32

-- of a next record and its messages
record Lean (x : Next) : Type 0 where
  process : x.process.value < 2 ^ 32
  first : Light x.first
  second : Light x.second

lean-quiet : (p : Process) → p.value < 2 ^ 32 → Lean (quiet p)
unfolding quiet
lean-quiet p h = record { process = h; first = tt; second = tt }

-- the stages
light-jumps : (t : Bool) (r q v : ℕ) (p : Process) → v < 2 ^ 32 → p.value < 2 ^ 32 → (jumps_if t r q v p).value < 2 ^ 32
unfolding jumps_if takes enters
light-jumps true r q v p k h = k
light-jumps false r q v p k h = h

lean-relays : (t : Bool) (q v : ℕ) (p : Process) → v < 2 ^ 32 → p.value < 2 ^ 32 → Lean (relays_if t q v p)
unfolding relays_if takes
lean-relays true q v p k h = record { process = k; first = k; second = tt }
lean-relays false q v p k h = lean-quiet p h

lean-joins : (j : ℕ) (x : Next) → Lean x → Lean (changed (joins_estimates j) x)
unfolding changed joins_estimates
lean-joins j x h = record { process = h.process; first = h.first; second = h.second }

lean-decides : (t : Bool) (x : Next) → Lean x → Lean (decides_if t x)
unfolding decides_if decides
lean-decides true x h = record { process = h.process; first = h.first; second = h.process }
lean-decides false x h = h

lean-phase2 : (t : Bool) (p : Process) → p.value < 2 ^ 32 → Lean (goes_to_phase2_if t p)
unfolding goes_to_phase2_if goes_to_phase2 second_phase
lean-phase2 true p h = record { process = h; first = h; second = tt }
lean-phase2 false p h = lean-quiet p h

lean-adopts : (t : Bool) (q v : ℕ) (x : Next) → v < 2 ^ 32 → Lean x → Lean (adopts_if t q v x)
unfolding adopts_if changed takes
lean-adopts true q v x k h = record { process = k; first = h.first; second = h.second }
lean-adopts false q v x k h = h

light-opens : (t : Bool) (i r v : ℕ) → v < 2 ^ 32 → Light (opens_if t i r v)
unfolding opens_if
light-opens true i r v k = k
light-opens false i r v k = tt

lean-next : (t : Bool) (n i : ℕ) (x : Next) → Lean x → Lean (enters_next_if t n i x)
unfolding enters_next_if enters takes opens
lean-next true n i x h =
    record { process = h.process; first = h.first; second = light-opens _ i (x.process.round + 1) x.process.value h.process }
lean-next false n i x h = h

lean-crash : (p : Process) → p.value < 2 ^ 32 → Lean (on_crash p)
unfolding on_crash crashed
lean-crash p h = lean-quiet (crashed p) h

lean-cut : (c : Bool) (x : Next) → Lean x → Lean (cut_if c x)
unfolding cut_if
lean-cut true x h = lean-crash x.process h.process
lean-cut false x h = h

-- the events
lean-E : (n i j r q v : ℕ) (p : Process) → v < 2 ^ 32 → p.value < 2 ^ 32 → Lean (on_e n i j r q v p)
unfolding on_e decides_at relays jumps
lean-E n i j r q v p k h =
    lean-decides _ _ (lean-joins j _ (lean-relays _ q v _ k (light-jumps (ltb p.round r) r q v p k h)))

lean-F : (n i j r q v : ℕ) (p : Process) → v < 2 ^ 32 → p.value < 2 ^ 32 → Lean (on_f n i j r q v p)
unfolding on_f enters_next_at adopts to_phase2 jumps
lean-F n i j r q v p k h =
    lean-next _ n i _ (lean-joins j _ (lean-adopts _ q v _ k (lean-phase2 _ _ (light-jumps (ltb p.round r) r q v p k h))))

value-lt : (e : ℕ) → value_of e < 2 ^ 32
value-lt e = omega arith

lean-event : (g : Group) (l : List ℕ) (s : Step) → (process_at g (taker_of s)).value < 2 ^ 32 → Lean (event_of g l s)
unfolding event_of taker_of on_s joins_suspicions on_decision decides on_suspect marks on_pause paused on_recover recovered
lean-event g l (DeliverE i j r c) h = lean-E g.n i j r _ _ (process_at g i) (value-lt (entry_in l (DeliverE i j r c))) h
lean-event g l (DeliverS i j r c) h = lean-phase2 _ (joins_suspicions j (process_at g i)) h
lean-event g l (DeliverF i j r c) h = lean-F g.n i j r _ _ (process_at g i) (value-lt (entry_in l (DeliverF i j r c))) h
lean-event g l (DeliverDecision i j c) h = record { process = h; first = value-lt (entry_in l (DeliverDecision i j c)); second = tt }
lean-event g l (Suspect i c) h = record { process = h; first = tt; second = tt }
lean-event g l (Pause i) h = lean-quiet (paused (process_at g i)) h
lean-event g l (Crash i) h = lean-crash (process_at g i) h
lean-event g l (Recover i) h = lean-quiet (recovered (process_at g i)) h

crashed-value : (p : Process) → p.value < 2 ^ 32 → (crashed p).value < 2 ^ 32
unfolding crashed
crashed-value p h = h

-- ---- every entry names one of 1..n

abbrev Fits : ℕ → ℕ → Type 0
Fits n e = e ≢ 0 → (1 ≤ proposer_of e) × (proposer_of e ≤ n)

fits-entry : (n q v : ℕ) → 1 ≤ q → q ≤ n → v < 2 ^ 32 → Fits n (entry_of q v)
fits-entry n q v lo hi k ne = let e = entry-proposer q v k in (omega arith, omega arith)

fits-message : (n i : ℕ) (m : Option Message) → 1 ≤ i → i ≤ n → Named n m → Light m → IsMessage m → Fits n (entry_by i m)
unfolding entry_for
fits-message n i None lo hi h k is = absurd is
fits-message n i (Some (E r q v)) lo hi h k is = fits-entry n q v h.0 h.1 k
fits-message n i (Some (S r)) lo hi h k is = fits-entry n i 0 lo hi (omega arith)
fits-message n i (Some (F r q v)) lo hi h k is = fits-entry n q v h.0 h.1 k
fits-message n i (Some (Decision v)) lo hi h k is = fits-entry n i v lo hi k

-- values and entries together
record Clean (n : ℕ) (a : State) : Type 0 where
  values : (i : ℕ) → 1 ≤ i → i ≤ n → (process_of a i).value < 2 ^ 32
  entries : (k : ℕ) → k < store_length → Fits n (get_or a.store k 0)

module _ (g : Group) (l : List ℕ) (s : Step) (values : (i : ℕ) → 1 ≤ i → i ≤ g.n → (process_at g i).value < 2 ^ 32) where
  taker-light : Passed g l s → (process_at g (taker_of s)).value < 2 ^ 32
  taker-light p = let to = taker-in g s p.known in values (taker_of s) to.0 to.1

  clean-entry : (k : ℕ) → store_length ≤ length l → Fits g.n (get_or l k 0) → Fits g.n (get_or (stepped g l s).store k 0)
  unfolding stepped settled
  clean-entry k long old =
      course-by (λ (c : Course). Fine g.n c → Fits g.n (get_or (settled g l c).store k 0)) g l s (λ f. old) (λ m f. old)
      (λ p t f. taken (on_crash (process_at g (taker_of s))) f (lean-crash (process_at g (taker_of s)) (taker-light p)))
      (λ p t f. taken (cut_if (is_cut s) (event_of g l s)) f (lean-cut (is_cut s) (event_of g l s) (lean-event g l s (taker-light p))))
      (course-fine g l s)
    where
      taken : (x : Next) → Taking g.n (taker_of s) x → Lean x → Fits g.n (get_or (hand_overs (taker_of s) x l) k 0)
      taken x h e =
          overs-by (Fits g.n) g.n (taker_of s) x l k h long
          (fits-message g.n (taker_of s) x.first h.low h.high h.first-named e.first)
          (fits-message g.n (taker_of s) x.second h.low h.high h.second-named e.second)
          old

  clean-value : Sized g → g.n ≤ greatest_size → (i : ℕ) → 1 ≤ i → i ≤ g.n → (process_at (stepped g l s).group i).value < 2 ^ 32
  clean-value sized fit i lo hi =
      process-by (λ (p : Process). p.value < 2 ^ 32) g l s i sized lo (omega arith) crashed-value (values i lo hi)
      (λ p t f. (lean-event g l s (taker-light p)).process)

clean-next : (vs : List ℕ) (a : State) (s : Step) → Basic vs a → Clean (length vs) a → Clean (length vs) (next a s)
unfolding next
clean-next vs a s b h =
    let fit = (sound-facts a.group b.sound).high in
    let values : (i : ℕ) → 1 ≤ i → i ≤ a.group.n → (process_of a i).value < 2 ^ 32 = λ i lo hi. h.values i lo (omega (arith, b.size)) in
    record {
      values = λ i lo hi. clean-value a.group a.store s values b.sized fit i lo (omega (arith, b.size));
      entries = λ k lt.
          subst (λ (n : ℕ). Fits n (get_or (next a s).store k 0)) b.size
          (clean-entry a.group a.store s values k b.long (subst (λ (n : ℕ). Fits n (get_or a.store k 0)) (sym b.size) (h.entries k lt)));
    }

-- the start's only entry is process 1's, with its first value
opened-fits : (vs l : List ℕ) → Begins vs l → (k : ℕ) → k < store_length → Fits (length vs) (get_or (opened (get_or vs 0 0) l) k 0)
opened-fits vs l b k lt = go (ℕ_discrete k 0)
  where
    v : ℕ
    v = get_or vs 0 0

    go : Dec (k ≡ 0) → Fits (length vs) (get_or (opened v l) k 0)
    go (yes e) =
        subst (Fits (length vs)) (sym (ap (λ (j : ℕ). get_or (opened v l) j 0) e ∙ opened-own v l b.long))
        (fits-entry (length vs) 1 v (omega arith) b.some (b.small 0 b.some))
    go (no ne) = λ h. absurd (h (opened-other v l b.long k ne lt))

fresh-value : (vs l : List ℕ) → Begins vs l → (i : ℕ) → 1 ≤ i → i ≤ length vs → (process_at (started_to vs (length vs)) i).value < 2 ^ 32
unfolding fresh
fresh-value vs l b i lo hi = rw (started-process vs (length vs) i lo hi b.few) (b.small (i - 1) (omega arith))

clean-start : (vs l : List ℕ) → Begins vs l → Clean (length vs) (start_state vs l)
unfolding begun
clean-start vs l b =
    subst (Clean (length vs)) (sym (start_is vs l b))
    (record { values = fresh-value vs l b; entries = opened-fits vs l b })

clean : (vs l : List ℕ) (ss : List Step) → Begins vs l → Clean (length vs) (at vs l ss)
clean vs l ss b = throughout vs (Clean (length vs)) (clean-next vs) (start_state vs l) ss (basic-start vs l b) (clean-start vs l b)

pub sound-entries : SoundEntries
sound-entries vs l ss b k lt = (clean vs l ss b).entries k lt

-- ---- refusals 2 and 11

-- what is true of a row's number where its test holds, and of the rest where it fails, is true of the rows
row_by : (P : ℕ → Type 0) (t : Bool) (k rest : ℕ) → (t ≡ true → P k) → (t ≡ false → P rest) → P (row t k rest)
unfolding row
row_by P true k rest a b = a refl
row_by P false k rest a b = b refl

-- neither of the two
abbrev Other : ℕ → Type 0
Other k = (k ≢ 2) × (k ≢ 11)

-- a delivered entry that is sent names one of 1..n
sent-named : (t : Bool) (n e : ℕ) → Fits n e → (t && eqb e 0) ≡ false → (t && not (among n (proposer_of e))) ≡ false
sent-named true n e h z = let f = h (eqb-false e 0 z) in ap not (among_in n (proposer_of e) f.0 f.1)
sent-named false n e h z = refl

-- where every entry does, rows 11 and 2 never hold
never-refuses : (g : Group) (l : List ℕ) (s : Step) → store_length ≤ length l → damaged g ≡ false
    → ((k : ℕ) → k < store_length → Fits g.n (get_or l k 0)) → Other (refusal g l s)
unfolding refusal refusal_by row short strange unsent misnamed entry_in number_rows
never-refuses g l s long sound fits =
    row_by Other (short l) 11 _ (λ e. never (le-ltb (length l) store_length long) e) λ e₁₁.
    row_by Other (damaged g) 2 _ (λ e. never sound e) λ e₂.
    row_by Other (strange g s) 3 _ (λ e. (omega arith, omega arith)) λ known.
    row_by Other (late s) 4 _ (λ e. (omega arith, omega arith)) λ early.
    row_by Other (down g s) 5 _ (λ e. (omega arith, omega arith)) λ up.
    row_by Other (unsent l s) 6 _ (λ e. (omega arith, omega arith)) λ sent.
    row_by Other (misnamed g l s) 2 _ (λ e. never (sent-named (delivers s) g.n (entry_in l s) (fit known early) sent) e) λ named.
    row_by Other (impossible g s) 7 _ (λ e. (omega arith, omega arith)) λ possible.
    row_by Other (recovers_past g s) 13 _ (λ e. (omega arith, omega arith)) λ few.
    row_by Other (enters_past g l s) 8 0 (λ e. (omega arith, omega arith)) λ within. (omega arith, omega arith)
  where
    fit : strange g s ≡ false → late s ≡ false → Fits g.n (entry_in l s)
    fit known early =
        fits (slot_of s)
        (place-low g.n s (sound-facts g sound).high (row-pass (strange g s) 3 (row (late s) 4 0) known (row-pass (late s) 4 0 early refl)))

pub never-two-nor-eleven : NeverTwoNorEleven
never-two-nor-eleven vs l ss b s =
    let a = basic vs l ss b in
    never-refuses (at vs l ss).group (at vs l ss).store s a.long a.sound
    (subst (λ (n : ℕ). (k : ℕ) → k < store_length → Fits n (get_or (at vs l ss).store k 0)) (sym a.size) (clean vs l ss b).entries)
