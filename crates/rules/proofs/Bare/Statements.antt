-- What is shown of every run without depths, as a device: `Bare/Same` carries it over to the run that the contracts cite, of which specs/Safety.antt speaks. Assumes nothing.
use mathlib.Core.Path.{◌≡◌}
use mathlib.Core.Bool.{Bool, true, false, ◌&&◌}
use mathlib.Core.List.{List, [], ◌∷◌}
use mathlib.Core.Logic.{◌↔◌, ◌≢◌}
use Prim.Native.Nat.{ℕ, ◌+◌, ◌-◌, ◌≤◌, ◌<◌}
use lib.Count.{ones}
use lib.Dec.{eqb}
use lib.ListN.{length, get_or}
use Rattle.rules.specs.declared.process.Process.{Process}
use Rattle.rules.specs.declared.step.Step.{Step}
use Rattle.rules.specs.declared.step.Step.TheVariants.{DeliverE, DeliverS, DeliverF, Pause, Crash, Recover}
use Rattle.rules.specs.Limits.{greatest_size, values, most_recoveries, store_length}
use Rattle.rules.specs.Tally.{joined, bit_of}
use Rattle.rules.specs.Layout.{process_at}
use Rattle.rules.specs.Records.{stored, blank}
use Rattle.rules.specs.Store.{kind_e, kind_s, kind_f, proposer_of, sent_in}
use Rattle.rules.specs.Kinds.{taker_of}
use Rattle.rules.specs.Answers.{all_sent, all_again}
use Rattle.rules.specs.Refusals.{is_recover}
use Rattle.rules.specs.Safety.{Of, Holds, FirstValue, cut, back, Among, Comes, Heard, Majority, estimates_with}
use Rattle.rules.proofs.Bare.Step.{damaged, refusal, stepped}
use Rattle.rules.proofs.Bare.Run.{State, start_state, next, after, answers, handed_from}

-- ---- runs

-- 1 to 16 first values, each one that a value can be, and any store of at least 3,088 entries
pub record Begins (vs l : List ℕ) : Type 0 where
  pub some : 1 ≤ length vs
  pub few : length vs ≤ greatest_size
  pub small : (i : ℕ) → i < length vs → get_or vs i 0 < values
  pub long : store_length ≤ length l

-- the state after the start and the steps ss: every state of a run is one of these
abbrev pub at : List ℕ → List ℕ → List Step → State
at vs l ss = after (start_state vs l) ss

-- process i of a state
abbrev pub process_of : State → ℕ → Process
process_of a i = process_at a.group i

-- a statement of every run
abbrev pub EveryRun : (List ℕ → List ℕ → List Step → Type 0) → Type 0
EveryRun P = (vs l : List ℕ) (ss : List Step) → Begins vs l → P vs l ss

-- ---- 1: any two processes that hold decisions hold the same

abbrev pub Agreement : Type 0
Agreement = EveryRun λ vs l ss. (i j v w : ℕ) → Of vs i → Of vs j → Holds (process_of (at vs l ss) i) v → Holds (process_of (at vs l ss) j) w → v ≡ w

-- ---- 2: each decided value is the first value of some process, and first values never change

abbrev pub Validity : Type 0
Validity = EveryRun λ vs l ss. (i v : ℕ) → Of vs i → Holds (process_of (at vs l ss) i) v → FirstValue vs v

abbrev pub FirstValuesStay : Type 0
FirstValuesStay = EveryRun λ vs l ss. (i : ℕ) → Of vs i → (process_of (at vs l ss) i).first ≡ get_or vs (i - 1) 0

-- ---- 3: a process that holds a decision holds the same one ever after

abbrev pub DecisionsStay : Type 0
DecisionsStay = EveryRun λ vs l ss. (ts : List Step) (i v : ℕ) → Of vs i → Holds (process_of (at vs l ss) i) v → Holds (process_of (after (at vs l ss) ts) i) v

-- ---- 4: what is stored

-- process i is down in the state a and in every state through the steps ss
unfoldable pub DownThrough : State → List Step → ℕ → Type 0
DownThrough a [] i = (process_of a i).up ≡ false
DownThrough a (s ∷ ss) i = ((process_of a i).up ≡ false) × DownThrough (next a s) ss i

-- recovered, it has the stored record that it had when it went down, "apart from the one that recover itself adds": the state after ss is the one right after it did
abbrev pub Recovery : Type 0
Recovery = EveryRun λ vs l ss. (ts : List Step) (i : ℕ) → Of vs i → DownThrough (at vs l ss) ts i
    → stored (process_of (next (after (at vs l ss) ts) (Recover i)) i) ≡ back (stored (process_of (at vs l ss) i))

-- no step but its recover changes the stored record of a process that is down
abbrev pub DownKeeps : Type 0
DownKeeps = EveryRun λ vs l ss. (s : Step) (i : ℕ) → Of vs i → (process_of (at vs l ss) i).up ≡ false → s ≢ Recover i
    → stored (process_of (next (at vs l ss) s) i) ≡ stored (process_of (at vs l ss) i)

-- a pause and a crash keep it
abbrev pub GoingDownKeeps : Type 0
GoingDownKeeps = EveryRun λ vs l ss. (i : ℕ) → Of vs i
    → (stored (process_of (next (at vs l ss) (Pause i)) i) ≡ stored (process_of (at vs l ss) i))
    × (stored (process_of (next (at vs l ss) (Crash i)) i) ≡ stored (process_of (at vs l ss) i))

-- a cut stores exactly the record of the same step uncut
abbrev pub CutStores : Type 0
CutStores = EveryRun λ vs l ss. (s : Step) (i : ℕ) → Of vs i
    → stored (process_of (next (at vs l ss) (cut s)) i) ≡ stored (process_of (next (at vs l ss) s) i)

-- ---- 5: refusal 6 comes exactly when the message was not handed over

abbrev pub RefusalSix : Type 0
RefusalSix = EveryRun λ vs l ss. (s : Step) → Comes (at vs l ss).group s
    → (refusal (at vs l ss).group (at vs l ss).store s ≡ 6) ↔ ¬ Among s (handed_from vs l ss)

-- ---- 6: the store

-- entries past 3,088 are as they were before the start
abbrev pub PastKept : Type 0
PastKept = EveryRun λ vs l ss. (k : ℕ) → store_length ≤ k → get_or (at vs l ss).store k 0 ≡ get_or l k 0

-- 1 and all *sent* are the sent entries and all *again*
abbrev pub SentCounts : Type 0
SentCounts = EveryRun λ vs l ss. 1 + all_sent (answers (start_state vs l) ss) ≡ sent_in (at vs l ss).store store_length + all_again (answers (start_state vs l) ss)

-- records above n are as start left them
abbrev pub AboveKept : Type 0
AboveKept = EveryRun λ vs l ss. (i : ℕ) → length vs < i → i ≤ greatest_size → process_of (at vs l ss) i ≡ blank

-- ---- 7: no group of a run is damaged and no entry is, so that 2 and 11 never occur

abbrev pub SoundGroup : Type 0
SoundGroup = EveryRun λ vs l ss. damaged (at vs l ss).group ≡ false

abbrev pub SoundEntries : Type 0
SoundEntries = EveryRun λ vs l ss. (k : ℕ) → k < store_length → get_or (at vs l ss).store k 0 ≢ 0
    → (1 ≤ proposer_of (get_or (at vs l ss).store k 0)) × (proposer_of (get_or (at vs l ss).store k 0) ≤ length vs)

abbrev pub NeverTwoNorEleven : Type 0
NeverTwoNorEleven = EveryRun λ vs l ss. (s : Step)
    → (refusal (at vs l ss).group (at vs l ss).store s ≢ 2) × (refusal (at vs l ss).group (at vs l ss).store s ≢ 11)

-- ---- 8: tallies

-- sizes never exceed n
abbrev pub TalliesFit : Type 0
TalliesFit = EveryRun λ vs l ss. (i : ℕ) → Of vs i
    → (ones (process_of (at vs l ss) i).estimates ≤ length vs) × (ones (process_of (at vs l ss) i).suspicions ≤ length vs)

abbrev pub TalliesHeard : Type 0
TalliesHeard = EveryRun λ vs l ss. (i j : ℕ) → Of vs i → Of vs j → Heard (process_of (at vs l ss) i) (at vs l ss).store j

-- what repair 2 is for: a decision by E, a move to phase 2 by S and a next round each happen with a majority of distinct senders who sent that message
abbrev pub DecidesWithMajority : Type 0
DecidesWithMajority = EveryRun λ vs l ss. (i j r : ℕ) (c : Bool) → Of vs i
    → (process_of (at vs l ss) i).decided ≡ false → (process_of (next (at vs l ss) (DeliverE i j r c)) i).decided ≡ true
    → Majority (length vs) (at vs l ss).store r kind_e (estimates_with j r 1 (process_of (at vs l ss) i))

abbrev pub Phase2WithMajority : Type 0
Phase2WithMajority = EveryRun λ vs l ss. (i j r : ℕ) (c : Bool) → Of vs i
    → (process_of (at vs l ss) i).phase ≡ 1 → (process_of (next (at vs l ss) (DeliverS i j r c)) i).phase ≡ 2
    → Majority (length vs) (at vs l ss).store r kind_s (joined (process_of (at vs l ss) i).suspicions j)

abbrev pub NextRoundWithMajority : Type 0
NextRoundWithMajority = EveryRun λ vs l ss. (i j r : ℕ) (c : Bool) → Of vs i
    → (process_of (at vs l ss) i).round ≤ r → (process_of (next (at vs l ss) (DeliverF i j r c)) i).round ≡ r + 1
    → Majority (length vs) (at vs l ss).store r kind_f (estimates_with j r 2 (process_of (at vs l ss) i))

-- ---- 9: recoveries

-- how many of the steps are applied recovers of process i
unfoldable pub recovers_of : ℕ → State → List Step → ℕ
recovers_of i a [] = 0
recovers_of i a (s ∷ ss) =
    bit_of (is_recover s && (eqb (taker_of s) i && (stepped a.group a.store s).says.applied)) + recovers_of i (next a s) ss

-- the number of recoveries is just that: "0 at start and one more at each applied recover"
abbrev pub RecoveriesCounted : Type 0
RecoveriesCounted = EveryRun λ vs l ss. (i : ℕ) → Of vs i → (process_of (at vs l ss) i).recoveries ≡ recovers_of i (start_state vs l) ss

-- and is never above 255
abbrev pub RecoveriesFit : Type 0
RecoveriesFit = EveryRun λ vs l ss. (i : ℕ) → Of vs i → (process_of (at vs l ss) i).recoveries ≤ most_recoveries

-- refusal 13 comes exactly when a process that is down is to recover and 255 recovers of it were applied
abbrev pub RefusalThirteen : Type 0
RefusalThirteen = EveryRun λ vs l ss. (i : ℕ) → Of vs i → (process_of (at vs l ss) i).up ≡ false
    → (refusal (at vs l ss).group (at vs l ss).store (Recover i) ≡ 13) ↔ (recovers_of i (start_state vs l) ss ≡ most_recoveries)
