-- What holds of every run that start and step make: demand 3, and what else is said of runs. The proofs are in proofs/. Assumes nothing.
use Rattle.std.specs.Prelude.{◌≡◌, Bool, true, false, ◌&&◌, ◌||◌, not, List, [], ◌∷◌, ◌++◌, ◌↔◌, ◌≢◌, ℕ, ◌+◌, ◌-◌, ◌≤◌, ◌<◌, eqb, length, get_or}
use Rattle.std.specs.Int.Count.{ones}
use Rattle.rules.specs.declared.group.Group.{Group}
use Rattle.rules.specs.declared.process.Process.{Process}
use Rattle.rules.specs.declared.process.Message.{Message}
use Rattle.rules.specs.declared.process.Message.TheVariants.{E, S, F, Decision}
use Rattle.rules.specs.declared.step.Step.{Step}
use Rattle.rules.specs.declared.step.Step.TheVariants.{DeliverE, DeliverS, DeliverF, DeliverDecision, Suspect, Pause, Crash, Recover}
use Rattle.rules.specs.Limits.{greatest_size, values, most_recoveries, too_many, deepest_message, deepest_process, store_length, majority}
use Rattle.rules.specs.Tally.{holds, joined, within, bit_of}
use Rattle.rules.specs.Layout.{process_at, depth_at, Sized, forgetting}
use Rattle.rules.specs.Records.{Stored, stored, blank}
use Rattle.rules.specs.Store.{slot, kind_e, kind_s, kind_f, proposer_of, Handed, place_handed, entry_handed, sent_in}
use Rattle.rules.specs.Answers.{Said, all_sent, all_again}
use Rattle.rules.specs.Kinds.{taker_of, delivers, is_cut, entry_in}
use Rattle.rules.specs.Idle.{in_phase, idle}
use Rattle.rules.specs.Refusals.{strange, late, is_recover, down, refusal}
use Rattle.rules.specs.Step.{stepped, Ready}
use Rattle.rules.specs.Run.{State, start_state, next, after, answers, handed_by, handed_from}

-- ---- runs

-- 1 to 16 first values, each one that a value can be, and any two stores of at least 3,088 numbers
pub record Begins (vs l d : List ℕ) : Type 0 where
  pub some : 1 ≤ length vs
  pub few : length vs ≤ greatest_size
  pub small : (i : ℕ) → i < length vs → get_or vs i 0 < values
  pub long : store_length ≤ length l
  pub deep_long : store_length ≤ length d

-- the state after the start and the steps ss: every state of a run is one of these
abbrev pub at : List ℕ → List ℕ → List ℕ → List Step → State
at vs l d ss = after (start_state vs l d) ss

-- a statement of every run
abbrev pub EveryRun : (List ℕ → List ℕ → List ℕ → List Step → Type 0) → Type 0
EveryRun P = (vs l d : List ℕ) (ss : List Step) → Begins vs l d → P vs l d ss

-- i is one of the processes of the run
pub record Of (vs : List ℕ) (i : ℕ) : Type 0 where
  pub low : 1 ≤ i
  pub high : i ≤ length vs

-- process i of a state
abbrev pub process_of : State → ℕ → Process
process_of a i = process_at a.group i

-- a process holds the decision v
pub record Holds (p : Process) (v : ℕ) : Type 0 where
  pub decided : p.decided ≡ true
  pub decision : p.decision ≡ v

-- the depth of process i, and of the message at a place of the store
abbrev pub process_depth : State → ℕ → ℕ
process_depth a i = depth_at a.group i

abbrev pub message_depth : State → ℕ → ℕ
message_depth a k = get_or a.depths k 0

-- what a step from a state says, and by which number it is refused, 0 where it is not
abbrev pub says : State → Step → Said
says a s = (stepped a.group a.store a.depths s).says

abbrev pub refusal_at : State → Step → ℕ
refusal_at a s = refusal a.group a.store a.depths s

-- ---- 1: any two processes that hold decisions hold the same

abbrev pub Agreement : Type 0
Agreement = EveryRun λ vs l d ss. (i j v w : ℕ) → Of vs i → Of vs j
    → Holds (process_of (at vs l d ss) i) v → Holds (process_of (at vs l d ss) j) w → v ≡ w

-- ---- 2: each decided value is the first value of some process, and first values never change

pub record FirstValue (vs : List ℕ) (v : ℕ) : Type 0 where
  pub whose : ℕ
  pub process : Of vs whose
  pub value : get_or vs (whose - 1) 0 ≡ v

abbrev pub Validity : Type 0
Validity = EveryRun λ vs l d ss. (i v : ℕ) → Of vs i → Holds (process_of (at vs l d ss) i) v → FirstValue vs v

abbrev pub FirstValuesStay : Type 0
FirstValuesStay = EveryRun λ vs l d ss. (i : ℕ) → Of vs i → (process_of (at vs l d ss) i).first ≡ get_or vs (i - 1) 0

-- ---- 3: a process that holds a decision holds the same one ever after

abbrev pub DecisionsStay : Type 0
DecisionsStay = EveryRun λ vs l d ss. (ts : List Step) (i v : ℕ) → Of vs i
    → Holds (process_of (at vs l d ss) i) v → Holds (process_of (after (at vs l d ss) ts) i) v

-- ---- 4: what is stored

-- process i is down in the state a and in every state through the steps ss
unfoldable pub DownThrough : State → List Step → ℕ → Type 0
DownThrough a [] i = (process_of a i).up ≡ false
DownThrough a (s ∷ ss) i = ((process_of a i).up ≡ false) × DownThrough (next a s) ss i

-- the step, cut where it can be
unfoldable pub cut : Step → Step
cut (DeliverE i j r c) = DeliverE i j r true
cut (DeliverS i j r c) = DeliverS i j r true
cut (DeliverF i j r c) = DeliverF i j r true
cut (DeliverDecision i j c) = DeliverDecision i j true
cut (Suspect i c) = Suspect i true
cut (Pause i) = Pause i
cut (Crash i) = Crash i
cut (Recover i) = Recover i

-- a stored record with "the one that recover itself adds"; where that would be too many, the recover is refused and the record stays as it was
unfoldable pub back_unless : Bool → Stored → Stored
back_unless true t = t
back_unless false t =
    record {
      first = t.first;
      round = t.round;
      phase = t.phase;
      proposer = t.proposer;
      value = t.value;
      marked = t.marked;
      decided = t.decided;
      decision = t.decision;
      recoveries = t.recoveries + 1;
    }

unfoldable pub back : Stored → Stored
back t = back_unless (too_many t.recoveries) t

-- recovered, it has the stored record that it had when it went down, "apart from the one that recover itself adds": the state after ss is the one right after it did
abbrev pub Recovery : Type 0
Recovery = EveryRun λ vs l d ss. (ts : List Step) (i : ℕ) → Of vs i → DownThrough (at vs l d ss) ts i
    → stored (process_of (next (after (at vs l d ss) ts) (Recover i)) i) ≡ back (stored (process_of (at vs l d ss) i))

-- no step but its recover changes the stored record of a process that is down
abbrev pub DownKeeps : Type 0
DownKeeps = EveryRun λ vs l d ss. (s : Step) (i : ℕ) → Of vs i → (process_of (at vs l d ss) i).up ≡ false → s ≢ Recover i
    → stored (process_of (next (at vs l d ss) s) i) ≡ stored (process_of (at vs l d ss) i)

-- a pause and a crash keep it
abbrev pub GoingDownKeeps : Type 0
GoingDownKeeps = EveryRun λ vs l d ss. (i : ℕ) → Of vs i
    → (stored (process_of (next (at vs l d ss) (Pause i)) i) ≡ stored (process_of (at vs l d ss) i))
    × (stored (process_of (next (at vs l d ss) (Crash i)) i) ≡ stored (process_of (at vs l d ss) i))

-- a cut stores exactly the record of the same step uncut
abbrev pub CutStores : Type 0
CutStores = EveryRun λ vs l d ss. (s : Step) (i : ℕ) → Of vs i
    → stored (process_of (next (at vs l d ss) (cut s)) i) ≡ stored (process_of (next (at vs l d ss) s) i)

-- ---- 5: refusal 6 comes exactly when the message was not handed over

-- h is the message that the step delivers
unfoldable pub Delivers : Step → Handed → Type 0
Delivers (DeliverE i j r c) h = (q : ℕ) × (v : ℕ) × (h ≡ record { sender = j; message = E r q v })
Delivers (DeliverS i j r c) h = h ≡ record { sender = j; message = S r }
Delivers (DeliverF i j r c) h = (q : ℕ) × (v : ℕ) × (h ≡ record { sender = j; message = F r q v })
Delivers (DeliverDecision i j c) h = (v : ℕ) × (h ≡ record { sender = j; message = Decision v })
Delivers (Suspect i c) h = ⊥
Delivers (Pause i) h = ⊥
Delivers (Crash i) h = ⊥
Delivers (Recover i) h = ⊥

-- h stands in a list; and a message that the step delivers does
pub data In (h : Handed) : List Handed → Type 0 where
  here : {hs : List Handed} → In h (h ∷ hs)
  later : {k : Handed} {hs : List Handed} → In h hs → In h (k ∷ hs)

pub record Among (s : Step) (hs : List Handed) : Type 0 where
  pub handed : Handed
  pub stands : In handed hs
  pub delivered : Delivers s handed

-- a delivery that none of 11 to 5 stops
pub record Comes (g : Group) (s : Step) : Type 0 where
  pub delivery : delivers s ≡ true
  pub numbers : strange g s ≡ false
  pub round : late s ≡ false
  pub up : down g s ≡ false

abbrev pub RefusalSix : Type 0
RefusalSix = EveryRun λ vs l d ss. (s : Step) → Comes (at vs l d ss).group s → (refusal_at (at vs l d ss) s ≡ 6) ↔ ¬ Among s (handed_from vs l d ss)

-- ---- 6: the stores

-- an entry once sent stays as it is, and its message keeps its depth: "Later handings over keep the first depth."
abbrev pub SentStays : Type 0
SentStays = EveryRun λ vs l d ss. (ts : List Step) (k : ℕ) → k < store_length → get_or (at vs l d ss).store k 0 ≢ 0
    → (get_or (after (at vs l d ss) ts).store k 0 ≡ get_or (at vs l d ss).store k 0) × (message_depth (after (at vs l d ss) ts) k ≡ message_depth (at vs l d ss) k)

-- what lies past 3,088 is as it was before the start
abbrev pub PastKept : Type 0
PastKept = EveryRun λ vs l d ss. (k : ℕ) → store_length ≤ k
    → (get_or (at vs l d ss).store k 0 ≡ get_or l k 0) × (message_depth (at vs l d ss) k ≡ get_or d k 0)

-- "1 + all sent − all again now equals the sent entries in the store."
abbrev pub SentCounts : Type 0
SentCounts = EveryRun λ vs l d ss.
    1 + all_sent (answers (start_state vs l d) ss) ≡ sent_in (at vs l d ss).store store_length + all_again (answers (start_state vs l d) ss)

-- records above n are as start left them, and their depths are 0
abbrev pub AboveKept : Type 0
AboveKept = EveryRun λ vs l d ss. (i : ℕ) → length vs < i → i ≤ greatest_size
    → (process_of (at vs l d ss) i ≡ blank) × (process_depth (at vs l d ss) i ≡ 0)

-- ---- 7: no group of a run is damaged and no entry is, so that 2, 11 and 14 never occur

abbrev pub SoundGroup : Type 0
SoundGroup = EveryRun λ vs l d ss. Ready (at vs l d ss).group (at vs l d ss).store (at vs l d ss).depths

abbrev pub SoundEntries : Type 0
SoundEntries = EveryRun λ vs l d ss. (k : ℕ) → k < store_length → get_or (at vs l d ss).store k 0 ≢ 0
    → (1 ≤ proposer_of (get_or (at vs l d ss).store k 0)) × (proposer_of (get_or (at vs l d ss).store k 0) ≤ length vs)

abbrev pub NeverDamaged : Type 0
NeverDamaged = EveryRun λ vs l d ss. (s : Step)
    → (refusal_at (at vs l d ss) s ≢ 2) × (refusal_at (at vs l d ss) s ≢ 11) × (refusal_at (at vs l d ss) s ≢ 14)

-- ---- 8: tallies

-- in the store l the entry of round r, sender j and kind k is sent
abbrev pub Sent : List ℕ → ℕ → ℕ → ℕ → Type 0
Sent l r j k = get_or l (slot r j k) 0 ≢ 0

-- sizes never exceed n
abbrev pub TalliesFit : Type 0
TalliesFit = EveryRun λ vs l d ss. (i : ℕ) → Of vs i
    → (ones (process_of (at vs l d ss) i).estimates ≤ length vs) × (ones (process_of (at vs l d ss) i).suspicions ≤ length vs)

-- where j is in a tally of the process p, it sent that message: E of the round in phase 1, F in phase 2, S for suspicions
pub record Heard (p : Process) (l : List ℕ) (j : ℕ) : Type 0 where
  pub estimates : p.phase ≡ 1 → holds p.estimates j ≡ true → Sent l p.round j kind_e
  pub answers : p.phase ≡ 2 → holds p.estimates j ≡ true → Sent l p.round j kind_f
  pub suspicions : holds p.suspicions j ≡ true → Sent l p.round j kind_s

abbrev pub TalliesHeard : Type 0
TalliesHeard = EveryRun λ vs l d ss. (i j : ℕ) → Of vs i → Of vs j → Heard (process_of (at vs l d ss) i) (at vs l d ss).store j

-- a majority of distinct senders: the tally t of senders of 1..n meets it, and each of them has sent its message of round r and kind k
pub record Majority (n : ℕ) (l : List ℕ) (r k t : ℕ) : Type 0 where
  pub meets : majority n ≤ ones t
  pub senders : within t n ≡ true
  pub sent : (j : ℕ) → 1 ≤ j → j ≤ n → holds t j ≡ true → Sent l r j k

-- the tally of estimates that the process p has once j has joined it: its own in round r and the phase, and an empty one where it comes there by j's message
unfoldable pub joined_if : Bool → ℕ → ℕ → ℕ
joined_if true t j = joined t j
joined_if false t j = joined 0 j

abbrev pub estimates_with : ℕ → ℕ → ℕ → Process → ℕ
estimates_with j r phase p = joined_if (in_phase p r phase) p.estimates j

-- what repair 2 is for: a decision by E, a move to phase 2 by S and a next round each happen with a majority of distinct senders whom the process has heard
abbrev pub DecidesWithMajority : Type 0
DecidesWithMajority = EveryRun λ vs l d ss. (i j r : ℕ) (c : Bool) → Of vs i
    → (process_of (at vs l d ss) i).decided ≡ false → (process_of (next (at vs l d ss) (DeliverE i j r c)) i).decided ≡ true
    → Majority (length vs) (at vs l d ss).store r kind_e (estimates_with j r 1 (process_of (at vs l d ss) i))

abbrev pub Phase2WithMajority : Type 0
Phase2WithMajority = EveryRun λ vs l d ss. (i j r : ℕ) (c : Bool) → Of vs i
    → (process_of (at vs l d ss) i).phase ≡ 1 → (process_of (next (at vs l d ss) (DeliverS i j r c)) i).phase ≡ 2
    → Majority (length vs) (at vs l d ss).store r kind_s (joined (process_of (at vs l d ss) i).suspicions j)

abbrev pub NextRoundWithMajority : Type 0
NextRoundWithMajority = EveryRun λ vs l d ss. (i j r : ℕ) (c : Bool) → Of vs i
    → (process_of (at vs l d ss) i).round ≤ r → (process_of (next (at vs l d ss) (DeliverF i j r c)) i).round ≡ r + 1
    → Majority (length vs) (at vs l d ss).store r kind_f (estimates_with j r 2 (process_of (at vs l d ss) i))

-- ---- 9: recoveries

-- how many of the steps are applied recovers of process i
unfoldable pub recovers_of : ℕ → State → List Step → ℕ
recovers_of i a [] = 0
recovers_of i a (s ∷ ss) = bit_of (is_recover s && (eqb (taker_of s) i && (says a s).applied)) + recovers_of i (next a s) ss

-- the number of recoveries is just that: "0 at start and one more at each applied recover"
abbrev pub RecoveriesCounted : Type 0
RecoveriesCounted = EveryRun λ vs l d ss. (i : ℕ) → Of vs i → (process_of (at vs l d ss) i).recoveries ≡ recovers_of i (start_state vs l d) ss

-- and is never above 255
abbrev pub RecoveriesFit : Type 0
RecoveriesFit = EveryRun λ vs l d ss. (i : ℕ) → Of vs i → (process_of (at vs l d ss) i).recoveries ≤ most_recoveries

-- refusal 13 comes exactly when a process that is down is to recover and 255 recovers of it were applied
abbrev pub RefusalThirteen : Type 0
RefusalThirteen = EveryRun λ vs l d ss. (i : ℕ) → Of vs i → (process_of (at vs l d ss) i).up ≡ false
    → (refusal_at (at vs l d ss) (Recover i) ≡ 13) ↔ (recovers_of i (start_state vs l d) ss ≡ most_recoveries)

-- ---- 10: depths change nothing else

-- two states that are the same but for the depths of processes and messages
pub record Alike (a b : State) : Type 0 where
  pub groups : forgetting a.group ≡ forgetting b.group
  pub stores : a.store ≡ b.store

-- a state that is not damaged and whose depths are within the limits
pub record WithinLimits (a : State) : Type 0 where
  pub sized : Sized a.group
  pub ready : Ready a.group a.store a.depths
  pub messages : (k : ℕ) → k < store_length → message_depth a k ≤ deepest_message

-- whatever depths within the limits stand in the place of those of a run, every step says the same, and the states after it are the same but for depths
abbrev pub DepthsChangeNothing : Type 0
DepthsChangeNothing = EveryRun λ vs l d ss. (b : State) (s : Step) → Alike (at vs l d ss) b → WithinLimits b
    → (says (at vs l d ss) s ≡ says b s) × Alike (next (at vs l d ss) s) (next b s)

-- ---- 11: the limits of depths

-- "In runs from a start no stored depth exceeds 3,087." And no depth of a process is above 3,088
abbrev pub DepthsFit : Type 0
DepthsFit = EveryRun λ vs l d ss.
    ((k : ℕ) → k < store_length → message_depth (at vs l d ss) k ≤ deepest_message)
    × ((i : ℕ) → Of vs i → process_depth (at vs l d ss) i ≤ deepest_process)

-- ---- 12: what keeps a depth

-- "0 at start and kept through crashes and pauses": while a process is down, and when it recovers, its depth is the one that it had when it went down
abbrev pub DepthRecovery : Type 0
DepthRecovery = EveryRun λ vs l d ss. (ts : List Step) (i : ℕ) → Of vs i → DownThrough (at vs l d ss) ts i
    → (process_depth (after (at vs l d ss) ts) i ≡ process_depth (at vs l d ss) i)
    × (process_depth (next (after (at vs l d ss) ts) (Recover i)) i ≡ process_depth (at vs l d ss) i)

-- a step that delivers nothing, as a pause, a crash, a recover and a suspicion, changes no depth
abbrev pub QuietKeepsDepths : Type 0
QuietKeepsDepths = EveryRun λ vs l d ss. (s : Step) (i : ℕ) → Of vs i → delivers s ≡ false
    → process_depth (next (at vs l d ss) s) i ≡ process_depth (at vs l d ss) i

-- a cut leaves the depth of the same step uncut
abbrev pub CutKeepsDepth : Type 0
CutKeepsDepth = EveryRun λ vs l d ss. (s : Step) (i : ℕ) → Of vs i
    → process_depth (next (at vs l d ss) (cut s)) i ≡ process_depth (next (at vs l d ss) s) i

-- the depth of a decided process, which is its decision's, stays
abbrev pub DecisionDepthStays : Type 0
DecisionDepthStays = EveryRun λ vs l d ss. (ts : List Step) (i : ℕ) → Of vs i → (process_of (at vs l d ss) i).decided ≡ true
    → process_depth (after (at vs l d ss) ts) i ≡ process_depth (at vs l d ss) i

-- ---- 13: two communication steps

-- a step that is neither a suspicion nor cut
unfoldable pub is_suspicion : Step → Bool
is_suspicion (DeliverE i j r c) = false
is_suspicion (DeliverS i j r c) = false
is_suspicion (DeliverF i j r c) = false
is_suspicion (DeliverDecision i j c) = false
is_suspicion (Suspect i c) = true
is_suspicion (Pause i) = false
is_suspicion (Crash i) = false
is_suspicion (Recover i) = false

unfoldable pub plain : List Step → Bool
plain [] = true
plain (s ∷ ss) = (not (is_suspicion s) && not (is_cut s)) && plain ss

-- the step delivers an E, and is applied
unfoldable pub delivers_e : Step → Bool
delivers_e (DeliverE i j r c) = true
delivers_e (DeliverS i j r c) = false
delivers_e (DeliverF i j r c) = false
delivers_e (DeliverDecision i j c) = false
delivers_e (Suspect i c) = false
delivers_e (Pause i) = false
delivers_e (Crash i) = false
delivers_e (Recover i) = false

abbrev pub takes_e : State → Step → Bool
takes_e a s = delivers_e s && (says a s).applied

-- whose message the step delivers; 0 where it delivers none
unfoldable pub sender_of : Step → ℕ
sender_of (DeliverE i j r c) = j
sender_of (DeliverS i j r c) = j
sender_of (DeliverF i j r c) = j
sender_of (DeliverDecision i j c) = j
sender_of (Suspect i c) = 0
sender_of (Pause i) = 0
sender_of (Crash i) = 0
sender_of (Recover i) = 0

-- "where every process takes process 1's E before any relay": its first applied delivery of an E is of process 1's. `took` says which processes have taken an E before
unfoldable pub led_by : (ℕ → Bool) → State → List Step → Bool
led_by took a [] = true
led_by took a (s ∷ ss) =
    (not (takes_e a s) || (took (taker_of s) || eqb (sender_of s) 1))
    && led_by (λ i. took i || (takes_e a s && eqb (taker_of s) i)) (next a s) ss

abbrev pub led : State → List Step → Bool
led a ss = led_by (λ i. false) a ss

-- "So with n of 2 or more, without suspicions or cuts, .. and decides by E, all decide at 2." It has that depth at the end too: process i decides by the step between ts and us
abbrev pub TwoSteps : Type 0
TwoSteps = EveryRun λ vs l d ss. (ts us : List Step) (i j r : ℕ) (c : Bool) → 2 ≤ length vs
    → plain ss ≡ true → led (start_state vs l d) ss ≡ true → ss ≡ ts ++ (DeliverE i j r c ∷ us) → Of vs i
    → (process_of (at vs l d ts) i).decided ≡ false → (process_of (next (at vs l d ts) (DeliverE i j r c)) i).decided ≡ true
    → (process_depth (next (at vs l d ts) (DeliverE i j r c)) i ≡ 2) × (process_depth (at vs l d ss) i ≡ 2)

-- ---- 14: depth means what it says

-- a link of a chain: a delivery from a state that is applied and is no cut idle one
pub record Link (a : State) (s : Step) : Type 0 where
  pub delivery : delivers s ≡ true
  pub applied : (says a s).applied ≡ true
  pub not-idle : idle a.group s ≡ false

-- a chain of k deliveries of the run, in its order, the last of which is the step s right after the steps ts: every delivered message after the first was first handed over by the
-- process that took the delivery before it, at that step or a later one. Its sender is that process, and its entry was 0, "not sent", before that delivery. No depth is looked at
pub data Chain (vs l d : List ℕ) : List Step → Step → ℕ → Type 0 where
  one : {ts : List Step} {s : Step} → Link (at vs l d ts) s → Chain vs l d ts s 1
  more : {ts ws : List Step} {s t : Step} {k : ℕ} (us : List Step) → Chain vs l d ts s k → ws ≡ ts ++ (s ∷ us) → Link (at vs l d ws) t
      → sender_of t ≡ taker_of s → entry_in (at vs l d ts).store t ≡ 0 → Chain vs l d ws t (k + 1)

-- a chain of k deliveries of the steps ss whose last delivery is to process i
pub record Ends (vs l d : List ℕ) (ss : List Step) (i k : ℕ) : Type 0 where
  pub before : List Step
  pub last : Step
  pub later : List Step
  pub steps : ss ≡ before ++ (last ∷ later)
  pub chain : Chain vs l d before last k
  pub taker : taker_of last ≡ i

-- m is the length of the longest one, 0 where there is none: a chain of that length exists, and none is longer
abbrev pub Longest : List ℕ → List ℕ → List ℕ → List Step → ℕ → ℕ → Type 0
Longest vs l d ss i m = (m ≢ 0 → Ends vs l d ss i m) × ((k : ℕ) → Ends vs l d ss i k → k ≤ m)

-- the depth of a process at a moment of a run is the length of the longest chain whose last delivery is to it
abbrev pub DepthIsLongest : Type 0
DepthIsLongest = EveryRun λ vs l d ss. (i : ℕ) → Of vs i → Longest vs l d ss i (process_depth (at vs l d ss) i)

-- ---- 15: traffic

-- a step of any group over any stores hands over at most two messages; *sent* is their number, and *again* is no more
abbrev pub AtMostTwo : Type 0
AtMostTwo = (a : State) (s : Step) → ((says a s).sent ≡ length (handed_by a s)) × (length (handed_by a s) ≤ 2) × ((says a s).again ≤ (says a s).sent)

-- one of a run at most one
abbrev pub AtMostOne : Type 0
AtMostOne = EveryRun λ vs l d ss. (s : Step) → length (handed_by (at vs l d ss) s) ≤ 1

-- a message is an E
unfoldable pub is_e : Message → Bool
is_e (E r q v) = true
is_e (S r) = false
is_e (F r q v) = false
is_e (Decision v) = false

-- a message that a step hands over where its entry is sent is an E with that very entry: "A repeated entry is shown to carry the same estimate in every run from a start."
-- The step hands over nothing else, so the store before it is the store just before the message
abbrev pub EqualRepeats : Type 0
EqualRepeats = EveryRun λ vs l d ss. (s : Step) (h : Handed) → In h (handed_by (at vs l d ss) s) → get_or (at vs l d ss).store (place_handed h) 0 ≢ 0
    → (is_e h.message ≡ true) × (entry_handed h ≡ get_or (at vs l d ss).store (place_handed h) 0)

-- the same said of all that is handed over: where the start or one of the steps ss handed h over, and the next step hands k over at the same place, k is an E, and has the entry of h.
-- So no S, F or decision is ever handed over twice
abbrev pub OnlyERepeats : Type 0
OnlyERepeats = EveryRun λ vs l d ss. (s : Step) (h k : Handed) → In h (handed_from vs l d ss) → In k (handed_by (at vs l d ss) s) → place_handed h ≡ place_handed k
    → (is_e k.message ≡ true) × (entry_handed k ≡ entry_handed h)

-- ---- demand 3, in its words, and all of the above

-- Start 1 to 16 processes with any values, let nothing but steps write the store, apply any finite list of steps: no two processes ever hold different decisions, each decided
-- value is some process's first value, decisions stay, and a recovered process has the stored record that it last stored, with one recovery more, and the depth that it had.
pub record Safety : Type 0 where
  pub agreement : Agreement
  pub validity : Validity
  pub firsts : FirstValuesStay
  pub decisions : DecisionsStay
  pub recovery : Recovery
  pub down : DownKeeps
  pub going-down : GoingDownKeeps
  pub cuts : CutStores
  pub six : RefusalSix
  pub sent : SentStays
  pub past : PastKept
  pub counts : SentCounts
  pub above : AboveKept
  pub group : SoundGroup
  pub entries : SoundEntries
  pub never : NeverDamaged
  pub tallies : TalliesFit
  pub heard : TalliesHeard
  pub decides : DecidesWithMajority
  pub second-phase : Phase2WithMajority
  pub next-round : NextRoundWithMajority
  pub recoveries : RecoveriesCounted
  pub few-recoveries : RecoveriesFit
  pub thirteen : RefusalThirteen
  pub nothing-else : DepthsChangeNothing
  pub limits : DepthsFit
  pub depth : DepthRecovery
  pub quiet : QuietKeepsDepths
  pub cut-depth : CutKeepsDepth
  pub decision-depth : DecisionDepthStays
  pub two_steps : TwoSteps
  pub longest : DepthIsLongest
  pub two : AtMostTwo
  pub one : AtMostOne
  pub equal : EqualRepeats
  pub only-e : OnlyERepeats
