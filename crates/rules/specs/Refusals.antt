-- Document 01, "Refusals": the table's rows for start and step, in their order, with the rows of requests 2026-03 and 2026-06. Assumes nothing.
use Rattle.std.specs.Prelude.{Bool, true, false, ◌&&◌, ◌||◌, not, List, [], ◌∷◌, ℕ, zero, suc, eqb, leb, ltb, length}
use Rattle.rules.specs.declared.group.Group.{Group}
use Rattle.rules.specs.declared.process.Process.{Process}
use Rattle.rules.specs.declared.step.Step.{Step}
use Rattle.rules.specs.declared.step.Step.TheVariants.{DeliverE, DeliverS, DeliverF, DeliverDecision, Suspect, Pause, Crash, Recover}
use Rattle.rules.specs.Limits.{greatest_size, last_round, too_many, deepest_message, deepest_process, store_length, among}
use Rattle.rules.specs.Tally.{within}
use Rattle.rules.specs.Layout.{process_at, depth_at}
use Rattle.rules.specs.Store.{proposer_of}
use Rattle.rules.specs.Kinds.{taker_of, numbers_of, round_of, delivers, entry_in, event_of}
use Rattle.rules.specs.Idle.{idle}
use Rattle.rules.specs.Depths.{delivered_depth}

-- a row of the table: its number where the test holds, else the rows after it; 0 after the last
unfoldable pub row : Bool → ℕ → ℕ → ℕ
row true k rest = k
row false k rest = rest

-- p holds of each of 1..n
unfoldable pub all_of : (ℕ → Bool) → ℕ → Bool
all_of p zero = true
all_of p (suc n) = all_of p n && p (suc n)

-- a test holds of every number of a list
unfoldable pub every : (ℕ → Bool) → List ℕ → Bool
every p [] = true
every p (m ∷ ms) = p m && every p ms

-- 11: "store shorter than 3,088"; 14: "where the second store is too short"
unfoldable pub short : List ℕ → Bool
short l = ltb (length l) store_length

-- 1: "start or file with not 1 to 16 values"
unfoldable pub miscounted : List ℕ → Bool
miscounted vs = not (among greatest_size (length vs))

-- 2: what makes a process of 1..n whole: no "round above 63, phase not 1 or 2, proposer not 1..n, tally with a sender above n"
unfoldable pub whole : ℕ → Process → Bool
whole n p =
    leb p.round last_round
    && ((eqb p.phase 1 || eqb p.phase 2) && (among n p.proposer && (within p.estimates n && within p.suspicions n)))

-- 2: "damaged group: n not 1 to 16, or for a process of 1..n ..", and by request 2026-06 "2 also for a process depth above 3,088"
unfoldable pub damaged : Group → Bool
damaged g =
    not (among greatest_size g.n && all_of (λ i. whole g.n (process_at g i) && leb (depth_at g i) deepest_process) g.n)

-- 3: "a process number of the step is not 1..n"
unfoldable pub strange : Group → Step → Bool
strange g s = not (every (among g.n) (numbers_of s))

-- 4: "the message's round is above 63"
unfoldable pub late : Step → Bool
late s = ltb last_round (round_of s)

-- "Possible if i is undecided, in phase 1 and unmarked."
unfoldable pub may_suspect : Process → Bool
may_suspect p = not p.decided && (eqb p.phase 1 && not p.marked)

-- 7: "recover of an up process; a suspicion not possible"
unfoldable pub impossible : Group → Step → Bool
impossible g (DeliverE i j r c) = false
impossible g (DeliverS i j r c) = false
impossible g (DeliverF i j r c) = false
impossible g (DeliverDecision i j c) = false
impossible g (Suspect i c) = not (may_suspect (process_at g i))
impossible g (Pause i) = false
impossible g (Crash i) = false
impossible g (Recover i) = (process_at g i).up

-- 5: "i is down, in any step but recover"
unfoldable pub is_recover : Step → Bool
is_recover (DeliverE i j r c) = false
is_recover (DeliverS i j r c) = false
is_recover (DeliverF i j r c) = false
is_recover (DeliverDecision i j c) = false
is_recover (Suspect i c) = false
is_recover (Pause i) = false
is_recover (Crash i) = false
is_recover (Recover i) = true

unfoldable pub down : Group → Step → Bool
down g s = not (is_recover s) && not (process_at g (taker_of s)).up

-- 6: "the message is not in the store"
unfoldable pub unsent : List ℕ → Step → Bool
unsent l s = delivers s && eqb (entry_in l s) 0

-- 2: "its entry has proposer 0 or above n"
unfoldable pub misnamed : Group → List ℕ → Step → Bool
misnamed g l s = delivers s && not (among g.n (proposer_of (entry_in l s)))

-- 14: "where the delivered message's depth is above 3,087"
unfoldable pub too_deep : List ℕ → Step → Bool
too_deep d s = delivers s && ltb deepest_message (delivered_depth d s)

-- 13: "where a recover would exceed 255"
unfoldable pub recovers_past : Group → Step → Bool
recovers_past g (DeliverE i j r c) = false
recovers_past g (DeliverS i j r c) = false
recovers_past g (DeliverF i j r c) = false
recovers_past g (DeliverDecision i j c) = false
recovers_past g (Suspect i c) = false
recovers_past g (Pause i) = false
recovers_past g (Crash i) = false
recovers_past g (Recover i) = too_many (process_at g i).recoveries

-- 8: "the step would enter round 64". Only an F that is not idle enters a next round
unfoldable pub enters_past : Group → List ℕ → Step → Bool
enters_past g l (DeliverE i j r c) = false
enters_past g l (DeliverS i j r c) = false
enters_past g l (DeliverF i j r c) =
    not (idle g (DeliverF i j r c)) && ltb last_round (event_of g l (DeliverF i j r c)).process.round
enters_past g l (DeliverDecision i j c) = false
enters_past g l (Suspect i c) = false
enters_past g l (Pause i) = false
enters_past g l (Crash i) = false
enters_past g l (Recover i) = false

-- "Order for start: 11, 1.", with 14 "right after 11": of the values vs and the stores l and d
unfoldable pub start_refusal : List ℕ → List ℕ → List ℕ → ℕ
start_refusal vs l d = row (short l) 11 (row (short d) 14 (row (miscounted vs) 1 0))

-- "For steps: as listed from 11, without 1.", with 13 "after 7", and 14 "right after 11, where the second store is too short, and right after the entry's 2"
unfoldable pub refusal : Group → List ℕ → List ℕ → Step → ℕ
refusal g l d s =
    row (short l) 11
    (row (short d) 14
    (row (damaged g) 2
    (row (strange g s) 3
    (row (late s) 4
    (row (down g s) 5
    (row (unsent l s) 6
    (row (misnamed g l s) 2
    (row (too_deep d s) 14
    (row (impossible g s) 7
    (row (recovers_past g s) 13
    (row (enters_past g l s) 8 0)))))))))))
