-- Document 01, "Steps": the parts of a step. Process i takes it; a delivery has a sender j, and an E, S or F a round. Assumes nothing.
use Rattle.std.specs.Prelude.{Bool, true, false, List, [], ◌∷◌, ℕ, get_or}
use Rattle.rules.specs.declared.group.Group.{Group}
use Rattle.rules.specs.declared.process.Next.{Next}
use Rattle.rules.specs.declared.step.Step.{Step}
use Rattle.rules.specs.declared.step.Step.TheVariants.{DeliverE, DeliverS, DeliverF, DeliverDecision, Suspect, Pause, Crash, Recover}
use Rattle.rules.specs.Layout.{process_at}
use Rattle.rules.specs.Store.{slot, decision_slot, kind_e, kind_s, kind_f, proposer_of, value_of}
use Rattle.rules.specs.Events.{on_e, on_s, on_f, on_decision, on_suspect, on_pause, on_crash, on_recover}

-- the process i that takes the step
unfoldable pub taker_of : Step → ℕ
taker_of (DeliverE i j r c) = i
taker_of (DeliverS i j r c) = i
taker_of (DeliverF i j r c) = i
taker_of (DeliverDecision i j c) = i
taker_of (Suspect i c) = i
taker_of (Pause i) = i
taker_of (Crash i) = i
taker_of (Recover i) = i

-- the process numbers of the step
unfoldable pub numbers_of : Step → List ℕ
numbers_of (DeliverE i j r c) = i ∷ j ∷ []
numbers_of (DeliverS i j r c) = i ∷ j ∷ []
numbers_of (DeliverF i j r c) = i ∷ j ∷ []
numbers_of (DeliverDecision i j c) = i ∷ j ∷ []
numbers_of (Suspect i c) = i ∷ []
numbers_of (Pause i) = i ∷ []
numbers_of (Crash i) = i ∷ []
numbers_of (Recover i) = i ∷ []

-- the message's round; 0 where the step has none
unfoldable pub round_of : Step → ℕ
round_of (DeliverE i j r c) = r
round_of (DeliverS i j r c) = r
round_of (DeliverF i j r c) = r
round_of (DeliverDecision i j c) = 0
round_of (Suspect i c) = 0
round_of (Pause i) = 0
round_of (Crash i) = 0
round_of (Recover i) = 0

-- whether the step delivers a message
unfoldable pub delivers : Step → Bool
delivers (DeliverE i j r c) = true
delivers (DeliverS i j r c) = true
delivers (DeliverF i j r c) = true
delivers (DeliverDecision i j c) = true
delivers (Suspect i c) = false
delivers (Pause i) = false
delivers (Crash i) = false
delivers (Recover i) = false

-- where the delivered message stands in the store; 0 where the step delivers none
unfoldable pub slot_of : Step → ℕ
slot_of (DeliverE i j r c) = slot r j kind_e
slot_of (DeliverS i j r c) = slot r j kind_s
slot_of (DeliverF i j r c) = slot r j kind_f
slot_of (DeliverDecision i j c) = decision_slot j
slot_of (Suspect i c) = 0
slot_of (Pause i) = 0
slot_of (Crash i) = 0
slot_of (Recover i) = 0

-- "A delivery or suspicion may be cut"
unfoldable pub is_cut : Step → Bool
is_cut (DeliverE i j r c) = c
is_cut (DeliverS i j r c) = c
is_cut (DeliverF i j r c) = c
is_cut (DeliverDecision i j c) = c
is_cut (Suspect i c) = c
is_cut (Pause i) = false
is_cut (Crash i) = false
is_cut (Recover i) = false

-- the entry of the delivered message in the store l. "A message is for all, its sender included, and may be delivered any number of times": nothing is taken out
unfoldable pub entry_in : List ℕ → Step → ℕ
entry_in l s = get_or l (slot_of s) 0

-- what process i does with the step, where it is not idle: the event of its kind, with the estimate that the entry carries
unfoldable pub event_of : Group → List ℕ → Step → Next
event_of g l (DeliverE i j r c) =
    on_e g.n i j r (proposer_of (entry_in l (DeliverE i j r c))) (value_of (entry_in l (DeliverE i j r c))) (process_at g i)
event_of g l (DeliverS i j r c) = on_s g.n j (process_at g i)
event_of g l (DeliverF i j r c) =
    on_f g.n i j r (proposer_of (entry_in l (DeliverF i j r c))) (value_of (entry_in l (DeliverF i j r c))) (process_at g i)
event_of g l (DeliverDecision i j c) = on_decision (value_of (entry_in l (DeliverDecision i j c))) (process_at g i)
event_of g l (Suspect i c) = on_suspect (process_at g i)
event_of g l (Pause i) = on_pause (process_at g i)
event_of g l (Crash i) = on_crash (process_at g i)
event_of g l (Recover i) = on_recover (process_at g i)
