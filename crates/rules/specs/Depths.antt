-- Request 2026-06: the depths of processes and messages, which count communication steps. No rule of document 01 looks at them; refusals 14 and 2 keep their limits. Assumes nothing.
use Rattle.std.specs.Prelude.{Bool, true, false, ◌&&◌, not, List, ℕ, ◌+◌, max, eqb, get_or, set, Option, Some, None}
use Rattle.rules.specs.declared.group.Group.{Group}
use Rattle.rules.specs.declared.process.Message.{Message}
use Rattle.rules.specs.declared.process.Next.{Next}
use Rattle.rules.specs.declared.step.Step.{Step}
use Rattle.rules.specs.Layout.{depth_at}
use Rattle.rules.specs.Store.{place_of, hand_over}
use Rattle.rules.specs.Kinds.{taker_of, delivers, slot_of}
use Rattle.rules.specs.Idle.{idle}

-- ---- the depth of a process: "Each process keeps a depth, 0 at start and kept through crashes and pauses"

-- "Message depths live in a second lent store of 3,088 numbers", each at the place of its message: the depth of the delivered message in the store d
unfoldable pub delivered_depth : List ℕ → Step → ℕ
delivered_depth d s = get_or d (slot_of s) 0

-- "a delivery to it that is not idle raises it"; no other step does
unfoldable pub raises : Group → Step → Bool
raises g s = delivers s && not (idle g s)

-- "to the message's depth plus one, if that is more": the depth k and a message of depth m
unfoldable pub raised : Bool → ℕ → ℕ → ℕ
raised true m k = max k (m + 1)
raised false m k = k

-- the depth of the process that takes the step, after it. A cut delivery is no less a delivery
unfoldable pub depth_after : Group → List ℕ → Step → ℕ
depth_after g d s = raised (raises g s) (delivered_depth d s) (depth_at g (taker_of s))

-- ---- the depth of a message

-- "A message first handed over, and a decision, get the process's depth after the step. Later handings over keep the first depth."
unfoldable pub dated_if : Bool → ℕ → ℕ → List ℕ → List ℕ
dated_if true at k d = set d at k
dated_if false at k d = d

-- the depths d after an entry of the store l was written at a place, at the depth k
abbrev pub dated_at : ℕ → ℕ → List ℕ → List ℕ → List ℕ
dated_at at k l d = dated_if (eqb (get_or l at 0) 0) at k d

-- after process i handed m over to the store l
unfoldable pub dated : ℕ → Option Message → ℕ → List ℕ → List ℕ → List ℕ
dated i None k l d = d
dated i (Some m) k l d = dated_at (place_of i m) k l d

-- after both messages of x, the first first
unfoldable pub dated_both : ℕ → Next → ℕ → List ℕ → List ℕ → List ℕ
dated_both i x k l d = dated i x.second k (hand_over i x.first l) (dated i x.first k l d)
