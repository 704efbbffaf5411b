-- Document 01, "Records and the message store": the places of the store, its entries, and handing over. Assumes nothing.
use Rattle.std.specs.Prelude.{List, [], ◌∷◌, ◌++◌, ℕ, zero, suc, ◌+◌, ◌-◌, ◌*◌, ◌/◌, ◌%◌, get_or, set, drop, replicate, Option, Some, None}
use Rattle.rules.specs.declared.process.Message.{Message}
use Rattle.rules.specs.declared.process.Message.TheVariants.{E, S, F, Decision}
use Rattle.rules.specs.Limits.{greatest_size, values, store_length}

-- the kinds of messages that have a round
abbrev pub kind_e : ℕ
kind_e = 0

abbrev pub kind_s : ℕ
kind_s = 1

abbrev pub kind_f : ℕ
kind_f = 2

-- "Round r, sender p, kind k (E 0, S 1, F 2) stands at (r×16 + p−1)×3 + k"
abbrev pub slot : ℕ → ℕ → ℕ → ℕ
slot r p k = (r * greatest_size + (p - 1)) * 3 + k

-- "the decision of p at 3,072 + p−1": the last 16 places
abbrev pub decision_slot : ℕ → ℕ
decision_slot p = store_length - greatest_size + (p - 1)

-- "Otherwise the entry is proposer × 2^32 + value."
abbrev pub entry_of : ℕ → ℕ → ℕ
entry_of proposer value = proposer * values + value

abbrev pub proposer_of : ℕ → ℕ
proposer_of e = e / values

abbrev pub value_of : ℕ → ℕ
value_of e = e % values

-- where a message of process i stands
unfoldable pub place_of : ℕ → Message → ℕ
place_of i (E r q v) = slot r i kind_e
place_of i (S r) = slot r i kind_s
place_of i (F r q v) = slot r i kind_f
place_of i (Decision v) = decision_slot i

-- its round; 0 where it has none
unfoldable pub message_round : Option Message → ℕ
message_round None = 0
message_round (Some (E r q v)) = r
message_round (Some (S r)) = r
message_round (Some (F r q v)) = r
message_round (Some (Decision v)) = 0

-- its entry. "Suspicions have the sender as proposer and value 0; decisions the sender and the decided value."
unfoldable pub entry_for : ℕ → Message → ℕ
entry_for i (E r q v) = entry_of q v
entry_for i (S r) = entry_of i 0
entry_for i (F r q v) = entry_of q v
entry_for i (Decision v) = entry_of i v

-- "Handing over writes the entry; entries past 3,088 are never touched." The store after process i handed m over, if there is a message
unfoldable pub hand_over : ℕ → Option Message → List ℕ → List ℕ
hand_over i None l = l
hand_over i (Some m) l = set l (place_of i m) (entry_for i m)

-- what is handed over: a message and the process that hands it over
pub record Handed : Type 0 where
  pub sender : ℕ
  pub message : Message

abbrev pub handed : ℕ → Message → Handed
handed i m = record { sender = i; message = m }

-- its place, and its entry: its proposer and its value
abbrev pub place_handed : Handed → ℕ
place_handed h = place_of h.sender h.message

abbrev pub entry_handed : Handed → ℕ
entry_handed h = entry_for h.sender h.message

-- by process i with m, if there is a message
unfoldable pub one : ℕ → Option Message → List Handed
one i None = []
one i (Some m) = handed i m ∷ []

-- "0 means not sent.": 1 for an entry that is sent
abbrev pub sent_bit : ℕ → ℕ
sent_bit zero = 0
sent_bit (suc e) = 1

-- Request 2026-05, "those whose entry was sent before": 1 where process i hands m over to the store l and its entry in l is sent
unfoldable pub repeats : ℕ → Option Message → List ℕ → ℕ
repeats i None l = 0
repeats i (Some m) l = sent_bit (get_or l (place_of i m) 0)

-- the list l with its first n entries 0
unfoldable pub cleared : ℕ → List ℕ → List ℕ
cleared n l = replicate n 0 ++ drop n l

-- how many of the first n entries of l are sent
unfoldable pub sent_in : List ℕ → ℕ → ℕ
sent_in [] n = 0
sent_in (e ∷ l) zero = 0
sent_in (e ∷ l) (suc n) = sent_in l n + sent_bit e
