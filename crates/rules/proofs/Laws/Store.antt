-- The laws of the store's places, of an entry, of one write, of a cleared store, and of handing over. Assumes nothing.
use Rattle.std.specs.Prelude.{Option, Some, None}
use mathlib.Core.Path.{◌≡◌, refl, ap, ◌∙◌}
use mathlib.Core.List.{List, [], ◌∷◌, ◌++◌}
use mathlib.Core.Logic.{◌≢◌}
use Prim.Native.Nat.{ℕ, zero, suc, ◌+◌, ◌-◌, ◌^◌, ◌≤◌, ◌<◌}
use native.Mathlib.Omega.{arith}
use lib.ListN.{length, get_or, set, drop, replicate, length-set, length-append, length-replicate, length-drop, get_or-replicate, get_or-append}
use lib.Seq.{get_or-set_same, get_or-set_other, get_or-append-add, get_or-drop}
use Rattle.rules.specs.declared.process.Message.{Message}
use Rattle.rules.specs.declared.process.Message.TheVariants.{E, S, F, Decision}
use Rattle.rules.specs.Limits.{greatest_size, last_round, store_length}
use Rattle.rules.specs.Start.{first_message, opened}
use Rattle.rules.specs.Store.{slot, decision_slot, entry_of, proposer_of, value_of, place_of, message_round, entry_for, hand_over, one, sent_bit, repeats, cleared, sent_in}

-- ---- places

-- a message's place, within its bounds
pub record Place (r p k : ℕ) : Type 0 where
  pub round : r ≤ last_round
  pub low : 1 ≤ p
  pub high : p ≤ greatest_size
  pub kind : k ≤ 2

-- places are in range
pub slot_lt : (r p k : ℕ) → Place r p k → slot r p k < store_length - greatest_size
slot_lt r p k h = omega arith

pub decision-lt : (p : ℕ) → p ≤ greatest_size → (store_length - greatest_size ≤ decision_slot p) × (decision_slot p < store_length)
decision-lt p h = omega arith

-- and differ: two of messages, two of decisions, and one of each
pub slot_same : (r p k r' p' k' : ℕ) → Place r p k → Place r' p' k' → slot r p k ≡ slot r' p' k' → (r ≡ r') × (p ≡ p') × (k ≡ k')
slot_same r p k r' p' k' h h' e = omega arith

pub decision-same : (p p' : ℕ) → 1 ≤ p → 1 ≤ p' → decision_slot p ≡ decision_slot p' → p ≡ p'
decision-same p p' a b e = omega arith

pub slot-decision : (r p k q : ℕ) → Place r p k → slot r p k ≢ decision_slot q
slot-decision r p k q h e = omega arith

-- ---- entries

-- its parts come out again, and make it up
pub entry-proposer : (proposer value : ℕ) → value < 2 ^ 32 → proposer_of (entry_of proposer value) ≡ proposer
entry-proposer proposer value h = omega arith

pub entry_value : (proposer value : ℕ) → value < 2 ^ 32 → value_of (entry_of proposer value) ≡ value
entry_value proposer value h = omega arith

pub entry-parts : (e : ℕ) → entry_of (proposer_of e) (value_of e) ≡ e
entry-parts e = omega arith

-- it is not 0, and fits 64 bits
pub entry-nonzero : (proposer value : ℕ) → 1 ≤ proposer → entry_of proposer value ≢ 0
entry-nonzero proposer value h e = omega arith

pub entry_lt : (proposer value : ℕ) → proposer ≤ greatest_size → value < 2 ^ 32 → entry_of proposer value < 2 ^ 64
entry_lt proposer value h g = omega arith

-- ---- one write

-- at its own place, and at any other
pub own : (l : List ℕ) (at e : ℕ) → at < length l → get_or (set l at e) at 0 ≡ e
own l at e h = get_or-set_same l at e 0 h

pub other : (l : List ℕ) (at e s : ℕ) → s ≢ at → get_or (set l at e) s 0 ≡ get_or l s 0
other l at e s h = get_or-set_other l at s e 0 h

-- ---- how many are sent

-- what one write does to the count: the old entry's bit goes, and the new one's comes
pub sent-set : (l : List ℕ) (at e n : ℕ) → at < n → n ≤ length l → sent_in (set l at e) n + sent_bit (get_or l at 0) ≡ sent_in l n + sent_bit e
unfolding sent_in
sent-set [] at e n a b = absurd (omega arith)
sent-set (x ∷ l) at e zero a b = absurd (omega arith)
sent-set (x ∷ l) zero e (suc n) a b = omega arith
sent-set (x ∷ l) (suc at) e (suc n) a b = let ih = sent-set l at e n (omega arith) (omega arith) in omega arith

pub bit-sent : (e : ℕ) → e ≢ 0 → sent_bit e ≡ 1
bit-sent zero h = absurd (h refl)
bit-sent (suc e) h = refl

bit-most : (e : ℕ) → sent_bit e ≤ 1
bit-most zero = omega arith
bit-most (suc e) = omega arith

module _ (l : List ℕ) (at e n : ℕ) (a : at < n) (b : n ≤ length l) (h : e ≢ 0) where
  -- a place that was 0 counts one more
  pub sent-more : get_or l at 0 ≡ 0 → sent_in (set l at e) n ≡ sent_in l n + 1
  sent-more z = let old : sent_bit (get_or l at 0) ≡ 0 = ap sent_bit z in omega (arith, sent-set l at e n a b, bit-sent e h)

  -- a place that was not leaves the count
  pub sent-same : get_or l at 0 ≢ 0 → sent_in (set l at e) n ≡ sent_in l n
  sent-same z = omega (arith, sent-set l at e n a b, bit-sent e h, bit-sent (get_or l at 0) z)

-- a write past the first n does not count
pub sent-past : (l : List ℕ) (at e n : ℕ) → n ≤ at → sent_in (set l at e) n ≡ sent_in l n
unfolding sent_in
sent-past [] at e n a = refl
sent-past (x ∷ l) zero e zero a = refl
sent-past (x ∷ l) zero e (suc n) a = absurd (omega arith)
sent-past (x ∷ l) (suc at) e zero a = refl
sent-past (x ∷ l) (suc at) e (suc n) a = ap (λ (m : ℕ). m + sent_bit x) (sent-past l at e n (omega arith))

-- ---- a store that is cleared

-- its length, and its entries
pub cleared-length : (n : ℕ) (l : List ℕ) → n ≤ length l → length (cleared n l) ≡ length l
unfolding cleared
cleared-length n l h = simp (length-append, length-replicate, length-drop) (omega arith)

pub cleared-below : (n : ℕ) (l : List ℕ) (i : ℕ) → i < n → get_or (cleared n l) i 0 ≡ 0
unfolding cleared
cleared-below n l i h =
    get_or-append (replicate n 0) (drop n l) 0 i (omega (arith, length-replicate {A = ℕ} n 0)) ∙ get_or-replicate n i 0 0 h

pub cleared-past : (n : ℕ) (l : List ℕ) (i : ℕ) → n ≤ i → get_or (cleared n l) i 0 ≡ get_or l i 0
unfolding cleared
cleared-past n l i h =
    ap (λ (k : ℕ). get_or (replicate n 0 ++ drop n l) k 0) (omega (arith, length-replicate {A = ℕ} n 0))
    ∙ get_or-append-add (replicate n 0) (drop n l) (i - n) 0 ∙ get_or-drop n l (i - n) 0 ∙ ap (λ (k : ℕ). get_or l k 0) (omega arith)

-- nothing is sent in it
pub cleared-sent : (n : ℕ) (l : List ℕ) → n ≤ length l → sent_in (cleared n l) n ≡ 0
unfolding sent_in cleared
cleared-sent zero [] h = refl
cleared-sent zero (x ∷ l) h = refl
cleared-sent (suc n) [] h = absurd (omega arith)
cleared-sent (suc n) (x ∷ l) h = let ih = cleared-sent n l (omega arith) in omega arith

-- ---- handing over

-- a message, and not none; its place and its entry, where it is one
abbrev pub IsMessage : Option Message → Type 0
IsMessage None = ⊥
IsMessage (Some m) = Unit {0}

abbrev pub place_by : ℕ → Option Message → ℕ
place_by i None = 0
place_by i (Some m) = place_of i m

abbrev pub entry_by : ℕ → Option Message → ℕ
entry_by i None = 0
entry_by i (Some m) = entry_for i m

pub place-lt : (i : ℕ) (m : Option Message) → i ≤ greatest_size → message_round m ≤ last_round → place_by i m < store_length
unfolding place_of message_round
place-lt i None a b = omega arith
place-lt i (Some (E r q v)) a b = omega arith
place-lt i (Some (S r)) a b = omega arith
place-lt i (Some (F r q v)) a b = omega arith
place-lt i (Some (Decision v)) a b = omega arith

-- what is true of the store itself with nothing counted, and of the store with the entry written, one message, and one repeat where its old entry is sent, is true after handing over
pub counting : (P : List ℕ → ℕ → ℕ → Type 0) (i : ℕ) (m : Option Message) (l : List ℕ) → (¬ IsMessage m → P l 0 0)
    → (IsMessage m → P (set l (place_by i m) (entry_by i m)) 1 (sent_bit (get_or l (place_by i m) 0)))
    → P (hand_over i m l) (length (one i m)) (repeats i m l)
unfolding hand_over one repeats
counting P i None l a b = a (λ x. x)
counting P i (Some m) l a b = b tt

-- so of the store alone
pub handing : (P : List ℕ → Type 0) (i : ℕ) (m : Option Message) (l : List ℕ) → (¬ IsMessage m → P l) → (IsMessage m → P (set l (place_by i m) (entry_by i m)))
    → P (hand_over i m l)
handing P = counting (λ k s t. P k)

module _ (i : ℕ) (m : Option Message) (l : List ℕ) where
  -- at most one message is counted, and a repeat is one
  pub counted-once : (length (one i m) ≤ 1) × (repeats i m l ≤ length (one i m))
  counted-once =
      counting (λ k s t. (s ≤ 1) × (t ≤ s)) i m l (λ no. (omega arith, omega arith)) (λ is. (omega arith, bit-most (get_or l (place_by i m) 0)))

  -- the store keeps its length
  pub hand_over-length : length (hand_over i m l) ≡ length l
  hand_over-length =
      handing (λ (k : List ℕ). length k ≡ length l) i m l (λ no. refl) (λ is. length-set l (place_by i m) (entry_by i m))

  -- the message's own place has its entry
  pub hand_over-own : IsMessage m → place_by i m < length l → get_or (hand_over i m l) (place_by i m) 0 ≡ entry_by i m
  hand_over-own is lt =
      handing (λ (k : List ℕ). get_or k (place_by i m) 0 ≡ entry_by i m) i m l (λ no. absurd (no is))
      (λ is. own l (place_by i m) (entry_by i m) lt)

  -- any other place has the old one
  pub hand_over-other : (s : ℕ) → s ≢ place_by i m → get_or (hand_over i m l) s 0 ≡ get_or l s 0
  hand_over-other s ne =
      handing (λ (k : List ℕ). get_or k s 0 ≡ get_or l s 0) i m l (λ no. refl)
      (λ is. other l (place_by i m) (entry_by i m) s ne)

  module _ (hi : i ≤ greatest_size) (le : message_round m ≤ last_round) where
    -- entries past the store are not touched
    pub hand_over-past : (s : ℕ) → store_length ≤ s → get_or (hand_over i m l) s 0 ≡ get_or l s 0
    hand_over-past s h = hand_over-other s (omega (arith, place-lt i m hi le))

    -- the messages handed over are the entries that turn from 0 and the repeats
    pub hand_over-sent : store_length ≤ length l → (IsMessage m → entry_by i m ≢ 0)
        → sent_in (hand_over i m l) store_length + repeats i m l ≡ sent_in l store_length + length (one i m)
    hand_over-sent long ne =
        counting (λ k s t. sent_in k store_length + t ≡ sent_in l store_length + s) i m l (λ no. omega arith)
        (λ is. omega (arith, sent-set l (place_by i m) (entry_by i m) store_length (place-lt i m hi le) long, bit-sent (entry_by i m) (ne is)))

    -- where the entry was 0 one more is sent, and never fewer
    pub hand_over-new : store_length ≤ length l → (IsMessage m → entry_by i m ≢ 0) → IsMessage m → get_or l (place_by i m) 0 ≡ 0
        → sent_in (hand_over i m l) store_length ≡ sent_in l store_length + 1
    hand_over-new long ne is z =
        handing (λ k. sent_in k store_length ≡ sent_in l store_length + 1) i m l (λ no. absurd (no is))
        (λ is. sent-more l (place_by i m) (entry_by i m) store_length (place-lt i m hi le) long (ne is) z)

    pub hand_over-more : store_length ≤ length l → (IsMessage m → entry_by i m ≢ 0) → sent_in l store_length ≤ sent_in (hand_over i m l) store_length
    hand_over-more long ne =
        handing (λ k. sent_in l store_length ≤ sent_in k store_length) i m l (λ no. omega arith)
        (λ is.
        omega (
          arith,
          sent-set l (place_by i m) (entry_by i m) store_length (place-lt i m hi le) long,
          bit-sent (entry_by i m) (ne is),
          bit-most (get_or l (place_by i m) 0),
        ))

-- ---- the store of a start: process 1's first message, and nothing else

module _ (v : ℕ) (l : List ℕ) (long : store_length ≤ length l) where
  pub opened-length : length (opened v l) ≡ length l
  unfolding opened
  opened-length = hand_over-length 1 (Some (first_message v)) (cleared store_length l) ∙ cleared-length store_length l long

  pub opened-own : get_or (opened v l) 0 0 ≡ entry_of 1 v
  unfolding opened place_of entry_for
  opened-own =
      hand_over-own 1 (Some (first_message v)) (cleared store_length l) tt (omega (arith, cleared-length store_length l long))

  pub opened-other : (s : ℕ) → s ≢ 0 → s < store_length → get_or (opened v l) s 0 ≡ 0
  unfolding opened place_of
  opened-other s ne lt = hand_over-other 1 (Some (first_message v)) (cleared store_length l) s ne ∙ cleared-below store_length l s lt

  pub opened-past : (s : ℕ) → store_length ≤ s → get_or (opened v l) s 0 ≡ get_or l s 0
  unfolding opened place_of
  opened-past s le =
      hand_over-other 1 (Some (first_message v)) (cleared store_length l) s (omega arith) ∙ cleared-past store_length l s le

  pub opened-sent : sent_in (opened v l) store_length ≡ 1
  unfolding opened message_round entry_for place_of
  opened-sent =
      let room = cleared-length store_length l long in
      omega (
        arith,
        hand_over-new 1 (Some (first_message v)) (cleared store_length l) (omega arith) (omega arith) (omega arith) (λ is. entry-nonzero 1 v (omega arith)) tt
            (cleared-below store_length l 0 (omega arith)),
        cleared-sent store_length l long,
      )
