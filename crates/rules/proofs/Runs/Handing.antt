-- Statement 5: an entry of the store is not 0 exactly where the start or a step handed its message over, so that refusal 6 comes exactly where none did.
-- Assumes nothing.
use Rattle.std.specs.Prelude.{Option, Some, None}
use mathlib.Core.Path.{◌≡◌, refl, sym, ap, subst, ◌∙◌}
use mathlib.Core.Bool.{Bool, true, false, not}
use mathlib.Core.List.{List, [], ◌∷◌, ◌++◌, append-nil, append_assoc}
use mathlib.Core.Logic.{◌↔◌, ◌⊎◌, ◌≢◌, inl, inr}
use Prim.Native.Nat.{ℕ, ◌≤◌, ◌<◌, zero-le}
use native.Mathlib.Nat.{le_trans}
use native.Mathlib.Decide.{ℕ_discrete}
use native.Mathlib.Omega.{arith}
use lib.Dec.{eqb, ltb}
use lib.ListN.{length, get_or}
use borrow.Author.Tests.{ltb-false, le-ltb, eqb-true, eq-eqb}
use Rattle.rules.specs.declared.group.Group.{Group}
use Rattle.rules.specs.declared.process.Message.{Message}
use Rattle.rules.specs.declared.process.Message.TheVariants.{E, S, F, Decision}
use Rattle.rules.specs.declared.step.Step.{Step}
use Rattle.rules.specs.declared.step.Step.TheVariants.{DeliverE, DeliverS, DeliverF, DeliverDecision, Suspect, Pause, Crash, Recover}
use Rattle.rules.specs.Refusals.{row, every, short, strange, late, down, unsent, misnamed, impossible, recovers_past, enters_past}
use Rattle.rules.specs.Start.{first_message, opened}
use Rattle.rules.specs.Step.{Course, Idles, Refuses, Takes, handed_of, hand_overs}
use Rattle.rules.specs.Run.{handed_by_course}
use Rattle.rules.specs.Safety.{Delivers, In, Among}
use Rattle.rules.proofs.Bare.Run.{State, start_state, next, after, handed_by, handed_in, handed_from}
use Rattle.rules.proofs.Bare.Statements.{Begins, at, RefusalSix}
use Rattle.rules.proofs.Bare.Step.{begun, damaged, refusal_by, refusal, course, settled, stepped}
use Rattle.rules.specs.Limits.{greatest_size, last_round, store_length, among}
use Rattle.rules.specs.Store.{kind_e, kind_s, kind_f, place_of, message_round, hand_over, Handed, handed, one, cleared}
use Rattle.rules.specs.Kinds.{numbers_of, round_of, delivers, slot_of, entry_in}
use Rattle.rules.specs.Safety.In.{here, later}
use Rattle.rules.proofs.Laws.Bool.{and_right, and_both}
use Rattle.rules.proofs.Laws.Store.{Place, slot_same, place-lt, hand_over-length, hand_over-own, hand_over-other, cleared-length, cleared-below}
use Rattle.rules.proofs.Laws.Sound.{named-entry, second-among, Named, Fine, course-fine, sound-facts}
use Rattle.rules.proofs.Runs.Basics.{Basic, basic, basic-start, basic-next, start_is}

-- ---- the message that a step delivers, by its place

-- the step delivers a message that has a place in the store
abbrev pub Addresses : Step → Type 0
Addresses (DeliverE i j r c) = Place r j kind_e
Addresses (DeliverS i j r c) = Place r j kind_s
Addresses (DeliverF i j r c) = Place r j kind_f
Addresses (DeliverDecision i j c) = (1 ≤ j) × (j ≤ greatest_size)
Addresses (Suspect i c) = ⊥
Addresses (Pause i) = ⊥
Addresses (Crash i) = ⊥
Addresses (Recover i) = ⊥

-- it is in range
pub address-lt : (s : Step) → Addresses s → slot_of s < store_length
unfolding slot_of
address-lt (DeliverE i j r c) h = omega arith
address-lt (DeliverS i j r c) h = omega arith
address-lt (DeliverF i j r c) h = omega arith
address-lt (DeliverDecision i j c) h = omega arith
address-lt (Suspect i c) h = absurd h
address-lt (Pause i) h = absurd h
address-lt (Crash i) h = absurd h
address-lt (Recover i) h = absurd h

-- the place of a message from j of round r and kind k
placed : (n i j r k : ℕ) → n ≤ greatest_size → k ≤ 2 → not (every (among n) (i ∷ j ∷ [])) ≡ false → ltb last_round r ≡ false → Place r j k
placed n i j r k h kind known early =
    let from = second-among n i j [] known in
    record { round = ltb-false last_round r early; low = from.0; high = le_trans from.1 h; kind = kind }

-- a delivery that rows 3 and 4 do not stop has one
pub addressed : (g : Group) (s : Step) → g.n ≤ greatest_size → delivers s ≡ true → strange g s ≡ false → late s ≡ false → Addresses s
unfolding delivers strange numbers_of late round_of
addressed g (DeliverE i j r c) h d k e = placed g.n i j r kind_e h (omega arith) k e
addressed g (DeliverS i j r c) h d k e = placed g.n i j r kind_s h (omega arith) k e
addressed g (DeliverF i j r c) h d k e = placed g.n i j r kind_f h (omega arith) k e
addressed g (DeliverDecision i j c) h d k e = let from = second-among g.n i j [] k in (from.0, le_trans from.1 h)
addressed g (Suspect i c) h d k e = let z : ◌≡◌ {A = ℕ} 0 1 = cc in absurd (omega arith)
addressed g (Pause i) h d k e = let z : ◌≡◌ {A = ℕ} 0 1 = cc in absurd (omega arith)
addressed g (Crash i) h d k e = let z : ◌≡◌ {A = ℕ} 0 1 = cc in absurd (omega arith)
addressed g (Recover i) h d k e = let z : ◌≡◌ {A = ℕ} 0 1 = cc in absurd (omega arith)

-- the message that a step delivers stands at its place
delivered-place : (s : Step) (i : ℕ) (m : Message) → Delivers s (handed i m) → slot_of s ≡ place_of i m
unfolding Delivers slot_of place_of
delivered-place (DeliverE t j r c) i m d = sym (ap (λ (h : Handed). place_of h.sender h.message) d.2)
delivered-place (DeliverS t j r c) i m d = sym (ap (λ (h : Handed). place_of h.sender h.message) d)
delivered-place (DeliverF t j r c) i m d = sym (ap (λ (h : Handed). place_of h.sender h.message) d.2)
delivered-place (DeliverDecision t j c) i m d = sym (ap (λ (h : Handed). place_of h.sender h.message) d.1)
delivered-place (Suspect t c) i m d = absurd d
delivered-place (Pause t) i m d = absurd d
delivered-place (Crash t) i m d = absurd d
delivered-place (Recover t) i m d = absurd d

-- and no other message does
pub place-delivered : (s : Step) (i : ℕ) (m : Message) → Addresses s → 1 ≤ i → i ≤ greatest_size → message_round (Some m) ≤ last_round
    → slot_of s ≡ place_of i m → Delivers s (handed i m)
unfolding Delivers slot_of place_of message_round
place-delivered (DeliverE t j r c) i (E k q v) h lo hi le e =
    let same = slot_same k i kind_e r j kind_e (record { round = le; low = lo; high = hi; kind = omega arith }) h (sym e) in
    (q, v, λ x. handed (same.1 x) (E (same.0 x) q v))
place-delivered (DeliverE t j r c) i (S k) h lo hi le e = absurd (omega arith)
place-delivered (DeliverE t j r c) i (F k q v) h lo hi le e = absurd (omega arith)
place-delivered (DeliverE t j r c) i (Decision v) h lo hi le e = absurd (omega arith)
place-delivered (DeliverS t j r c) i (E k q v) h lo hi le e = absurd (omega arith)
place-delivered (DeliverS t j r c) i (S k) h lo hi le e =
    let same = slot_same k i kind_s r j kind_s (record { round = le; low = lo; high = hi; kind = omega arith }) h (sym e) in
    λ x. handed (same.1 x) (S (same.0 x))
place-delivered (DeliverS t j r c) i (F k q v) h lo hi le e = absurd (omega arith)
place-delivered (DeliverS t j r c) i (Decision v) h lo hi le e = absurd (omega arith)
place-delivered (DeliverF t j r c) i (E k q v) h lo hi le e = absurd (omega arith)
place-delivered (DeliverF t j r c) i (S k) h lo hi le e = absurd (omega arith)
place-delivered (DeliverF t j r c) i (F k q v) h lo hi le e =
    let same = slot_same k i kind_f r j kind_f (record { round = le; low = lo; high = hi; kind = omega arith }) h (sym e) in
    (q, v, λ x. handed (same.1 x) (F (same.0 x) q v))
place-delivered (DeliverF t j r c) i (Decision v) h lo hi le e = absurd (omega arith)
place-delivered (DeliverDecision t j c) i (E k q v) h lo hi le e = absurd (omega arith)
place-delivered (DeliverDecision t j c) i (S k) h lo hi le e = absurd (omega arith)
place-delivered (DeliverDecision t j c) i (F k q v) h lo hi le e = absurd (omega arith)
place-delivered (DeliverDecision t j c) i (Decision v) h lo hi le e =
    let a : i ≡ j = omega arith in
    (v, λ x. handed (a x) (Decision v))
place-delivered (Suspect t c) i m h lo hi le e = absurd h
place-delivered (Pause t) i m h lo hi le e = absurd h
place-delivered (Crash t) i m h lo hi le e = absurd h
place-delivered (Recover t) i m h lo hi le e = absurd h

-- ---- lists of messages

-- in the first list, and in the second
in_left : {h : Handed} {hs : List Handed} (ks : List Handed) → In h hs → In h (hs ++ ks)
in_left ks here = here
in_left ks (later a) = later (in_left ks a)

in_right : {h : Handed} (hs : List Handed) {ks : List Handed} → In h ks → In h (hs ++ ks)
in_right [] a = a
in_right (k ∷ hs) a = later (in_right hs a)

-- nothing stands in the empty list
abbrev pub Any : List Handed → Type 0
Any [] = ⊥
Any (h ∷ hs) = Unit {0}

pub in_some : {h : Handed} {hs : List Handed} → In h hs → Any hs
in_some here = tt
in_some (later a) = tt

-- in a list of one
pub in_one : {h k : Handed} → In h (k ∷ []) → h ≡ k
in_one here = refl
in_one {h = h} {k = k} (later x) = elim x [ ]

-- in two lists: in the one or in the other
either : {h k : Handed} {hs ks : List Handed} → In h hs ⊎ In h ks → In h (k ∷ hs) ⊎ In h ks
either (inl a) = inl (later a)
either (inr a) = inr a

pub in-cases : {h : Handed} (hs : List Handed) {ks : List Handed} → In h (hs ++ ks) → In h hs ⊎ In h ks
in-cases [] a = inr a
in-cases (k ∷ hs) here = inl here
in-cases (k ∷ hs) (later a) = either (in-cases hs a)

-- ---- the store tells what was handed over

-- the entry of a message is not 0 exactly where the message is in the list
abbrev pub Tells : List ℕ → List Handed → Type 0
Tells l hs = (s : Step) → Addresses s → (get_or l (slot_of s) 0 ≢ 0) ↔ Among s hs

module _ (n i : ℕ) (lo : 1 ≤ i) (hi : i ≤ greatest_size) (l : List ℕ) (hs : List Handed) (long : store_length ≤ length l) (t : Tells l hs) where
  -- one more message
  tells_more : (m : Message) → message_round (Some m) ≤ last_round → Named n (Some m) → Tells (hand_over i (Some m) l) (hs ++ (handed i m ∷ []))
  tells_more m le named s h = go (ℕ_discrete (slot_of s) (place_of i m))
    where
      go : Dec (slot_of s ≡ place_of i m) → (get_or (hand_over i (Some m) l) (slot_of s) 0 ≢ 0) ↔ Among s (hs ++ (handed i m ∷ []))
      go (yes e) = (
        λ ne. record { handed = handed i m; stands = in_right hs here; delivered = place-delivered s i m h lo hi le e },
        λ a z. named-entry n i (Some m) lo named tt
            (sym (hand_over-own i (Some m) l tt (omega (arith, place-lt i (Some m) hi le))) ∙ ap (λ (k : ℕ). get_or (hand_over i (Some m) l) k 0) (sym e) ∙ z),
      )
      go (no ne) =
          let same = hand_over-other i (Some m) l (slot_of s) ne in (
            λ sent.
                let a = (t s h).0 (λ z. sent (same ∙ z)) in
                record { handed = a.handed; stands = in_left (handed i m ∷ []) a.stands; delivered = a.delivered },
            λ a z. split a.handed a.delivered (in-cases hs a.stands) (sym same ∙ z),
          )
        where
          split : (k : Handed) → Delivers s k → In k hs ⊎ In k (handed i m ∷ []) → get_or l (slot_of s) 0 ≢ 0
          split k d (inl a) = (t s h).1 (record { handed = k; stands = a; delivered = d })
          split k d (inr a) = λ z. ne (delivered-place s i m (subst (Delivers s) (in_one a) d))

  -- what one place of an event holds
  tells-one : (m : Option Message) → message_round m ≤ last_round → Named n m → Tells (hand_over i m l) (hs ++ one i m)
  unfolding hand_over one
  tells-one None le named = rw (append-nil hs) t
  tells-one (Some m) le named = tells_more m le named

-- the cleared store, and the start's
tells-start : (v : ℕ) (l : List ℕ) → store_length ≤ length l → Tells (opened v l) (handed 1 (first_message v) ∷ [])
unfolding opened one message_round
tells-start v l long =
    tells-one 1 1 (omega arith) (omega arith) (cleared store_length l) [] (omega (arith, cleared-length store_length l long)) clear
    (Some (first_message v)) zero-le (omega arith, omega arith)
  where
    clear : Tells (cleared store_length l) []
    clear s h = (λ ne. absurd (ne (cleared-below store_length l (slot_of s) (address-lt s h))), λ a. absurd (in_some a.stands))

-- one step
module _ (g : Group) (l : List ℕ) (hs : List Handed) (long : store_length ≤ length l) (t : Tells l hs) where
  tells-course : (c : Course) → Fine g.n c → Tells (settled g l c).store (hs ++ handed_by_course c)
  unfolding settled hand_overs handed_of handed_by_course
  tells-course Idles f = rw (append-nil hs) t
  tells-course (Refuses k) f = rw (append-nil hs) t
  tells-course (Takes i x) f =
      let once = hand_over i x.first l in
      let first = tells-one g.n i f.low f.small l hs long t x.first f.first f.first-named in
      let second =
      tells-one g.n i f.low f.small once (hs ++ one i x.first) (omega (arith, hand_over-length i x.first l)) first
      x.second f.second f.second-named in
      rw (← append_assoc hs (one i x.first) (one i x.second)) second

tells-next : (a : State) (s : Step) (hs : List Handed) → store_length ≤ length a.store → Tells a.store hs
    → Tells (next a s).store (hs ++ handed_by a s)
unfolding next stepped handed_by
tells-next a s hs long t =
    tells-course a.group a.store hs long t (course a.group a.store s) (course-fine a.group a.store s)

-- any steps
tells-after : (vs : List ℕ) (a : State) (ss : List Step) (hs : List Handed) → Basic vs a → Tells a.store hs
    → Tells (after a ss).store (hs ++ handed_in a ss)
unfolding after handed_in
tells-after vs a [] hs b t = rw (append-nil hs) t
tells-after vs a (s ∷ ss) hs b t =
    rw (← append_assoc hs (handed_by a s) (handed_in (next a s) ss))
    (tells-after vs (next a s) ss (hs ++ handed_by a s) (basic-next vs a s b) (tells-next a s hs b.long t))

-- every state of a run
pub tells : (vs l : List ℕ) (ss : List Step) → Begins vs l → Tells (at vs l ss).store (handed_from vs l ss)
unfolding handed_from begun
tells vs l ss b =
    tells-after vs (start_state vs l) ss (handed 1 (first_message (get_or vs 0 0)) ∷ []) (basic-start vs l b)
    (subst (λ (a : State). Tells a.store (handed 1 (first_message (get_or vs 0 0)) ∷ [])) (sym (start_is vs l b))
    (tells-start (get_or vs 0 0) l b.long))

-- ---- refusal 6

-- the rows from 6 on give 6 where the row's own test holds, and only there
row-six : (u a b m c : Bool) → (row u 6 (row a 2 (row b 7 (row m 13 (row c 8 0)))) ≡ 6) ↔ (u ≡ true)
unfolding row
row-six true a b m c = (λ e. refl, λ e. refl)
row-six false true b m c = (λ e. absurd (omega arith), λ e. cc)
row-six false false true m c = (λ e. absurd (omega arith), λ e. cc)
row-six false false false true c = (λ e. absurd (omega arith), λ e. cc)
row-six false false false false true = (λ e. absurd (omega arith), λ e. cc)
row-six false false false false false = (λ e. absurd (omega arith), λ e. cc)

-- of a delivery that none of 11 to 5 stops, these rows are all that is left
left-rows : (g : Group) (l : List ℕ) (s : Step) → store_length ≤ length l → damaged g ≡ false → strange g s ≡ false → late s ≡ false → down g s ≡ false
    → refusal g l s ≡ row (unsent l s) 6 (row (misnamed g l s) 2 (row (impossible g s) 7 (row (recovers_past g s) 13 (row (enters_past g l s) 8 0))))
unfolding refusal refusal_by row short
left-rows g l s long sound numbers round up = rw (le-ltb (length l) store_length long, sound, numbers, round, up)

-- a delivery is unsent where its entry is 0
unsent-zero : (l : List ℕ) (s : Step) → delivers s ≡ true → (unsent l s ≡ true) ↔ (get_or l (slot_of s) 0 ≡ 0)
unfolding unsent entry_in
unsent-zero l s d = (
  λ e. eqb-true (get_or l (slot_of s) 0) 0 (and_right (delivers s) (eqb (get_or l (slot_of s) 0) 0) e),
  λ e. and_both (delivers s) (eqb (get_or l (slot_of s) 0) 0) d (eq-eqb (get_or l (slot_of s) 0) 0 e),
)

-- refusal 6 comes exactly where the message was not handed over
pub refusal-six : RefusalSix
refusal-six vs l ss b s h =
    let a = at vs l ss in
    let k = basic vs l ss b in
    let told = tells vs l ss b s (addressed a.group s (sound-facts a.group k.sound).high h.delivery h.numbers h.round) in
    let rows = left-rows a.group a.store s k.long k.sound h.numbers h.round h.up in
    let six = row-six (unsent a.store s) (misnamed a.group a.store s) (impossible a.group s) (recovers_past a.group s) (enters_past a.group a.store s) in
    let empty = unsent-zero a.store s h.delivery in (
      λ e am. told.1 am (empty.0 (six.0 (sym rows ∙ e))),
      λ none. rows ∙ six.1 (empty.1 (go none told (ℕ_discrete (get_or a.store (slot_of s) 0) 0))),
    )
  where
    go : {A : Type 0} {k : ℕ} → ¬ A → (k ≢ 0) ↔ A → Dec (k ≡ 0) → k ≡ 0
    go none told (yes e) = e
    go none told (no ne) = absurd (none (told.0 ne))
