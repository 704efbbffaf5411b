-- What one step of a run with depths does to the depth of a process and to the depth of a message. Assumes nothing.
use Rattle.std.specs.Prelude.{Option, Some, None}
use mathlib.Core.Path.{◌≡◌, refl, sym, ap, subst, ◌∙◌}
use mathlib.Core.Bool.{Bool, true, false, ◌&&◌, not}
use mathlib.Core.List.{List}
use mathlib.Core.Logic.{◌≢◌}
use Prim.Native.Nat.{ℕ, zero, suc, ◌+◌, ◌≤◌, ◌<◌, max}
use native.Mathlib.Decide.{ℕ_discrete}
use native.Mathlib.Omega.{arith}
use lib.Dec.{eqb}
use lib.ListN.{length, get_or, set}
use borrow.Author.Tests.{eq-eqb}
use Rattle.rules.specs.declared.group.Group.{Group}
use Rattle.rules.specs.declared.process.Message.{Message}
use Rattle.rules.specs.declared.process.Message.TheVariants.{E, S, F, Decision}
use Rattle.rules.specs.declared.process.Next.{Next}
use Rattle.rules.specs.declared.step.Step.{Step}
use Rattle.rules.specs.declared.step.Step.TheVariants.{DeliverE, DeliverS, DeliverF, DeliverDecision, Suspect, Pause, Crash, Recover}
use Rattle.rules.specs.Depths.{delivered_depth, raises, raised, depth_after, dated_if, dated, dated_both}
use Rattle.rules.specs.Refusals.{refusal}
use Rattle.rules.specs.Step.{Course, Idles, Refuses, Takes, idles, or_idle, unless_refused, hand_overs, course, settled, stepped}
use Rattle.rules.specs.Run.{State, next, after}
use Rattle.rules.specs.Safety.{process_depth, message_depth, says, Delivers, sender_of, Link}
use Rattle.rules.specs.Limits.{greatest_size, last_round, store_length}
use Rattle.rules.specs.Layout.{process_at, with_process, depth_at, with_depth, forgetting}
use Rattle.rules.specs.Store.{place_of, message_round, hand_over, Handed, handed}
use Rattle.rules.proofs.Laws.Store.{place_by, entry_by}
use Rattle.rules.specs.Events.{on_crash, cut_if}
use Rattle.rules.specs.Kinds.{taker_of, delivers, slot_of, is_cut, event_of}
use Rattle.rules.specs.Idle.{idle}
use Rattle.rules.proofs.Laws.Store.{IsMessage, place-lt, own, other}
use Rattle.rules.proofs.Laws.Group.{sized-with}
use Rattle.rules.proofs.Laws.Sound.{named-entry, Taking, Fine}
use Rattle.rules.proofs.Laws.Passing.{DeepPassed, deep-passed, dating, dated-length}
use Rattle.rules.proofs.Laws.Group.{depth-put, depth-kept, depth-with}
use Rattle.rules.proofs.Runs.Cases.{never, handed-by}
use Rattle.rules.proofs.Runs.Handing.{Addresses, place-delivered}
use Rattle.rules.proofs.Depths.Basics.{DeepBasic, deep-fine, next-forgets, deep-throughout}
use Rattle.rules.proofs.Runs.Entries.{step_stays}
use Rattle.rules.proofs.Bare.Run.{State as Bare}
use Rattle.rules.proofs.Bare.Run as run

-- ---- the course

module _ (P : Course → Type 0) (g : Group) (l d : List ℕ) (s : Step) where
  -- it refuses, idles, crashes by the cut of an idle delivery, or takes the event, cut or not
  pub deep-by : P Idles → ((k : ℕ) → P (Refuses k))
      → (DeepPassed g l d s → idle g s ≡ true → P (Takes (taker_of s) (on_crash (process_at g (taker_of s)))))
      → (DeepPassed g l d s → idle g s ≡ false → P (Takes (taker_of s) (cut_if (is_cut s) (event_of g l s))))
      → P (course g l d s)
  unfolding course unless_refused or_idle idles
  deep-by none refuse crash take = go (refusal g l d s) refl
    where
      passed : (t c : Bool) → idle g s ≡ t → is_cut s ≡ c → DeepPassed g l d s
          → P (or_idle t c (taker_of s) (process_at g (taker_of s)) (event_of g l s))
      passed true true e f h = crash h e
      passed true false e f h = none
      passed false c e f h = subst (λ (d : Bool). P (Takes (taker_of s) (cut_if d (event_of g l s)))) f (take h e)

      go : (k : ℕ) → refusal g l d s ≡ k → P (unless_refused k g l s)
      go zero e = passed (idle g s) (is_cut s) refl refl (deep-passed g l d s e)
      go (suc k) e = refuse (suc k)

-- ---- the depth of a process

module _ (vs : List ℕ) (a : State) (h : DeepBasic vs a) (s : Step) where
  abbrev g : Group
  g = a.group

  abbrev l : List ℕ
  l = a.store

  abbrev d : List ℕ
  d = a.depths

  -- the depth of the taker after the step, by what the step is
  after-heard : delivers s ≡ true → idle g s ≡ false → depth_after g d s ≡ max (depth_at g (taker_of s)) (delivered_depth d s + 1)
  unfolding depth_after raises raised
  after-heard e f = rw (e, f)

  after-unheard : (delivers s && not (idle g s)) ≡ false → depth_after g d s ≡ depth_at g (taker_of s)
  unfolding depth_after raises raised
  after-unheard e = rw e

  -- the depth that a course leaves to its taker, and to the others
  own-depth : (x : Next) → Taking g.n (taker_of s) x → (k : ℕ) → depth_at (with_depth (with_process g (taker_of s) x.process) (taker_of s) k) (taker_of s) ≡ k
  own-depth x t k = depth-put (with_process g (taker_of s) x.process) (taker_of s) k (sized-with g (taker_of s) x.process h.sized) t.low t.small

  other-depth : (x : Next) → Taking g.n (taker_of s) x → (k i : ℕ) → 1 ≤ i → i ≢ taker_of s
      → depth_at (with_depth (with_process g (taker_of s) x.process) (taker_of s) k) i ≡ depth_at g i
  other-depth x t k i lo ne =
      depth-kept (with_process g (taker_of s) x.process) (taker_of s) k i t.low lo ne ∙ depth-with g (taker_of s) x.process i

  -- "A delivery that is not idle raises the receiver's depth to the message's depth plus one, if that is more"
  pub depth-heard : Link a s → process_depth (next a s) (taker_of s) ≡ max (process_depth a (taker_of s)) (message_depth a (slot_of s) + 1)
  unfolding next stepped settled delivered_depth
  depth-heard e =
      deep-by P g l d s (λ f t. never refl t) (λ k f t. never refl t) (λ p i f t. never e.not-idle i)
      (λ p i f t. own-depth (cut_if (is_cut s) (event_of g l s)) f (depth_after g d s) ∙ after-heard e.delivery e.not-idle)
      (deep-fine vs a h s) e.applied
    where
      P : Course → Type 0
      P c = Fine g.n c → (settled g l d (depth_after g d s) c).says.applied ≡ true
          → depth_at (settled g l d (depth_after g d s) c).group (taker_of s) ≡ max (process_depth a (taker_of s)) (message_depth a (slot_of s) + 1)

  -- no other step changes it
  pub depth-unheard : (i : ℕ) → 1 ≤ i → (Link a s → taker_of s ≢ i) → process_depth (next a s) i ≡ process_depth a i
  unfolding next stepped settled
  depth-unheard i lo unless =
      deep-by P g l d s (λ f t. refl) (λ k f t. refl)
      (λ p e f t. put (on_crash (process_at g (taker_of s))) f (λ z. after-unheard (rw e (and_no (delivers s)))))
      (λ p e f t. put (cut_if (is_cut s) (event_of g l s)) f (λ z. go z (delivers s) refl t e))
      (deep-fine vs a h s) (λ r. r)
    where
      P : Course → Type 0
      P c = Fine g.n c → ((settled g l d (depth_after g d s) c).says.applied ≡ true → (says a s).applied ≡ true)
          → depth_at (settled g l d (depth_after g d s) c).group i ≡ depth_at g i

      and_no : (b : Bool) → (b && false) ≡ false
      and_no true = refl
      and_no false = refl

      put : (x : Next) → Taking g.n (taker_of s) x → (i ≡ taker_of s → depth_after g d s ≡ depth_at g (taker_of s))
          → depth_at (with_depth (with_process g (taker_of s) x.process) (taker_of s) (depth_after g d s)) i ≡ depth_at g i
      put x t same = by (ℕ_discrete i (taker_of s))
        where
          by : Dec (i ≡ taker_of s) → depth_at (with_depth (with_process g (taker_of s) x.process) (taker_of s) (depth_after g d s)) i ≡ depth_at g i
          by (yes e) =
              ap (depth_at (with_depth (with_process g (taker_of s) x.process) (taker_of s) (depth_after g d s))) e
              ∙ own-depth x t (depth_after g d s) ∙ same e ∙ ap (depth_at g) (sym e)
          by (no ne) = other-depth x t (depth_after g d s) i lo ne

      go : i ≡ taker_of s → (b : Bool) → delivers s ≡ b → (true ≡ true → (says a s).applied ≡ true) → idle g s ≡ false → depth_after g d s ≡ depth_at g (taker_of s)
      go z true e t f = absurd (unless (record { delivery = e; applied = t refl; not-idle = f }) (sym z))
      go z false e t f = after-unheard (rw e)

-- ---- the depth of a message

module _ (i : ℕ) (m : Option Message) (k : ℕ) (l d : List ℕ) where
  -- where its entry is sent, the depth at a place stays
  dated-sent : (q : ℕ) → get_or l q 0 ≢ 0 → get_or (dated i m k l d) q 0 ≡ get_or d q 0
  dated-sent q ne =
      dating (λ (e : List ℕ). get_or e q 0 ≡ get_or d q 0) i m k l d refl
      (λ is z. other d (place_by i m) k q (λ e. ne (ap (λ (p : ℕ). get_or l p 0) e ∙ z)))

  -- where it turns from 0, the place is the message's, and gets the depth
  dated-new : (q : ℕ) → place_by i m < length d → get_or l q 0 ≡ 0 → get_or (hand_over i m l) q 0 ≢ 0
      → IsMessage m × (q ≡ place_by i m) × (get_or (dated i m k l d) q 0 ≡ k)
  unfolding hand_over dated dated_if
  dated-new q lt z ne = go m lt ne
    where
      at_place : (m : Option Message) → place_by i m < length d → IsMessage m → get_or (set l (place_by i m) (entry_by i m)) q 0 ≢ 0
          → IsMessage m × (q ≡ place_by i m) × (get_or (dated_if (eqb (get_or l (place_by i m) 0) 0) (place_by i m) k d) q 0 ≡ k)
      at_place m lt is ne = by (ℕ_discrete q (place_by i m))
        where
          by : Dec (q ≡ place_by i m) → IsMessage m × (q ≡ place_by i m) × (get_or (dated_if (eqb (get_or l (place_by i m) 0) 0) (place_by i m) k d) q 0 ≡ k)
          by (yes e) =
              let zero-there : eqb (get_or l (place_by i m) 0) 0 ≡ true = eq-eqb (get_or l (place_by i m) 0) 0 (ap (λ (p : ℕ). get_or l p 0) (sym e) ∙ z) in (
                is,
                e,
                ap (λ (b : Bool). get_or (dated_if b (place_by i m) k d) q 0) zero-there
                    ∙ ap (λ (p : ℕ). get_or (set d (place_by i m) k) p 0) e ∙ own d (place_by i m) k lt,
              )
          by (no other_place) = absurd (ne (other l (place_by i m) (entry_by i m) q other_place ∙ z))

      go : (m : Option Message) → place_by i m < length d → get_or (hand_over i m l) q 0 ≢ 0 → IsMessage m × (q ≡ place_by i m) × (get_or (dated i m k l d) q 0 ≡ k)
      go None lt ne = absurd (ne z)
      go (Some (E r q' v)) lt ne = at_place (Some (E r q' v)) lt tt ne
      go (Some (S r)) lt ne = at_place (Some (S r)) lt tt ne
      go (Some (F r q' v)) lt ne = at_place (Some (F r q' v)) lt tt ne
      go (Some (Decision v)) lt ne = at_place (Some (Decision v)) lt tt ne

-- a message that process i hands over
pub record HandsOver (n i q : ℕ) : Type 0 where
  pub message : Message
  pub low : 1 ≤ i
  pub high : i ≤ n
  pub small : i ≤ greatest_size
  pub round : message_round (Some message) ≤ last_round
  pub place : q ≡ place_of i message

-- both messages of a process that takes a step
module _ (n i : ℕ) (x : Next) (k : ℕ) (l d : List ℕ) (t : Taking n i x) (long : store_length ≤ length l) (deep_long : store_length ≤ length d) where
  abbrev once : List ℕ
  once = hand_over i x.first l

  abbrev dates : List ℕ
  dates = dated i x.first k l d

  both-sent : (q : ℕ) → get_or l q 0 ≢ 0 → get_or (dated_both i x k l d) q 0 ≡ get_or d q 0
  unfolding dated_both
  both-sent q ne =
      let still : get_or once q 0 ≢ 0 =
      handed-by (λ (e : ℕ). e ≢ 0) i x.first l q (omega (arith, place-lt i x.first t.small t.first)) (named-entry n i x.first t.low t.first-named) ne in
      dated-sent i x.second k once dates q still ∙ dated-sent i x.first k l d q ne

  both-new : (q : ℕ) → get_or l q 0 ≡ 0 → get_or (hand_overs i x l) q 0 ≢ 0 → HandsOver n i q × (get_or (dated_both i x k l d) q 0 ≡ k)
  unfolding dated_both hand_overs
  both-new q z ne = by (ℕ_discrete (get_or once q 0) 0)
    where
      hands : (m : Option Message) → message_round m ≤ last_round → IsMessage m → q ≡ place_by i m → HandsOver n i q
      hands None le is e = absurd is
      hands (Some m) le is e = record { message = m; low = t.low; high = t.high; small = t.small; round = le; place = e }

      by : Dec (get_or once q 0 ≡ 0) → HandsOver n i q × (get_or (dated i x.second k once dates) q 0 ≡ k)
      by (yes e) =
          let f = dated-new i x.second k once dates q (omega (arith, place-lt i x.second t.small t.second, dated-length i x.first k l d)) e ne in
          (hands x.second t.second f.0 f.1, f.2)
      by (no first) =
          let f = dated-new i x.first k l d q (omega (arith, place-lt i x.first t.small t.first)) z first in
          (hands x.first t.first f.0 f.1, dated-sent i x.second k once dates q first ∙ f.2)

-- the sender of a delivered message
delivered-sender : (t : Step) (i : ℕ) (m : Message) → Delivers t (handed i m) → sender_of t ≡ i
unfolding Delivers sender_of
delivered-sender (DeliverE t j r c) i m e = sym (ap (λ (h : Handed). h.sender) e.2)
delivered-sender (DeliverS t j r c) i m e = sym (ap (λ (h : Handed). h.sender) e)
delivered-sender (DeliverF t j r c) i m e = sym (ap (λ (h : Handed). h.sender) e.2)
delivered-sender (DeliverDecision t j c) i m e = sym (ap (λ (h : Handed). h.sender) e.1)
delivered-sender (Suspect t c) i m e = absurd e
delivered-sender (Pause t) i m e = absurd e
delivered-sender (Crash t) i m e = absurd e
delivered-sender (Recover t) i m e = absurd e

module _ (vs : List ℕ) (a : State) (h : DeepBasic vs a) (s : Step) where
  -- "later handings over keep the first depth"
  pub message-kept : (q : ℕ) → get_or a.store q 0 ≢ 0 → message_depth (next a s) q ≡ message_depth a q
  unfolding next stepped settled
  message-kept q ne =
      deep-by P a.group a.store a.depths s (λ f. refl) (λ k f. refl)
      (λ p e f. both-sent a.group.n (taker_of s) (on_crash (process_at a.group (taker_of s))) (depth_after a.group a.depths s) a.store a.depths f h.basic.long h.deep_long q ne)
      (λ p e f. both-sent a.group.n (taker_of s) (cut_if (is_cut s) (event_of a.group a.store s)) (depth_after a.group a.depths s) a.store a.depths f h.basic.long h.deep_long q ne)
      (deep-fine vs a h s)
    where
      P : Course → Type 0
      P c = Fine a.group.n c → get_or (settled a.group a.store a.depths (depth_after a.group a.depths s) c).depths q 0 ≡ message_depth a q

  -- "A message first handed over (its entry was 0) gets the sender's depth after the step"
  pub message-new : (q : ℕ) → get_or a.store q 0 ≡ 0 → get_or (next a s).store q 0 ≢ 0
      → HandsOver a.group.n (taker_of s) q × (message_depth (next a s) q ≡ process_depth (next a s) (taker_of s))
  unfolding next stepped settled
  message-new q z =
      deep-by P a.group a.store a.depths s (λ f ne. absurd (ne z)) (λ k f ne. absurd (ne z))
      (λ p e f ne. put (on_crash (process_at a.group (taker_of s))) f ne)
      (λ p e f ne. put (cut_if (is_cut s) (event_of a.group a.store s)) f ne)
      (deep-fine vs a h s)
    where
      k : ℕ
      k = depth_after a.group a.depths s

      P : Course → Type 0
      P c = Fine a.group.n c → get_or (settled a.group a.store a.depths k c).store q 0 ≢ 0
          → HandsOver a.group.n (taker_of s) q
          × (get_or (settled a.group a.store a.depths k c).depths q 0 ≡ depth_at (settled a.group a.store a.depths k c).group (taker_of s))

      put : (x : Next) → Taking a.group.n (taker_of s) x → get_or (hand_overs (taker_of s) x a.store) q 0 ≢ 0
          → HandsOver a.group.n (taker_of s) q
          × (get_or (dated_both (taker_of s) x k a.store a.depths) q 0 ≡ depth_at (with_depth (with_process a.group (taker_of s) x.process) (taker_of s) k) (taker_of s))
      put x t ne =
          let f = both-new a.group.n (taker_of s) x k a.store a.depths t h.basic.long h.deep_long q z ne in
          (f.0, f.1 ∙ sym (own-depth vs a h s x t k))

  -- such a message is delivered as one of the process that took the step
  pub handed-sender : (t : Step) → Addresses t → HandsOver a.group.n (taker_of s) (slot_of t) → sender_of t ≡ taker_of s
  handed-sender t ad o = delivered-sender t (taker_of s) o.message (place-delivered t (taker_of s) o.message ad o.low o.small o.round o.place)

  -- what is sent stays sent
  pub sent-next : (q : ℕ) → get_or a.store q 0 ≢ 0 → get_or (next a s).store q 0 ≢ 0
  unfolding run.next
  sent-next q ne =
      subst (λ (c : Bare). get_or c.store q 0 ≢ 0) (sym (next-forgets vs a h s)) (step_stays (forgetting a.group) a.store s q h.basic.long ne)

pub sent-after : (vs : List ℕ) (a : State) (ts : List Step) → DeepBasic vs a → (q : ℕ) → get_or a.store q 0 ≢ 0
    → (get_or (after a ts).store q 0 ≢ 0) × (message_depth (after a ts) q ≡ message_depth a q)
sent-after vs a ts h q ne =
    deep-throughout vs (λ (c : State). (get_or c.store q 0 ≢ 0) × (message_depth c q ≡ message_depth a q))
    (λ c s k p. (sent-next vs c k s q p.0, message-kept vs c k s q p.0 ∙ p.1)) a ts h (ne, refl)
