-- Statement 14: the depth of a process is the length of the longest chain of deliveries whose last is to it. Assumes nothing.
use mathlib.Core.Path.{◌≡◌, refl, sym, ap, subst, ◌∙◌}
use mathlib.Core.Bool.{Bool, true, false, ◌&&◌}
use mathlib.Core.List.{List, [], ◌∷◌, ◌++◌, append-nil, append_assoc}
use mathlib.Core.Logic.{◌≢◌, ◌⊎◌, inl, inr}
use Prim.Native.Nat.{ℕ, ◌+◌, ◌≤◌, max}
use native.Mathlib.Decide.{ℕ_discrete}
use native.Mathlib.Nat.{le_trans}
use native.Mathlib.Omega.{arith}
use lib.Dec.{eqb}
use lib.ListN.{length, get_or}
use borrow.Author.Tests.{eqb-false}
use Rattle.rules.specs.declared.step.Step.{Step}
use Rattle.rules.specs.Depths.{depth_after}
use Rattle.rules.specs.Refusals.{unsent}
use Rattle.rules.specs.Step.{Course, settled, stepped}
use Rattle.rules.specs.Run.{State, start_state, next, after}
use Rattle.rules.specs.Safety.{Of, Begins, at, process_depth, message_depth, says, sender_of, Link, Chain, Ends, DepthIsLongest}
use Rattle.rules.proofs.Bare.Step.{begun}
use Rattle.rules.specs.Limits.{store_length}
use Rattle.rules.specs.Store.{sent_in}
use Rattle.rules.specs.Kinds.{taker_of, delivers, slot_of, entry_in}
use Rattle.rules.specs.Idle.{idle}
use Rattle.rules.specs.Safety.Chain.{one, more}
use Rattle.rules.proofs.Laws.Store.{opened-sent}
use Rattle.rules.proofs.Laws.Sound.{taker-in}
use Rattle.rules.proofs.Laws.Passing.{DeepPassed}
use Rattle.rules.proofs.Laws.Group.{depth-started}
use Rattle.rules.proofs.Runs.Cases.{never}
use Rattle.rules.proofs.Runs.Handing.{Addresses, address-lt, addressed}
use Rattle.rules.proofs.Depths.Basics.{DeepBasic, deep-size, deep-few, deep-next, start-deep, deep-start, deep-throughout, deep-basic, deep_more}
use Rattle.rules.proofs.Depths.Steps.{deep-by, depth-heard, depth-unheard, message-kept, message-new, handed-sender, sent-after}

-- ---- an applied step

-- no row of the table refuses it
pub applied-passed : (a : State) (s : Step) → (says a s).applied ≡ true → DeepPassed a.group a.store a.depths s
unfolding stepped settled
applied-passed a s =
    deep-by P a.group a.store a.depths s (λ t. never refl t) (λ k t. never refl t) (λ p e t. p) (λ p e t. p)
  where
    P : Course → Type 0
    P c = (settled a.group a.store a.depths (depth_after a.group a.depths s) c).says.applied ≡ true → DeepPassed a.group a.store a.depths s

-- its process is of 1..n
pub applied-taker : (a : State) (s : Step) → (says a s).applied ≡ true → (1 ≤ taker_of s) × (taker_of s ≤ a.group.n)
applied-taker a s e = taker-in a.group s (applied-passed a s e).known

-- ---- a delivery that is heard

-- its message has a place
heard-addresses : (vs : List ℕ) (a : State) → DeepBasic vs a → (s : Step) → Link a s → Addresses s
heard-addresses vs a h s e =
    let p = applied-passed a s e.applied in
    addressed a.group s (deep-few vs a h) e.delivery p.known p.early

pub rest-false : (t u : Bool) → t ≡ true → (t && u) ≡ false → u ≡ false
rest-false true u e f = f
rest-false false u e f = never refl e

-- and is sent
heard-sent : (a : State) (s : Step) → Link a s → get_or a.store (slot_of s) 0 ≢ 0
unfolding unsent entry_in
heard-sent a s e =
    eqb-false (get_or a.store (slot_of s) 0) 0
    (rest-false (delivers s) (eqb (get_or a.store (slot_of s) 0) 0) e.delivery (applied-passed a s e.applied).sent)

-- a step is one, or not
pub heard-or : (a : State) (s : Step) → Link a s ⊎ (Link a s → ⊥)
heard-or a s = go (delivers s) refl (says a s).applied refl (idle a.group s) refl
  where
    go : (x : Bool) → delivers s ≡ x → (y : Bool) → (says a s).applied ≡ y → (z : Bool) → idle a.group s ≡ z → Link a s ⊎ (Link a s → ⊥)
    go false e y f z k = inr (λ h. never e h.delivery)
    go true e false f z k = inr (λ h. never f h.applied)
    go true e true f true k = inr (λ h. never h.not-idle k)
    go true e true f false k = inl (record { delivery = e; applied = f; not-idle = k })

-- ---- what one step does to the depth of a process

module _ (vs : List ℕ) (a : State) (h : DeepBasic vs a) (s : Step) (i : ℕ) (low : 1 ≤ i) where
  -- process i hears the step, or its depth stays
  pub depth-cases : (Link a s × (taker_of s ≡ i)) ⊎ (process_depth (next a s) i ≡ process_depth a i)
  depth-cases = go (heard-or a s) (ℕ_discrete (taker_of s) i)
    where
      go : Link a s ⊎ (Link a s → ⊥) → Dec (taker_of s ≡ i) → (Link a s × (taker_of s ≡ i)) ⊎ (process_depth (next a s) i ≡ process_depth a i)
      go (inl e) (yes f) = inl (e, f)
      go (inl e) (no f) = inr (depth-unheard vs a h s i low (λ k. f))
      go (inr e) f = inr (depth-unheard vs a h s i low (λ k. absurd (e k)))

  -- the depth where it does
  pub depth-own : Link a s → taker_of s ≡ i → process_depth (next a s) i ≡ max (process_depth a i) (message_depth a (slot_of s) + 1)
  depth-own e f =
      ap (process_depth (next a s)) (sym f) ∙ depth-heard vs a h s e ∙ ap (λ (j : ℕ). max (process_depth a j) (message_depth a (slot_of s) + 1)) f

  -- it never falls
  never-falls : process_depth a i ≤ process_depth (next a s) i
  never-falls = go depth-cases
    where
      go : (Link a s × (taker_of s ≡ i)) ⊎ (process_depth (next a s) i ≡ process_depth a i) → process_depth a i ≤ process_depth (next a s) i
      go (inl e) = omega (arith, depth-own e.0 e.1)
      go (inr e) = omega (arith, e)

-- nor through any steps
never-falls-after : (vs : List ℕ) (a : State) (ss : List Step) (i : ℕ) → DeepBasic vs a → 1 ≤ i → process_depth a i ≤ process_depth (after a ss) i
never-falls-after vs a ss i h lo =
    deep-throughout vs (λ (c : State). process_depth a i ≤ process_depth c i) (λ c s k le. le_trans le (never-falls vs c k s i lo)) a ss h (omega arith)

-- ---- from one delivery of a chain to the next

-- a message that a step first hands over has the depth of its sender, a process of the run
first-deep : (vs : List ℕ) (a : State) → DeepBasic vs a → (s t : Step) → Addresses t
    → get_or a.store (slot_of t) 0 ≡ 0 → get_or (next a s).store (slot_of t) 0 ≢ 0
    → Of vs (sender_of t) × (message_depth (next a s) (slot_of t) ≡ process_depth (next a s) (sender_of t))
first-deep vs a h s t ad z ne =
    let f = message-new vs a h s (slot_of t) z ne in
    let e = handed-sender vs a h s t ad f.0 in
    (record { low = omega (arith, f.0.low, e); high = omega (arith, f.0.high, deep-size vs a h, e) }, f.1 ∙ ap (process_depth (next a s)) (sym e))

-- the depth of the sender of the message that t delivers is at least k, and so is that of the message where it is sent
record AtLeast (t : Step) (k : ℕ) (a : State) : Type 0 where
  sender : k ≤ process_depth a (sender_of t)
  message : get_or a.store (slot_of t) 0 ≢ 0 → k ≤ message_depth a (slot_of t)

module _ (vs : List ℕ) (a : State) (h : DeepBasic vs a) (s t : Step) (k : ℕ) (ad : Addresses t) where
  -- where the message was not sent before the step
  at-least-new : k ≤ process_depth (next a s) (sender_of t) → get_or a.store (slot_of t) 0 ≡ 0 → AtLeast t k (next a s)
  at-least-new le z = record { sender = le; message = λ ne. omega (arith, (first-deep vs a h s t ad z ne).1) }

  -- every step keeps it
  at-least-next : 1 ≤ sender_of t → AtLeast t k a → AtLeast t k (next a s)
  at-least-next low c = record { sender = sender; message = λ ne. go ne (ℕ_discrete (get_or a.store (slot_of t) 0) 0) }
    where
      sender : k ≤ process_depth (next a s) (sender_of t)
      sender = le_trans c.sender (never-falls vs a h s (sender_of t) low)

      go : get_or (next a s).store (slot_of t) 0 ≢ 0 → Dec (get_or a.store (slot_of t) 0 ≡ 0) → k ≤ message_depth (next a s) (slot_of t)
      go ne (yes z) = omega (arith, (first-deep vs a h s t ad z ne).1, sender)
      go ne (no sent) = omega (arith, message-kept vs a h s (slot_of t) sent, c.message sent)

module _ (vs l d : List ℕ) (b : Begins vs l d) where
  -- the state after a step and more
  at_more : (ts us : List Step) (s : Step) → at vs l d (ts ++ (s ∷ us)) ≡ after (next (at vs l d ts) s) us
  unfolding after
  at_more ts us s = deep_more (start_state vs l d) ts (s ∷ us)

  -- ---- no chain is longer

  -- its last delivery
  chain-taken : {ts : List Step} {s : Step} {k : ℕ} → Chain vs l d ts s k → Link (at vs l d ts) s
  chain-taken (one t) = t
  chain-taken (more us c e t sender z) = t

  -- one delivery more
  one_more : (ts us ws : List Step) (s t : Step) (k : ℕ) → ws ≡ ts ++ (s ∷ us) → Link (at vs l d ts) s → Link (at vs l d ws) t → sender_of t ≡ taker_of s
      → entry_in (at vs l d ts).store t ≡ 0 → k ≤ process_depth (next (at vs l d ts) s) (taker_of s)
      → k + 1 ≤ process_depth (next (at vs l d ws) t) (taker_of t)
  unfolding entry_in
  one_more ts us ws s t k e before tk sender z le =
      let a = at vs l d ts in
      let h = deep-basic vs l d ts b in
      let w = at vs l d ws in
      let hw = deep-basic vs l d ws b in
      let heard = tk in
      let ad = heard-addresses vs w hw t heard in
      let low : 1 ≤ sender_of t = omega (arith, sender, (applied-taker a s before.applied).0) in
      let first =
      at-least-new vs a h s t k ad (omega (arith, le, ap (process_depth (next a s)) sender)) z in
      let onward : AtLeast t k (after (next a s) us) =
      deep-throughout vs (AtLeast t k) (λ c u hc. at-least-next vs c hc u t k ad low) (next a s) us (deep-next vs a h s) first in
      let there : AtLeast t k w = subst (AtLeast t k) (sym (ap (at vs l d) e ∙ at_more ts us s)) onward in
      omega (arith, depth-heard vs w hw t heard, there.message (heard-sent w t heard))

  chain-most : {ts : List Step} {s : Step} {k : ℕ} → Chain vs l d ts s k → k ≤ process_depth (next (at vs l d ts) s) (taker_of s)
  chain-most {ts} {s} (one t) = omega (arith, depth-heard vs (at vs l d ts) (deep-basic vs l d ts b) s t)
  chain-most (more {ts} {ws} {s} {t} {k} us c e tk sender z) = one_more ts us ws s t k e (chain-taken c) tk sender z (chain-most c)

  -- from its last delivery on
  ends-most : (ss : List Step) (i k : ℕ) → Of vs i → Ends vs l d ss i k → k ≤ process_depth (at vs l d ss) i
  ends-most ss i k o e =
      let a = at vs l d e.before in
      let h = deep-basic vs l d e.before b in
      omega (
        arith,
        chain-most e.chain,
        ap (process_depth (next a e.last)) e.taker,
        never-falls-after vs (next a e.last) e.later i (deep-next vs a h e.last) o.low,
        ap (λ (c : State). process_depth c i) (ap (at vs l d) e.steps ∙ at_more e.before e.later e.last),
      )

  -- ---- a chain of that length

  -- a chain of k of the steps ss, whose last delivery is to the sender of the message that t delivers, and which that message may follow: it was not sent before that delivery
  record Carries (ss : List Step) (t : Step) (k : ℕ) : Type 0 where
    ends : Ends vs l d ss (sender_of t) k
    unsent-then : entry_in (at vs l d ends.before).store t ≡ 0

  -- the depths of the state a, after the steps ss, are lengths of chains
  record Told (ss : List Step) (a : State) : Type 0 where
    processes : (i : ℕ) → Of vs i → process_depth a i ≢ 0 → Ends vs l d ss i (process_depth a i)
    messages : (t : Step) → Addresses t → get_or a.store (slot_of t) 0 ≢ 0 → message_depth a (slot_of t) ≢ 0 → Carries ss t (message_depth a (slot_of t))

  -- what is not sent was not before any of the steps
  unsent-before : (ss before later : List Step) (last t : Step) → ss ≡ before ++ (last ∷ later) → Addresses t
      → entry_in (at vs l d ss).store t ≡ 0 → entry_in (at vs l d before).store t ≡ 0
  unfolding entry_in
  unsent-before ss before later last t e ad z = go (ℕ_discrete (get_or (at vs l d before).store (slot_of t) 0) 0)
    where
      go : Dec (get_or (at vs l d before).store (slot_of t) 0 ≡ 0) → get_or (at vs l d before).store (slot_of t) 0 ≡ 0
      go (yes y) = y
      go (no ne) =
          absurd ((sent-after vs (at vs l d before) (last ∷ later) (deep-basic vs l d before b) (slot_of t) ne).0
          (ap (λ (c : State). get_or c.store (slot_of t) 0) (sym (ap (at vs l d) e ∙ deep_more (start_state vs l d) before (last ∷ later))) ∙ z))

  -- a chain of some steps, with one step more
  longer : (ss : List Step) (s : Step) (i k : ℕ) → Ends vs l d ss i k → Ends vs l d (ss ++ (s ∷ [])) i k
  longer ss s i k e =
      record {
        before = e.before;
        last = e.last;
        later = e.later ++ (s ∷ []);
        steps = ap (λ (xs : List Step). xs ++ (s ∷ [])) e.steps ∙ append_assoc e.before (e.last ∷ e.later) (s ∷ []);
        chain = e.chain;
        taker = e.taker;
      }

  -- and one that ends with that step
  now : (ss : List Step) (s : Step) (i k : ℕ) → Chain vs l d ss s k → taker_of s ≡ i → Ends vs l d (ss ++ (s ∷ [])) i k
  now ss s i k c e = record { before = ss; last = s; later = []; steps = refl; chain = c; taker = e }

  module _ (ss : List Step) (s : Step) (told : Told ss (at vs l d ss)) where
    abbrev a : State
    a = at vs l d ss

    h : DeepBasic vs a
    h = deep-basic vs l d ss b

    -- the chain of a delivery that is heard: of it alone, or after the one that its message carries
    heard-chain : Link a s → Chain vs l d ss s (message_depth a (slot_of s) + 1)
    heard-chain e = go (ℕ_discrete (message_depth a (slot_of s)) 0)
      where
        go : Dec (message_depth a (slot_of s) ≡ 0) → Chain vs l d ss s (message_depth a (slot_of s) + 1)
        go (yes z) = subst (λ (k : ℕ). Chain vs l d ss s (k + 1)) (sym z) (one e)
        go (no nz) =
            let c = told.messages s (heard-addresses vs a h s e) (heard-sent a s e) nz in
            more c.ends.later c.ends.chain c.ends.steps e (sym c.ends.taker) c.unsent-then

    -- a chain of k to process i that the step ends, or one that ended before
    abbrev Either : ℕ → ℕ → Type 0
    Either i k = (Chain vs l d ss s k × (taker_of s ≡ i)) ⊎ Ends vs l d ss i k

    ends-either : (i : ℕ) → Of vs i → process_depth (next a s) i ≢ 0 → Either i (process_depth (next a s) i)
    ends-either i o ne = go (depth-cases vs a h s i o.low)
      where
        old : process_depth (next a s) i ≡ process_depth a i → Ends vs l d ss i (process_depth (next a s) i)
        old e = subst (Ends vs l d ss i) (sym e) (told.processes i o (λ z. ne (e ∙ z)))

        by : Link a s → taker_of s ≡ i → Dec (process_depth (next a s) i ≡ process_depth a i) → Either i (process_depth (next a s) i)
        by e f (yes same) = inr (old same)
        by e f (no rose) =
            let k : message_depth a (slot_of s) + 1 ≡ process_depth (next a s) i = omega (arith, depth-own vs a h s i o.low e f, rose) in
            inl (subst (Chain vs l d ss s) k (heard-chain e), f)

        go : (Link a s × (taker_of s ≡ i)) ⊎ (process_depth (next a s) i ≡ process_depth a i) → Either i (process_depth (next a s) i)
        go (inl e) = by e.0 e.1 (ℕ_discrete (process_depth (next a s) i) (process_depth a i))
        go (inr e) = inr (old e)

    told-next : Told (ss ++ (s ∷ [])) (next a s)
    unfolding longer now entry_in
    told-next =
        record {
          processes = λ i o ne. ends i (process_depth (next a s) i) (ends-either i o ne);
          messages = λ t ad ne nz. carries t ad ne nz (ℕ_discrete (get_or a.store (slot_of t) 0) 0);
        }
      where
        ends : (i k : ℕ) → Either i k → Ends vs l d (ss ++ (s ∷ [])) i k
        ends i k (inl c) = now ss s i k c.0 c.1
        ends i k (inr e) = longer ss s i k e

        -- a message that was not sent before the step may follow both
        follows : (t : Step) (k : ℕ) → Addresses t → get_or a.store (slot_of t) 0 ≡ 0 → Either (sender_of t) k → Carries (ss ++ (s ∷ [])) t k
        follows t k ad z (inl c) = record { ends = now ss s (sender_of t) k c.0 c.1; unsent-then = z }
        follows t k ad z (inr e) =
            record {
              ends = longer ss s (sender_of t) k e;
              unsent-then = unsent-before ss e.before e.later e.last t e.steps ad z;
            }

        carries : (t : Step) → Addresses t → get_or (next a s).store (slot_of t) 0 ≢ 0 → message_depth (next a s) (slot_of t) ≢ 0
            → Dec (get_or a.store (slot_of t) 0 ≡ 0) → Carries (ss ++ (s ∷ [])) t (message_depth (next a s) (slot_of t))
        carries t ad ne nz (yes z) =
            let f = first-deep vs a h s t ad z ne in
            subst (Carries (ss ++ (s ∷ [])) t) (sym f.1)
            (follows t (process_depth (next a s) (sender_of t)) ad z (ends-either (sender_of t) f.0 (λ y. nz (f.1 ∙ y))))
        carries t ad ne nz (no sent) =
            let e = message-kept vs a h s (slot_of t) sent in
            let c = told.messages t ad sent (λ z. nz (e ∙ z)) in
            subst (Carries (ss ++ (s ∷ [])) t) (sym e)
            (record { ends = longer ss s (sender_of t) (message_depth a (slot_of t)) c.ends; unsent-then = c.unsent-then })

  -- the start has no depths
  told-start : Told [] (at vs l d [])
  unfolding after begun
  told-start =
      let sent : sent_in (start_state vs l d).store store_length ≡ 1 =
      ap (λ (c : State). sent_in c.store store_length) (start-deep vs l d b) ∙ opened-sent (get_or vs 0 0) l b.long in
      record {
        processes = λ i o ne.
            absurd (ne (ap (λ (c : State). process_depth c i) (start-deep vs l d b)
            ∙ depth-started vs (length vs) i));
        messages = λ t ad ne nz. absurd (nz (omega (arith, (deep-start vs l d b).messages (slot_of t) (address-lt t ad), sent)));
      }

  -- every state of a run
  told-after : (us ss : List Step) → Told ss (at vs l d ss) → Told (ss ++ us) (at vs l d (ss ++ us))
  unfolding after
  told-after [] ss t = subst (λ (xs : List Step). Told xs (at vs l d xs)) (sym (append-nil ss)) t
  told-after (s ∷ us) ss t =
      subst (λ (xs : List Step). Told xs (at vs l d xs)) (append_assoc ss (s ∷ []) us)
      (told-after us (ss ++ (s ∷ [])) (subst (Told (ss ++ (s ∷ []))) (sym (at_more ss [] s)) (told-next ss s t)))

pub depth-is-longest : DepthIsLongest
depth-is-longest vs l d ss b i o =
    ((told-after vs l d b ss [] (told-start vs l d b)).processes i o, λ k e. ends-most vs l d b ss i k o e)
