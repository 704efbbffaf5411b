-- A run with depths: with the depths forgotten it is the run of before; and no depth is above the number of sent entries. Assumes nothing.
use Rattle.std.specs.Prelude.{Option, Some}
use mathlib.Core.Path.{◌≡◌, refl, sym, ap, ap₂, subst, ◌∙◌}
use mathlib.Core.Bool.{Bool, true, false}
use mathlib.Core.List.{List, [], ◌∷◌, ◌++◌}
use mathlib.Core.Logic.{◌≢◌}
use Prim.Native.Nat.{ℕ, zero, suc, ◌+◌, ◌≤◌, ◌<◌}
use native.Mathlib.Decide.{ℕ_discrete}
use native.Mathlib.Omega.{arith}
use lib.ListN.{length, get_or, set}
use borrow.Author.Tests.{le-ltb}
use Rattle.rules.specs.declared.group.Group.{Group}
use Rattle.rules.specs.declared.process.Process.{Process}
use Rattle.rules.specs.declared.process.Message.{Message}
use Rattle.rules.specs.declared.process.Next.{Next}
use Rattle.rules.specs.declared.step.Step.{Step}
use Rattle.rules.specs.Layout.{forgetting}
use Rattle.rules.specs.Depths.{delivered_depth, raises, raised, depth_after, dated, dated_both}
use Rattle.rules.specs.Refusals.{row, short, miscounted, strange, start_refusal}
use Rattle.rules.specs.Answers.{Said}
use Rattle.rules.specs.Start.{started_to, first_message, opened, opened_depths, unless_refused_start, started}
use Rattle.rules.specs.Step.{Course, Idles, Refuses, Takes, hand_overs, course, settled, stepped}
use Rattle.rules.specs.Run.{State, state_of, start_state, next, after, answers}
use Rattle.rules.specs.Safety.{Begins, at, process_depth, message_depth, says, SoundGroup, NeverDamaged, WithinLimits, DepthsChangeNothing, DepthsFit}
use Rattle.rules.proofs.Bare.Run.{State as Bare, forgotten}
use Rattle.rules.proofs.Bare.Step.{begun}
use Rattle.rules.specs.Limits.{greatest_size, last_round, store_length}
use Rattle.rules.specs.Layout.{with_process, depth_at, with_depth, Sized}
use Rattle.rules.specs.Store.{place_of, message_round, hand_over, cleared, sent_in}
use Rattle.rules.proofs.Laws.Store.{place_by, entry_by}
use Rattle.rules.specs.Kinds.{taker_of, slot_of}
use Rattle.rules.proofs.Bare.Step as base
use Rattle.rules.specs.Private.{number_rows}
use Rattle.rules.proofs.Bare.Run as run
use Rattle.rules.proofs.Bare.Statements as bare
use Rattle.rules.proofs.Bare.Same.{limits-fine}
use Rattle.rules.proofs.Bare.Same as same
use Rattle.rules.proofs.Laws.Store.{IsMessage, place-lt, own, other, hand_over-length, hand_over-new, hand_over-more, opened-sent, cleared-length, cleared-below, cleared-past}
use Rattle.rules.proofs.Laws.Row.{among_in}
use Rattle.rules.proofs.Laws.Group.{sized-with, sized-started}
use Rattle.rules.proofs.Laws.Sound.{Whole, Sound, sound-facts, Named, Fine, named-entry}
use Rattle.rules.proofs.Laws.Passing.{facts-deep, course-takes, dating, dated-length, dated-other}
use Rattle.rules.proofs.Laws.Group.{depth-put, depth-kept, sized-deep, depth-with, process-forgets, forget-started, depth-started}
use Rattle.rules.proofs.Laws.Course.{taker-low, place-low}
use Rattle.rules.proofs.Runs.Basics.{Basic, basic-start, basic-next, start_is}
use Rattle.rules.proofs.Runs.Sound.{never-two-nor-eleven}

-- ---- one message that is dated

module _ (i : ℕ) (m : Option Message) (k : ℕ) (l d : List ℕ) where
  -- it is less than the number of sent entries, where the other depths were and its own is no more
  module _ (hi : i ≤ greatest_size) (le : message_round m ≤ last_round) (long : store_length ≤ length l) (ne : IsMessage m → entry_by i m ≢ 0) where
    dated-bound : (q : ℕ) → store_length ≤ length d → get_or d q 0 + 1 ≤ sent_in l store_length → k ≤ sent_in l store_length
        → get_or (dated i m k l d) q 0 + 1 ≤ sent_in (hand_over i m l) store_length
    dated-bound q room old new =
        dating (λ (e : List ℕ). get_or e q 0 + 1 ≤ sent_in (hand_over i m l) store_length) i m k l d (omega (arith, hand_over-more i m l hi le long ne))
        (λ is z. go (hand_over-new i m l hi le long ne is z) (ℕ_discrete q (place_by i m)))
      where
        go : sent_in (hand_over i m l) store_length ≡ sent_in l store_length + 1 → Dec (q ≡ place_by i m)
            → get_or (set d (place_by i m) k) q 0 + 1 ≤ sent_in (hand_over i m l) store_length
        go more (yes e) =
            omega (arith, more, ap (λ (p : ℕ). get_or (set d (place_by i m) k) p 0) e, own d (place_by i m) k (omega (arith, place-lt i m hi le)))
        go more (no other_place) = omega (arith, more, other d (place_by i m) k q other_place)

-- ---- the count of sent entries is at most their number

sent-most : (l : List ℕ) (n : ℕ) → sent_in l n ≤ n
unfolding sent_in
sent-most [] n = omega arith
sent-most (e ∷ l) zero = omega arith
sent-most (zero ∷ l) (suc n) = omega (arith, sent-most l n)
sent-most (suc e ∷ l) (suc n) = omega (arith, sent-most l n)

-- ---- a run without depths begins so too

pub bare-begins : {vs l d : List ℕ} → Begins vs l d → bare.Begins vs l
bare-begins b = record { some = b.some; few = b.few; small = b.small; long = b.long }

-- ---- what every state of a run is

pub record DeepBasic (vs : List ℕ) (a : State) : Type 0 where
  pub basic : Basic vs (forgotten a)
  pub sized : Sized a.group
  pub deep_long : store_length ≤ length a.depths
  pub messages : (k : ℕ) → k < store_length → message_depth a k + 1 ≤ sent_in a.store store_length
  pub processes : (i : ℕ) → 1 ≤ i → i ≤ a.group.n → process_depth a i ≤ sent_in a.store store_length

module _ (vs : List ℕ) (a : State) (h : DeepBasic vs a) where
  pub deep-size : a.group.n ≡ length vs
  unfolding forgetting
  deep-size = h.basic.size

  pub deep-few : a.group.n ≤ greatest_size
  unfolding forgetting
  deep-few = (sound-facts (forgetting a.group) h.basic.sound).high

  pub deep-whole : Sound a.group
  unfolding forgetting
  deep-whole =
      let f = sound-facts (forgetting a.group) h.basic.sound in
      record {
        low = f.low;
        high = f.high;
        each = λ i lo hi.
            subst (λ (p : Process). Whole a.group.n p) (process-forgets a.group i) (f.each i lo hi);
      }

  -- its depths are within the limits
  pub deep-limits : WithinLimits a
  deep-limits =
      let most = sent-most a.store store_length in
      record {
        sized = h.sized;
        ready =
            record {
              long = h.basic.long;
              deep_long = h.deep_long;
              sound = facts-deep a.group deep-whole (λ i lo hi. omega (arith, h.processes i lo hi, most));
            };
        messages = λ k lt. omega (arith, h.messages k lt, most);
      }

  pub deep-fine : (s : Step) → Fine a.group.n (course a.group a.store a.depths s)
  deep-fine = limits-fine a deep-limits

module _ (vs : List ℕ) (a : State) (h : DeepBasic vs a) (s : Step) where
  pub next-forgets : forgotten (next a s) ≡ run.next (forgotten a) s
  next-forgets = same.next-forgets a (deep-limits vs a h) s

  pub says-forgets : says a s ≡ (base.stepped (forgetting a.group) a.store s).says
  says-forgets = same.says-forgets a (deep-limits vs a h) s

  -- the depth that a process gets is at most the count of sent entries
  raised-most : (t : Bool) (m k b : ℕ) → (t ≡ true → m + 1 ≤ b) → k ≤ b → raised t m k ≤ b
  unfolding raised
  raised-most true m k b le lo = omega (arith, le refl)
  raised-most false m k b le lo = lo

  -- what is kept by every course, and by the one that is taken
  record Grown (c : Course) (k : ℕ) : Type 0 where
    sized : Sized (settled a.group a.store a.depths k c).group
    deep_long : store_length ≤ length (settled a.group a.store a.depths k c).depths
    messages : (q : ℕ) → q < store_length → get_or (settled a.group a.store a.depths k c).depths q 0 + 1 ≤ sent_in (settled a.group a.store a.depths k c).store store_length
    processes : (i : ℕ) → 1 ≤ i → i ≤ a.group.n → depth_at (settled a.group a.store a.depths k c).group i ≤ sent_in (settled a.group a.store a.depths k c).store store_length

  grown : (c : Course) (k : ℕ) → Fine a.group.n c → ((i : ℕ) (x : Next) → c ≡ Takes i x → k ≤ sent_in a.store store_length) → Grown c k
  unfolding settled dated_both hand_overs
  grown Idles k f le = record { sized = h.sized; deep_long = h.deep_long; messages = h.messages; processes = h.processes }
  grown (Refuses n) k f le = record { sized = h.sized; deep_long = h.deep_long; messages = h.messages; processes = h.processes }
  grown (Takes i x) k f most =
      record {
        sized = sized-deep (with_process a.group i x.process) i k (sized-with a.group i x.process h.sized);
        deep_long = omega (arith, both-length, h.deep_long);
        messages = bound;
        processes = λ j lo hi. go j lo hi (ℕ_discrete j i);
      }
    where
      le : k ≤ sent_in a.store store_length
      le = most i x refl

      l : List ℕ
      l = a.store

      once : List ℕ
      once = hand_over i x.first l

      dates : List ℕ
      dates = dated i x.first k l a.depths

      both-length : length (dated_both i x k l a.depths) ≡ length a.depths
      both-length = dated-length i x.second k once dates ∙ dated-length i x.first k l a.depths

      long : store_length ≤ length once
      long = omega (arith, hand_over-length i x.first l, h.basic.long)

      named : (m : Option Message) → Named a.group.n m → IsMessage m → entry_by i m ≢ 0
      named m = named-entry a.group.n i m f.low

      once_more : sent_in l store_length ≤ sent_in once store_length
      once_more = hand_over-more i x.first l f.small f.first h.basic.long (named x.first f.first-named)

      more : sent_in l store_length ≤ sent_in (hand_overs i x l) store_length
      more = omega (arith, once_more, hand_over-more i x.second once f.small f.second long (named x.second f.second-named))

      bound : (q : ℕ) → q < store_length → get_or (dated_both i x k l a.depths) q 0 + 1 ≤ sent_in (hand_overs i x l) store_length
      bound q lt =
          dated-bound i x.second k once dates f.small f.second long (named x.second f.second-named) q
          (omega (arith, dated-length i x.first k l a.depths, h.deep_long))
          (dated-bound i x.first k l a.depths f.small f.first h.basic.long (named x.first f.first-named) q h.deep_long (h.messages q lt) le)
          (omega (arith, le, once_more))

      go : (j : ℕ) → 1 ≤ j → j ≤ a.group.n → Dec (j ≡ i) → depth_at (with_depth (with_process a.group i x.process) i k) j ≤ sent_in (hand_overs i x l) store_length
      go j lo hi (yes e) =
          omega (
            arith,
            ap (depth_at (with_depth (with_process a.group i x.process) i k)) e,
            depth-put (with_process a.group i x.process) i k (sized-with a.group i x.process h.sized) f.low f.small,
            le,
            more,
          )
      go j lo hi (no ne) =
          omega (
            arith,
            depth-kept (with_process a.group i x.process) i k j f.low lo ne,
            depth-with a.group i x.process j,
            h.processes j lo hi,
            more,
          )

  -- the depth that a process gets from a step that it takes
  after-most : (i : ℕ) (x : Next) → course a.group a.store a.depths s ≡ Takes i x → depth_after a.group a.depths s ≤ sent_in a.store store_length
  unfolding depth_after delivered_depth number_rows strange row
  after-most i x e =
      let t = course-takes a.group a.store a.depths s e in
      let numbers : number_rows a.group.n s ≡ 0 = rw (t.1.known, t.1.early) in
      let to = taker-low a.group.n s numbers in
      raised-most (raises a.group s) (get_or a.depths (slot_of s) 0) (depth_at a.group (taker_of s)) (sent_in a.store store_length)
      (λ r. h.messages (slot_of s) (place-low a.group.n s (deep-few vs a h) numbers))
      (h.processes (taker_of s) to.0 to.1)

  grown-step : Grown (course a.group a.store a.depths s) (depth_after a.group a.depths s)
  grown-step =
      grown (course a.group a.store a.depths s) (depth_after a.group a.depths s) (deep-fine vs a h s) after-most

  same_size : (next a s).group.n ≡ a.group.n
  unfolding next stepped settled with_depth with_process
  same_size = go (course a.group a.store a.depths s)
    where
      go : (c : Course) → (settled a.group a.store a.depths (depth_after a.group a.depths s) c).group.n ≡ a.group.n
      go Idles = refl
      go (Refuses k) = refl
      go (Takes i x) = refl

  -- so every step keeps what every state of a run is
  pub deep-next : DeepBasic vs (next a s)
  unfolding next stepped
  deep-next =
      record {
        basic = subst (Basic vs) (sym next-forgets) (basic-next vs (forgotten a) s h.basic);
        sized = grown-step.sized;
        deep_long = grown-step.deep_long;
        messages = grown-step.messages;
        processes = λ i lo hi. grown-step.processes i lo (omega (arith, same_size));
      }

-- ---- the start

pub not-refused-deep : (vs l d : List ℕ) → Begins vs l d → start_refusal vs l d ≡ 0
unfolding start_refusal row short miscounted
not-refused-deep vs l d b =
    rw (le-ltb (length l) store_length b.long, le-ltb (length d) store_length b.deep_long, among_in greatest_size (length vs) b.some b.few)

-- the depths of its messages are 0
opened-below : (v : ℕ) (l d : List ℕ) → store_length ≤ length d → (q : ℕ) → q < store_length → get_or (opened_depths v l d) q 0 ≡ 0
unfolding opened_depths place_of
opened-below v l d long q lt =
    dating (λ (e : List ℕ). get_or e q 0 ≡ 0) 1 (Some (first_message v)) 0 (cleared store_length l) (cleared store_length d)
    (cleared-below store_length d q lt) (λ is z. go (ℕ_discrete q 0))
  where
    go : Dec (q ≡ 0) → get_or (set (cleared store_length d) 0 0) q 0 ≡ 0
    go (yes e) = ap (λ (p : ℕ). get_or (set (cleared store_length d) 0 0) p 0) e ∙ own (cleared store_length d) 0 0 (omega (arith, cleared-length store_length d long))
    go (no ne) = other (cleared store_length d) 0 0 q ne ∙ cleared-below store_length d q lt

module _ (vs l d : List ℕ) (b : Begins vs l d) where
  pub start-deep : start_state vs l d ≡ record { group = started_to vs (length vs); store = opened (get_or vs 0 0) l; depths = opened_depths (get_or vs 0 0) l d }
  unfolding start_state started unless_refused_start begun
  start-deep = ap (λ (k : ℕ). state_of (unless_refused_start k vs l d)) (not-refused-deep vs l d b)

  pub start-forgets : forgotten (start_state vs l d) ≡ run.start_state vs l
  unfolding begun
  start-forgets =
      ap forgotten start-deep ∙ ap (λ (g : Group). record { group = g; store = (begun vs l).store }) (forget-started vs (length vs))
      ∙ sym (start_is vs l (bare-begins b))

  pub deep-start : DeepBasic vs (start_state vs l d)
  unfolding begun opened_depths
  deep-start =
      subst (λ (a : State). forgotten a ≡ run.start_state vs l → DeepBasic vs a) (sym start-deep)
      (λ e.
      record {
        basic = subst (Basic vs) (sym e) (basic-start vs l (bare-begins b));
        sized = sized-started vs (length vs);
        deep_long = omega (arith, opened-deep-length, b.deep_long);
        messages = λ q lt. omega (arith, opened-below (get_or vs 0 0) l d b.deep_long q lt, opened-sent (get_or vs 0 0) l b.long);
        processes = λ i lo hi.
            omega (arith, depth-started vs (length vs) i, hi);
      })
      start-forgets
    where
      opened-deep-length : length (opened_depths (get_or vs 0 0) l d) ≡ length d
      opened-deep-length =
          dated-length 1 (Some (first_message (get_or vs 0 0))) 0 (cleared store_length l) (cleared store_length d) ∙ cleared-length store_length d b.deep_long

-- ---- every state of a run

-- what each step keeps is kept from any state of a run on
pub deep-throughout : (vs : List ℕ) (P : State → Type 0) → ((a : State) (s : Step) → DeepBasic vs a → P a → P (next a s))
    → (a : State) (ss : List Step) → DeepBasic vs a → P a → P (after a ss)
unfolding after
deep-throughout vs P step a [] h p = p
deep-throughout vs P step a (s ∷ ss) h p = deep-throughout vs P step (next a s) ss (deep-next vs a h s) (step a s h p)

pub deep-basic-after : (vs : List ℕ) (a : State) (ss : List Step) → DeepBasic vs a → DeepBasic vs (after a ss)
unfolding after
deep-basic-after vs a [] h = h
deep-basic-after vs a (s ∷ ss) h = deep-basic-after vs (next a s) ss (deep-next vs a h s)

pub deep-basic : (vs l d : List ℕ) (ss : List Step) → Begins vs l d → DeepBasic vs (at vs l d ss)
deep-basic vs l d ss b = deep-basic-after vs (start_state vs l d) ss (deep-start vs l d b)

-- a list of steps in two parts
pub deep_more : (a : State) (ss ts : List Step) → after a (ss ++ ts) ≡ after (after a ss) ts
unfolding after
deep_more a [] ts = refl
deep_more a (s ∷ ss) ts = deep_more (next a s) ss ts

-- ---- statement 10

pub after-forgets : (vs : List ℕ) (a : State) (ss : List Step) → DeepBasic vs a → forgotten (after a ss) ≡ run.after (forgotten a) ss
unfolding after run.after
after-forgets vs a [] h = refl
after-forgets vs a (s ∷ ss) h =
    after-forgets vs (next a s) ss (deep-next vs a h s) ∙ ap (λ (b : Bare). run.after b ss) (next-forgets vs a h s)

-- every state of a run is one of the run without depths, with its depths forgotten
pub run-forgets : (vs l d : List ℕ) (ss : List Step) → Begins vs l d → forgotten (at vs l d ss) ≡ bare.at vs l ss
run-forgets vs l d ss b =
    after-forgets vs (start_state vs l d) ss (deep-start vs l d b) ∙ ap (λ (a : Bare). run.after a ss) (start-forgets vs l d b)

pub depths-change-nothing : DepthsChangeNothing
depths-change-nothing vs l d ss b other s alike within =
    let a = at vs l d ss in
    let limits = deep-limits vs a (deep-basic vs l d ss b) in
    let one : forgotten a ≡ forgotten other = λ t. record { group = alike.groups t; store = alike.stores t } in
    let nexts =
    same.next-forgets a limits s ∙ ap (λ (c : Bare). run.next c s) one ∙ sym (same.next-forgets other within s) in (
      same.says-forgets a limits s ∙ ap (λ (c : Bare). (base.stepped c.group c.store s).says) one ∙ sym (same.says-forgets other within s),
      record { groups = ap (λ (c : Bare). c.group) nexts; stores = ap (λ (c : Bare). c.store) nexts },
    )

pub answers-forget : (vs : List ℕ) (a : State) (ss : List Step) → DeepBasic vs a → answers a ss ≡ run.answers (forgotten a) ss
unfolding answers run.answers
answers-forget vs a [] h = refl
answers-forget vs a (s ∷ ss) h =
    ap₂ (λ (x : Said) (xs : List Said). x ∷ xs) (says-forgets vs a h s)
    (answers-forget vs (next a s) ss (deep-next vs a h s) ∙ ap (λ (b : Bare). run.answers b ss) (next-forgets vs a h s))

pub answers_stay : (vs l d : List ℕ) (ss : List Step) → Begins vs l d → answers (start_state vs l d) ss ≡ run.answers (run.start_state vs l) ss
answers_stay vs l d ss b =
    answers-forget vs (start_state vs l d) ss (deep-start vs l d b) ∙ ap (λ (a : Bare). run.answers a ss) (start-forgets vs l d b)

-- ---- statement 11

pub depths-fit : DepthsFit
depths-fit vs l d ss b =
    let h = deep-basic vs l d ss b in
    let most = sent-most (at vs l d ss).store store_length in (
      λ k lt. omega (arith, h.messages k lt, most),
      λ i o. omega (arith, h.processes i o.low (omega (arith, deep-size vs (at vs l d ss) h, o.high)), most),
    )

pub sound-group : SoundGroup
sound-group vs l d ss b = (deep-limits vs (at vs l d ss) (deep-basic vs l d ss b)).ready

pub never-damaged : NeverDamaged
never-damaged vs l d ss b s =
    let a = at vs l d ss in
    let bare-never = never-two-nor-eleven vs l ss (bare-begins b) s in
    subst (λ (k : ℕ). (k ≢ 2) × (k ≢ 11) × (k ≢ 14)) (sym (same.refusal-same a (deep-limits vs a (deep-basic vs l d ss b)) s))
    (subst (λ (c : Bare). (base.refusal c.group c.store s ≢ 2) × (base.refusal c.group c.store s ≢ 11) × (base.refusal c.group c.store s ≢ 14))
    (sym (run-forgets vs l d ss b))
    (bare-never.0, bare-never.1, same.never-depths (bare.at vs l ss).group (bare.at vs l ss).store s))

-- ---- depths past the store

past-step : (vs : List ℕ) (a : State) (s : Step) → DeepBasic vs a → (q : ℕ) → store_length ≤ q → message_depth (next a s) q ≡ message_depth a q
unfolding next stepped settled dated_both
past-step vs a s h q le = go (course a.group a.store a.depths s) (deep-fine vs a h s)
  where
    k : ℕ
    k = depth_after a.group a.depths s

    go : (c : Course) → Fine a.group.n c → get_or (settled a.group a.store a.depths k c).depths q 0 ≡ message_depth a q
    go Idles f = refl
    go (Refuses n) f = refl
    go (Takes i x) f =
        dated-other i x.second k (hand_over i x.first a.store) (dated i x.first k a.store a.depths) q (omega (arith, place-lt i x.second f.small f.second))
        ∙ dated-other i x.first k a.store a.depths q (omega (arith, place-lt i x.first f.small f.first))

pub past-depths-kept : (vs l d : List ℕ) (ss : List Step) → Begins vs l d → (q : ℕ) → store_length ≤ q → message_depth (at vs l d ss) q ≡ get_or d q 0
unfolding opened_depths place_of
past-depths-kept vs l d ss b q le =
    deep-throughout vs (λ (a : State). message_depth a q ≡ get_or d q 0) (λ a s h e. past-step vs a s h q le ∙ e) (start_state vs l d) ss (deep-start vs l d b)
    (ap (λ (a : State). message_depth a q) (start-deep vs l d b)
    ∙ dated-other 1 (Some (first_message (get_or vs 0 0))) 0 (cleared store_length l) (cleared store_length d) q (omega arith) ∙ cleared-past store_length d q le)
