-- Statement 15, and that an entry once sent stays as it is: how many messages a step hands over, and what is handed over again. Assumes nothing.
use Rattle.std.specs.Prelude.{Option, Some, None}
use mathlib.Core.Path.{◌≡◌, refl, sym, ap, subst, ◌∙◌}
use mathlib.Core.Bool.{true}
use mathlib.Core.List.{List, [], ◌∷◌, ◌++◌}
use mathlib.Core.Logic.{◌⊎◌, ◌≢◌, inl, inr, ⊎_elim}
use Prim.Native.Nat.{ℕ, ◌+◌, ◌≤◌, ◌<◌}
use native.Mathlib.Decide.{ℕ_discrete}
use native.Mathlib.Omega.{arith}
use lib.ListN.{length, get_or, length-append}
use Rattle.rules.specs.declared.process.Message.{Message}
use Rattle.rules.specs.declared.process.Next.{Next}
use Rattle.rules.specs.declared.step.Step.{Step}
use Rattle.rules.specs.Limits.{store_length}
use Rattle.rules.specs.Store.{place_of, entry_for, hand_over, Handed, handed, place_handed, entry_handed, one}
use Rattle.rules.proofs.Laws.Store.{place_by, entry_by}
use Rattle.rules.specs.Depths.{depth_after}
use Rattle.rules.specs.Start.{first_message}
use Rattle.rules.specs.Step.{Course, Idles, Refuses, Takes, handed_of, hand_overs, sent_by, again_by, course, settled, stepped}
use Rattle.rules.specs.Run.{State, start_state, next, after, handed_by_course, handed_by, handed_in, handed_from}
use Rattle.rules.specs.Safety.{Begins, at, In, is_e, SentStays, AtMostTwo, AtMostOne, EqualRepeats, OnlyERepeats}
use Rattle.rules.proofs.Bare.Run.{State as Bare}
use Rattle.rules.proofs.Bare.Step as base
use Rattle.rules.proofs.Bare.Statements as bare
use Rattle.rules.proofs.Bare.Same.{course-same}
use Rattle.rules.proofs.Laws.Store.{IsMessage, counted-once, hand_over-own, hand_over-other, hand_over-length, place-lt, entry-nonzero, opened-own}
use Rattle.rules.proofs.Laws.Sound.{Taking, Fine, named-entry}
use Rattle.rules.proofs.Depths.Basics.{DeepBasic, bare-begins, deep-limits, deep-fine, start-deep, deep-basic, deep_more, run-forgets}
use Rattle.rules.proofs.Depths.Steps.{sent-after}
use Rattle.rules.proofs.Agreement.Agree.{safe}
use Rattle.rules.proofs.Runs.Handing.{in_some, in_one, in-cases}
use Rattle.rules.proofs.Runs.Spoken.{spoken}
use Rattle.rules.proofs.Runs.Repeats.{e_by, Again, Fair, FairBy, state-fair}

-- ---- of any group over any stores

pub at_most_two : AtMostTwo
unfolding stepped settled handed_by handed_by_course handed_of sent_by again_by
at_most_two a s = go (course a.group a.store a.depths s)
  where
    k : ℕ
    k = depth_after a.group a.depths s

    go : (c : Course) → ((settled a.group a.store a.depths k c).says.sent ≡ length (handed_by_course c)) × (length (handed_by_course c) ≤ 2)
        × ((settled a.group a.store a.depths k c).says.again ≤ (settled a.group a.store a.depths k c).says.sent)
    go Idles = (refl, omega arith, omega arith)
    go (Refuses j) = (refl, omega arith, omega arith)
    go (Takes i x) =
        let both = length-append (one i x.first) (one i x.second) in
        let first = counted-once i x.first a.store in
        let second = counted-once i x.second (hand_over i x.first a.store) in
        (refl, omega arith, omega arith)

-- ---- one message, or none

is-message : (m : Option Message) → Dec (IsMessage m)
is-message None = no (λ a. a)
is-message (Some m) = yes tt

module _ (i : ℕ) where
  -- what is handed over with m
  record One (m : Option Message) (h : Handed) : Type 0 where
    is : IsMessage m
    place : place_handed h ≡ place_by i m
    entry : entry_handed h ≡ entry_by i m
    kind : is_e h.message ≡ e_by m

  one-is : (m : Option Message) {h : Handed} → In h (one i m) → One m h
  unfolding one
  one-is None a = absurd (in_some a)
  one-is (Some m) a =
      let e = in_one a in
      record { is = tt; place = ap place_handed e; entry = ap entry_handed e; kind = ap (λ (h : Handed). is_e h.message) e }

  -- none is not counted, and leaves the store
  none : (m : Option Message) (l : List ℕ) → ¬ IsMessage m → (length (one i m) ≡ 0) × (hand_over i m l ≡ l)
  unfolding one hand_over
  none None l no_one = (refl, refl)
  none (Some m) l no_one = absurd (no_one tt)

-- ---- what process i hands over with x, where it is fair

module _ (n i : ℕ) (x : Next) (l : List ℕ) (f : Taking n i x) (long : store_length ≤ length l) (fair : Fair l i x) where
  fair-length : length (handed_of i x) ≤ 1
  unfolding handed_of
  fair-length = go (is-message x.first) (is-message x.second)
    where
      both : length (one i x.first ++ one i x.second) ≡ length (one i x.first) + length (one i x.second)
      both = length-append (one i x.first) (one i x.second)

      go : Dec (IsMessage x.first) → Dec (IsMessage x.second) → length (one i x.first ++ one i x.second) ≤ 1
      go (yes a) (yes b) = absurd (fair.alone a b)
      go (yes a) (no b) = omega (arith, both, counted-once i x.first l, (none i x.second l b).0)
      go (no a) d = omega (arith, both, counted-once i x.second l, (none i x.first l a).0)

  -- the store is that after a message of it, or as it was
  fair-store : (P : List ℕ → Type 0) → P l → ((m : Option Message) → IsMessage m → place_by i m < store_length → Again l i m → P (hand_over i m l)) → P (hand_overs i x l)
  unfolding hand_overs
  fair-store P old new = go (is-message x.first) (is-message x.second)
    where
      lone : ¬ IsMessage x.first → hand_over i x.second (hand_over i x.first l) ≡ hand_over i x.second l
      lone a = ap (hand_over i x.second) (none i x.first l a).1

      go : Dec (IsMessage x.first) → Dec (IsMessage x.second) → P (hand_over i x.second (hand_over i x.first l))
      go (yes a) (yes b) = absurd (fair.alone a b)
      go (yes a) (no b) =
          subst P (sym (none i x.second (hand_over i x.first l) b).1) (new x.first a (place-lt i x.first f.small f.first) fair.first)
      go (no a) (yes b) = subst P (sym (lone a)) (new x.second b (place-lt i x.second f.small f.second) fair.second)
      go (no a) (no b) = subst P (sym (lone a ∙ (none i x.second l b).1)) old

  -- an entry that is sent stays as it is
  fair-stays : (k : ℕ) → get_or l k 0 ≢ 0 → get_or (hand_overs i x l) k 0 ≡ get_or l k 0
  fair-stays k sent = fair-store (λ l'. get_or l' k 0 ≡ get_or l k 0) refl (λ m is lt again. go m is lt again (ℕ_discrete k (place_by i m)))
    where
      go : (m : Option Message) → IsMessage m → place_by i m < store_length → Again l i m → Dec (k ≡ place_by i m) → get_or (hand_over i m l) k 0 ≡ get_or l k 0
      go m is lt again (yes e) =
          let here = ap (λ (q : ℕ). get_or l q 0) e in
          ap (λ (q : ℕ). get_or (hand_over i m l) q 0) e ∙ hand_over-own i m l is (omega arith) ∙ (again is (λ z. sent (here ∙ z))).1 ∙ sym here
      go m is lt again (no ne) = hand_over-other i m l k ne

  -- what is handed over is of one of the two places, and stands there then
  record Stands (h : Handed) : Type 0 where
    entry : get_or (hand_overs i x l) (place_handed h) 0 ≡ entry_handed h
    real : entry_handed h ≢ 0
    again : get_or l (place_handed h) 0 ≢ 0 → (is_e h.message ≡ true) × (entry_handed h ≡ get_or l (place_handed h) 0)

  fair-stands : (h : Handed) → In h (handed_of i x) → Stands h
  unfolding handed_of hand_overs
  fair-stands h a = go (in-cases (one i x.first) a)
    where
      -- one of the two that stands with its entry, and is fair
      by : (m : Option Message) → One i m h → get_or (hand_overs i x l) (place_by i m) 0 ≡ entry_by i m → entry_by i m ≢ 0 → Again l i m → Stands h
      by m it entry real again =
          record {
            entry = ap (λ q. get_or (hand_overs i x l) q 0) it.place ∙ entry ∙ sym it.entry;
            real = λ z. real (sym it.entry ∙ z);
            again =
                λ sent.
                let was = ap (λ q. get_or l q 0) it.place in
                let e = again it.is (λ z. sent (was ∙ z)) in
                (it.kind ∙ e.0, it.entry ∙ e.1 ∙ sym was);
          }

      go : In h (one i x.first) ⊎ In h (one i x.second) → Stands h
      go (inl b) =
          let it = one-is i x.first b in
          by x.first it
          (ap (λ l'. get_or l' (place_by i x.first) 0) (none i x.second (hand_over i x.first l) (fair.alone it.is)).1
          ∙ hand_over-own i x.first l it.is (omega (arith, place-lt i x.first f.small f.first)))
          (named-entry n i x.first f.low f.first-named it.is) fair.first
      go (inr b) =
          let it = one-is i x.second b in
          by x.second it
          (hand_over-own i x.second (hand_over i x.first l) it.is (omega (arith, place-lt i x.second f.small f.second, hand_over-length i x.first l)))
          (named-entry n i x.second f.low f.second-named it.is) fair.second

-- ---- a state of a run

module _ (vs l d : List ℕ) (ss : List Step) (b : Begins vs l d) where
  abbrev a : State
  a = at vs l d ss

  h : DeepBasic vs a
  h = deep-basic vs l d ss b

  -- what its next step does is fair
  run-fair : (s : Step) → FairBy a.store (course a.group a.store a.depths s)
  run-fair s =
      subst (FairBy a.store) (sym (course-same a (deep-limits vs a h) s))
      (subst (λ (c : Bare). FairBy c.store (base.course c.group c.store s)) (sym (run-forgets vs l d ss b))
      (state-fair vs (bare.at vs l ss).group (bare.at vs l ss).store (safe vs l ss (bare-begins b)) (spoken vs l ss (bare-begins b)) s))

  one_at_most : (s : Step) → length (handed_by a s) ≤ 1
  unfolding handed_by handed_by_course
  one_at_most s = go (course a.group a.store a.depths s) (deep-fine vs a h s) (run-fair s)
    where
      go : (c : Course) → Fine a.group.n c → FairBy a.store c → length (handed_by_course c) ≤ 1
      go Idles f w = omega arith
      go (Refuses k) f w = omega arith
      go (Takes i x) f w = fair-length a.group.n i x a.store f h.basic.long w

  -- a step leaves an entry that is sent
  step_stays : (s : Step) (k : ℕ) → get_or a.store k 0 ≢ 0 → get_or (next a s).store k 0 ≡ get_or a.store k 0
  unfolding next stepped settled
  step_stays s k sent = go (course a.group a.store a.depths s) (deep-fine vs a h s) (run-fair s)
    where
      go : (c : Course) → Fine a.group.n c → FairBy a.store c
          → get_or (settled a.group a.store a.depths (depth_after a.group a.depths s) c).store k 0 ≡ get_or a.store k 0
      go Idles f w = refl
      go (Refuses j) f w = refl
      go (Takes i x) f w = fair-stays a.group.n i x a.store f h.basic.long w k sent

  -- what a step hands over stands in the store after it, and where its entry was sent it is an E with that entry
  record HandedNow (s : Step) (k : Handed) : Type 0 where
    entry : get_or (next a s).store (place_handed k) 0 ≡ entry_handed k
    real : entry_handed k ≢ 0
    again : get_or a.store (place_handed k) 0 ≢ 0 → (is_e k.message ≡ true) × (entry_handed k ≡ get_or a.store (place_handed k) 0)

  handed-now : (s : Step) (k : Handed) → In k (handed_by a s) → HandedNow s k
  unfolding handed_by handed_by_course next stepped settled
  handed-now s k now = go (course a.group a.store a.depths s) refl (deep-fine vs a h s) (run-fair s) now
    where
      go : (c : Course) → course a.group a.store a.depths s ≡ c → Fine a.group.n c → FairBy a.store c → In k (handed_by_course c) → HandedNow s k
      go Idles e f w i = absurd (in_some i)
      go (Refuses j) e f w i = absurd (in_some i)
      go (Takes i x) e f w m =
          let stands = fair-stands a.group.n i x a.store f h.basic.long w k m in
          record {
            entry =
                ap (λ c. get_or (settled a.group a.store a.depths (depth_after a.group a.depths s) c).store (place_handed k) 0) e ∙ stands.entry;
            real = stands.real;
            again = stands.again;
          }

-- ---- from a state of a run on

-- the state after one step more
next-is : (vs l d : List ℕ) (ss : List Step) (s : Step) → at vs l d (ss ++ (s ∷ [])) ≡ next (at vs l d ss) s
unfolding after
next-is vs l d ss s = deep_more (start_state vs l d) ss (s ∷ [])

stays_after : (vs l d : List ℕ) (ss : List Step) → Begins vs l d → (ts : List Step) (k : ℕ) → get_or (at vs l d ss).store k 0 ≢ 0
    → get_or (after (at vs l d ss) ts).store k 0 ≡ get_or (at vs l d ss).store k 0
unfolding after
stays_after vs l d ss b [] k sent = refl
stays_after vs l d ss b (t ∷ ts) k sent =
    let e = next-is vs l d ss t in
    let once = ap (λ (c : State). get_or c.store k 0) e ∙ step_stays vs l d ss b t k sent in
    ap (λ (c : State). get_or (after c ts).store k 0) (sym e) ∙ stays_after vs l d (ss ++ (t ∷ [])) b ts k (λ z. sent (sym once ∙ z)) ∙ once

-- what was handed over stands in the store
record Stood (a : State) (h : Handed) : Type 0 where
  entry : get_or a.store (place_handed h) 0 ≡ entry_handed h
  real : entry_handed h ≢ 0

stood_on : (vs l d : List ℕ) (ss : List Step) → Begins vs l d → (h : Handed) → Stood (at vs l d ss) h → (ts : List Step) → Stood (after (at vs l d ss) ts) h
stood_on vs l d ss b h k ts =
    record { entry = stays_after vs l d ss b ts (place_handed h) (λ z. k.real (sym k.entry ∙ z)) ∙ k.entry; real = k.real }

stood-in : (vs l d : List ℕ) (ss : List Step) → Begins vs l d → (ts : List Step) (h : Handed) → In h (handed_in (at vs l d ss) ts) → Stood (after (at vs l d ss) ts) h
unfolding after handed_in
stood-in vs l d ss b [] h i = absurd (in_some i)
stood-in vs l d ss b (t ∷ ts) h i =
    let e = next-is vs l d ss t in
    let on = stood_on vs l d (ss ++ (t ∷ [])) b h in
    let rest = stood-in vs l d (ss ++ (t ∷ [])) b ts h in
    subst (λ (c : State). Stood (after c ts) h) e
    (⊎_elim
    (λ now.
    let k = handed-now vs l d ss b t h now in
    on (record { entry = ap (λ (c : State). get_or c.store (place_handed h) 0) e ∙ k.entry; real = k.real }) ts)
    (λ then. rest (subst (λ (c : State). In h (handed_in c ts)) (sym e) then))
    (in-cases (handed_by (at vs l d ss) t) i))

-- the start's own message too
stood-start : (vs l d : List ℕ) → Begins vs l d → Stood (start_state vs l d) (handed 1 (first_message (get_or vs 0 0)))
unfolding place_of entry_for
stood-start vs l d b =
    record {
      entry = ap (λ (c : State). get_or c.store 0 0) (start-deep vs l d b) ∙ opened-own (get_or vs 0 0) l b.long;
      real = entry-nonzero 1 (get_or vs 0 0) (omega arith);
    }

stood : (vs l d : List ℕ) (ss : List Step) → Begins vs l d → (h : Handed) → In h (handed_from vs l d ss) → Stood (at vs l d ss) h
unfolding handed_from after
stood vs l d ss b h i = go (in-cases (handed 1 (first_message (get_or vs 0 0)) ∷ []) i)
  where
    go : In h (handed 1 (first_message (get_or vs 0 0)) ∷ []) ⊎ In h (handed_in (start_state vs l d) ss) → Stood (at vs l d ss) h
    go (inl first) = subst (Stood (at vs l d ss)) (sym (in_one first)) (stood_on vs l d [] b _ (stood-start vs l d b) ss)
    go (inr then) = stood-in vs l d [] b ss h then

-- ---- the statements

pub sent-stays : SentStays
sent-stays vs l d ss b ts k lt sent =
    (stays_after vs l d ss b ts k sent, (sent-after vs (at vs l d ss) ts (deep-basic vs l d ss b) k sent).1)

pub at_most_one : AtMostOne
at_most_one = one_at_most

pub equal-repeats : EqualRepeats
equal-repeats vs l d ss b s h now = (handed-now vs l d ss b s h now).again

pub only-e-repeats : OnlyERepeats
only-e-repeats vs l d ss b s h k before now place =
    let was = stood vs l d ss b h before in
    let here = ap (λ (q : ℕ). get_or (at vs l d ss).store q 0) (sym place) in
    let again = equal-repeats vs l d ss b s k now (λ z. was.real (sym was.entry ∙ sym here ∙ z)) in
    (again.0, again.1 ∙ here ∙ was.entry)
