-- A state of a run as the safety proof sees it: a record outside 1..16 is blank, and an entry outside rounds 0 to 63 or processes 1..16 is 0. Assumes nothing.
use Rattle.std.specs.Prelude.{Option as Optional, Some, None}
use mathlib.Core.Path.{◌≡◌, refl, sym, ap, ◌∙◌}
use mathlib.Core.Bool.{Bool, true, false, ◌&&◌}
use mathlib.Core.Option.{Option, some, none}
use mathlib.Core.List.{List}
use mathlib.Core.Logic.{◌≢◌}
use Prim.Native.Nat.{ℕ, zero, suc, ◌-◌, ◌^◌, ◌≤◌, ◌<◌}
use native.Mathlib.Omega.{arith}
use lib.Count.{ones}
use lib.Dec.{leb}
use lib.ListN.{length, get_or}
use borrow.Author.Tests.{leb-true, le-leb}
use Rattle.rules.specs.declared.group.Group.{Group}
use Rattle.rules.specs.declared.process.Process.{Process}
use Rattle.rules.specs.declared.process.Next.{Next}
use Rattle.rules.specs.declared.process.Message.{Message}
use Rattle.rules.specs.declared.process.Message.TheVariants.{E, S, F, Decision}
use Rattle.rules.specs.Limits.{greatest_size, last_round, store_length, majority, among}
use Rattle.rules.specs.Tally.{holds, joined, meets, count}
use Rattle.rules.specs.Layout.{process_at, with_process, Sized}
use Rattle.rules.specs.Look.{record_if, record_of}
use Rattle.rules.specs.Store.{slot, decision_slot, kind_e, kind_f, entry_of, place_of, message_round, entry_for, hand_over}
use Rattle.rules.proofs.Laws.Store.{place_by}
use Rattle.rules.specs.Step.{hand_overs}
use Rattle.rules.proofs.Laws.Bool.{and_left, and_right, and_both}
use Rattle.rules.proofs.Laws.Row.{among-true, among_in}
use Rattle.rules.proofs.Laws.Count.{count-ext, count-some}
use Rattle.rules.proofs.Laws.Tally.{holds-own, holds-other, holds-empty, meets-count, ones-count, ones-zero}
use Rattle.rules.proofs.Laws.Group.{process-put, process-kept}
use Rattle.rules.proofs.Laws.Store.{Place, slot_same, hand_over-own, hand_over-other, hand_over-length, place-lt}
use Rattle.rules.proofs.Agreement.Upd.{upd, upd-all, upd-map, upd2-ext}
use Rattle.rules.proofs.Agreement.View.{Proc, View, set_p, put_e, put_f, put_d}
use Rattle.rules.proofs.Agreement.Focus.{view-path}

-- ---- a record

-- sender j is in the tally t; 0 is nobody
unfoldable pub heard_in : ℕ → ℕ → Bool
heard_in t zero = false
heard_in t (suc j) = holds t (suc j)

-- the decision, if any
unfoldable pub decision_of : Bool → ℕ → Option ℕ
decision_of true v = some v
decision_of false v = none

-- the record
abbrev pub seen : Process → Proc
seen p =
    record {
      round = p.round;
      phase = p.phase;
      est = entry_of p.proposer p.value;
      heard = heard_in p.estimates;
      dec = decision_of p.decided p.decision;
    }

-- nobody is in the empty tally
pub heard-none : (j : ℕ) → heard_in 0 j ≡ false
unfolding heard_in
heard-none zero = refl
heard-none (suc j) = holds-empty (suc j)

-- one more, where j joins
pub heard-join : (t j : ℕ) → 1 ≤ j → (k : ℕ) → heard_in (joined t j) k ≡ upd (heard_in t) j true k
unfolding heard_in
heard-join t zero h = absurd (omega arith)
heard-join t (suc j) h =
    upd-all (λ k b. heard_in (joined t (suc j)) k ≡ b) (heard_in t) (suc j) true (holds-own t (suc j) h) other
  where
    other : (k : ℕ) → suc j ≢ k → heard_in (joined t (suc j)) k ≡ heard_in t k
    other zero ne = refl
    other (suc k) ne = holds-other t (suc j) (suc k) h (omega arith) (λ e. ne (sym e))

-- of 1 and up they are the tally's senders
heard-holds : (t j : ℕ) → 1 ≤ j → heard_in t j ≡ holds t j
unfolding heard_in
heard-holds t zero h = absurd (omega arith)
heard-holds t (suc j) h = refl

-- a tally that meets the majority is one
pub heard-majority : (t n : ℕ) → t < 2 ^ n → meets t n ≡ true → majority n ≤ count (heard_in t) n
heard-majority t n h e =
    omega (arith, meets-count t n h e, count-ext (holds t) (heard_in t) n (λ j a b. heard-holds t j a))

-- a tally that is not 0 has a member
pub heard-some : (t n : ℕ) → t < 2 ^ n → t ≢ 0 → (k : ℕ) × (heard_in t k ≡ true)
heard-some t n h ne =
    let size = ones-count t n h in
    let some_one : ones t ≢ 0 = λ z. ne ((ones-zero t).0 z) in
    let r = count-some (holds t) n (omega arith) in
    (r.0, heard-holds t r.0 r.1 ∙ r.3)

-- ---- an entry

-- an entry in range, and 0 out of it
unfoldable pub entry_if : Bool → ℕ → ℕ
entry_if true e = e
entry_if false e = 0

-- the entry of kind k, round r and process p, and the decision's of process p
unfoldable pub entry : List ℕ → ℕ → ℕ → ℕ → ℕ
entry l k r p = entry_if (leb r last_round && among greatest_size p) (get_or l (slot r p k) 0)

unfoldable pub verdict : List ℕ → ℕ → ℕ
verdict l p = entry_if (among greatest_size p) (get_or l (decision_slot p) 0)

-- in range they are the store's
pub entry_at : (l : List ℕ) (k r p : ℕ) → r ≤ last_round → 1 ≤ p → p ≤ greatest_size → entry l k r p ≡ get_or l (slot r p k) 0
unfolding entry entry_if
entry_at l k r p a b c =
    ap (λ (t : Bool). entry_if t (get_or l (slot r p k) 0))
    (and_both (leb r last_round) (among greatest_size p) (le-leb r last_round a) (among_in greatest_size p b c))

pub verdict-at : (l : List ℕ) (p : ℕ) → 1 ≤ p → p ≤ greatest_size → verdict l p ≡ get_or l (decision_slot p) 0
unfolding verdict entry_if
verdict-at l p b c = ap (λ (t : Bool). entry_if t (get_or l (decision_slot p) 0)) (among_in greatest_size p b c)

-- stores that agree in range
entry-same : (l m : List ℕ) (k r p : ℕ) → k ≤ 2 → (Place r p k → get_or l (slot r p k) 0 ≡ get_or m (slot r p k) 0) → entry l k r p ≡ entry m k r p
unfolding entry entry_if
entry-same l m k r p z h = go (leb r last_round && among greatest_size p) refl
  where
    go : (t : Bool) → (leb r last_round && among greatest_size p) ≡ t → entry_if t (get_or l (slot r p k) 0) ≡ entry_if t (get_or m (slot r p k) 0)
    go false e = refl
    go true e =
        let in_p = among-true greatest_size p (and_right (leb r last_round) (among greatest_size p) e) in
        h record {
          round = leb-true r last_round (and_left (leb r last_round) (among greatest_size p) e);
          low = in_p.0;
          high = in_p.1;
          kind = z;
        }

verdict-same : (l m : List ℕ) (p : ℕ) → (1 ≤ p → get_or l (decision_slot p) 0 ≡ get_or m (decision_slot p) 0) → verdict l p ≡ verdict m p
unfolding verdict entry_if
verdict-same l m p h = go (among greatest_size p) refl
  where
    go : (t : Bool) → among greatest_size p ≡ t → entry_if t (get_or l (decision_slot p) 0) ≡ entry_if t (get_or m (decision_slot p) 0)
    go false e = refl
    go true e = h (among-true greatest_size p e).0

-- a store with nothing sent
pub entry-none : (l : List ℕ) (k r p : ℕ) → k ≤ 2 → ((s : ℕ) → s < store_length → get_or l s 0 ≡ 0) → entry l k r p ≡ 0
unfolding entry entry_if
entry-none l k r p z h = go (leb r last_round && among greatest_size p) refl
  where
    go : (t : Bool) → (leb r last_round && among greatest_size p) ≡ t → entry_if t (get_or l (slot r p k) 0) ≡ 0
    go false e = refl
    go true e =
        let in_p = among-true greatest_size p (and_right (leb r last_round) (among greatest_size p) e) in
        let in-r = leb-true r last_round (and_left (leb r last_round) (among greatest_size p) e) in
        h (slot r p k) (omega arith)

pub verdict-none : (l : List ℕ) (p : ℕ) → ((s : ℕ) → s < store_length → get_or l s 0 ≡ 0) → verdict l p ≡ 0
unfolding verdict entry_if
verdict-none l p h = go (among greatest_size p) refl
  where
    go : (t : Bool) → among greatest_size p ≡ t → entry_if t (get_or l (decision_slot p) 0) ≡ 0
    go false e = refl
    go true e = let in_p = among-true greatest_size p e in h (decision_slot p) (omega arith)

-- ---- a state: vs are the first values

abbrev pub view : List ℕ → Group → List ℕ → View
view vs g l =
    record {
      n = g.n;
      proc = λ p. seen (record_of g p);
      E = entry l kind_e;
      F = entry l kind_f;
      D = verdict l;
      first = λ p. get_or vs (p - 1) 0;
    }

-- a record put in
pub record-in : (g : Group) (i : ℕ) → 1 ≤ i → i ≤ greatest_size → record_of g i ≡ process_at g i
unfolding record_of record_if among
record-in g i a b = ap (λ (t : Bool). record_if t g i) (and_both (leb 1 i) (leb i greatest_size) (le-leb 1 i a) (le-leb i greatest_size b))

module _ (g : Group) (i : ℕ) (p : Process) (sized : Sized g) (low : 1 ≤ i) (high : i ≤ greatest_size) where
  -- at any other place
  record-other : (j : ℕ) → i ≢ j → record_of (with_process g i p) j ≡ record_of g j
  unfolding record_of record_if among
  record-other j ne = go (leb 1 j && leb j greatest_size) refl
    where
      go : (t : Bool) → (leb 1 j && leb j greatest_size) ≡ t → record_if t (with_process g i p) j ≡ record_if t g j
      go false e = refl
      go true e =
          process-kept g i j p low high (leb-true 1 j (and_left (leb 1 j) (leb j greatest_size) e))
          (leb-true j greatest_size (and_right (leb 1 j) (leb j greatest_size) e)) (λ z. ne (sym z))

  -- so the records change at i
  record-with : (j : ℕ) → record_of (with_process g i p) j ≡ upd (record_of g) i p j
  record-with =
      upd-all (λ (j : ℕ) (q : Process). record_of (with_process g i p) j ≡ q) (record_of g) i p
      (record-in (with_process g i p) i low high ∙ process-put g i p sized low high) record-other

  -- and so does the view
  view-with : (vs l : List ℕ) → view vs (with_process g i p) l ≡ set_p (view vs g l) i (seen p)
  unfolding with_process
  view-with vs l =
      view-path (view vs (with_process g i p) l) (set_p (view vs g l) i (seen p)) refl
      (λ j. ap seen (record-with j) ∙ upd-map seen (record_of g) i p j) (λ r j. refl) (λ r j. refl) (λ j. refl) (λ j. refl)

-- ---- a message handed over

-- in the view: an S is not seen
abbrev pub hand : View → ℕ → Optional Message → View
hand A i None = A
hand A i (Some (E r q v)) = put_e A r i (entry_of q v)
hand A i (Some (S r)) = A
hand A i (Some (F r q v)) = put_f A r i (entry_of q v)
hand A i (Some (Decision v)) = put_d A i (entry_of i v)

-- both messages of an event
abbrev pub hands : View → ℕ → Next → View
hands A i x = hand (hand A i x.first) i x.second

-- the group's size stays
pub hand-n : (A : View) (i : ℕ) (m : Optional Message) → (hand A i m).n ≡ A.n
hand-n A i None = refl
hand-n A i (Some (E r q v)) = refl
hand-n A i (Some (S r)) = refl
hand-n A i (Some (F r q v)) = refl
hand-n A i (Some (Decision v)) = refl

module _ (i : ℕ) (l : List ℕ) (low : 1 ≤ i) (high : i ≤ greatest_size) (long : store_length ≤ length l) where
  -- an entry that is not the message's
  entry_kept : (m : Optional Message) (k s p : ℕ) → k ≤ 2 → (Place s p k → slot s p k ≢ place_by i m) → entry (hand_over i m l) k s p ≡ entry l k s p
  entry_kept m k s p z ne = entry-same (hand_over i m l) l k s p z (λ h. hand_over-other i m l (slot s p k) (ne h))

  verdict-kept : (m : Optional Message) (p : ℕ) → (1 ≤ p → decision_slot p ≢ place_by i m) → verdict (hand_over i m l) p ≡ verdict l p
  verdict-kept m p ne = verdict-same (hand_over i m l) l p (λ h. hand_over-other i m l (decision_slot p) (ne h))

  module _ (vs : List ℕ) (g : Group) where
    view_of : (m : Optional Message) (A : View) → g.n ≡ A.n → ((p : ℕ) → seen (record_of g p) ≡ A.proc p)
        → ((s p : ℕ) → entry (hand_over i m l) kind_e s p ≡ A.E s p) → ((s p : ℕ) → entry (hand_over i m l) kind_f s p ≡ A.F s p)
        → ((p : ℕ) → verdict (hand_over i m l) p ≡ A.D p) → ((p : ℕ) → get_or vs (p - 1) 0 ≡ A.first p) → view vs g (hand_over i m l) ≡ A
    view_of m A = view-path (view vs g (hand_over i m l)) A

    pub view-hand : (m : Optional Message) → message_round m ≤ last_round → view vs g (hand_over i m l) ≡ hand (view vs g l) i m
    unfolding message_round place_of entry_for hand_over
    view-hand None le = refl
    view-hand (Some (E r q v)) le =
        view_of (Some (E r q v)) (put_e (view vs g l) r i (entry_of q v)) refl (λ p. refl)
        (upd2-ext (entry (hand_over i (Some (E r q v)) l) kind_e) (entry l kind_e) r i (entry_of q v) own (λ s p ne. entry_kept (Some (E r q v)) kind_e s p (omega arith) (away s p ne)))
        (λ s p. entry_kept (Some (E r q v)) kind_f s p (omega arith) (apart s p)) (λ p. verdict-kept (Some (E r q v)) p (decided p)) (λ p. refl)
      where
        own : entry (hand_over i (Some (E r q v)) l) kind_e r i ≡ entry_of q v
        own =
            entry_at (hand_over i (Some (E r q v)) l) kind_e r i le low high
            ∙ hand_over-own i (Some (E r q v)) l tt (omega (arith, place-lt i (Some (E r q v)) high le))

        away : (s p : ℕ) → ¬ ((r ≡ s) × (i ≡ p)) → Place s p kind_e → slot s p kind_e ≢ place_by i (Some (E r q v))
        away s p ne h z =
            let same = slot_same r i kind_e s p kind_e (record { round = le; low = low; high = high; kind = omega arith }) h (sym z) in
            ne (same.0, same.1)

        apart : (s p : ℕ) → Place s p kind_f → slot s p kind_f ≢ place_by i (Some (E r q v))
        apart s p h z = omega arith

        decided : (p : ℕ) → 1 ≤ p → decision_slot p ≢ place_by i (Some (E r q v))
        decided p h z = omega arith
    view-hand (Some (S r)) le =
        view_of (Some (S r)) (view vs g l) refl (λ p. refl) (λ s p. entry_kept (Some (S r)) kind_e s p (omega arith) (first s p))
        (λ s p. entry_kept (Some (S r)) kind_f s p (omega arith) (second s p)) (λ p. verdict-kept (Some (S r)) p (decided p)) (λ p. refl)
      where
        first : (s p : ℕ) → Place s p kind_e → slot s p kind_e ≢ place_by i (Some (S r))
        first s p h z = omega arith

        second : (s p : ℕ) → Place s p kind_f → slot s p kind_f ≢ place_by i (Some (S r))
        second s p h z = omega arith

        decided : (p : ℕ) → 1 ≤ p → decision_slot p ≢ place_by i (Some (S r))
        decided p h z = omega arith
    view-hand (Some (F r q v)) le =
        view_of (Some (F r q v)) (put_f (view vs g l) r i (entry_of q v)) refl (λ p. refl)
        (λ s p. entry_kept (Some (F r q v)) kind_e s p (omega arith) (apart s p))
        (upd2-ext (entry (hand_over i (Some (F r q v)) l) kind_f) (entry l kind_f) r i (entry_of q v) own (λ s p ne. entry_kept (Some (F r q v)) kind_f s p (omega arith) (away s p ne)))
        (λ p. verdict-kept (Some (F r q v)) p (decided p)) (λ p. refl)
      where
        own : entry (hand_over i (Some (F r q v)) l) kind_f r i ≡ entry_of q v
        own =
            entry_at (hand_over i (Some (F r q v)) l) kind_f r i le low high
            ∙ hand_over-own i (Some (F r q v)) l tt (omega (arith, place-lt i (Some (F r q v)) high le))

        away : (s p : ℕ) → ¬ ((r ≡ s) × (i ≡ p)) → Place s p kind_f → slot s p kind_f ≢ place_by i (Some (F r q v))
        away s p ne h z =
            let same = slot_same r i kind_f s p kind_f (record { round = le; low = low; high = high; kind = omega arith }) h (sym z) in
            ne (same.0, same.1)

        apart : (s p : ℕ) → Place s p kind_e → slot s p kind_e ≢ place_by i (Some (F r q v))
        apart s p h z = omega arith

        decided : (p : ℕ) → 1 ≤ p → decision_slot p ≢ place_by i (Some (F r q v))
        decided p h z = omega arith
    view-hand (Some (Decision v)) le =
        view_of (Some (Decision v)) (put_d (view vs g l) i (entry_of i v)) refl (λ p. refl)
        (λ s p. entry_kept (Some (Decision v)) kind_e s p (omega arith) (first s p)) (λ s p. entry_kept (Some (Decision v)) kind_f s p (omega arith) (second s p))
        (λ p. sym (upd-all (λ (j d : ℕ). d ≡ verdict (hand_over i (Some (Decision v)) l) j) (verdict l) i (entry_of i v) (sym own) (λ j ne. sym (verdict-kept (Some (Decision v)) j (away j ne))) p))
        (λ p. refl)
      where
        own : verdict (hand_over i (Some (Decision v)) l) i ≡ entry_of i v
        own =
            verdict-at (hand_over i (Some (Decision v)) l) i low high
            ∙ hand_over-own i (Some (Decision v)) l tt (omega (arith, place-lt i (Some (Decision v)) high le))

        away : (p : ℕ) → i ≢ p → 1 ≤ p → decision_slot p ≢ place_by i (Some (Decision v))
        away p ne h z = ne (omega arith)

        first : (s p : ℕ) → Place s p kind_e → slot s p kind_e ≢ place_by i (Some (Decision v))
        first s p h z = omega arith

        second : (s p : ℕ) → Place s p kind_f → slot s p kind_f ≢ place_by i (Some (Decision v))
        second s p h z = omega arith

-- the view after process i became x's record and handed its messages over
pub view-step : (vs : List ℕ) (g : Group) (l : List ℕ) (i : ℕ) (x : Next) → Sized g → 1 ≤ i → i ≤ greatest_size → store_length ≤ length l
    → message_round x.first ≤ last_round → message_round x.second ≤ last_round
    → view vs (with_process g i x.process) (hand_overs i x l) ≡ set_p (hands (view vs g l) i x) i (seen x.process)
unfolding hand_overs
view-step vs g l i x sized low high long a b =
    view-with g i x.process sized low high vs (hand_over i x.second (hand_over i x.first l))
    ∙ ap (λ (A : View). set_p A i (seen x.process))
    (view-hand i (hand_over i x.first l) low high (rw (hand_over-length i x.first l) long) vs g x.second b
    ∙ ap (λ (A : View). hand A i x.second) (view-hand i l low high long vs g x.first a))
