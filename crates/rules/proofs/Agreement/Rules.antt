-- The rules as moves of one process in hand, in the words of the rules and without the invariant, each of which keeps it. A cut step is the same moves without those that
-- hand over (`relay`, `announce`, `close_f`, `enter_e`), and with `lose` at the end. Assumes nothing.
use mathlib.Core.Path.{◌≡◌, refl, ap, ◌∙◌}
use mathlib.Core.Logic.{◌≢◌, inl, inr}
use mathlib.Core.Bool.{Bool, true, false≢true}
use mathlib.Core.Option.{some}
use Prim.Native.Nat.{ℕ, ◌+◌, ◌≤◌, ◌<◌}
use Rattle.rules.specs.Limits.{majority}
use Rattle.rules.specs.Tally.{count}
use Rattle.rules.proofs.Agreement.Upd.{upd, upd-all}
use Rattle.rules.proofs.Agreement.View.{Proc, View, who, what, c, set_p, put_e, put_f, put_d}
use Rattle.rules.proofs.Agreement.Inv.{Decided, Inv}
use Rattle.rules.proofs.Agreement.Moves.{Sent, an_e, an_f, keeps, takes_e, takes_f, Hears, before, hears_e, hears_f, stayed, jumped, shifted, entered, nobody}
use Rattle.rules.proofs.Agreement.Focus as focus

-- a tally with one more sender
abbrev pub add : (ℕ → Bool) → ℕ → ℕ → Bool
add h j = upd h j true

-- who need not adopt the first E: one that has heard somebody, and the coordinator
pub data Leads (S : View) (i : ℕ) (q : Proc) : Type 0 where
  heard_one : (k : ℕ) → q.heard k ≡ true → Leads S i q
  coordinates : i ≡ c S q.round → Leads S i q

-- process i, with the record q in the group S, goes on to the group T with the record t
pub data Move (S : View) (i : ℕ) (q : Proc) : View → Proc → Type 0 where
  -- to a higher round, with a sent estimate of it
  leap : (r e : ℕ) → q.round < r → Sent S r e → Move S i q S (jumped q r e)
  -- an E: taken, relayed, joined
  adopt : (j : ℕ) → q.phase ≡ 1 → S.E q.round j ≢ 0 → Move S i q S (stayed q (S.E q.round j) (add q.heard j) q.dec)
  relay : (j : ℕ) → q.phase ≡ 1 → S.E q.round j ≢ 0 → q.est ≡ S.E q.round j → Move S i q (put_e S q.round i q.est) q
  join : (j : ℕ) → q.phase ≡ 1 → S.E q.round j ≢ 0 → Leads S i q → Move S i q S (stayed q q.est (add q.heard j) q.dec)
  -- a majority of E: the decision, handed over
  decide : q.phase ≡ 1 → majority S.n ≤ count q.heard S.n → Move S i q S (stayed q q.est q.heard (some (what q.est)))
  learn : (j : ℕ) → S.D j ≢ 0 → Move S i q S (stayed q q.est q.heard (some (what (S.D j))))
  announce : (e : ℕ) → q.dec ≡ some (what e) → Move S i q (put_d S i e) q
  -- to phase 2, the F handed over with the estimate that stands before an adoption
  close : q.phase ≡ 1 → Move S i q S (shifted q)
  close_f : q.phase ≡ 1 → Move S i q (put_f S q.round i q.est) (shifted q)
  -- an F: taken if its proposer is the coordinator, joined
  adopt_f : (j : ℕ) → q.phase ≡ 2 → S.F q.round j ≢ 0 → who (S.F q.round j) ≡ c S q.round
      → Move S i q S (stayed q (S.F q.round j) (add q.heard j) q.dec)
  join_f : (j : ℕ) → q.phase ≡ 2 → S.F q.round j ≢ 0 → who (S.F q.round j) ≢ c S q.round
      → Move S i q S (stayed q q.est (add q.heard j) q.dec)
  -- a majority of F: the next round, its E handed over by its coordinator
  enter : q.phase ≡ 2 → majority S.n ≤ count q.heard S.n → (e : ℕ) → who e ≡ i → what e ≡ what q.est → Move S i q S (entered q e)
  enter_e : q.phase ≡ 2 → majority S.n ≤ count q.heard S.n → (e : ℕ) → who e ≡ i → what e ≡ what q.est → i ≡ c S (q.round + 1)
      → Move S i q (put_e S (q.round + 1) i e) (entered q e)
  -- a crash
  lose : Move S i q S (stayed q q.est nobody q.dec)

module _ (S : View) (i : ℕ) (low : 1 ≤ i) (high : i ≤ S.n) (q : Proc) (h : Inv (set_p S i q)) where
  -- the group with the record put in
  abbrev S₁ : View
  S₁ = set_p S i q

  -- a member of a tally that j has joined
  joined : (e j : ℕ) → Hears (set_p S i q) q e j → (k : ℕ) → add q.heard j k ≡ true → Hears (set_p S i q) q e k
  joined e j new = upd-all (λ k b. b ≡ true → Hears S₁ q e k) q.heard j true (λ _. new) (λ k _ m. before m)

  -- all E of the round are the coordinator's
  is-coords : (r j : ℕ) → S.E r j ≢ 0 → S.E r j ≡ S.E r (c S r)
  is-coords r j m = (h.es r j m).A

  -- who need not adopt has the coordinator's estimate
  leads : (j : ℕ) → q.phase ≡ 1 → S.E q.round j ≢ 0 → Leads S i q → q.est ≡ S.E q.round (c S q.round)
  leads j f m (heard_one k x) = focus.heard-leads S i low high q h f k x
  leads j f m (coordinates x) = focus.coord-leads S i low high q h x j m

  -- what it had decided
  old : (v : ℕ) → q.dec ≡ some v → Decided (set_p S i q) v
  old = focus.dec-before S i low high q h

  -- what a process decides
  just : (x : ℕ) → Decided (set_p S i q) x → (v : ℕ) → some x ≡ some v → Decided (set_p S i q) v
  just x d v e = let z : x ≡ v = cc e in rw z at d

  -- each move keeps the invariant
  pub keeps-inv : (T : View) (t : Proc) → Move S i q T t → Inv (set_p T i t)
  keeps-inv T t (leap r e l s) = focus.jump S i low high q h r e l (again s)
    where
      again : Sent S r e → Sent (set_p S i q) r e
      again (an_e j m x) = an_e j m x
      again (an_f j m x) = an_f j m x
  keeps-inv T t (adopt j f m) =
      focus.stay S i low high q h (S.E q.round j) (add q.heard j) q.dec (takes_e f j m refl)
      (joined (S.E q.round j) j (hears_e f m (is-coords q.round j m))) old
  keeps-inv T t (relay j f m x) =
      focus.hand-E S i low high q h f (ap who x ∙ (h.es q.round j m).by)
      (inr (λ z. m (is-coords q.round j m ∙ z), x ∙ is-coords q.round j m))
  keeps-inv T t (join j f m l) =
      focus.stay S i low high q h q.est (add q.heard j) q.dec (keeps refl)
      (joined q.est j (hears_e f m (leads j f m l))) old
  keeps-inv T t (decide f m) =
      focus.stay S i low high q h q.est q.heard (some (what q.est)) (keeps refl) (λ j x. before x)
      (just (what q.est) (focus.may-decide S i low high q h f m))
  keeps-inv T t (learn j m) =
      focus.stay S i low high q h q.est q.heard (some (what (S.D j))) (keeps refl) (λ j x. before x)
      (just (what (S.D j)) (h.ds j m))
  keeps-inv T t (announce e x) = focus.hand-D S i low high q h e x
  keeps-inv T t (close f) = focus.shift S i low high q h
  keeps-inv T t (close_f f) =
      focus.hand-F S i low high (shifted q) (focus.shift S i low high q h) refl (focus.no-F S i low high q h f)
  keeps-inv T t (adopt_f j f m w) =
      focus.stay S i low high q h (S.F q.round j) (add q.heard j) q.dec (takes_f f j m w refl)
      (joined (S.F q.round j) j (hears_f f m (λ _. refl))) old
  keeps-inv T t (join_f j f m w) =
      focus.stay S i low high q h q.est (add q.heard j) q.dec (keeps refl)
      (joined q.est j (hears_f f m (λ x. absurd (w x)))) old
  keeps-inv T t (enter f m e w x) = focus.enter S i low high q h f m e w x
  keeps-inv T t (enter_e f m e w x y) =
      focus.hand-E S i low high (entered q e) (focus.enter S i low high q h f m e w x) refl (w ∙ y) (inl y)
  keeps-inv T t lose =
      focus.stay S i low high q h q.est nobody q.dec (keeps refl) (λ j x. absurd (false≢true x)) old
