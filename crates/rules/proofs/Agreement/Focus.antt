-- The moves on the process in hand: process i of the group S with the record q put in. A step begins with `take-up` (q is i's own record), goes on by moves of q and by entries
-- put into S, and ends in `set_p (.. S ..) i q'`, which is the view after the step. Assumes nothing.
use mathlib.Core.Path.{◌≡◌, refl, ap, ◌∙◌}
use mathlib.Core.Logic.{◌≢◌, ◌⊎◌}
use mathlib.Core.Bool.{Bool, true}
use mathlib.Core.Option.{Option, some}
use Prim.Native.Nat.{ℕ, ◌≤◌, ◌<◌}
use Rattle.rules.specs.Limits.{majority}
use Rattle.rules.specs.Tally.{count}
use Rattle.rules.proofs.Agreement.Upd.{upd, upd_same, upd-all, upd-upd}
use Rattle.rules.proofs.Agreement.View.{Proc, View, who, what, c, set_p, put_e, put_f, put_d}
use Rattle.rules.proofs.Agreement.Inv.{Decided, Inv}
use Rattle.rules.proofs.Agreement.Keep.{MayE, MayF, keep-put_e, keep-put_f, keep-put_d}
use Rattle.rules.proofs.Agreement.Moves as moves
use Rattle.rules.proofs.Agreement.Moves.{Sent, Takes, Hears, stayed, jumped, shifted, entered}

-- views with the same parts are equal: how a program's next state is seen to be the view that the moves end in
pub view-path : (S T : View) → S.n ≡ T.n → ((p : ℕ) → S.proc p ≡ T.proc p) → ((r p : ℕ) → S.E r p ≡ T.E r p)
    → ((r p : ℕ) → S.F r p ≡ T.F r p) → ((p : ℕ) → S.D p ≡ T.D p) → ((p : ℕ) → S.first p ≡ T.first p) → S ≡ T
view-path S T a b x y z f = λ k. record {
  n = a k;
  proc = λ p. b p k;
  E = λ r p. x r p k;
  F = λ r p. y r p k;
  D = λ p. z p k;
  first = λ p. f p k;
}

-- so are records with the same parts
pub proc-path : (q t : Proc) → q.round ≡ t.round → q.phase ≡ t.phase → q.est ≡ t.est → ((j : ℕ) → q.heard j ≡ t.heard j)
    → q.dec ≡ t.dec → q ≡ t
proc-path q t a b x y z = λ k. record { round = a k; phase = b k; est = x k; heard = λ j. y j k; dec = z k }

-- i's own record put in changes nothing
own : (S : View) (i : ℕ) → set_p S i (S.proc i) ≡ S
own S i = view-path (set_p S i (S.proc i)) S refl
    (upd-all (λ p x. x ≡ S.proc p) S.proc i (S.proc i) refl (λ p _. refl)) (λ r p. refl) (λ r p. refl) (λ p. refl) (λ p. refl)

-- a second record put in hides the first
twice : (S : View) (i : ℕ) (q q' : Proc) → set_p (set_p S i q) i q' ≡ set_p S i q'
twice S i q q' = view-path (set_p (set_p S i q) i q') (set_p S i q') refl (upd-upd S.proc i q q') (λ r p. refl) (λ r p. refl) (λ p. refl) (λ p. refl)

-- a step begins with i's own record in hand
pub take-up : (S : View) (i : ℕ) → Inv S → Inv (set_p S i (S.proc i))
take-up S i inv = rw (own S i) inv

module _ (S : View) (i : ℕ) (low : 1 ≤ i) (high : i ≤ S.n) (q : Proc) (inv : Inv (set_p S i q)) where
  -- the record in hand is i's
  same : upd S.proc i q i ≡ q
  same = upd_same S.proc i q

  -- a move of i's record in `set_p S i q`, read as a move of q
  read : (f : Proc → Proc) → Inv (set_p (set_p S i q) i (f (upd S.proc i q i))) → Inv (set_p S i (f q))
  read f h = rw (twice S i q (f q)) at (rw same at h)

  -- a fact on q, read as a fact on i's record
  back : (P : Proc → Type 0) → P q → P (upd S.proc i q i)
  back P h = rw same h

  -- the moves of the record: stay in the phase, jump, go to phase 2, enter the next round
  pub stay : (e : ℕ) (h : ℕ → Bool) (d : Option ℕ) → Takes (set_p S i q) q e → ((j : ℕ) → h j ≡ true → Hears (set_p S i q) q e j)
      → ((v : ℕ) → d ≡ some v → Decided (set_p S i q) v) → Inv (set_p S i (stayed q e h d))
  stay e h d takes hears decides =
      read (λ x. stayed x e h d)
      (moves.stay (set_p S i q) inv i low high e h d (back (λ x. Takes (set_p S i q) x e) takes)
      (λ j m. back (λ x. Hears (set_p S i q) x e j) (hears j m)) decides)

  pub jump : (r e : ℕ) → q.round < r → Sent (set_p S i q) r e → Inv (set_p S i (jumped q r e))
  jump r e a s = read (λ x. jumped x r e) (moves.jump (set_p S i q) inv i low high r e (back (λ x. x.round < r) a) s)

  pub shift : Inv (set_p S i (shifted q))
  shift = read shifted (moves.shift (set_p S i q) inv i low high)

  pub enter : q.phase ≡ 2 → majority S.n ≤ count q.heard S.n → (e : ℕ) → who e ≡ i → what e ≡ what q.est
      → Inv (set_p S i (entered q e))
  enter f m e w x =
      read (λ y. entered y e)
      (moves.enter (set_p S i q) inv i low high (back (λ y. y.phase ≡ 2) f) (back (λ y. majority S.n ≤ count y.heard S.n) m) e w
      (back (λ y. what e ≡ what y.est) x))

  -- what is known of the process in hand
  pub dec-before : (v : ℕ) → q.dec ≡ some v → Decided (set_p S i q) v
  dec-before v m = moves.decided-before (set_p S i q) inv i low high v (back (λ y. y.dec ≡ some v) m)

  pub may-decide : q.phase ≡ 1 → majority S.n ≤ count q.heard S.n → Decided (set_p S i q) (what q.est)
  may-decide f m =
      rw same at (moves.may-decide (set_p S i q) inv i low high (back (λ y. y.phase ≡ 1) f) (back (λ y. majority S.n ≤ count y.heard S.n) m))

  pub heard-leads : q.phase ≡ 1 → (j : ℕ) → q.heard j ≡ true → q.est ≡ S.E q.round (c S q.round)
  heard-leads f j m =
      rw same at (moves.heard-leads (set_p S i q) inv i low high (back (λ y. y.phase ≡ 1) f) j (back (λ y. y.heard j ≡ true) m))

  pub coord-leads : i ≡ c S q.round → (j : ℕ) → S.E q.round j ≢ 0 → q.est ≡ S.E q.round (c S q.round)
  coord-leads x j m =
      rw same at (moves.coord-leads (set_p S i q) inv i low high (back (λ y. i ≡ c S y.round) x) j (back (λ y. S.E y.round j ≢ 0) m))

  -- in phase 1 it has sent no F of its round
  pub no-F : q.phase ≡ 1 → S.F q.round i ≡ 0
  no-F f = rw same at (moves.no-F (set_p S i q) inv i low high (back (λ y. y.phase ≡ 1) f))

  -- the entries that it hands over
  abbrev Copy : Type 0
  Copy = (i ≡ c S q.round) ⊎ ((S.E q.round (c S q.round) ≢ 0) × (q.est ≡ S.E q.round (c S q.round)))

  -- an E
  may-E : q.phase ≡ 1 → who q.est ≡ c S q.round → Copy → MayE (set_p S i q) q.round i q.est
  may-E f w x = record {
    low = low;
    high = high;
    round = ap (λ y. y.round) same;
    phase = ap (λ y. y.phase) same ∙ f;
    est = ap (λ y. y.est) same;
    by = w;
    copy = x;
  }

  pub hand-E : q.phase ≡ 1 → who q.est ≡ c S q.round → Copy → Inv (set_p (put_e S q.round i q.est) i q)
  hand-E f w x = keep-put_e (set_p S i q) inv q.round i q.est (may-E f w x)

  -- an F
  may-F : q.phase ≡ 2 → S.F q.round i ≡ 0 → MayF (set_p S i q) q.round i q.est
  may-F f z = record { low = low; high = high; round = ap (λ y. y.round) same; phase = ap (λ y. y.phase) same ∙ f; est = ap (λ y. y.est) same; fresh = z }

  pub hand-F : q.phase ≡ 2 → S.F q.round i ≡ 0 → Inv (set_p (put_f S q.round i q.est) i q)
  hand-F f z = keep-put_f (set_p S i q) inv q.round i q.est (may-F f z)

  -- a decision
  pub hand-D : (e : ℕ) → q.dec ≡ some (what e) → Inv (set_p (put_d S i e) i q)
  hand-D e d = keep-put_d (set_p S i q) inv i e low high (ap (λ y. y.dec) same ∙ d)
