-- The moves of one process's record, each of which keeps the invariant: stay in the phase (adopt, join, lose the tally, decide),
-- jump to a higher round, go to phase 2, enter the next round. Assumes nothing.
use mathlib.Core.Path.{◌≡◌, refl, sym, ap, ◌∙◌}
use mathlib.Core.Logic.{◌≢◌, ◌⊎◌, inl, inr}
use mathlib.Core.Bool.{Bool, true, false, false≢true}
use mathlib.Core.Option.{Option, some}
use Prim.Native.Nat.{ℕ, ◌+◌, ◌≤◌, ◌<◌}
use native.Mathlib.Omega.{arith}
use native.Mathlib.Nat.{le_refl}
use native.Mathlib.Decide.{ℕ_discrete, dec_lt}
use Rattle.rules.specs.Limits.{majority}
use Rattle.rules.specs.Tally.{count}
use Rattle.rules.proofs.Agreement.Upd.{upd, upd_same, upd_other}
use Rattle.rules.proofs.Agreement.Quorum.{Quorum, Some, Without, Throughout, quorum-map, share, scan}
use Rattle.rules.proofs.Agreement.View.{Proc, View, who, what, c, rank, Closed, set_p}
use Rattle.rules.proofs.Agreement.Inv.{Shut, Locked, Decided, Good, Proper, Inv}
use Rattle.rules.proofs.Agreement.Keep.{Grows, Up, grows-set_p, lift-decided, lift-J, keep-set_p, keep-set_p-can}

-- the empty tally
abbrev pub nobody : ℕ → Bool
nobody j = false

-- e is a sent E, or a sent F, of round r
pub data Sent (S : View) (r e : ℕ) : Type 0 where
  an_e : (j : ℕ) → S.E r j ≢ 0 → e ≡ S.E r j → Sent S r e
  an_f : (j : ℕ) → S.F r j ≢ 0 → e ≡ S.F r j → Sent S r e

-- it is a source
sent-good : (S : View) (inv : Inv S) (r e : ℕ) → Sent S r e → Good S inv.can r e
sent-good S inv r e (an_e j m x) = rw x (inv.es r j m).source
sent-good S inv r e (an_f j m x) = rw x (inv.fs r j m).source

-- ---- stay in the phase

-- The new estimate: the old one; in phase 1 a sent E of the round; in phase 2 a sent F of it whose proposer is the coordinator.
pub data Takes (S : View) (q : Proc) (e : ℕ) : Type 0 where
  keeps : e ≡ q.est → Takes S q e
  takes_e : q.phase ≡ 1 → (j : ℕ) → S.E q.round j ≢ 0 → e ≡ S.E q.round j → Takes S q e
  takes_f : q.phase ≡ 2 → (j : ℕ) → S.F q.round j ≢ 0 → who (S.F q.round j) ≡ c S q.round → e ≡ S.F q.round j → Takes S q e

-- A member of the new tally: an old one; in phase 1 one that sent its E, where the new estimate is the coordinator's; in phase 2 one that
-- sent its F, which is the new estimate if its proposer is the coordinator.
pub data Hears (S : View) (q : Proc) (e : ℕ) (j : ℕ) : Type 0 where
  before : q.heard j ≡ true → Hears S q e j
  hears_e : q.phase ≡ 1 → S.E q.round j ≢ 0 → e ≡ S.E q.round (c S q.round) → Hears S q e j
  hears_f : q.phase ≡ 2 → S.F q.round j ≢ 0 → (who (S.F q.round j) ≡ c S q.round → e ≡ S.F q.round j) → Hears S q e j

-- the new record
abbrev pub stayed : Proc → ℕ → (ℕ → Bool) → Option ℕ → Proc
stayed q e h d = record { round = q.round; phase = q.phase; est = e; heard = h; dec = d }

-- no phase is both
one-two : (x : ℕ) → x ≡ 1 → x ≡ 2 → ⊥
one-two x a b = omega arith

-- two sent entries of a round whose proposer is its coordinator are equal
twins : (S : View) (inv : Inv S) (r e f : ℕ) → Good S inv.can r e → Good S inv.can r f → who e ≡ c S r → who f ≡ c S r → e ≡ f
twins S inv r e f a b x y = a.C x ∙ sym (b.C y)

-- two sent E of a round are equal
twin-E : (S : View) (inv : Inv S) (r j k : ℕ) → S.E r j ≢ 0 → S.E r k ≢ 0 → S.E r j ≡ S.E r k
twin-E S inv r j k a b = (inv.es r j a).A ∙ sym (inv.es r k b).A

module _ (S : View) (inv : Inv S) (i : ℕ) (low : 1 ≤ i) (high : i ≤ S.n) (e : ℕ) (h : ℕ → Bool) (d : Option ℕ)
    (takes : Takes S (S.proc i) e) (hears : (j : ℕ) → h j ≡ true → Hears S (S.proc i) e j)
    (decides : (v : ℕ) → d ≡ some v → Decided S v) where
  abbrev q : Proc
  q = S.proc i

  -- the process, as it was
  me : Proper S inv.can i (S.proc i)
  me = inv.procs i low high

  -- its new estimate is a source
  stay-source : Takes S (S.proc i) e → Good S inv.can (S.proc i).round e
  stay-source (keeps x) = rw x me.source
  stay-source (takes_e f j m x) = rw x (inv.es q.round j m).source
  stay-source (takes_f f j m w x) = rw x (inv.fs q.round j m).source

  -- an E that it sent of its round still carries its estimate
  stay-E : Takes S (S.proc i) e → S.E (S.proc i).round i ≢ 0 → e ≡ S.E (S.proc i).round i
  stay-E (keeps x) k = x ∙ me.E k
  stay-E (takes_e f j m x) k = x ∙ twin-E S inv q.round j i m k
  stay-E (takes_f f j m w x) k =
      x ∙ twins S inv q.round (S.F q.round j) (S.E q.round i) (inv.fs q.round j m).source (inv.es q.round i k).source w (inv.es q.round i k).by

  -- whom it has heard sent their message
  stay-G1 : (j : ℕ) → (S.proc i).phase ≡ 1 → Hears S (S.proc i) e j → S.E (S.proc i).round j ≢ 0
  stay-G1 j f (before b) = me.G1 j f b
  stay-G1 j f (hears_e g m x) = m
  stay-G1 j f (hears_f g m x) = absurd (one-two q.phase f g)

  stay-G2 : (j : ℕ) → (S.proc i).phase ≡ 2 → Hears S (S.proc i) e j → S.F (S.proc i).round j ≢ 0
  stay-G2 j f (before b) = me.G2 j f b
  stay-G2 j f (hears_e g m x) = absurd (one-two q.phase g f)
  stay-G2 j f (hears_f g m x) = m

  -- it has the estimate that it should have, in phase 1 and in phase 2
  stay-H : (j : ℕ) → (S.proc i).phase ≡ 1 → Takes S (S.proc i) e → Hears S (S.proc i) e j → e ≡ S.E (S.proc i).round (c S (S.proc i).round)
  stay-H j f t (hears_e g m x) = x
  stay-H j f t (hears_f g m x) = absurd (one-two q.phase f g)
  stay-H j f (keeps x) (before b) = x ∙ me.H j f b
  stay-H j f (takes_e g k m x) (before b) = x ∙ (inv.es q.round k m).A
  stay-H j f (takes_f g k m w x) (before b) = absurd (one-two q.phase f g)

  stay-I : (j : ℕ) → (S.proc i).phase ≡ 2 → Takes S (S.proc i) e → Hears S (S.proc i) e j → who (S.F (S.proc i).round j) ≡ c S (S.proc i).round
      → e ≡ S.F (S.proc i).round j
  stay-I j f t (hears_e g m x) w = absurd (one-two q.phase g f)
  stay-I j f t (hears_f g m x) w = x w
  stay-I j f (keeps x) (before b) w = x ∙ me.I j f b w
  stay-I j f (takes_e g k m x) (before b) w = absurd (one-two q.phase g f)
  stay-I j f (takes_f g k m v x) (before b) w =
      x ∙ twins S inv q.round (S.F q.round k) (S.F q.round j) (inv.fs q.round k m).source (inv.fs q.round j (me.G2 j f b)).source v w

  -- so it may stay with the new estimate, tally and decision
  pub stay : Inv (set_p S i (stayed (S.proc i) e h d))
  stay = keep-set_p S inv i (stayed q e h d) (record { round = le_refl q.round; rank = le_refl (rank q) }) record {
    phases = me.phases;
    source = stay-source takes;
    B = me.B;
    B' = me.B';
    E = stay-E takes;
    G1 = λ j f m. stay-G1 j f (hears j m);
    G2 = λ j f m. stay-G2 j f (hears j m);
    H = λ j f m. stay-H j f takes (hears j m);
    I = λ j f m w. stay-I j f takes (hears j m) w;
    K = decides;
  }

-- ---- what `stay` asks

-- nothing new is decided
pub decided-before : (S : View) (inv : Inv S) (i : ℕ) → 1 ≤ i → i ≤ S.n → (v : ℕ) → (S.proc i).dec ≡ some v → Decided S v
decided-before S inv i l u = (inv.procs i l u).K

-- a process of phase 1 whose tally is a majority may decide its estimate's value
pub may-decide : (S : View) (inv : Inv S) (i : ℕ) → 1 ≤ i → i ≤ S.n → (S.proc i).phase ≡ 1
    → majority S.n ≤ count (S.proc i).heard S.n → Decided S (what (S.proc i).est)
may-decide S inv i l u f m =
    let q : Proc = S.proc i in
    let me : Proper S inv.can i (S.proc i) = inv.procs i l u in
    let all : Quorum S.n (λ p. (S.proc i).heard p ≡ true) = record { set = q.heard; big = m; all = λ p _ _ x. x } in
    let one = share all all in
    let k : q.est ≡ S.E q.round (c S q.round) = me.H one.at f one.has.one in
    let s : S.E q.round one.at ≢ 0 = me.G1 one.at f one.has.one in
    record {
      at = q.round;
      relayed = quorum-map (λ p x. me.G1 p f x) all;
      locked = record { sent = λ z. s ((inv.es q.round one.at s).A ∙ z); value = ap what (sym k) };
    }

-- the estimate that `hears_e` asks for: of a process that has heard somebody, and of the coordinator once some E of the round is sent
pub heard-leads : (S : View) (inv : Inv S) (i : ℕ) → 1 ≤ i → i ≤ S.n → (S.proc i).phase ≡ 1 → (j : ℕ) → (S.proc i).heard j ≡ true
    → (S.proc i).est ≡ S.E (S.proc i).round (c S (S.proc i).round)
heard-leads S inv i l u f j m = (inv.procs i l u).H j f m

pub coord-leads : (S : View) (inv : Inv S) (i : ℕ) → 1 ≤ i → i ≤ S.n → i ≡ c S (S.proc i).round
    → (j : ℕ) → S.E (S.proc i).round j ≢ 0 → (S.proc i).est ≡ S.E (S.proc i).round (c S (S.proc i).round)
coord-leads S inv i l u x j m =
    let r : ℕ = (S.proc i).round in
    let s : S.E r (c S r) ≢ 0 = λ z. m ((inv.es r j m).A ∙ z) in
    let t : S.E r i ≢ 0 = λ z. s (ap (S.E r) (sym x) ∙ z) in
    (inv.procs i l u).E t ∙ ap (S.E r) x

-- ---- jump to a higher round with a sent estimate of it

-- the new record
abbrev pub jumped : Proc → ℕ → ℕ → Proc
jumped q r e = record { round = r; phase = 1; est = e; heard = nobody; dec = q.dec }

-- a sent estimate is a source, and no E of the higher round is sent by this process
pub jump : (S : View) (inv : Inv S) (i : ℕ) → 1 ≤ i → i ≤ S.n → (r e : ℕ) → (S.proc i).round < r → Sent S r e
    → Inv (set_p S i (jumped (S.proc i) r e))
jump S inv i l u r e a s =
    let q : Proc = S.proc i in
    let me : Proper S inv.can i (S.proc i) = inv.procs i l u in
    let ph : (S.proc i).phase ≤ 2 = me.phases in
    keep-set_p S inv i (jumped q r e) (record { round = omega arith; rank = omega arith }) record {
      phases = omega arith;
      source = sent-good S inv r e s;
      B = λ t m. let k : t ≤ (S.proc i).round = me.B t m in omega arith;
      B' = λ t m. let k : Closed (S.proc i) t = me.B' t m in omega arith;
      E = λ m. let k : r ≤ (S.proc i).round = me.B r m in absurd (omega arith);
      G1 = λ j _ m. absurd (false≢true m);
      G2 = λ j _ m. absurd (false≢true m);
      H = λ j _ m. absurd (false≢true m);
      I = λ j _ m. absurd (false≢true m);
      K = me.K;
    }

-- ---- go to phase 2

-- the new record
abbrev pub shifted : Proc → Proc
shifted q = record { round = q.round; phase = 2; est = q.est; heard = nobody; dec = q.dec }

-- all that it sent, it sent before
pub shift : (S : View) (inv : Inv S) (i : ℕ) → 1 ≤ i → i ≤ S.n → Inv (set_p S i (shifted (S.proc i)))
shift S inv i l u =
    let q : Proc = S.proc i in
    let me : Proper S inv.can i (S.proc i) = inv.procs i l u in
    let ph : (S.proc i).phase ≤ 2 = me.phases in
    keep-set_p S inv i (shifted q) (record { round = omega arith; rank = omega arith }) record {
      phases = omega arith;
      source = me.source;
      B = me.B;
      B' = λ t m. let k : Closed (S.proc i) t = me.B' t m in omega arith;
      E = me.E;
      G1 = λ j _ m. absurd (false≢true m);
      G2 = λ j _ m. absurd (false≢true m);
      H = λ j _ m. absurd (false≢true m);
      I = λ j _ m. absurd (false≢true m);
      K = me.K;
    }

-- a process of phase 1 has sent no F of its round: what an F handed over after `shift` asks
pub no-F : (S : View) (inv : Inv S) (i : ℕ) → 1 ≤ i → i ≤ S.n → (S.proc i).phase ≡ 1 → S.F (S.proc i).round i ≡ 0
no-F S inv i l u f = go (ℕ_discrete (S.F (S.proc i).round i) 0)
  where
    go : Dec (S.F (S.proc i).round i ≡ 0) → S.F (S.proc i).round i ≡ 0
    go (yes x) = x
    go (no m) = let k : Closed (S.proc i) (S.proc i).round = (inv.procs i l u).B' (S.proc i).round m in absurd (omega arith)

-- ---- enter the next round by a majority of F: the one move that makes a new estimate

-- the new record
abbrev pub entered : Proc → ℕ → Proc
entered q e = record { round = q.round + 1; phase = 1; est = e; heard = nobody; dec = q.dec }

module _ (S : View) (inv : Inv S) (i : ℕ) (low : 1 ≤ i) (high : i ≤ S.n) (phase : (S.proc i).phase ≡ 2)
    (big : majority S.n ≤ count (S.proc i).heard S.n) (e : ℕ) (mine : who e ≡ i) (same : what e ≡ what (S.proc i).est) where
  -- the process, as it was
  in-me : Proper S inv.can i (S.proc i)
  in-me = inv.procs i low high

  -- J at the round that is left: nobody in the tally has sent its E, or the estimate is the coordinator's
  enter-J : Shut S (S.proc i).round ⊎ Locked S (S.proc i).round (what (S.proc i).est)
  enter-J = go (scan S.n (S.proc i).heard (λ p. S.E (S.proc i).round p ≡ 0) (λ p. ℕ_discrete (S.E (S.proc i).round p) 0))
    where
      r : ℕ
      r = (S.proc i).round

      go : Throughout S.n (S.proc i).heard (λ p. S.E r p ≡ 0) ⊎ Some S.n (Without (S.proc i).heard (λ p. S.E r p ≡ 0))
          → Shut S r ⊎ Locked S r (what (S.proc i).est)
      go (inl all) = inl record {
        set = (S.proc i).heard;
        big = big;
        all = λ p l u m. record { closed = (inv.procs p l u).B' r (in-me.G2 p phase m); unsent = all p l u m };
      }
      go (inr m) =
          let j : ℕ = m.at in
          let a = inv.es r j m.has.lacks in
          let f : S.F r j ≡ S.E r j = (inv.fs r j (in-me.G2 j phase m.has.member)).F m.has.lacks in
          let x : (S.proc i).est ≡ S.F r j = in-me.I j phase m.has.member (ap who f ∙ a.by) in
          inr record { sent = λ z. m.has.lacks (a.A ∙ z); value = ap what (sym a.A ∙ sym f ∙ sym x) }

  -- its new record, which is further on
  abbrev q' : Proc
  q' = entered (S.proc i) e

  up : Up (S.proc i) (entered (S.proc i) e)
  up = record { round = omega arith; rank = omega arith }

  -- with the ghost as it was or as it becomes
  enter-with : (can' : ℕ → ℕ) → ((s : ℕ) → s ≤ (S.proc (c S s)).round → can' s ≡ inv.can s)
      → (who e ≡ c S ((S.proc i).round + 1) → e ≡ can' ((S.proc i).round + 1)) → Inv (set_p S i (entered (S.proc i) e))
  enter-with can' cans C = keep-set_p-can S i q' up inv.can can' cans inv refl record {
    phases = omega arith;
    source = record { C = C; D = λ w. in-D (sym w ∙ mine); J = λ s l. in-J s (dec_lt s (S.proc i).round) l; L = rw same in-me.source.L };
    B = λ t m. let k : t ≤ (S.proc i).round = in-me.B t m in omega arith;
    B' = λ t m. let k : Closed (S.proc i) t = in-me.B' t m in omega arith;
    E = λ m. let k : (S.proc i).round + 1 ≤ (S.proc i).round = in-me.B ((S.proc i).round + 1) m in absurd (omega arith);
    G1 = λ j _ m. absurd (false≢true m);
    G2 = λ j _ m. absurd (false≢true m);
    H = λ j _ m. absurd (false≢true m);
    I = λ j _ m. absurd (false≢true m);
    K = λ v x. lift-decided S inv.can (upd S.proc i q') S.E S.F S.D can' grows v (in-me.K v x);
  }
    where
      grows : Grows S inv.can (upd S.proc i q') S.E can'
      grows = grows-set_p S i q' up inv.can can' cans

      r : ℕ
      r = (S.proc i).round

      in-D : c S ((S.proc i).round + 1) ≡ i → (S.proc i).round + 1 ≤ (upd S.proc i q' (c S ((S.proc i).round + 1))).round
      in-D x = rw (x, upd_same S.proc i q') (le_refl ((S.proc i).round + 1))

      in-J : (s : ℕ) → Dec (s < (S.proc i).round) → s < (S.proc i).round + 1 → Shut (set_p S i q') s ⊎ Locked (set_p S i q') s (what e)
      in-J s (yes k) l =
          rw same (lift-J S inv.can (upd S.proc i q') S.E S.F S.D can' grows s (what (S.proc i).est) (in-me.source.J s k))
      in-J s (no k) l =
          let x : s ≡ (S.proc i).round = omega arith in
          rw (same, x) (lift-J S inv.can (upd S.proc i q') S.E S.F S.D can' grows (S.proc i).round (what (S.proc i).est) enter-J)

  -- the ghost changes where the process coordinates the new round
  pub enter : Inv (set_p S i (entered (S.proc i) e))
  enter = go (ℕ_discrete (c S ((S.proc i).round + 1)) i)
    where
      go : Dec (c S ((S.proc i).round + 1) ≡ i) → Inv (set_p S i (entered (S.proc i) e))
      go (no k) = enter-with inv.can (λ s _. refl) (λ w. absurd (k (sym w ∙ mine)))
      go (yes x) = enter-with (upd inv.can ((S.proc i).round + 1) e) old (λ w. sym (upd_same inv.can ((S.proc i).round + 1) e))
        where
          old : (s : ℕ) → s ≤ (S.proc (c S s)).round → upd inv.can ((S.proc i).round + 1) e s ≡ inv.can s
          old s m = upd_other inv.can ((S.proc i).round + 1) e s (λ z.
              let y : c S s ≡ i = ap (c S) (sym z) ∙ x in
              let k : s ≤ (S.proc i).round = rw y at m in
              omega arith)
