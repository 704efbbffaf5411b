-- The four changes of a view keep the invariant: one process's record, one E, one F, one decision entry.
-- A step of a program is a short list of these; a cut step leaves the entries out. Assumes nothing.
use mathlib.Core.Path.{◌≡◌, refl, sym, ap, ◌∙◌}
use mathlib.Core.Logic.{◌≢◌, ◌⊎◌, inl, inr}
use mathlib.Core.Bool.{true}
use mathlib.Core.Option.{some}
use Prim.Native.Nat.{ℕ, ◌+◌, ◌*◌, ◌≤◌}
use native.Mathlib.Omega.{arith}
use native.Mathlib.Nat.{le_refl, le_trans}
use Rattle.rules.proofs.Agreement.Upd.{upd, upd2, upd-all, upd2-cases, upd2-same}
use Rattle.rules.proofs.Agreement.Quorum.{quorum-map}
use Rattle.rules.proofs.Agreement.View.{Proc, View, who, what, c, rank, Closed, set_p, put_e, put_f, put_d}
use Rattle.rules.proofs.Agreement.Inv.{Out, Shut, Locked, Decided, Good, Proper, ProperE, ProperF, Inv}

-- ---- what grows

-- S with other records and entries: the group's size and first values stay
abbrev pub rest : View → (ℕ → Proc) → (ℕ → ℕ → ℕ) → (ℕ → ℕ → ℕ) → (ℕ → ℕ) → View
rest S P E F D = record { n = S.n; proc = P; E = E; F = F; D = D; first = S.first }

-- Rounds and ranks never fall; a sent E stays; a closed process sends no E of that round; `can` stays where its coordinator has come.
pub record Grows (S : View) (can : ℕ → ℕ) (P : ℕ → Proc) (E : ℕ → ℕ → ℕ) (can' : ℕ → ℕ) : Type 0 where
  pub rounds : (p : ℕ) → (S.proc p).round ≤ (P p).round
  pub ranks : (p : ℕ) → rank (S.proc p) ≤ rank (P p)
  pub stays : (r p : ℕ) → S.E r p ≢ 0 → E r p ≡ S.E r p
  pub silent : (r p : ℕ) → Closed (S.proc p) r → S.E r p ≡ 0 → E r p ≡ 0
  pub cans : (r : ℕ) → r ≤ (S.proc (c S r)).round → can' r ≡ can r

module _ (S : View) (can : ℕ → ℕ) (P : ℕ → Proc) (E F : ℕ → ℕ → ℕ) (D : ℕ → ℕ) (can' : ℕ → ℕ) (g : Grows S can P E can') where
  -- what a majority has sent, a round that is shut or locked, and a decision stay
  sent-stays : (r p : ℕ) → S.E r p ≢ 0 → E r p ≢ 0
  sent-stays r p h e = h (sym (g.stays r p h) ∙ e)

  lift-out : (r p : ℕ) → Out S r p → Out (rest S P E F D) r p
  lift-out r p o = record { closed = le_trans o.closed (g.ranks p); unsent = g.silent r p o.closed o.unsent }

  lift-shut : (r : ℕ) → Shut S r → Shut (rest S P E F D) r
  lift-shut r q = quorum-map (lift-out r) q

  lift-locked : (r v : ℕ) → Locked S r v → Locked (rest S P E F D) r v
  lift-locked r v l = record { sent = sent-stays r (c S r) l.sent; value = ap what (g.stays r (c S r) l.sent) ∙ l.value }

  pub lift-decided : (v : ℕ) → Decided S v → Decided (rest S P E F D) v
  lift-decided v d =
      record { at = d.at; relayed = quorum-map (sent-stays d.at) d.relayed; locked = lift-locked d.at v d.locked }

  pub lift-J : (r v : ℕ) → Shut S r ⊎ Locked S r v → Shut (rest S P E F D) r ⊎ Locked (rest S P E F D) r v
  lift-J r v (inl a) = inl (lift-shut r a)
  lift-J r v (inr b) = inr (lift-locked r v b)

  -- so a source stays good
  pub lift-good : (r e : ℕ) → Good S can r e → Good (rest S P E F D) can' r e
  lift-good r e h = record {
    C = λ w. h.C w ∙ sym (g.cans r (h.D w));
    D = λ w. le_trans (h.D w) (g.rounds (c S r));
    J = λ s l. lift-J s (what e) (h.J s l);
    L = h.L;
  }

-- ---- a process's record

-- the record's round and rank do not fall
pub record Up (q q' : Proc) : Type 0 where
  pub round : q.round ≤ q'.round
  pub rank : rank q ≤ rank q'

module _ (S : View) (i : ℕ) (q : Proc) (up : Up (S.proc i) q) (can can' : ℕ → ℕ)
    (cans : (r : ℕ) → r ≤ (S.proc (c S r)).round → can' r ≡ can r) where
  pub grows-set_p : Grows S can (upd S.proc i q) S.E can'
  grows-set_p = record {
    rounds = upd-all (λ p x. (S.proc p).round ≤ x.round) S.proc i q up.round (λ p _. le_refl (S.proc p).round);
    ranks = upd-all (λ p x. rank (S.proc p) ≤ rank x) S.proc i q up.rank (λ p _. le_refl (rank (S.proc p)));
    stays = λ r p _. refl;
    silent = λ r p _ e. e;
    cans = cans;
  }

  -- a record that is proper stays so
  pub lift-proper-set_p : (p : ℕ) (x : Proc) → Proper S can p x → Proper (set_p S i q) can' p x
  lift-proper-set_p p x h = record {
    phases = h.phases;
    source = lift-good S can (upd S.proc i q) S.E S.F S.D can' grows-set_p x.round x.est h.source;
    B = h.B;
    B' = h.B';
    E = h.E;
    G1 = h.G1;
    G2 = h.G2;
    H = h.H;
    I = h.I;
    K = λ v e. lift-decided S can (upd S.proc i q) S.E S.F S.D can' grows-set_p v (h.K v e);
  }

  -- A new record that is proper in the new view keeps the invariant.
  pub keep-set_p-can : (inv : Inv S) → inv.can ≡ can → Proper (set_p S i q) can' i q → Inv (set_p S i q)
  keep-set_p-can inv e h = record {
    can = can';
    procs = upd-all (λ p x. 1 ≤ p → p ≤ S.n → Proper (set_p S i q) can' p x) S.proc i q (λ _ _. h)
        (λ p _ l u. lift-proper-set_p p (S.proc p) (rw e at (inv.procs p l u)));
    es = λ r p s. let k : ProperE S can r p = rw e at (inv.es r p s) in record {
      A = k.A;
      by = k.by;
      source = lift-good S can (upd S.proc i q) S.E S.F S.D can' grows-set_p r (S.E r p) k.source;
    };
    fs = λ r p s. let k : ProperF S can r p = rw e at (inv.fs r p s) in record {
      F = k.F;
      source = lift-good S can (upd S.proc i q) S.E S.F S.D can' grows-set_p r (S.F r p) k.source;
    };
    ds = λ p s. lift-decided S can (upd S.proc i q) S.E S.F S.D can' grows-set_p (what (S.D p)) (inv.ds p s);
  }

-- A new record that is proper in the OLD view keeps the invariant: all moves but the entering of a round.
pub keep-set_p : (S : View) (inv : Inv S) (i : ℕ) (q : Proc) → Up (S.proc i) q → Proper S inv.can i q → Inv (set_p S i q)
keep-set_p S inv i q up h =
    keep-set_p-can S i q up inv.can inv.can (λ r _. refl) inv refl
    (lift-proper-set_p S i q up inv.can inv.can (λ r _. refl) i q h)

-- ---- an E: process i of round r, in phase 1, hands over its estimate, which is the coordinator's

-- i is the coordinator, or its estimate is what the coordinator sent
pub record MayE (S : View) (r i e : ℕ) : Type 0 where
  pub low : 1 ≤ i
  pub high : i ≤ S.n
  pub round : (S.proc i).round ≡ r
  pub phase : (S.proc i).phase ≡ 1
  pub est : (S.proc i).est ≡ e
  pub by : who e ≡ c S r
  pub copy : (i ≡ c S r) ⊎ ((S.E r (c S r) ≢ 0) × (e ≡ S.E r (c S r)))

module _ (S : View) (inv : Inv S) (r i e : ℕ) (may : MayE S r i e) where
  -- the process that hands it over
  me : Proper S inv.can i (S.proc i)
  me = inv.procs i may.low may.high

  -- an E handed over again is the one that was sent
  again : S.E r i ≢ 0 → e ≡ S.E r i
  again h =
      let k : S.E (S.proc i).round i ≢ 0 = rw may.round h in
      let l : (S.proc i).est ≡ S.E (S.proc i).round i = me.E k in
      cc (may.round, may.est)

  -- no sent E changes
  stays-E : (s p : ℕ) → S.E s p ≢ 0 → upd2 S.E r i e s p ≡ S.E s p
  stays-E s p h = go (upd2-cases S.E r i e s p)
    where
      go : (upd2 S.E r i e s p ≡ S.E s p) ⊎ ((r ≡ s) × (i ≡ p) × (upd2 S.E r i e s p ≡ e)) → upd2 S.E r i e s p ≡ S.E s p
      go (inl x) = x
      go (inr y) =
          let k : e ≡ S.E r i = again (rw (y.0, y.1) h) in
          cc (y.0, y.1, y.2)

  -- no process that has closed a round sends an E of it
  silent-E : (s p : ℕ) → Closed (S.proc p) s → S.E s p ≡ 0 → upd2 S.E r i e s p ≡ 0
  silent-E s p k h = go (upd2-cases S.E r i e s p)
    where
      go : (upd2 S.E r i e s p ≡ S.E s p) ⊎ ((r ≡ s) × (i ≡ p) × (upd2 S.E r i e s p ≡ e)) → upd2 S.E r i e s p ≡ 0
      go (inl x) = x ∙ h
      go (inr y) =
          let k' : Closed (S.proc i) s = rw y.1 k in
          let a = may.round in let b = may.phase in let d = y.0 in
          absurd (omega arith)

  -- so all grows
  grows-E : Grows S inv.can S.proc (upd2 S.E r i e) inv.can
  grows-E = record {
    rounds = λ p. le_refl (S.proc p).round;
    ranks = λ p. le_refl (rank (S.proc p));
    stays = stays-E;
    silent = silent-E;
    cans = λ s _. refl;
  }

  -- the new table
  abbrev E' : ℕ → ℕ → ℕ
  E' = upd2 S.E r i e

  -- a source stays good
  good-E : (s x : ℕ) → Good S inv.can s x → Good (put_e S r i e) inv.can s x
  good-E = lift-good S inv.can S.proc E' S.F S.D inv.can grows-E

  -- an E that was sent, and the new one
  E-old : (s p : ℕ) → S.E s p ≢ 0 → E' s p ≡ S.E s p → ProperE (put_e S r i e) inv.can s p
  E-old s p h x =
      let k : ProperE S inv.can s p = inv.es s p h in
      let m : S.E s (c S s) ≢ 0 = λ z. h (k.A ∙ z) in
      let y : E' s (c S s) ≡ S.E s (c S s) = stays-E s (c S s) m in
      record { A = x ∙ k.A ∙ sym y; by = ap who x ∙ k.by; source = rw x (good-E s (S.E s p) k.source) }

  E-new : ProperE (put_e S r i e) inv.can r i
  E-new = record { A = same ∙ sym (go may.copy); by = ap who same ∙ may.by; source = rw same (good-E r e src) }
    where
      same : E' r i ≡ e
      same = upd2-same S.E r i e

      go : (i ≡ c S r) ⊎ ((S.E r (c S r) ≢ 0) × (e ≡ S.E r (c S r))) → E' r (c S r) ≡ e
      go (inl x) = rw (← x) same
      go (inr y) = stays-E r (c S r) y.0 ∙ sym y.1

      src : Good S inv.can r e
      src = rw (may.round, may.est) at me.source

  -- each process stays proper
  proper-E : (p : ℕ) → 1 ≤ p → p ≤ S.n → Proper (put_e S r i e) inv.can p (S.proc p)
  proper-E p l u = record {
    phases = h.phases;
    source = good-E q.round q.est h.source;
    B = λ s m. in-B s m (upd2-cases S.E r i e s p);
    B' = h.B';
    E = λ m. in-E m (upd2-cases S.E r i e q.round p);
    G1 = λ j f m. sent-stays S inv.can S.proc E' S.F S.D inv.can grows-E q.round j (h.G1 j f m);
    G2 = h.G2;
    H = λ j f m. h.H j f m ∙ sym (coord-stays q.round j (h.G1 j f m));
    I = h.I;
    K = λ v d. lift-decided S inv.can S.proc E' S.F S.D inv.can grows-E v (h.K v d);
  }
    where
      q : Proc
      q = S.proc p

      h : Proper S inv.can p (S.proc p)
      h = inv.procs p l u

      in-B : (s : ℕ) → E' s p ≢ 0 → (E' s p ≡ S.E s p) ⊎ ((r ≡ s) × (i ≡ p) × (E' s p ≡ e)) → s ≤ (S.proc p).round
      in-B s m (inl x) = h.B s (λ z. m (x ∙ z))
      in-B s m (inr y) = rw (← y.0, ← y.1, may.round) (le_refl r)

      in-E : E' (S.proc p).round p ≢ 0
          → (E' (S.proc p).round p ≡ S.E (S.proc p).round p) ⊎ ((r ≡ (S.proc p).round) × (i ≡ p) × (E' (S.proc p).round p ≡ e))
          → (S.proc p).est ≡ E' (S.proc p).round p
      in-E m (inl x) = h.E (λ z. m (x ∙ z)) ∙ sym x
      in-E m (inr y) = cc (y.1, y.2, may.est)

      coord-stays : (s j : ℕ) → S.E s j ≢ 0 → E' s (c S s) ≡ S.E s (c S s)
      coord-stays s j m = stays-E s (c S s) (λ z. m ((inv.es s j m).A ∙ z))

  -- the E handed over
  pub keep-put_e : Inv (put_e S r i e)
  keep-put_e = record {
    can = inv.can;
    procs = proper-E;
    es = λ s p m. in-es s p m (upd2-cases S.E r i e s p);
    fs = λ s p m. record {
      F = λ k. in-fs s p m k (upd2-cases S.E r i e s p);
      source = good-E s (S.F s p) (inv.fs s p m).source;
    };
    ds = λ p m. lift-decided S inv.can S.proc E' S.F S.D inv.can grows-E (what (S.D p)) (inv.ds p m);
  }
    where
      in-es : (s p : ℕ) → E' s p ≢ 0 → (E' s p ≡ S.E s p) ⊎ ((r ≡ s) × (i ≡ p) × (E' s p ≡ e)) → ProperE (put_e S r i e) inv.can s p
      in-es s p m (inl x) = E-old s p (λ z. m (x ∙ z)) x
      in-es s p m (inr y) = rw (← y.0, ← y.1) E-new

      in-fs : (s p : ℕ) → S.F s p ≢ 0 → E' s p ≢ 0 → (E' s p ≡ S.E s p) ⊎ ((r ≡ s) × (i ≡ p) × (E' s p ≡ e)) → S.F s p ≡ E' s p
      in-fs s p m k (inl x) = (inv.fs s p m).F (λ z. k (x ∙ z)) ∙ sym x
      in-fs s p m k (inr y) =
          let b : Closed (S.proc i) r = me.B' r (rw (y.0, y.1) m) in
          let u = may.round in let v = may.phase in
          absurd (omega arith)

-- ---- an F: process i of round r, in phase 2, hands over its estimate, and has sent no F of r before

-- where no E is handed over, all grows
grows_same : (S : View) (can : ℕ → ℕ) → Grows S can S.proc S.E can
grows_same S can = record {
  rounds = λ p. le_refl (S.proc p).round;
  ranks = λ p. le_refl (rank (S.proc p));
  stays = λ s p _. refl;
  silent = λ s p _ z. z;
  cans = λ s _. refl;
}

-- it has sent no F of the round
pub record MayF (S : View) (r i e : ℕ) : Type 0 where
  pub low : 1 ≤ i
  pub high : i ≤ S.n
  pub round : (S.proc i).round ≡ r
  pub phase : (S.proc i).phase ≡ 2
  pub est : (S.proc i).est ≡ e
  pub fresh : S.F r i ≡ 0

module _ (S : View) (inv : Inv S) (r i e : ℕ) (may : MayF S r i e) where
  -- the new table
  abbrev F' : ℕ → ℕ → ℕ
  F' = upd2 S.F r i e

  -- the process that hands it over
  me-F : Proper S inv.can i (S.proc i)
  me-F = inv.procs i may.low may.high

  -- no sent F changes
  stays-F : (s p : ℕ) → S.F s p ≢ 0 → F' s p ≡ S.F s p
  stays-F s p h = go (upd2-cases S.F r i e s p)
    where
      go : (F' s p ≡ S.F s p) ⊎ ((r ≡ s) × (i ≡ p) × (F' s p ≡ e)) → F' s p ≡ S.F s p
      go (inl x) = x
      go (inr y) = absurd (h (cc (y.0, y.1, may.fresh)))

  -- a source stays good, and a decision stays
  good-F : (s x : ℕ) → Good S inv.can s x → Good (put_f S r i e) inv.can s x
  good-F = lift-good S inv.can S.proc S.E F' S.D inv.can (grows_same S inv.can)

  decided-F : (v : ℕ) → Decided S v → Decided (put_f S r i e) v
  decided-F = lift-decided S inv.can S.proc S.E F' S.D inv.can (grows_same S inv.can)

  -- each process stays proper
  proper-F : (p : ℕ) → 1 ≤ p → p ≤ S.n → Proper (put_f S r i e) inv.can p (S.proc p)
  proper-F p l u = record {
    phases = h.phases;
    source = good-F q.round q.est h.source;
    B = h.B;
    B' = λ s m. in-B s m (upd2-cases S.F r i e s p);
    E = h.E;
    G1 = h.G1;
    G2 = λ j f m z. h.G2 j f m (sym (stays-F q.round j (h.G2 j f m)) ∙ z);
    H = h.H;
    I = λ j f m w. in-I j f m w (stays-F q.round j (h.G2 j f m));
    K = λ v d. decided-F v (h.K v d);
  }
    where
      q : Proc
      q = S.proc p

      h : Proper S inv.can p (S.proc p)
      h = inv.procs p l u

      in-B : (s : ℕ) → F' s p ≢ 0 → (F' s p ≡ S.F s p) ⊎ ((r ≡ s) × (i ≡ p) × (F' s p ≡ e)) → Closed (S.proc p) s
      in-B s m (inl x) = h.B' s (λ z. m (x ∙ z))
      in-B s m (inr y) = rw (← y.0, ← y.1, may.round, may.phase) (le_refl (2 * r + 2))

      in-I : (j : ℕ) → (S.proc p).phase ≡ 2 → (S.proc p).heard j ≡ true → who (F' (S.proc p).round j) ≡ c S (S.proc p).round
          → F' (S.proc p).round j ≡ S.F (S.proc p).round j → (S.proc p).est ≡ F' (S.proc p).round j
      in-I j f m w x = h.I j f m (ap who (sym x) ∙ w) ∙ sym x

  -- the F handed over
  pub keep-put_f : Inv (put_f S r i e)
  keep-put_f = record {
    can = inv.can;
    procs = proper-F;
    es = λ s p m. let k = inv.es s p m in record { A = k.A; by = k.by; source = good-F s (S.E s p) k.source };
    fs = λ s p m. in-fs s p m (upd2-cases S.F r i e s p);
    ds = λ p m. decided-F (what (S.D p)) (inv.ds p m);
  }
    where
      src : Good S inv.can r e
      src = rw (may.round, may.est) at me-F.source

      own : S.E r i ≢ 0 → e ≡ S.E r i
      own m =
          let k : S.E (S.proc i).round i ≢ 0 = rw may.round m in
          let l : (S.proc i).est ≡ S.E (S.proc i).round i = me-F.E k in
          cc (may.round, may.est)

      new : ProperF (put_f S r i e) inv.can r i
      new = record {
        F = λ m. upd2-same S.F r i e ∙ own m;
        source = rw (upd2-same S.F r i e) (good-F r e src);
      }

      in-fs : (s p : ℕ) → F' s p ≢ 0 → (F' s p ≡ S.F s p) ⊎ ((r ≡ s) × (i ≡ p) × (F' s p ≡ e)) → ProperF (put_f S r i e) inv.can s p
      in-fs s p m (inl x) =
          let k = inv.fs s p (λ z. m (x ∙ z)) in
          record { F = λ z. x ∙ k.F z; source = rw x (good-F s (S.F s p) k.source) }
      in-fs s p m (inr y) = rw (← y.0, ← y.1) new

-- ---- a decision entry: process i has decided its value

module _ (S : View) (inv : Inv S) (i e : ℕ) (l : 1 ≤ i) (u : i ≤ S.n) (d : (S.proc i).dec ≡ some (what e)) where
  -- a source stays good, and a decision stays
  good-D : (s x : ℕ) → Good S inv.can s x → Good (put_d S i e) inv.can s x
  good-D = lift-good S inv.can S.proc S.E S.F (upd S.D i e) inv.can (grows_same S inv.can)

  decided-D : (v : ℕ) → Decided S v → Decided (put_d S i e) v
  decided-D = lift-decided S inv.can S.proc S.E S.F (upd S.D i e) inv.can (grows_same S inv.can)

  -- the decision handed over
  pub keep-put_d : Inv (put_d S i e)
  keep-put_d = record {
    can = inv.can;
    procs = λ p a b. let h = inv.procs p a b in record {
      phases = h.phases;
      source = good-D (S.proc p).round (S.proc p).est h.source;
      B = h.B;
      B' = h.B';
      E = h.E;
      G1 = h.G1;
      G2 = h.G2;
      H = h.H;
      I = h.I;
      K = λ v m. decided-D v (h.K v m);
    };
    es = λ s p m. let k = inv.es s p m in record { A = k.A; by = k.by; source = good-D s (S.E s p) k.source };
    fs = λ s p m. let k = inv.fs s p m in record { F = k.F; source = good-D s (S.F s p) k.source };
    ds = upd-all (λ p x. x ≢ 0 → Decided (put_d S i e) (what x)) S.D i e (λ _. decided-D (what e) ((inv.procs i l u).K (what e) d))
        (λ p _ m. decided-D (what (S.D p)) (inv.ds p m));
  }
