-- A fresh group has the invariant, and still has it with the first E handed over, that of process 1 in round 0. Assumes nothing.
use mathlib.Core.Path.{◌≡◌, refl, sym, ap, ◌∙◌}
use mathlib.Core.Logic.{inl}
use mathlib.Core.Bool.{false, false≢true}
use mathlib.Core.Option.{none}
use Prim.Native.Nat.{ℕ, ◌≤◌}
use native.Mathlib.Omega.{arith}
use native.Mathlib.Nat.{zero-mod}
use Rattle.rules.proofs.Agreement.View.{Proc, View, who, what, c, coord, put_e}
use Rattle.rules.proofs.Agreement.Inv.{Proper, Inv}
use Rattle.rules.proofs.Agreement.Keep.{keep-put_e}

-- a fresh process: round 0, phase 1, its first value as its own estimate
pub record Fresh (S : View) (p : ℕ) (q : Proc) : Type 0 where
  pub round : q.round ≡ 0
  pub phase : q.phase ≡ 1
  pub own : who q.est ≡ p
  pub value : what q.est ≡ S.first p
  pub deaf : (j : ℕ) → q.heard j ≡ false
  pub undecided : q.dec ≡ none

-- a fresh group, with nothing sent
pub record Start (S : View) : Type 0 where
  pub procs : (p : ℕ) → 1 ≤ p → p ≤ S.n → Fresh S p (S.proc p)
  pub no_e : (r p : ℕ) → S.E r p ≡ 0
  pub no_f : (r p : ℕ) → S.F r p ≡ 0
  pub no_d : (p : ℕ) → S.D p ≡ 0

module _ (S : View) (start : Start S) where
  -- the coordinator's estimate, as it will be
  abbrev can : ℕ → ℕ
  can r = (S.proc (c S r)).est

  -- a fresh process is proper
  fresh-proper : (p : ℕ) → 1 ≤ p → p ≤ S.n → Proper S can p (S.proc p)
  fresh-proper p l u =
      let f : Fresh S p (S.proc p) = start.procs p l u in
      let z : (S.proc p).round ≡ 0 = f.round in
      let o : (S.proc p).phase ≡ 1 = f.phase in
      record {
        phases = omega arith;
        source = record {
          C = λ w. ap (λ x. (S.proc x).est) (sym f.own ∙ w);
          D = λ w. omega arith;
          J = λ s m. absurd (omega arith);
          L = record { at = p; low = l; high = u; has = sym f.value };
        };
        B = λ r m. absurd (m (start.no_e r p));
        B' = λ r m. absurd (m (start.no_f r p));
        E = λ m. absurd (m (start.no_e (S.proc p).round p));
        G1 = λ j _ m. absurd (false≢true (sym (f.deaf j) ∙ m));
        G2 = λ j _ m. absurd (false≢true (sym (f.deaf j) ∙ m));
        H = λ j _ m. absurd (false≢true (sym (f.deaf j) ∙ m));
        I = λ j _ m. absurd (false≢true (sym (f.deaf j) ∙ m));
        K = λ v m. let z : ◌≡◌ {A = ℕ} 0 1 = cc (f.undecided, m) in absurd (omega arith);
      }

  -- a fresh group has the invariant
  pub start-inv : Inv S
  start-inv = record {
    can = can;
    procs = fresh-proper;
    es = λ r p m. absurd (m (start.no_e r p));
    fs = λ r p m. absurd (m (start.no_f r p));
    ds = λ p m. absurd (m (start.no_d p));
  }

-- process 1 coordinates round 0
pub coord-zero : (n : ℕ) → coord n 0 ≡ 1
unfolding coord
coord-zero n = rw zero-mod

-- with the E of process 1
pub started : (S : View) (start : Start S) → 1 ≤ S.n → Inv (put_e S 0 1 (S.proc 1).est)
started S start h =
    let f : Fresh S 1 (S.proc 1) = start.procs 1 (omega arith) h in
    keep-put_e S (start-inv S start) 0 1 (S.proc 1).est record {
      low = omega arith;
      high = h;
      round = f.round;
      phase = f.phase;
      est = refl;
      by = f.own ∙ sym (coord-zero S.n);
      copy = inl (sym (coord-zero S.n));
    }
