-- The invariant, of which every clause speaks of one process or one entry, and what follows from it: agreement and validity. `can r` is a ghost, the estimate with which the
-- coordinator of round r entered it; a *source at r* is an estimate that stands at round r: a sent E or F of r, or the estimate of a process in r. Assumes nothing.
use mathlib.Core.Path.{◌≡◌, sym, ◌∙◌}
use mathlib.Core.Logic.{◌≢◌, ◌⊎◌, inl, inr}
use mathlib.Core.Bool.{true}
use mathlib.Core.Option.{some}
use Prim.Native.Nat.{ℕ, ◌≤◌, ◌<◌}
use native.Mathlib.Omega.{arith}
use native.Mathlib.Decide.{dec_lt}
use Rattle.rules.proofs.Agreement.Quorum.{Quorum, Some, share}
use Rattle.rules.proofs.Agreement.View.{Proc, View, who, what, c, Closed}

-- closed at r with no E of r
pub record Out (S : View) (r p : ℕ) : Type 0 where
  pub closed : Closed (S.proc p) r
  pub unsent : S.E r p ≡ 0

-- a majority is so: nobody can decide in round r any more
abbrev pub Shut : View → ℕ → Type 0
Shut S r = Quorum S.n (Out S r)

-- the coordinator of r has sent its E of r, with value v
pub record Locked (S : View) (r v : ℕ) : Type 0 where
  pub sent : S.E r (c S r) ≢ 0
  pub value : what (S.E r (c S r)) ≡ v

-- a majority has sent its E of some round, and the coordinator's has value v
pub record Decided (S : View) (v : ℕ) : Type 0 where
  pub at : ℕ
  pub relayed : Quorum S.n (λ p. S.E at p ≢ 0)
  pub locked : Locked S at v

-- v is some process's first value
abbrev pub Valid : View → ℕ → Type 0
Valid S v = Some S.n (λ p. S.first p ≡ v)

-- what holds of every source e at round r
pub record Good (S : View) (can : ℕ → ℕ) (r e : ℕ) : Type 0 where
  -- one that the coordinator proposed is the one with which it entered
  pub C : who e ≡ c S r → e ≡ can r
  -- and then the coordinator has come that far
  pub D : who e ≡ c S r → r ≤ (S.proc (c S r)).round
  -- of each earlier round: nobody can decide in it any more, or its coordinator sent this very value
  pub J : (s : ℕ) → s < r → Shut S s ⊎ Locked S s (what e)
  -- its value is some process's first value
  pub L : Valid S (what e)

-- what holds of process p with the record q
pub record Proper (S : View) (can : ℕ → ℕ) (p : ℕ) (q : Proc) : Type 0 where
  -- its phase, and its estimate
  pub phases : q.phase ≤ 2
  pub source : Good S can q.round q.est
  -- it has come to every round of which it sent an E, and closed every round of which it sent an F
  pub B : (r : ℕ) → S.E r p ≢ 0 → r ≤ q.round
  pub B' : (r : ℕ) → S.F r p ≢ 0 → Closed q r
  -- an E that it sent of its round carries its estimate
  pub E : S.E q.round p ≢ 0 → q.est ≡ S.E q.round p
  -- whom it has heard: in phase 1 they sent their E of its round, in phase 2 their F
  pub G1 : (j : ℕ) → q.phase ≡ 1 → q.heard j ≡ true → S.E q.round j ≢ 0
  pub G2 : (j : ℕ) → q.phase ≡ 2 → q.heard j ≡ true → S.F q.round j ≢ 0
  -- in phase 1, with anybody heard, it has the coordinator's estimate; in phase 2 it has each heard one that the coordinator proposed
  pub H : (j : ℕ) → q.phase ≡ 1 → q.heard j ≡ true → q.est ≡ S.E q.round (c S q.round)
  pub I : (j : ℕ) → q.phase ≡ 2 → q.heard j ≡ true → who (S.F q.round j) ≡ c S q.round → q.est ≡ S.F q.round j
  -- its decision
  pub K : (v : ℕ) → q.dec ≡ some v → Decided S v

-- what holds of a sent E r p, and of a sent F r p
pub record ProperE (S : View) (can : ℕ → ℕ) (r p : ℕ) : Type 0 where
  -- it is the coordinator's, and names the coordinator
  pub A : S.E r p ≡ S.E r (c S r)
  pub by : who (S.E r p) ≡ c S r
  pub source : Good S can r (S.E r p)

pub record ProperF (S : View) (can : ℕ → ℕ) (r p : ℕ) : Type 0 where
  -- it equals the E of the same process, where that is sent
  pub F : S.E r p ≢ 0 → S.F r p ≡ S.E r p
  pub source : Good S can r (S.F r p)

-- of every process of 1..n, and of every entry that is sent
pub record Inv (S : View) : Type 0 where
  pub can : ℕ → ℕ
  pub procs : (p : ℕ) → 1 ≤ p → p ≤ S.n → Proper S can p (S.proc p)
  pub es : (r p : ℕ) → S.E r p ≢ 0 → ProperE S can r p
  pub fs : (r p : ℕ) → S.F r p ≢ 0 → ProperF S can r p
  pub ds : (p : ℕ) → S.D p ≢ 0 → Decided S (what (S.D p))

-- ---- agreement and validity

-- a majority with E of r sent, and a majority without: they share a process
pub not-shut : (S : View) (r : ℕ) → Quorum S.n (λ p. S.E r p ≢ 0) → Shut S r → ⊥
not-shut S r a b =
    let m = share a b in
    m.has.one m.has.two.unsent

-- a value decided at r is the value of every source of a later round
pub locks : (S : View) (can : ℕ → ℕ) (r s e : ℕ) → Quorum S.n (λ p. S.E r p ≢ 0) → r < s → Good S can s e
    → Locked S r (what e)
locks S can r s e a l g = go (g.J r l)
  where
    go : Shut S r ⊎ Locked S r (what e) → Locked S r (what e)
    go (inl b) = absurd (not-shut S r a b)
    go (inr k) = k

-- one round locks one value
same_at : (S : View) (r v w : ℕ) → Locked S r v → Locked S r w → v ≡ w
same_at S r v w a b = sym a.value ∙ b.value

-- two decisions, of two rounds and of any two
later : (S : View) → Inv S → (v w : ℕ) (a : Decided S v) (b : Decided S w) → a.at < b.at → v ≡ w
later S inv v w a b l =
    let k = locks S inv.can a.at b.at (S.E b.at (c S b.at)) a.relayed l (inv.es b.at (c S b.at) b.locked.sent).source in
    same_at S a.at v w a.locked (record { sent = k.sent; value = k.value ∙ b.locked.value })

pub decided-same : (S : View) → Inv S → (v w : ℕ) → Decided S v → Decided S w → v ≡ w
decided-same S inv v w a b = go (dec_lt a.at b.at) (dec_lt b.at a.at)
  where
    go : Dec (a.at < b.at) → Dec (b.at < a.at) → v ≡ w
    go (yes l) _ = later S inv v w a b l
    go (no _) (yes l) = sym (later S inv w v b a l)
    go (no x) (no y) =
        let e : b.at ≡ a.at = omega arith in
        same_at S a.at v w a.locked (rw (← e) b.locked)

-- so of any two processes
pub agreement : (S : View) → Inv S → (i j v w : ℕ) → 1 ≤ i → i ≤ S.n → 1 ≤ j → j ≤ S.n
    → (S.proc i).dec ≡ some v → (S.proc j).dec ≡ some w → v ≡ w
agreement S inv i j v w li hi lj hj a b = decided-same S inv v w ((inv.procs i li hi).K v a) ((inv.procs j lj hj).K w b)

-- a decided value is some process's first value
decided-valid : (S : View) → Inv S → (v : ℕ) → Decided S v → Valid S v
decided-valid S inv v d = rw d.locked.value at (inv.es d.at (c S d.at) d.locked.sent).source.L

pub validity : (S : View) → Inv S → (i v : ℕ) → 1 ≤ i → i ≤ S.n → (S.proc i).dec ≡ some v → Valid S v
validity S inv i v l h a = decided-valid S inv v ((inv.procs i l h).K v a)
