-- What the safety proof sees of a group and its message store. An estimate, and an entry of the store, is one number: `who` reads its proposer and `what` its value, and 0 is
-- "not sent". The proof opens neither of them, nor `coord`. Assumes nothing.
use mathlib.Core.Bool.{Bool}
use mathlib.Core.Option.{Option}
use Prim.Native.Nat.{ℕ, ◌+◌, ◌*◌, ◌≤◌}
use Rattle.rules.specs.Limits.{coordinator}
use Rattle.rules.specs.Store.{proposer_of, value_of}
use Rattle.rules.proofs.Agreement.Upd.{upd, upd2}

-- the proposer and the value of an estimate, or of an entry
unfoldable pub who : ℕ → ℕ
who e = proposer_of e

unfoldable pub what : ℕ → ℕ
what e = value_of e

-- the coordinator of round r among n processes
unfoldable pub coord : ℕ → ℕ → ℕ
coord n r = coordinator r n

-- one process: `heard` is its estimate tally (E in phase 1, F in phase 2)
pub record Proc : Type 0 where
  pub round : ℕ
  pub phase : ℕ
  pub est : ℕ
  pub heard : ℕ → Bool
  pub dec : Option ℕ

-- the group: processes 1..n, the entries E r p, F r p and D p, and the first values
pub record View : Type 0 where
  pub n : ℕ
  pub proc : ℕ → Proc
  pub E : ℕ → ℕ → ℕ
  pub F : ℕ → ℕ → ℕ
  pub D : ℕ → ℕ
  pub first : ℕ → ℕ

-- the coordinator of round r
abbrev pub c : View → ℕ → ℕ
c S r = coord S.n r

-- Rounds and phases in one number, so that `omega` reads them: a process is closed at r in phase 2 of r, and in every later round.
abbrev pub rank : Proc → ℕ
rank q = 2 * q.round + q.phase

-- closed at r
abbrev pub Closed : Proc → ℕ → Type 0
Closed q r = 2 * r + 2 ≤ rank q

-- ---- the changes: one process's record, or one entry

abbrev pub set_p : View → ℕ → Proc → View
set_p S i q = record { n = S.n; proc = upd S.proc i q; E = S.E; F = S.F; D = S.D; first = S.first }

abbrev pub put_e : View → ℕ → ℕ → ℕ → View
put_e S r i e = record { n = S.n; proc = S.proc; E = upd2 S.E r i e; F = S.F; D = S.D; first = S.first }

abbrev pub put_f : View → ℕ → ℕ → ℕ → View
put_f S r i e = record { n = S.n; proc = S.proc; E = S.E; F = upd2 S.F r i e; D = S.D; first = S.first }

abbrev pub put_d : View → ℕ → ℕ → View
put_d S i e = record { n = S.n; proc = S.proc; E = S.E; F = S.F; D = upd S.D i e; first = S.first }
