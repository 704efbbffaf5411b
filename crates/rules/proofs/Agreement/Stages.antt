-- What an event keeps, with its messages handed over and without them; and the stages that more than one event has: a jump, phase 2, a crash, a cut. Assumes nothing.
use Rattle.std.specs.Prelude.{Option, None}
use mathlib.Core.Path.{◌≡◌, refl, sym, subst}
use mathlib.Core.Bool.{Bool, true, false}
use Prim.Native.Nat.{ℕ, ◌^◌, ◌≤◌, ◌<◌}
use native.Mathlib.Omega.{arith}
use lib.Dec.{ltb}
use lib.Pow.{pow_pos}
use borrow.Author.Tests.{ltb-true, ltb-false}
use Rattle.rules.specs.declared.process.Process.{Process}
use Rattle.rules.specs.declared.process.Next.{Next}
use Rattle.rules.specs.declared.process.Message.{Message}
use Rattle.rules.specs.Store.{entry_of, proposer_of, value_of}
use Rattle.rules.specs.Events.{takes, enters, second_phase, crashed, quiet, jumps_if, jumps, goes_to_phase2, on_crash, cut_if}
use Rattle.rules.proofs.Laws.Store.{entry-parts}
use Rattle.rules.proofs.Agreement.View.{Proc, View, set_p, put_f}
use Rattle.rules.proofs.Agreement.Inv.{Inv}
use Rattle.rules.proofs.Agreement.Moves.{Sent, stayed, jumped, shifted, nobody}
use Rattle.rules.proofs.Agreement.Focus.{proc-path}
use Rattle.rules.proofs.Agreement.Rules.{Move, leap, close, close_f, lose, keeps-inv}
use Rattle.rules.proofs.Agreement.Seen.{seen, hand, hands, decision_of, heard-none}

-- a move of the process in hand, its new record read in another form
pub moved : (A : View) (i : ℕ) → 1 ≤ i → i ≤ A.n → (q : Proc) → Inv (set_p A i q) → (B : View) (t t' : Proc) → t ≡ t' → Move A i q B t
    → Inv (set_p B i t')
moved A i low high q h B t t' e m = rw e at (keeps-inv A i low high q h B t m)

-- ---- what is kept

-- process i in hand with the record p: its value and its estimate tally fit
pub record Ready (A : View) (i : ℕ) (p : Process) : Type 0 where
  pub inv : Inv (set_p A i (seen p))
  pub small : p.value < 2 ^ 32
  pub heard : p.estimates < 2 ^ A.n

-- after an event: with its messages, and without them
pub record Kept (A : View) (i : ℕ) (x : Next) : Type 0 where
  pub all : Inv (set_p (hands A i x) i (seen x.process))
  pub part : Inv (set_p A i (seen x.process))
  pub small : x.process.value < 2 ^ 32

-- on the way: with its first message, and no second one
pub record Half (A : View) (i : ℕ) (x : Next) : Type 0 where
  pub all : Inv (set_p (hand A i x.first) i (seen x.process))
  pub part : Inv (set_p A i (seen x.process))
  pub small : x.process.value < 2 ^ 32
  pub heard : x.process.estimates < 2 ^ A.n
  pub silent : x.second ≡ None

-- at the end
pub half-kept : (A : View) (i : ℕ) (x : Next) → Half A i x → Kept A i x
half-kept A i x h =
    record {
      all =
          subst (λ (m : Option Message). Inv (set_p (hand (hand A i x.first) i m) i (seen x.process))) (sym h.silent) h.all;
      part = h.part;
      small = h.small;
    }

-- a value that an entry carries
pub value-lt : (e : ℕ) → value_of e < 2 ^ 32
value-lt e = omega arith

module _ (A : View) (i : ℕ) (low : 1 ≤ i) (high : i ≤ A.n) where
  -- nothing handed over
  pub quiet-half : (p : Process) → Ready A i p → Half A i (quiet p)
  unfolding quiet
  quiet-half p h = record { all = h.inv; part = h.inv; small = h.small; heard = h.heard; silent = refl }

  -- a crash
  crash-inv : (p : Process) → Inv (set_p A i (seen p)) → Inv (set_p A i (seen (crashed p)))
  unfolding crashed
  crash-inv p h = moved A i low high (seen p) h A lost (seen (crashed p)) path lose
    where
      lost : Proc
      lost = stayed (seen p) (entry_of p.proposer p.value) nobody (decision_of p.decided p.decision)

      path : lost ≡ seen (crashed p)
      path = proc-path lost (seen (crashed p)) refl refl refl (λ j. sym (heard-none j)) refl

  pub crash-kept : (p : Process) → Inv (set_p A i (seen p)) → p.value < 2 ^ 32 → Kept A i (on_crash p)
  unfolding on_crash quiet crashed
  crash-kept p h s = record { all = crash-inv p h; part = crash-inv p h; small = s }

  -- a cut
  pub cut-kept : (t : Bool) (x : Next) → Kept A i x → Kept A i (cut_if t x)
  unfolding cut_if
  cut-kept true x h = crash-kept x.process h.part h.small
  cut-kept false x h = h

  -- a jump, with a sent estimate of the round
  pub jump-ready : (p : Process) (r e : ℕ) → Ready A i p → p.round < r → Sent A r e → Ready A i (takes (proposer_of e) (value_of e) (enters r p))
  unfolding takes enters
  jump-ready p r e h l s =
      record {
        inv = moved A i low high (seen p) h.inv A (jumped (seen p) r e) (seen q) path (leap r e l s);
        small = value-lt e;
        heard = pow_pos A.n;
      }
    where
      q : Process
      q = takes (proposer_of e) (value_of e) (enters r p)

      path : jumped (seen p) r e ≡ seen q
      path = proc-path (jumped (seen p) r e) (seen q) refl refl (sym (entry-parts e)) (λ j. sym (heard-none j)) refl

  -- phase 2, with the F
  pub phase2-half : (p : Process) → Ready A i p → p.phase ≡ 1 → Half A i (goes_to_phase2 p)
  unfolding goes_to_phase2 second_phase
  phase2-half p h f =
      record {
        all =
            moved A i low high (seen p) h.inv (put_f A p.round i (entry_of p.proposer p.value)) (shifted (seen p))
            (seen (second_phase p)) path (close_f f);
        part = moved A i low high (seen p) h.inv A (shifted (seen p)) (seen (second_phase p)) path (close f);
        small = h.small;
        heard = pow_pos A.n;
        silent = refl;
      }
    where
      path : shifted (seen p) ≡ seen (second_phase p)
      path = proc-path (shifted (seen p)) (seen (second_phase p)) refl refl refl (λ j. sym (heard-none j)) refl

-- what holds where there is a jump, and where there is none, holds after it
pub jumps-by : (P : Process → Type 0) (r q v : ℕ) (p : Process) → (p.round < r → P (takes q v (enters r p))) → (r ≤ p.round → P p)
    → P (jumps r q v p)
unfolding jumps jumps_if
jumps-by P r q v p a b = go (ltb p.round r) refl
  where
    go : (t : Bool) → ltb p.round r ≡ t → P (jumps_if t r q v p)
    go true e = a (ltb-true p.round r e)
    go false e = b (ltb-false p.round r e)
