-- The round trip of value lines: what is spelled is read, and what is read is spelled. Assumes nothing.
use mathlib.Core.Path.{◌≡◌, sym, ap, ◌∙◌, subst}
use mathlib.Core.List.{List, [], ◌∷◌}
use Prim.Native.Nat.{ℕ, ◌+◌, ◌≤◌}
use native.Mathlib.Omega.{arith}
use lib.ListN.{length}
use Rattle.text.proofs.ReadLaws.{got}
use Rattle.text.specs.Number.{most, number_at, spelled}
use Rattle.text.specs.Stands.{Stands}
use Rattle.schedule.specs.Values.{value_at, value_line}
use Rattle.text.proofs.StandsLaws.{stands-join, stands-first, stands-rest, stands-byte, byte-stands}
use Rattle.text.proofs.SpellLaws.{number_spelled, number_read}
use Rattle.schedule.proofs.Reading.Cases.{closed_is, closed-read}
use Rattle.schedule.proofs.RoundTrip.StepLine.{quiet-byte}

module _ (s : List ℕ) where
  -- the line of a value is read as that value, up to its end
  pub value-spelled : (at m v : ℕ) → v ≤ most → Stands s at m (value_line v) → value_at s at ≡ got v m
  unfolding value_at
  value-spelled at m v h p =
      let n : ℕ = at + length (spelled v) in
      let q : Stands s n m (10 ∷ []) = stands-rest s at m (spelled v) (10 ∷ []) p in
      closed_is s (number_spelled s at n v h (stands-first s at m (spelled v) (10 ∷ []) p) (quiet-byte s m 10 [] (omega arith) n q)) (byte-stands s n m 10 [] q)
      ∙ ap (got v) (sym q.end)

  -- whatever is read as a value, from one place up to another, is the line of that value
  pub value_read : (at m v : ℕ) → value_at s at ≡ got v m → (v ≤ most) × Stands s at m (value_line v)
  unfolding value_at
  value_read at m v e =
      let c = closed-read s (number_at s at) v m e in
      let r = number_read s at v c.place c.is in
      (r.small, subst (λ (k : ℕ). Stands s at k (value_line v)) c.end (stands-join s at c.place (c.place + 1) (spelled v) (10 ∷ []) r.stands (stands-byte s c.place 10 (omega arith) c.lf)))
