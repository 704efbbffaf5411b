-- The laws of places with an LF at them or ahead of them, and of places where a byte may be looked at, however that is: reading on from such a place keeps it so. Assumes nothing.
use Prim.Native.Nat.{ℕ, ◌+◌, ◌<◌}
use mathlib.Core.Path.{◌≡◌, refl, sym, ap, ◌∙◌, subst}
use mathlib.Core.Bool.{Bool, true, false}
use mathlib.Core.List.{List}
use mathlib.Core.Logic.{◌≢◌}
use native.Mathlib.Omega.{arith}
use lib.ListN.{get_or}
use Rattle.std.specs.Prelude.{Some, None}
use Rattle.schedule.specs.declared.letter.Letter.{Letter}
use Rattle.text.proofs.ReadLaws.{got, same_place}
use Rattle.text.proofs.LookLaws.{may-past, may-number}
use Rattle.schedule.specs.Ahead.{Ahead}
use Rattle.schedule.specs.Line.{letter_of, spaced_at, next_number}
use Rattle.schedule.specs.Private.{LastLf}
use Rattle.schedule.proofs.Reading.Cases.{spaced-is, space-here}

-- any place before the end of the last line
pub ahead-last : {s : List ℕ} {at end : ℕ} → LastLf s end → at < end → Ahead s at
ahead-last {s} {at} {end} l h = record { end = end; low = h; high = l.high; lf = l.lf (omega arith) }

-- LF is no step letter
lf-none : letter_of 10 ≡ None
unfolding letter_of
lf-none = refl

-- ---- where bytes may be looked at

module _ (May : List ℕ → ℕ → Type 0) (next : (s : List ℕ) (at : ℕ) → May s at → get_or s at 0 ≢ 10 → May s (at + 1)) (s : List ℕ) where
  -- past a step letter
  pub may-letter : {at : ℕ} {b : Letter} → May s at → letter_of (get_or s at 0) ≡ Some b → May s (at + 1)
  may-letter {at} {b} h e = next s at h (λ z. let n : None ≡ Some b = sym (ap letter_of z ∙ lf-none) ∙ e in let u : ◌≡◌ {A = ℕ} 0 1 = cc in omega arith)

  pub may-spaced : {at v n : ℕ} → May s at → spaced_at s at ≡ got v n → May s n
  may-spaced {at} h e =
      let b = space-here s at e in
      may-number May next s (may-past May next s h b (λ z. omega arith)) (sym (spaced-is s at b) ∙ e)

  pub may-next : {at v n : ℕ} → May s at → (wanted : Bool) → next_number s at wanted ≡ got v n → May s n
  unfolding next_number
  may-next h true e = may-spaced h e
  may-next {at} h false e = subst (May s) (same_place e) h
