-- Where bytes may be looked at: past each byte that is no LF, and so past digits and past a decimal. Assumes nothing.
use mathlib.Core.Path.{◌≡◌, refl, sym, ap, ◌∙◌, subst}
use mathlib.Core.Bool.{Bool, true, false}
use mathlib.Core.List.{List, [], ◌∷◌}
use mathlib.Core.Logic.{◌≢◌}
use Prim.Native.Nat.{ℕ, ◌+◌, ◌-◌, ◌*◌}
use native.Mathlib.Omega.{arith}
use lib.Dec.{leb, eqb}
use lib.ListN.{get_or, drop}
use lib.Seq.{drop-drop}
use Rattle.text.specs.Read.{bad}
use Rattle.text.specs.Number.{is_digit, pick, most, scan, number_at}
use Rattle.text.proofs.ReadLaws.{got, same_place, bad-not}
use Rattle.text.proofs.NumberLaws.{digit-here, front}

module _ (May : List ℕ → ℕ → Type 0) (next : (s : List ℕ) (at : ℕ) → May s at → get_or s at 0 ≢ 10 → May s (at + 1)) (s : List ℕ) where
  -- past a byte that is known, and is no LF
  pub may-past : {at b : ℕ} → May s at → get_or s at 0 ≡ b → b ≢ 10 → May s (at + 1)
  may-past {at} h e n = next s at h (λ z. n (sym e ∙ z))

  pub may-digit : {at : ℕ} → May s at → is_digit (get_or s at 0) ≡ true → May s (at + 1)
  may-digit {at} h d = let g = digit-here s at d in next s at h (λ z. omega (arith, g.low))

  module _ (w n : ℕ) where
    may-value : (v i : ℕ) → May s i → got v i ≡ got w n → May s n
    may-value v i h e = subst (May s) (same_place e) h

    scan-step : (v i b : ℕ) (t : List ℕ) → May s i → (is_digit b ≡ true → scan (v * 10 + (b - 48)) (i + 1) t ≡ got w n → May s n)
        → (x : Bool) → is_digit b ≡ x → (y : Bool)
        → pick x (pick y (scan (v * 10 + (b - 48)) (i + 1) t) (bad i)) (got v i) ≡ got w n → May s n
    scan-step v i b t h ih false d y e = may-value v i h e
    scan-step v i b t h ih true d false e = absurd (bad-not e)
    scan-step v i b t h ih true d true e = ih d e

    scan-over : (v i : ℕ) (t : List ℕ) → drop i s ≡ t → May s i → scan v i t ≡ got w n → May s n
    unfolding scan
    scan-over v i [] p h e = may-value v i h e
    scan-over v i (b ∷ t) p h e =
        let g : get_or s i 0 ≡ b = sym (front s i) ∙ ap (λ (x : List ℕ). get_or x 0 0) p in
        scan-step v i b t h
        (λ d o. scan-over (v * 10 + (b - 48)) (i + 1) t (sym (drop-drop 1 i s) ∙ ap (drop 1) p) (may-digit h (ap is_digit g ∙ d)) o)
        (is_digit b) refl (leb (v * 10 + (b - 48)) most) e

    number-pick : (at : ℕ) → May s at → (x : Bool) → is_digit (get_or s at 0) ≡ x → (y : Bool) → (z : Bool)
        → pick x (pick y (pick z (bad (at + 1)) (got 0 (at + 1))) (scan 0 at (drop at s))) (bad at) ≡ got w n → May s n
    number-pick at h false d y z e = absurd (bad-not e)
    number-pick at h true d true true e = absurd (bad-not e)
    number-pick at h true d true false e = may-value 0 (at + 1) (may-digit h d) e
    number-pick at h true d false z e = scan-over 0 at (drop at s) refl h e

  pub may-number : {at v n : ℕ} → May s at → number_at s at ≡ got v n → May s n
  unfolding number_at
  may-number {at} {v} {n} h e = number-pick v n at h (is_digit (get_or s at 0)) refl (eqb (get_or s at 0) 48) (is_digit (get_or s (at + 1) 0)) e
