-- Where the line of a value and a section's first line break the form, the bytes before that place begin one. Assumes nothing.
use mathlib.Core.Path.{◌≡◌, refl, subst}
use mathlib.Core.Bool.{Bool, true, false}
use mathlib.Core.List.{List, [], ◌∷◌}
use Prim.Native.Nat.{ℕ, ◌+◌}
use native.Mathlib.Omega.{arith}
use lib.Dec.{eqb, ltb}
use lib.ListN.{length, get_or}
use borrow.Author.Tests.{eqb-true, ltb-true}
use Rattle.std.specs.Prelude.{Result, Ok, Err}
use Rattle.text.specs.declared.number.Broken.{Broken}
use Rattle.text.specs.Read.{Read, bad}
use Rattle.text.proofs.ReadLaws.{got, same-break, same-word}
use Rattle.text.specs.Number.{pick, number_at}
use Rattle.schedule.specs.Line.{ending, spaced, closed, spaced_at, Small}
use Rattle.schedule.specs.Header.{header_of, word_at, on_word, alone_at, header_at}
use Rattle.schedule.specs.Values.{value_line, value_at}
use Rattle.text.proofs.StandsLaws.{stands-none, stands_here}
use Rattle.text.proofs.StopLaws.{Begins, begins-none, begins-longer, begins-after}
use Rattle.schedule.proofs.RoundTrip.Found.{Begun, begun-at, begun-after, head-begins, Form, plainly, number-form, spaced-form}
use Rattle.schedule.proofs.RoundTrip.Header.{word_read}

module _ (s : List ℕ) where
  -- ---- a number that ends its line

  closed-begun : (at p : ℕ) (f : ℕ → List ℕ → List ℕ) (r : Read ℕ) → Form s Small f at r → closed s r ≡ bad p → Begun Small (λ v. f v (ending false)) s at p
  unfolding closed
  closed-begun at p f (Err q) h e = begun-at (same-break e) (h (ending false))
  closed-begun at p f (Ok (v, n)) h e = go (eqb (get_or s n 0) 10) e
    where
      go : (x : Bool) → pick x (got v (n + 1)) (bad n) ≡ bad p → Begun Small (λ v. f v (ending false)) s at p
      go true e = let z : ◌≡◌ {A = ℕ} 0 1 = cc in absurd (omega arith)
      go false e = begun-at (same-break e) (record { thing = v; holds = h.0; begins = head-begins s n (ending false) h.1 (begins-none s n (ending false)) })

  pub value-begins : (at p : ℕ) → value_at s at ≡ bad p → Begun Small value_line s at p
  unfolding value_at
  value-begins at p e = closed-begun at p (plainly s) (number_at s at) (number-form s at (number_at s at) refl) e

  -- ---- a section's first line

  word-step : (at p b : ℕ) (w : List ℕ) → (word_at s (at + 1) w ≡ bad p → Begins s (at + 1) p w) → (x : Bool) → ltb at (length s) ≡ x → (y : Bool) → eqb (get_or s at 0) b ≡ y
      → pick x (pick y (word_at s (at + 1) w) (bad at)) (bad at) ≡ bad p → Begins s at p (b ∷ w)
  word-step at p b w ih false f y g e = let k : at ≡ p = same-word e in subst (λ (q : ℕ). Begins s at q (b ∷ w)) k (begins-none s at (b ∷ w))
  word-step at p b w ih true f false g e = let k : at ≡ p = same-word e in subst (λ (q : ℕ). Begins s at q (b ∷ w)) k (begins-none s at (b ∷ w))
  word-step at p b w ih true f true g e =
      begins-after (stands_here s at (at + 1) b [] (ltb-true at (length s) f) (eqb-true (get_or s at 0) b g) (stands-none s (at + 1))) (ih e)

  pub word-begins : (at p : ℕ) (w : List ℕ) → word_at s at w ≡ bad p → Begins s at p w
  unfolding word_at
  word-begins at p [] e = let z : ◌≡◌ {A = ℕ} 0 1 = cc in absurd (omega arith)
  word-begins at p (b ∷ w) e = word-step at p b w (λ h. word-begins (at + 1) p w h) (ltb at (length s)) refl (eqb (get_or s at 0) b) refl e

  header-cases : (at : ℕ) (w : List ℕ) (p : ℕ) (r : Result ℕ Broken) → word_at s at w ≡ r → on_word r (alone_at s) ≡ bad p → Begun Small (header_of w) s at p
  unfolding alone_at
  header-cases at w p (Err q) k e =
      let h : q.place ≡ p = same-break e in
      begun-at h (record { thing = 0; holds = omega arith; begins = begins-longer (spaced 0 (ending false)) (word-begins at q.place w k) })
  header-cases at w p (Ok n) k e = begun-after (word_read s w at n k) (closed-begun n p spaced (spaced_at s n) (spaced-form s n) e)

  pub header-begins : (at : ℕ) (w : List ℕ) (p : ℕ) → header_at s at w ≡ bad p → Begun Small (header_of w) s at p
  unfolding header_at
  header-begins at w p e = header-cases at w p (word_at s at w) refl e
