-- The laws of what stands in a text: two parts join, a whole parts, and one byte stands. Assumes nothing.
use Prim.Native.Nat.{ℕ, ◌+◌, ◌≤◌, ◌<◌}
use mathlib.Core.Path.{◌≡◌, refl, sym, ap, ap₂, ◌∙◌}
use mathlib.Core.List.{List, [], ◌∷◌, ◌++◌, append_assoc}
use native.Mathlib.Omega.{arith}
use native.Mathlib.Numerals.{add-one}
use lib.ListN.{length, get_or, drop, length-append, length-drop}
use lib.Seq.{drop-cons, drop-drop, drop_at}
use Rattle.text.specs.Stands.{Stands}
use Rattle.text.proofs.NumberLaws.{front, inside}

module _ (s : List ℕ) where
  pub stands-none : (at : ℕ) → Stands s at at []
  stands-none at = record { here = refl; end = omega arith }

  pub stands-join : (a b c : ℕ) (l m : List ℕ) → Stands s a b l → Stands s b c m → Stands s a c (l ++ m)
  stands-join a b c l m p q = record {
    here = p.here ∙ ap (λ (t : List ℕ). l ++ t) q.here ∙ sym (append_assoc l m (drop c s));
    end = omega (arith, p.end, q.end, length-append l m);
  }

  -- what follows a list that stands, at the place after it
  pub stands_after : (a : ℕ) (l t : List ℕ) → drop a s ≡ l ++ t → drop (a + length l) s ≡ t
  stands_after a l t e = sym (drop-drop (length l) a s) ∙ ap (drop (length l)) e ∙ drop_at l t (length l) refl

  pub stands-first : (a c : ℕ) (l m : List ℕ) → Stands s a c (l ++ m) → Stands s a (a + length l) l
  stands-first a c l m p =
      let e : drop a s ≡ l ++ (m ++ drop c s) = p.here ∙ append_assoc l m (drop c s) in
      record { here = e ∙ ap (λ (t : List ℕ). l ++ t) (sym (stands_after a l (m ++ drop c s) e)); end = refl }

  pub stands-rest : (a c : ℕ) (l m : List ℕ) → Stands s a c (l ++ m) → Stands s (a + length l) c m
  stands-rest a c l m p =
      let e : drop a s ≡ l ++ (m ++ drop c s) = p.here ∙ append_assoc l m (drop c s) in
      record { here = stands_after a l (m ++ drop c s) e; end = omega (arith, p.end, length-append l m) }

  -- one byte, which is not 0
  pub stands-byte : (a b : ℕ) → 0 < b → get_or s a 0 ≡ b → Stands s a (a + 1) (b ∷ [])
  stands-byte a b z e =
      let h : a < length s = inside s a (omega arith) in
      record { here = drop-cons s a 0 h ∙ ap₂ (λ (x : ℕ) (t : List ℕ). x ∷ t) e (ap (λ (k : ℕ). drop k s) (sym (add-one a))); end = refl }

  pub byte-stands : (a c b : ℕ) (l : List ℕ) → Stands s a c (b ∷ l) → get_or s a 0 ≡ b
  byte-stands a c b l p = sym (front s a) ∙ ap (λ (t : List ℕ). get_or t 0 0) p.here

  -- the same, with a byte in front
  pub stands-cons : (a c b : ℕ) (l : List ℕ) → 0 < b → get_or s a 0 ≡ b → Stands s (a + 1) c l → Stands s a c (b ∷ l)
  stands-cons a c b l z e p = stands-join a (a + 1) c (b ∷ []) l (stands-byte a b z e) p

  pub stands-tail : (a c b : ℕ) (l : List ℕ) → Stands s a c (b ∷ l) → Stands s (a + 1) c l
  stands-tail a c b l p = stands-rest a c (b ∷ []) l p

  -- a byte that may be 0, within the text
  pub stands_here : (a c b : ℕ) (l : List ℕ) → a < length s → get_or s a 0 ≡ b → Stands s (a + 1) c l → Stands s a c (b ∷ l)
  stands_here a c b l h e p = record {
    here = drop-cons s a 0 h ∙ ap₂ (λ (x : ℕ) (t : List ℕ). x ∷ t) e (ap (λ (k : ℕ). drop k s) (sym (add-one a)) ∙ p.here);
    end = omega (arith, p.end);
  }

  pub stands-within : (a c b : ℕ) (l : List ℕ) → Stands s a c (b ∷ l) → a < length s
  stands-within a c b l p = let n = ap length p.here in omega (arith, length-drop a s)

  -- what begins within the text ends within it
  pub stands-high : (a c : ℕ) (l : List ℕ) → Stands s a c l → a ≤ length s → c ≤ length s
  stands-high a c l p h = let n = ap length p.here in omega (arith, p.end, length-append l (drop c s), length-drop a s, length-drop c s)
