-- The laws of decimals: what one more digit does to a scan, and the round trip of reading and spelling. Assumes nothing.
use mathlib.Core.Path.{◌≡◌, refl, sym, ap, ◌∙◌}
use mathlib.Core.Bool.{Bool, true, false}
use mathlib.Core.List.{List, [], ◌∷◌}
use Prim.Native.Nat.{ℕ, suc, ◌+◌, ◌-◌, ◌*◌, ◌≤◌, ◌<◌}
use native.Mathlib.Omega.{arith}
use native.Mathlib.Numerals.{add-one}
use native.Mathlib.Decide.{dec_lt, ℕ_discrete}
use lib.Dec.{ltb, leb}
use lib.ListN.{length, get_or, drop, get_or-eq_default}
use lib.Seq.{drop-cons, get_or-drop}
use borrow.Author.Tests.{le-ltb, le-leb, lt-leb, ne_eqb, ltb-false, leb-true}
use Rattle.text.specs.Read.{bad}
use Rattle.text.proofs.ReadLaws.{got}
use Rattle.text.specs.Number.{is_digit, pick, most, scan, number_at}

-- ---- bytes and places

pub digit-is : (b : ℕ) → 48 ≤ b → b ≤ 57 → is_digit b ≡ true
unfolding is_digit
digit-is b h g = rw (le-ltb b 48 h) (le-leb b 57 g)

pub digit-range : (b : ℕ) → is_digit b ≡ true → (48 ≤ b) × (b ≤ 57)
unfolding is_digit
digit-range b e = go (ltb b 48) refl e
  where
    go : (t : Bool) → ltb b 48 ≡ t → pick t false (leb b 57) ≡ true → (48 ≤ b) × (b ≤ 57)
    go true p q = let z : ◌≡◌ {A = ℕ} 0 1 = cc in absurd (omega arith)
    go false p q = (ltb-false b 48 p, leb-true b 57 q)

pub zero-none : is_digit 0 ≡ false
unfolding is_digit
zero-none = refl

-- a byte that is not 0 stands within the list
pub inside : (s : List ℕ) (at : ℕ) → 0 < get_or s at 0 → at < length s
inside s at h = go (dec_lt at (length s))
  where
    go : Dec (at < length s) → at < length s
    go (yes p) = p
    go (no n) = let e : get_or s at 0 ≡ 0 = get_or-eq_default s 0 (omega arith) in absurd (omega arith)

-- the same of a byte that was read there
pub byte_inside : (s : List ℕ) (at : ℕ) {b : ℕ} → b ≡ get_or s at 0 → 0 < b → at < length s
byte_inside s at {b} e h = inside s at (omega arith)

-- a digit at a place of a list
pub record Digit (s : List ℕ) (at : ℕ) : Type 0 where
  pub is : is_digit (get_or s at 0) ≡ true
  pub within : at < length s
  pub low : 48 ≤ get_or s at 0
  pub high : get_or s at 0 ≤ 57

pub digit-here : (s : List ℕ) (at : ℕ) → is_digit (get_or s at 0) ≡ true → Digit s at
digit-here s at d = let r = digit-range (get_or s at 0) d in record { is = d; within = inside s at (omega (arith, r.0)); low = r.0; high = r.1 }

-- the same of a byte that was looked at and tested
pub digit_seen : (s : List ℕ) (at : ℕ) {b : ℕ} {d : Bool} → b ≡ get_or s at 0 → d ≡ is_digit b → d ≡ true → Digit s at
digit_seen s at e f g = digit-here s at (sym (f ∙ ap is_digit e) ∙ g)

pub none_seen : (s : List ℕ) (at : ℕ) {b : ℕ} {d : Bool} → b ≡ get_or s at 0 → d ≡ is_digit b → d ≡ false → is_digit (get_or s at 0) ≡ false
none_seen s at e f g = sym (f ∙ ap is_digit e) ∙ g

pub front : (s : List ℕ) (at : ℕ) → get_or (drop at s) 0 0 ≡ get_or s at 0
front s at = get_or-drop at s 0 0 ∙ ap (λ (k : ℕ). get_or s k 0) (omega arith)

pub second : (s : List ℕ) (at : ℕ) → get_or (drop at s) 1 0 ≡ get_or s (at + 1) 0
second s at = get_or-drop at s 1 0

-- ---- one more byte of a scan

pub scan-more : (v i b : ℕ) (t : List ℕ) → is_digit b ≡ true → v * 10 + (b - 48) ≤ most → scan v i (b ∷ t) ≡ scan (v * 10 + (b - 48)) (i + 1) t
unfolding scan
scan-more v i b t d h = rw (d, le-leb (v * 10 + (b - 48)) most h)

pub scan-over : (v i b : ℕ) (t : List ℕ) → is_digit b ≡ true → most < v * 10 + (b - 48) → scan v i (b ∷ t) ≡ bad i
unfolding scan
scan-over v i b t d h = rw (d, lt-leb (v * 10 + (b - 48)) most h)

pub scan-stop : (v i : ℕ) (t : List ℕ) → is_digit (get_or t 0 0) ≡ false → scan v i t ≡ got v i
unfolding scan
scan-stop v i [] d = refl
scan-stop v i (b ∷ t) d = rw d

-- the same at a place of a list, as the loop goes
module _ (s : List ℕ) (v i : ℕ) where
  pub at_more : i < length s → is_digit (get_or s i 0) ≡ true → v * 10 + (get_or s i 0 - 48) ≤ most
      → scan v i (drop i s) ≡ scan (v * 10 + (get_or s i 0 - 48)) (i + 1) (drop (i + 1) s)
  at_more h d g = ap (scan v i) (drop-cons s i 0 h) ∙ scan-more v i (get_or s i 0) (drop (suc i) s) d g
      ∙ ap (λ (k : ℕ). scan (v * 10 + (get_or s i 0 - 48)) (i + 1) (drop k s)) (sym (add-one i))

  pub at-over : i < length s → is_digit (get_or s i 0) ≡ true → most < v * 10 + (get_or s i 0 - 48) → scan v i (drop i s) ≡ bad i
  at-over h d g = ap (scan v i) (drop-cons s i 0 h) ∙ scan-over v i (get_or s i 0) (drop (suc i) s) d g

  pub at-stop : is_digit (get_or s i 0) ≡ false → scan v i (drop i s) ≡ got v i
  at-stop d = scan-stop v i (drop i s) (ap is_digit (front s i) ∙ d)

  pub at-end : length s ≤ i → scan v i (drop i s) ≡ got v i
  at-end h = at-stop (ap is_digit (get_or-eq_default s 0 h) ∙ zero-none)

-- ---- the cases of a decimal

module _ (s : List ℕ) (at : ℕ) where
  pub number-none : is_digit (get_or s at 0) ≡ false → number_at s at ≡ bad at
  unfolding number_at is_digit
  number-none d = rw d

  pub number-zero-more : get_or s at 0 ≡ 48 → is_digit (get_or s (at + 1) 0) ≡ true → number_at s at ≡ bad (at + 1)
  unfolding number_at is_digit
  number-zero-more e d = rw (e, d)

  pub number-zero : get_or s at 0 ≡ 48 → is_digit (get_or s (at + 1) 0) ≡ false → number_at s at ≡ got 0 (at + 1)
  unfolding number_at is_digit
  number-zero e d = rw (e, d)

  pub number-scan : is_digit (get_or s at 0) ≡ true → (get_or s at 0 ≡ 48 → ⊥) → number_at s at ≡ scan 0 at (drop at s)
  unfolding number_at
  number-scan d n = rw (d, ne_eqb (get_or s at 0) 48 n)

-- ---- a decimal by its first two bytes
module _ (s : List ℕ) (at : ℕ) where
  -- more than one digit, of which the first is not `0`
  pub number_more : is_digit (get_or s at 0) ≡ true → (get_or s at 0 ≡ 48 → ⊥) → number_at s at ≡ scan (get_or s at 0 - 48) (at + 1) (drop (at + 1) s)
  number_more d n =
      let h = digit-range (get_or s at 0) d in
      number-scan s at d n ∙ at_more s 0 at (inside s at (omega arith)) d (omega arith)
      ∙ ap (λ (v : ℕ). scan v (at + 1) (drop (at + 1) s)) (omega arith)

  -- one digit
  pub number-one : is_digit (get_or s at 0) ≡ true → is_digit (get_or s (at + 1) 0) ≡ false → number_at s at ≡ got (get_or s at 0 - 48) (at + 1)
  number-one d f = go (ℕ_discrete (get_or s at 0) 48)
    where
      go : Dec (get_or s at 0 ≡ 48) → number_at s at ≡ got (get_or s at 0 - 48) (at + 1)
      go (yes z) = number-zero s at z f ∙ ap (λ (v : ℕ). got v (at + 1)) (omega arith)
      go (no z) = number_more d z ∙ at-stop s (get_or s at 0 - 48) (at + 1) f
