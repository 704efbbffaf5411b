-- The laws of where a decimal stops being read: what stands before that place begins a number's spelling, and no byte past it was looked at. Assumes nothing.
use mathlib.Core.Path.{◌≡◌, refl, sym, ap, ◌∙◌, subst}
use mathlib.Core.Bool.{Bool, true, false}
use mathlib.Core.List.{List, [], ◌∷◌, ◌++◌, append-nil, append_assoc}
use Prim.Native.Nat.{ℕ, ◌+◌, ◌-◌, ◌*◌, ◌≤◌}
use native.Mathlib.Omega.{arith}
use lib.Dec.{leb, eqb}
use lib.ListN.{length, get_or, drop, length-append, length-drop}
use lib.Seq.{drop-drop}
use borrow.Author.Tests.{leb-true, leb-false, eqb-true, eqb-false}
use Rattle.text.specs.Read.{Read, bad}
use Rattle.text.specs.Number.{is_digit, pick, most, scan, number_at, spelled}
use Rattle.text.specs.Stands.{Stands}
use Rattle.std.specs.Prelude.{Ok, Err}
use Rattle.text.proofs.ReadLaws.{got, same-break}
use Rattle.text.proofs.NumberLaws.{digit-range, zero-none, front, scan-more, scan-over, at-stop, number_more}
use Rattle.text.proofs.StandsLaws.{stands-none, stands-join, stands-byte}
use Rattle.text.proofs.SpellLaws.{spell_one, spelled-snoc}

-- ---- beginnings

-- the text from at up to p is the beginning of l
pub record Begins (s : List ℕ) (at p : ℕ) (l : List ℕ) : Type 0 where
  pub good : List ℕ
  pub left : List ℕ
  pub stands : Stands s at p good
  pub is : l ≡ good ++ left

pub begins-none : (s : List ℕ) (at : ℕ) (l : List ℕ) → Begins s at at l
begins-none s at l = record { good = []; left = l; stands = stands-none s at; is = refl }

pub begins-whole : {s : List ℕ} {at p : ℕ} {l : List ℕ} → Stands s at p l → Begins s at p l
begins-whole {l = l} h = record { good = l; left = []; stands = h; is = sym (append-nil l) }

pub begins-longer : {s : List ℕ} {at p : ℕ} {l : List ℕ} (k : List ℕ) → Begins s at p l → Begins s at p (l ++ k)
begins-longer k b = record {
  good = b.good;
  left = b.left ++ k;
  stands = b.stands;
  is = ap (λ (x : List ℕ). x ++ k) b.is ∙ append_assoc b.good b.left k;
}

-- behind a list that stands
pub begins-after : {s : List ℕ} {at n p : ℕ} {h l : List ℕ} → Stands s at n h → Begins s n p l → Begins s at p (h ++ l)
begins-after {s} {at} {n} {p} {h} g b = record {
  good = h ++ b.good;
  left = b.left;
  stands = stands-join s at n p h b.good g b.stands;
  is = ap (λ (x : List ℕ). h ++ x) b.is ∙ sym (append_assoc h b.good b.left);
}

pub begins-low : {s : List ℕ} {at p : ℕ} {l : List ℕ} → Begins s at p l → at ≤ p
begins-low b = omega (arith, b.stands.end)

pub begins-high : {s : List ℕ} {at p : ℕ} {l : List ℕ} → Begins s at p l → at ≤ length s → p ≤ length s
begins-high {s} {at} {p} b h = omega (arith, b.stands.end, ap length b.stands.here, length-append b.good (drop p s), length-drop at s)

-- ---- a number that stops being one

pub record NumberBegins (s : List ℕ) (at p : ℕ) : Type 0 where
  pub value : ℕ
  pub small : value ≤ most
  pub begins : Begins s at p (spelled value)

module _ (s : List ℕ) (at p : ℕ) where
  -- one more digit of a number that stands and is not 0
  digit-joins : (v i b : ℕ) → 1 ≤ v → is_digit b ≡ true → get_or s i 0 ≡ b → v * 10 + (b - 48) ≤ most → Stands s at i (spelled v)
      → Stands s at (i + 1) (spelled (v * 10 + (b - 48)))
  digit-joins v i b g d e m h =
      let r = digit-range b d in
      let k : spelled (v * 10 + (b - 48)) ≡ spelled v ++ (b ∷ []) =
      spelled-snoc v (b - 48) g (omega arith) m ∙ ap (λ (x : ℕ). spelled v ++ (x ∷ [])) (omega arith) in
      subst (Stands s at (i + 1)) (sym k) (stands-join s at i (i + 1) (spelled v) (b ∷ []) h (stands-byte s i b (omega arith) e))

  whole : (v i : ℕ) → v ≤ most → Stands s at i (spelled v) → i ≡ p → NumberBegins s at p
  whole v i m h e = record { value = v; small = m; begins = begins-whole (subst (λ (k : ℕ). Stands s at k (spelled v)) e h) }

  scan_step : (v i b : ℕ) (l : List ℕ) → v ≤ most → Stands s at i (spelled v)
      → (is_digit b ≡ true → v * 10 + (b - 48) ≤ most → scan (v * 10 + (b - 48)) (i + 1) l ≡ bad p → NumberBegins s at p)
      → (x : Bool) → is_digit b ≡ x → (y : Bool) → leb (v * 10 + (b - 48)) most ≡ y
      → pick x (pick y (scan (v * 10 + (b - 48)) (i + 1) l) (bad i)) (got v i) ≡ bad p → NumberBegins s at p
  scan_step v i b l m h ih false d y o e = let z : ◌≡◌ {A = ℕ} 0 1 = cc in absurd (omega arith)
  scan_step v i b l m h ih true d false o e = whole v i m h (same-break e)
  scan_step v i b l m h ih true d true o e = ih d (leb-true (v * 10 + (b - 48)) most o) e

  -- the digits up to i are the spelling of v: those up to the digit that makes the number too large are that of what was scanned
  scan_begins : (v i : ℕ) (l : List ℕ) → drop i s ≡ l → 1 ≤ v → v ≤ most → Stands s at i (spelled v) → scan v i l ≡ bad p → NumberBegins s at p
  unfolding scan
  scan_begins v i [] k g m h e = let z : ◌≡◌ {A = ℕ} 0 1 = cc in absurd (omega arith)
  scan_begins v i (b ∷ l) k g m h e =
      let f : get_or s i 0 ≡ b = sym (front s i) ∙ ap (λ (x : List ℕ). get_or x 0 0) k in
      scan_step v i b l m h
      (λ d o q. scan_begins (v * 10 + (b - 48)) (i + 1) l (sym (drop-drop 1 i s) ∙ ap (drop 1) k) (omega arith) o (digit-joins v i b g d f o h) q)
      (is_digit b) refl (leb (v * 10 + (b - 48)) most) refl e

  -- the first digit is a number's spelling
  first-digit : (b : ℕ) → is_digit b ≡ true → get_or s at 0 ≡ b → Stands s at (at + 1) (spelled (b - 48))
  first-digit b d e =
      let r = digit-range b d in
      let k : spelled (b - 48) ≡ b ∷ [] = spell_one 9 (b - 48) (omega arith) ∙ ap (λ (x : ℕ). x ∷ []) (omega arith) in
      subst (Stands s at (at + 1)) (sym k) (stands-byte s at b (omega arith) e)

  nothing : at ≡ p → NumberBegins s at p
  nothing e = record { value = 0; small = omega arith; begins = subst (λ (k : ℕ). Begins s at k (spelled 0)) e (begins-none s at (spelled 0)) }

  bad-cases : (x : Bool) → is_digit (get_or s at 0) ≡ x → (y : Bool) → eqb (get_or s at 0) 48 ≡ y → (z : Bool)
      → (pick x (pick y (pick z (bad (at + 1)) (got 0 (at + 1))) (scan 0 at (drop at s))) (bad at) ≡ bad p) → number_at s at ≡ bad p → NumberBegins s at p
  bad-cases false d y o z e f = nothing (same-break e)
  bad-cases true d true o false e f = let u : ◌≡◌ {A = ℕ} 0 1 = cc in absurd (omega arith)
  bad-cases true d true o true e f =
      let k : at + 1 ≡ p = same-break e in
      let r = eqb-true (get_or s at 0) 48 o in
      whole (get_or s at 0 - 48) (at + 1) (omega arith) (first-digit (get_or s at 0) d refl) k
  bad-cases true d false o z e f =
      let r = digit-range (get_or s at 0) d in
      let n = eqb-false (get_or s at 0) 48 o in
      scan_begins (get_or s at 0 - 48) (at + 1) (drop (at + 1) s) refl (omega arith) (omega arith) (first-digit (get_or s at 0) d refl)
      (sym (number_more s at d n) ∙ f)

  -- the digits before the byte that no decimal has there begin the spelling of a number
  pub number-begins : number_at s at ≡ bad p → NumberBegins s at p
  unfolding number_at
  number-begins e = bad-cases (is_digit (get_or s at 0)) refl (eqb (get_or s at 0) 48) refl (is_digit (get_or s (at + 1) 0)) e e

-- ---- what is read is read from the bytes up to where reading stops, the byte there included

-- two texts have the same bytes up to a place, and at it
abbrev pub Same : List ℕ → List ℕ → ℕ → Type 0
Same s t p = (j : ℕ) → j ≤ p → get_or s j 0 ≡ get_or t j 0

-- what f reads from a place on, where stop says where it stops: not before that place, and the same in every text that has the same bytes up to there
pub record Local {A : Type 0} (stop : A → ℕ) (at : ℕ) (f : List ℕ → A) : Type 0 where
  pub low : (s : List ℕ) → at ≤ stop (f s)
  pub same : (s t : List ℕ) → Same s t (stop (f s)) → f t ≡ f s

module _ {A : Type 0} {stop : A → ℕ} {at : ℕ} where
  -- nothing is read
  pub local-none : {x : A} → at ≤ stop x → Local stop at (λ s. x)
  local-none h = record { low = λ s. h; same = λ s t e. refl }

  -- a byte decides what is read
  pub local-byte : (f : ℕ → List ℕ → A) → ((b : ℕ) → Local stop at (f b)) → Local stop at (λ s. f (get_or s at 0) s)
  local-byte f h = record {
    low = λ s. (h (get_or s at 0)).low s;
    same = λ s t e. ap (λ (b : ℕ). f b t) (sym (e at ((h (get_or s at 0)).low s))) ∙ (h (get_or s at 0)).same s t e;
  }

  pub local-pick : (x : Bool) {f g : List ℕ → A} → Local stop at f → Local stop at g → Local stop at (λ s. pick x (f s) (g s))
  local-pick true h k = h
  local-pick false h k = k

  pub local-later : {n : ℕ} {f : List ℕ → A} → at ≤ n → Local stop n f → Local stop at f
  local-later g h = record { low = λ s. omega (arith, h.low s); same = h.same }

-- where what is read stops
abbrev pub stop_at : {A : Type 0} → Read A → ℕ
stop_at (Err p) = p.place
stop_at (Ok (v, n)) = n

low_step : (v i : ℕ) (r : Read ℕ) → i + 1 ≤ stop_at r → (x y : Bool) → i ≤ stop_at (pick x (pick y r (bad i)) (got v i))
low_step v i r h true true = omega arith
low_step v i r h true false = omega arith
low_step v i r h false y = omega arith

scan-low : (v i : ℕ) (l : List ℕ) → i ≤ stop_at (scan v i l)
unfolding scan
scan-low v i [] = omega arith
scan-low v i (b ∷ l) = low_step v i (scan (v * 10 + (b - 48)) (i + 1) l) (scan-low (v * 10 + (b - 48)) (i + 1) l) (is_digit b) (leb (v * 10 + (b - 48)) most)

module _ (s t : List ℕ) where
  -- one byte b, which the other text has too where it is known that it is the same there
  same_step : (v i b : ℕ) (l : List ℕ) → get_or s i 0 ≡ b
      → (Same s t (stop_at (scan (v * 10 + (b - 48)) (i + 1) l)) → scan (v * 10 + (b - 48)) (i + 1) (drop (i + 1) t) ≡ scan (v * 10 + (b - 48)) (i + 1) l)
      → (x : Bool) → is_digit b ≡ x → (y : Bool) → leb (v * 10 + (b - 48)) most ≡ y
      → Same s t (stop_at (pick x (pick y (scan (v * 10 + (b - 48)) (i + 1) l) (bad i)) (got v i)))
      → scan v i (drop i t) ≡ pick x (pick y (scan (v * 10 + (b - 48)) (i + 1) l) (bad i)) (got v i)
  same_step v i b l f ih false d y o e = at-stop t v i (ap is_digit (sym (e i (omega arith)) ∙ f) ∙ d)
  same_step v i b l f ih true d false o e =
      let r = digit-range b d in
      ap (scan v i) (stands-byte t i b (omega arith) (sym (e i (omega arith)) ∙ f)).here ∙ scan-over v i b (drop (i + 1) t) d (leb-false (v * 10 + (b - 48)) most o)
  same_step v i b l f ih true d true o e =
      let r = digit-range b d in
      let k = scan-low (v * 10 + (b - 48)) (i + 1) l in
      ap (scan v i) (stands-byte t i b (omega arith) (sym (e i (omega arith)) ∙ f)).here ∙ scan-more v i b (drop (i + 1) t) d (leb-true (v * 10 + (b - 48)) most o) ∙ ih e

  scan-same : (v i : ℕ) (l : List ℕ) → drop i s ≡ l → Same s t (stop_at (scan v i l)) → scan v i (drop i t) ≡ scan v i l
  unfolding scan
  scan-same v i [] k e = at-stop t v i (ap is_digit (sym (e i (omega arith)) ∙ sym (front s i) ∙ ap (λ (x : List ℕ). get_or x 0 0) k) ∙ zero-none)
  scan-same v i (b ∷ l) k e =
      same_step v i b l (sym (front s i) ∙ ap (λ (x : List ℕ). get_or x 0 0) k)
      (λ h. scan-same (v * 10 + (b - 48)) (i + 1) l (sym (drop-drop 1 i s) ∙ ap (drop 1) k) h)
      (is_digit b) refl (leb (v * 10 + (b - 48)) most) refl e

scan-local : (v i : ℕ) → Local stop_at i (λ s. scan v i (drop i s))
scan-local v i = record { low = λ s. scan-low v i (drop i s); same = λ s t e. scan-same s t v i (drop i s) refl e }

pub number-local : (at : ℕ) → Local stop_at at (λ s. number_at s at)
unfolding number_at
number-local at =
    local-byte (λ b s. pick (is_digit b) (pick (eqb b 48) (pick (is_digit (get_or s (at + 1) 0)) (bad (at + 1)) (got 0 (at + 1))) (scan 0 at (drop at s))) (bad at))
    (λ b. local-pick (is_digit b)
    (local-pick (eqb b 48)
    (local-later {n = at + 1} (omega arith) (local-byte (λ c s. pick (is_digit c) (bad (at + 1)) (got 0 (at + 1)))
    (λ c. local-pick (is_digit c) (local-none (omega arith)) (local-none (omega arith)))))
    (scan-local 0 at))
    (local-none (omega arith)))
