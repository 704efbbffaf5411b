-- Where a line breaks the form, that byte is the first that no line of the form has after the bytes before it. Assumes nothing.
use mathlib.Core.Path.{◌≡◌, refl, sym, ap, ◌∙◌, subst}
use mathlib.Core.List.{List, [], ◌∷◌, ◌++◌, append-nil, append_assoc}
use Prim.Native.Nat.{ℕ, ◌+◌, ◌-◌, ◌≤◌, ◌<◌}
use native.Mathlib.Omega.{arith}
use lib.ListN.{length, get_or, take, drop, length-append, take-append-drop, get_or-append}
use lib.Seq.{length-take-le, drop_at}
use Rattle.text.specs.Read.{Read, bad}
use Rattle.text.proofs.ReadLaws.{got}
use Rattle.text.specs.Stands.{Stands}
use Rattle.schedule.specs.Line.{line_of, Holdable, line_at, Small}
use Rattle.schedule.specs.Header.{header_of, header_at}
use Rattle.schedule.specs.Values.{value_line, value_at}
use Rattle.schedule.specs.Files.{Spelling, BreaksForm}
use Rattle.text.proofs.StandsLaws.{stands_after}
use Rattle.text.proofs.StopLaws.{Same}
use Rattle.schedule.proofs.RoundTrip.StepLine.{line-spelled}
use Rattle.schedule.proofs.RoundTrip.ValueLine.{value-spelled}
use Rattle.schedule.proofs.RoundTrip.Header.{header-spelled}
use Rattle.schedule.proofs.RoundTrip.Found.{Begun, line-begins}
use Rattle.schedule.proofs.Stops.Begins.{value-begins, header-begins}
use Rattle.schedule.proofs.Stops.Same.{line_same, value_same, header-same}

-- a list stands where a text goes on with it
stands-front : (s : List ℕ) (at : ℕ) (l t : List ℕ) → drop at s ≡ l ++ t → Stands s at (at + length l) l
stands-front s at l t e = record { here = e ∙ ap (λ (k : List ℕ). l ++ k) (sym (stands_after s at l t e)); end = refl }

-- two texts that begin with one list have the same bytes up to each place of it
same-front : {s t : List ℕ} (c a b : List ℕ) (p : ℕ) → s ≡ c ++ a → t ≡ c ++ b → p < length c → Same s t p
same-front c a b p e f h j k =
    ap (λ (x : List ℕ). get_or x j 0) e ∙ get_or-append c a 0 j (omega arith) ∙ sym (ap (λ (x : List ℕ). get_or x j 0) f ∙ get_or-append c b 0 j (omega arith))

front-within : {s : List ℕ} (c a : List ℕ) (p : ℕ) → s ≡ c ++ a → p < length c → p < length s
front-within c a p e h = omega (arith, ap length e, length-append c a)

-- of any reader of the lines that f spells, where Broken says of a text that it breaks the form at p: no text does in which such a line stands, and with one that does each other
-- does that has the same bytes up to p, where both have a byte there
module _ {A : Type 0} {P : A → Type 0} {f : A → List ℕ} (Broken : List ℕ → Type 0) (s : List ℕ) (at p : ℕ) (within : at ≤ length s)
    (read : (t : List ℕ) (m : ℕ) (x : A) → P x → Stands t at m (f x) → Broken t → ⊥)
    (same : (t : List ℕ) → Same s t p → p < length s → p < length t → Broken s → Broken t)
    (b : Begun P f s at p) (is : Broken s) where
  absent : (t : List ℕ) (m : ℕ) (l : List ℕ) → Spelling P f l → Stands t at m l → Broken t → ⊥
  absent t m l h k e = read t m h.thing h.holds (subst (Stands t at m) h.is k) e

  -- suppose that a line goes on with the byte at p. Put behind the bytes before the place where it begins, it makes a text that breaks the form at p, and yet it stands there
  stopped : (c : ℕ) (t l k : List ℕ) → drop p s ≡ c ∷ t → Spelling P f l → l ≡ b.begins.good ++ (c ∷ k) → ⊥
  stopped c t l k m h e =
      let good : List ℕ = b.begins.good in
      let front : List ℕ = take at s ++ (good ++ (c ∷ [])) in
      let size : length (take at s) ≡ at = length-take-le at s within in
      let long : p < length front = omega (arith, b.begins.stands.end, length-append (take at s) (good ++ (c ∷ [])), length-append good (c ∷ [])) in
      let whole : s ≡ front ++ t =
      sym (take-append-drop at s) ∙ ap (λ (x : List ℕ). take at s ++ x) (b.begins.stands.here ∙ ap (λ (x : List ℕ). good ++ x) m) ∙ simp append_assoc in
      let other : take at s ++ l ≡ front ++ k = ap (λ (x : List ℕ). take at s ++ x) e ∙ simp append_assoc in
      absent (take at s ++ l) (at + length l) l h (stands-front (take at s ++ l) at l [] (drop_at (take at s) l at size ∙ sym (append-nil l)))
      (same (take at s ++ l) (same-front front t k p whole other long) (front-within front t p whole long) (front-within front k p other long) is)

  breaks : BreaksForm (Spelling P f) (drop at s) (p - at + 1)
  breaks = record {
    none = λ l t h e. absent s (at + length l) l h (stands-front s at l t e) is;
    good = b.begins.good;
    more = drop p s;
    is = b.begins.stands.here;
    place = omega (arith, b.begins.stands.end);
    line = f b.thing;
    left = b.begins.left;
    asked = record { thing = b.thing; holds = b.holds; is = refl };
    begins = b.begins.is;
    stops = stopped;
  }

-- what is read at a place is no fault there
item-whole : {A : Type 0} {r : Read A} {x : A} {m p : ℕ} → r ≡ got x m → r ≡ bad p → ⊥
item-whole e f = let z : ◌≡◌ {A = ℕ} 0 1 = cc in omega arith

number-whole : {r : Read ℕ} {v m p : ℕ} → r ≡ got v m → r ≡ bad p → ⊥
number-whole e f = let z : ◌≡◌ {A = ℕ} 0 1 = cc in omega arith

module _ (s : List ℕ) where
  pub line-breaks : (at p : ℕ) → at ≤ length s → line_at s at ≡ bad p → BreaksForm (Spelling Holdable line_of) (drop at s) (p - at + 1)
  line-breaks at p h e =
      breaks (λ t. line_at t at ≡ bad p) s at p h (λ t m st g k. item-whole (line-spelled t at m st g k)) (λ t g _ _. line_same s t p g at) (line-begins s at p e) e

  pub value-breaks : (at p : ℕ) → at ≤ length s → value_at s at ≡ bad p → BreaksForm (Spelling Small value_line) (drop at s) (p - at + 1)
  value-breaks at p h e =
      breaks (λ t. value_at t at ≡ bad p) s at p h (λ t m v g k. item-whole (value-spelled t at m v g k)) (λ t g _ _. value_same s t p g at) (value-begins s at p e) e

  pub header-breaks : (at : ℕ) (w : List ℕ) (p : ℕ) → at ≤ length s → header_at s at w ≡ bad p → BreaksForm (Spelling Small (header_of w)) (drop at s) (p - at + 1)
  header-breaks at w p h e =
      breaks (λ t. header_at t at w ≡ bad p) s at p h (λ t m v g k. number-whole (header-spelled t at w m v g k)) (λ t g i j. header-same s t p g i j at w) (header-begins s at w p e) e
