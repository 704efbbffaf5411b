-- The round trip of decimals: what is spelled is read, and what is read is spelled. Assumes nothing.
use mathlib.Core.Path.{◌≡◌, refl, sym, ap, ap₂, ◌∙◌}
use mathlib.Core.Bool.{Bool, true, false}
use mathlib.Core.List.{List, [], ◌∷◌, ◌++◌, append-nil}
use Prim.Native.Nat.{ℕ, zero, suc, ◌+◌, ◌-◌, ◌*◌, ◌/◌, ◌%◌, ◌≤◌, ◌<◌}
use native.Mathlib.Omega.{arith}
use native.Mathlib.Numerals.{add-one}
use native.Mathlib.Decide.{dec_lt, ℕ_discrete}
use lib.Dec.{leb, eqb}
use lib.ListN.{length, get_or, drop, length-append}
use lib.Seq.{drop-cons, drop-drop, drop_at, append_snoc}
use borrow.Author.Tests.{lt-ltb, le-ltb, leb-true, eqb-true, eqb-false}
use Rattle.text.specs.Read.{bad}
use Rattle.text.specs.Number.{is_digit, pick, most, scan, number_at, spell, spelled}
use Rattle.text.specs.Stands.{Stands}
use Rattle.text.proofs.ReadLaws.{got, same-thing, same_place}
use Rattle.text.proofs.NumberLaws.{digit-is, digit-range, zero-none, inside, front, scan-more, scan-stop, number-zero, number-scan}

-- ---- the spelling

-- f + 1 digits are enough for n
abbrev pub Small : ℕ → ℕ → Type 0
Small zero n = n < 10
Small (suc f) n = Small f (n / 10)

pub small-9 : (n : ℕ) → n ≤ most → Small 9 n
small-9 n h = omega arith

pub small-8 : (n : ℕ) → n * 10 ≤ most → Small 8 n
small-8 n h = omega arith

-- below ten: one digit, whatever the fuel
pub spell_one : (f n : ℕ) → n < 10 → spell f n ≡ (48 + n) ∷ []
unfolding spell
spell_one zero n h = refl
spell_one (suc f) n h = rw (lt-ltb n 10 h)

-- from ten on: the digits of the tenth, and the last digit
pub spell-more : (f n : ℕ) → 10 ≤ n → spell (suc f) n ≡ spell f (n / 10) ++ ((48 + n % 10) ∷ [])
unfolding spell
spell-more f n h = rw (le-ltb n 10 h)

-- more fuel changes nothing
fuel-step : (f n : ℕ) → spell (suc f) (n / 10) ≡ spell f (n / 10) → Dec (n < 10) → spell (suc (suc f)) n ≡ spell (suc f) n
fuel-step f n ih (yes p) = spell_one (suc (suc f)) n p ∙ sym (spell_one (suc f) n p)
fuel-step f n ih (no p) = spell-more (suc f) n (omega arith) ∙ ap (λ (l : List ℕ). l ++ ((48 + n % 10) ∷ [])) ih ∙ sym (spell-more f n (omega arith))

pub spell-fuel : (f n : ℕ) → Small f n → spell (suc f) n ≡ spell f n
spell-fuel zero n h = spell_one 1 n h ∙ sym (spell_one 0 n h)
spell-fuel (suc f) n h = fuel-step f n (spell-fuel f (n / 10) h) (dec_lt n 10)

-- one more digit behind a number that is not 0
pub spelled-snoc : (v d : ℕ) → 1 ≤ v → d < 10 → v * 10 + d ≤ most → spelled (v * 10 + d) ≡ spelled v ++ ((48 + d) ∷ [])
spelled-snoc v d h g m =
    let tenth : (v * 10 + d) / 10 ≡ v = omega arith in
    let last : (v * 10 + d) % 10 ≡ d = omega arith in
    spell-more 8 (v * 10 + d) (omega arith) ∙ ap₂ (λ (x y : ℕ). spell 8 x ++ ((48 + y) ∷ [])) tenth last
    ∙ ap (λ (l : List ℕ). l ++ ((48 + d) ∷ [])) (sym (spell-fuel 8 v (small-8 v (omega arith))))

-- ---- what is spelled is read

-- a scan from 0 over a spelling has the number
one-scan : (f n i : ℕ) (t : List ℕ) → n < 10 → scan 0 i (spell f n ++ t) ≡ scan n (i + length (spell f n)) t
one-scan f n i t h =
    rw (spell_one f n h) (scan-more 0 i (48 + n) t (digit-is (48 + n) (omega arith) (omega arith)) (omega arith)
    ∙ ap (λ (v : ℕ). scan v (i + 1) t) (omega arith))

more-scan : (f n i : ℕ) (t : List ℕ) → n ≤ most
    → scan 0 i (spell f (n / 10) ++ (48 + n % 10) ∷ t) ≡ scan (n / 10) (i + length (spell f (n / 10))) ((48 + n % 10) ∷ t)
    → Dec (n < 10) → scan 0 i (spell (suc f) n ++ t) ≡ scan n (i + length (spell (suc f) n)) t
more-scan f n i t m ih (yes p) = one-scan (suc f) n i t p
more-scan f n i t m ih (no p) =
    let q : 10 ≤ n = omega arith in
    let e : n / 10 * 10 + (48 + n % 10 - 48) ≡ n = omega arith in
    let k : i + length (spell f (n / 10)) + 1 ≡ i + length (spell f (n / 10) ++ ((48 + n % 10) ∷ [])) = omega (arith, length-append (spell f (n / 10)) ((48 + n % 10) ∷ [])) in
    rw (spell-more f n q) (ap (scan 0 i) (append_snoc (spell f (n / 10)) (48 + n % 10) t) ∙ ih
    ∙ scan-more (n / 10) (i + length (spell f (n / 10))) (48 + n % 10) t (digit-is (48 + n % 10) (omega arith) (omega arith)) (omega arith)
    ∙ ap₂ (λ (v j : ℕ). scan v j t) e k)

pub spell-scan : (f n i : ℕ) (t : List ℕ) → Small f n → n ≤ most → scan 0 i (spell f n ++ t) ≡ scan n (i + length (spell f n)) t
spell-scan zero n i t h m = one-scan zero n i t h
spell-scan (suc f) n i t h m = more-scan f n i t m (spell-scan f (n / 10) i ((48 + n % 10) ∷ t) h (omega arith)) (dec_lt n 10)

-- a list that begins with `1` to `9`
abbrev Lead : List ℕ → Type 0
Lead [] = ⊥
Lead (b ∷ l) = (49 ≤ b) × (b ≤ 57)

lead-append : (l t : List ℕ) → Lead l → Lead (l ++ t)
lead-append [] t h = absurd h
lead-append (b ∷ l) t h = h

lead-first : (l : List ℕ) → Lead l → (49 ≤ get_or l 0 0) × (get_or l 0 0 ≤ 57)
lead-first [] h = absurd h
lead-first (b ∷ l) h = h

one-lead : (f n : ℕ) → n < 10 → 1 ≤ n → Lead (spell f n)
one-lead f n h g = rw (spell_one f n h) (omega arith)

more-lead : (f n : ℕ) → (1 ≤ n / 10 → Lead (spell f (n / 10))) → 1 ≤ n → Dec (n < 10) → Lead (spell (suc f) n)
more-lead f n ih g (yes p) = one-lead (suc f) n p g
more-lead f n ih g (no p) = rw (spell-more f n (omega arith)) (lead-append (spell f (n / 10)) ((48 + n % 10) ∷ []) (ih (omega arith)))

pub spell-lead : (f n : ℕ) → Small f n → 1 ≤ n → Lead (spell f n)
spell-lead zero n h g = one-lead zero n h g
spell-lead (suc f) n h g = more-lead f n (spell-lead f (n / 10) h) g (dec_lt n 10)

-- the round trip, one way: a number's spelling, before a byte that is no digit, is read as that number
module _ (s : List ℕ) (at next : ℕ) where
  zero-spelled : (v : ℕ) → v ≡ 0 → Stands s at next (spelled v) → is_digit (get_or s next 0) ≡ false → number_at s at ≡ got v next
  zero-spelled v z h d =
      let l : spelled v ≡ 48 ∷ [] = spell_one 9 v (omega arith) ∙ ap (λ (k : ℕ). (48 + k) ∷ []) z in
      let n : next ≡ at + 1 = h.end ∙ ap (λ (k : List ℕ). at + length k) l in
      let e : get_or s at 0 ≡ 48 = sym (front s at) ∙ ap (λ (k : List ℕ). get_or k 0 0) (h.here ∙ ap (λ (k : List ℕ). k ++ drop next s) l) in
      number-zero s at e (ap (λ (k : ℕ). is_digit (get_or s k 0)) (sym n) ∙ d) ∙ ap₂ got (sym z) (sym n)

  more-spelled : (v : ℕ) → 1 ≤ v → v ≤ most → Stands s at next (spelled v) → is_digit (get_or s next 0) ≡ false → number_at s at ≡ got v next
  more-spelled v g m h d =
      let f : (49 ≤ get_or (spelled v ++ drop next s) 0 0) × (get_or (spelled v ++ drop next s) 0 0 ≤ 57) =
      lead-first (spelled v ++ drop next s) (lead-append (spelled v) (drop next s) (spell-lead 9 v (small-9 v m) g)) in
      let e : get_or (spelled v ++ drop next s) 0 0 ≡ get_or s at 0 = ap (λ (k : List ℕ). get_or k 0 0) (sym h.here) ∙ front s at in
      number-scan s at (digit-is (get_or s at 0) (omega arith) (omega arith)) (λ x. omega arith)
      ∙ ap (scan 0 at) h.here ∙ spell-scan 9 v at (drop next s) (small-9 v m) m ∙ ap (λ (k : ℕ). scan v k (drop next s)) (sym h.end)
      ∙ scan-stop v next (drop next s) (ap is_digit (front s next) ∙ d)

  pub number_spelled : (v : ℕ) → v ≤ most → Stands s at next (spelled v) → is_digit (get_or s next 0) ≡ false → number_at s at ≡ got v next
  number_spelled v m h d = go (ℕ_discrete v 0)
    where
      go : Dec (v ≡ 0) → number_at s at ≡ got v next
      go (yes z) = zero-spelled v z h d
      go (no z) = more-spelled v (omega arith) m h d

-- ---- what is read is spelled

-- a scan from v over t found w at j: it went over the list went, and what is left has no digit in front
record Scanned (v i : ℕ) (t : List ℕ) (w j : ℕ) : Type 0 where
  went : List ℕ
  left : List ℕ
  split : t ≡ went ++ left
  end : j ≡ i + length went
  same : spelled w ≡ spelled v ++ went
  small : w ≤ most
  stopped : is_digit (get_or left 0 0) ≡ false

module _ (v i w j : ℕ) (m : v ≤ most) where
  scanned-none : (t : List ℕ) → is_digit (get_or t 0 0) ≡ false → got v i ≡ got w j → Scanned v i t w j
  scanned-none t d e =
      let p : v ≡ w = same-thing e in let q : i ≡ j = same_place e in
      record { went = []; left = t; split = refl; end = omega arith; same = ap spelled (sym p) ∙ sym (append-nil (spelled v)); small = omega arith; stopped = d }

scanned-more : (v i b : ℕ) (t : List ℕ) (w j : ℕ) → 1 ≤ v → is_digit b ≡ true → v * 10 + (b - 48) ≤ most
    → Scanned (v * 10 + (b - 48)) (i + 1) t w j → Scanned v i (b ∷ t) w j
scanned-more v i b t w j g d m r =
    let h = digit-range b d in
    let e : 48 + (b - 48) ≡ b = omega arith in
    let n : j ≡ i + suc (length r.went) = omega (arith, r.end) in
    record {
      went = b ∷ r.went;
      left = r.left;
      split = ap (λ (l : List ℕ). b ∷ l) r.split;
      end = n;
      same = r.same ∙ ap (λ (l : List ℕ). l ++ r.went) (spelled-snoc v (b - 48) g (omega arith) m ∙ ap (λ (x : ℕ). spelled v ++ (x ∷ [])) e)
          ∙ append_snoc (spelled v) b r.went;
      small = r.small;
      stopped = r.stopped;
    }

scanned-step : (v i b : ℕ) (t : List ℕ) (w j : ℕ) → 1 ≤ v → v ≤ most
    → (v * 10 + (b - 48) ≤ most → scan (v * 10 + (b - 48)) (i + 1) t ≡ got w j → Scanned (v * 10 + (b - 48)) (i + 1) t w j)
    → (x : Bool) → is_digit b ≡ x → (y : Bool) → leb (v * 10 + (b - 48)) most ≡ y
    → pick x (pick y (scan (v * 10 + (b - 48)) (i + 1) t) (bad i)) (got v i) ≡ got w j → Scanned v i (b ∷ t) w j
scanned-step v i b t w j g m ih false d y o e = scanned-none v i w j m (b ∷ t) d e
scanned-step v i b t w j g m ih true d false o e = let z : ◌≡◌ {A = ℕ} 0 1 = cc in absurd (omega arith)
scanned-step v i b t w j g m ih true d true o e =
    let k = leb-true (v * 10 + (b - 48)) most o in
    scanned-more v i b t w j g d k (ih k e)

scanned : (v i : ℕ) (t : List ℕ) (w j : ℕ) → 1 ≤ v → v ≤ most → scan v i t ≡ got w j → Scanned v i t w j
unfolding scan
scanned v i [] w j g m e = scanned-none v i w j m [] zero-none e
scanned v i (b ∷ t) w j g m e =
    scanned-step v i b t w j g m (λ k h. scanned (v * 10 + (b - 48)) (i + 1) t w j (omega arith) k h)
    (is_digit b) refl (leb (v * 10 + (b - 48)) most) refl e

-- the round trip, the other way: what is read as v from one place to another is v's spelling, and no digit follows
pub record ReadAs (s : List ℕ) (at v next : ℕ) : Type 0 where
  pub stands : Stands s at next (spelled v)
  pub small : v ≤ most
  pub stopped : is_digit (get_or s next 0) ≡ false

module _ (s : List ℕ) (at v next : ℕ) where
  read-zero : get_or s at 0 ≡ 48 → is_digit (get_or s (at + 1) 0) ≡ false → got 0 (at + 1) ≡ got v next → ReadAs s at v next
  read-zero z d e =
      let p : 0 ≡ v = same-thing e in let q : at + 1 ≡ next = same_place e in
      let h : at < length s = inside s at (omega arith) in
      record {
        stands = record {
          here = drop-cons s at 0 h ∙ ap₂ (λ (x : ℕ) (l : List ℕ). x ∷ l) z (ap (λ (k : ℕ). drop k s) (sym (add-one at) ∙ q))
              ∙ ap (λ (l : List ℕ). l ++ drop next s) (sym (spell_one 9 0 (omega arith)) ∙ ap spelled p);
          end = sym q ∙ ap (λ (l : List ℕ). at + length l) (sym (spell_one 9 0 (omega arith)) ∙ ap spelled p);
        };
        small = omega arith;
        stopped = ap (λ (k : ℕ). is_digit (get_or s k 0)) (sym q) ∙ d;
      }

  from-scan : (b : ℕ) → 49 ≤ b → b ≤ 57 → (t : List ℕ) → drop at s ≡ b ∷ t → Scanned (b - 48) (at + 1) t v next → ReadAs s at v next
  from-scan b g h t e r =
      let one : spelled (b - 48) ≡ b ∷ [] = spell_one 9 (b - 48) (omega arith) ∙ ap (λ (x : ℕ). x ∷ []) (omega arith) in
      let same : spelled v ≡ b ∷ r.went = r.same ∙ ap (λ (l : List ℕ). l ++ r.went) one in
      let whole : drop at s ≡ spelled v ++ r.left = e ∙ ap (λ (l : List ℕ). b ∷ l) r.split ∙ ap (λ (l : List ℕ). l ++ r.left) (sym same) in
      let n : next ≡ at + length (b ∷ r.went) = omega (arith, r.end) in
      let end : next ≡ at + length (spelled v) = n ∙ ap (λ (l : List ℕ). at + length l) (sym same) in
      let rest : drop next s ≡ r.left = ap (λ (k : ℕ). drop k s) end ∙ sym (drop-drop (length (spelled v)) at s) ∙ ap (drop (length (spelled v))) whole ∙ drop_at (spelled v) r.left (length (spelled v)) refl in
      record {
        stands = record { here = whole ∙ ap (λ (l : List ℕ). spelled v ++ l) (sym rest); end = end };
        small = r.small;
        stopped = ap is_digit (sym (front s next) ∙ ap (λ (l : List ℕ). get_or l 0 0) rest) ∙ r.stopped;
      }

  read-scan : is_digit (get_or s at 0) ≡ true → (get_or s at 0 ≡ 48 → ⊥) → scan 0 at (drop at s) ≡ got v next → ReadAs s at v next
  read-scan d n e =
      let g = digit-range (get_or s at 0) d in
      let h : at < length s = inside s at (omega arith) in
      let t : List ℕ = drop (suc at) s in
      let first : 0 * 10 + (get_or s at 0 - 48) ≡ get_or s at 0 - 48 = omega arith in
      let far : scan (get_or s at 0 - 48) (at + 1) (drop (suc at) s) ≡ got v next =
      ap (λ (x : ℕ). scan x (at + 1) (drop (suc at) s)) (sym first)
      ∙ sym (scan-more 0 at (get_or s at 0) (drop (suc at) s) d (omega arith)) ∙ ap (scan 0 at) (sym (drop-cons s at 0 h)) ∙ e in
      from-scan (get_or s at 0) (omega arith) (omega arith) (drop (suc at) s) (drop-cons s at 0 h)
      (scanned (get_or s at 0 - 48) (at + 1) (drop (suc at) s) v next (omega arith) (omega arith) far)

  read-cases : (x : Bool) → is_digit (get_or s at 0) ≡ x → (y : Bool) → eqb (get_or s at 0) 48 ≡ y → (z : Bool) → is_digit (get_or s (at + 1) 0) ≡ z
      → pick x (pick y (pick z (bad (at + 1)) (got 0 (at + 1))) (scan 0 at (drop at s))) (bad at) ≡ got v next → ReadAs s at v next
  read-cases false d y o z k e = let u : ◌≡◌ {A = ℕ} 0 1 = cc in absurd (omega arith)
  read-cases true d false o z k e = read-scan d (eqb-false (get_or s at 0) 48 o) e
  read-cases true d true o true k e = let u : ◌≡◌ {A = ℕ} 0 1 = cc in absurd (omega arith)
  read-cases true d true o false k e = read-zero (eqb-true (get_or s at 0) 48 o) k e

  pub number_read : number_at s at ≡ got v next → ReadAs s at v next
  unfolding number_at
  number_read e = read-cases (is_digit (get_or s at 0)) refl (eqb (get_or s at 0) 48) refl (is_digit (get_or s (at + 1) 0)) refl e
