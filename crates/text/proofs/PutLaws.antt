-- The laws of writing a text at a place: the copy, the kit's digits, one piece after another, and what no room leaves. Assumes nothing.
use Prim.Native.Nat.{ℕ, zero, suc, ◌+◌, ◌-◌, ◌/◌, ◌%◌, ◌^◌, ◌≤◌, ◌<◌}
use mathlib.Core.Path.{◌≡◌, refl, sym, ap, ap₂, ◌∙◌, subst}
use mathlib.Core.Bool.{Bool, true, false}
use mathlib.Core.List.{List, [], ◌∷◌, ◌++◌, append_assoc}
use native.Mathlib.Omega.{arith}
use native.Mathlib.Nat.{pow-suc}
use native.Mathlib.Decide.{dec_lt}
use lib.Dec.{leb}
use lib.ListN.{length, take, drop, set, length-append}
use Rattle.std.proofs.lemmas.List.{take-append-drop, take_more_set, drop-set-lt}
use lib.Seq.{paste, paste-zero, length-paste, take-length, length-take-le, take_at, drop-drop, drop-append-add}
use borrow.Author.Tests.{lt-ltb, le-leb}
use Rattle.io.specs.Digits.{last_digits, hex_digit_ascii, IsDigitCount}
use Rattle.text.specs.Number.{most, spell, spelled}
use Rattle.text.specs.Put.{put, Wrote, PutsIf, Puts}
use Rattle.text.proofs.SpellLaws.{Small, small-9, spell_one, spell-more}

-- ---- the copy

pub put_all : (l : List ℕ) (at : ℕ) (t : List ℕ) → paste l at t (length t) ≡ put l at t
unfolding put
put_all l at t = ap (λ (x : List ℕ). take at l ++ x ++ drop (at + length t) l) (take-length t)

-- ---- one piece after another

pub put-length : (l : List ℕ) (at : ℕ) (t : List ℕ) → at + length t ≤ length l → length (put l at t) ≡ length l
put-length l at t h = ap length (sym (put_all l at t)) ∙ length-paste l at t (length t) h (omega arith)

front_length : (l : List ℕ) (at : ℕ) (t : List ℕ) → at + length t ≤ length l → length (take at l ++ t) ≡ at + length t
front_length l at t h = length-append (take at l) t ∙ ap (λ (k : ℕ). k + length t) (length-take-le at l (omega arith))

pub put-put : (l : List ℕ) (at : ℕ) (t p : List ℕ) → at + length t ≤ length l → put (put l at t) (at + length t) p ≡ put l at (t ++ p)
unfolding put
put-put l at t p h =
    let n = front_length l at t h in
    let same : at + length t + length p ≡ at + length (t ++ p) = omega (arith, length-append t p) in
    let rest : drop (at + length t + length p) (take at l ++ t ++ drop (at + length t) l) ≡ drop (at + length (t ++ p)) l =
    ap (λ (k : ℕ). drop (k + length p) (take at l ++ t ++ drop (at + length t) l)) (sym n)
    ∙ drop-append-add (take at l ++ t) (drop (at + length t) l) (length p) ∙ drop-drop (length p) (at + length t) l
    ∙ ap (λ (k : ℕ). drop k l) same in
    ap₂ (λ (x y : List ℕ). x ++ p ++ y) (take_at (take at l ++ t) (drop (at + length t) l) (at + length t) n) rest
    ∙ ap (λ (x : List ℕ). x ++ drop (at + length (t ++ p)) l) (append_assoc (take at l) t p)

-- the array is as long as it was
pub wrote-length : {l t m : List ℕ} {at next : ℕ} → Wrote l at t m next → length m ≡ length l
wrote-length {l} {t} {m} {at} {next} w = ap length w.bytes ∙ put-length l at t w.room

-- a piece at the start, and behind it what lay there
pub wrote-first : {l t m : List ℕ} {next : ℕ} → Wrote l 0 t m next → m ≡ t ++ drop next l
unfolding put
wrote-first {l} {t} {m} {next} w = w.bytes ∙ ap (λ (k : ℕ). t ++ drop k l) (sym w.end)

-- two pieces, one after the other, are one piece
pub wrote-more : {l t p m m' : List ℕ} {at next next' : ℕ} → Wrote l at t m next → Wrote m next p m' next' → Wrote l at (t ++ p) m' next'
wrote-more {l} {t} {p} {m} {m'} {at} {next} {next'} w v = record {
  room = omega (arith, v.room, w.end, wrote-length w, length-append t p);
  bytes = v.bytes ∙ ap₂ (λ (x : List ℕ) (k : ℕ). put x k p) w.bytes w.end ∙ put-put l at t p w.room;
  end = omega (arith, v.end, w.end, length-append t p);
}

-- ---- the kit's digits are the spelling

glyph-digit : (d : ℕ) → d < 10 → hex_digit_ascii d ≡ 48 + d
glyph-digit d h = rw (lt-ltb d 10 h)

pow-one : (j : ℕ) → 1 ≤ 10 ^ j
pow-one zero = omega arith
pow-one (suc j) = omega (arith, pow-suc 10 j, pow-one j)

digits_step : (f j n : ℕ) → 10 ≤ n → last_digits 10 (suc j) (n / 10) ≡ spell f (n / 10) → last_digits 10 (suc (suc j)) n ≡ spell (suc f) n
digits_step f j n h ih =
    ap₂ (λ (l : List ℕ) (g : ℕ). l ++ (g ∷ [])) ih (glyph-digit (n % 10) (omega arith)) ∙ sym (spell-more f n h)

pub digits-spell : (f k n : ℕ) → Small f n → IsDigitCount 10 1 n k → last_digits 10 k n ≡ spell f n
digits-spell f zero n s h = absurd (omega arith)
digits-spell f (suc zero) n s h =
    let small : n < 10 = h.1 in
    ap (λ (g : ℕ). g ∷ []) (glyph-digit (n % 10) (omega arith) ∙ omega arith) ∙ sym (spell_one f n small)
digits-spell zero (suc (suc j)) n s h =
    let e : suc (suc j) - 1 ≡ suc j = omega arith in
    let g : 10 ^ suc j ≤ n = subst (λ (k : ℕ). 10 ^ k ≤ n) e (h.2 (omega arith)) in
    absurd (omega (arith, pow-suc 10 j, pow-one j))
digits-spell (suc f) (suc (suc j)) n s h =
    let e : suc (suc j) - 1 ≡ suc j = omega arith in
    let g : 10 ^ suc j ≤ n = subst (λ (k : ℕ). 10 ^ k ≤ n) e (h.2 (omega arith)) in
    let e' : j ≡ suc j - 1 = omega arith in
    let high : n / 10 < 10 ^ suc j = omega (arith, h.1, pow-suc 10 (suc j)) in
    let low : 10 ^ j ≤ n / 10 = omega (arith, pow-suc 10 j) in
    digits_step f j n (omega (arith, pow-suc 10 j, pow-one j))
    (digits-spell f (suc j) (n / 10) s (omega arith, high, λ _. subst (λ (k : ℕ). 10 ^ k ≤ n / 10) e' low))

one-long : (f n : ℕ) → n < 10 → length (spell f n) ≤ suc f
one-long f n h = rw (spell_one f n h) (omega arith)

more-long : (f n : ℕ) → length (spell f (n / 10)) ≤ suc f → Dec (n < 10) → length (spell (suc f) n) ≤ suc (suc f)
more-long f n ih (yes h) = one-long (suc f) n h
more-long f n ih (no h) = rw (spell-more f n (omega arith), length-append (spell f (n / 10)) ((48 + n % 10) ∷ [])) (omega arith)

-- a spelling is no longer than its fuel allows
pub spell-long : (f n : ℕ) → Small f n → length (spell f n) ≤ suc f
spell-long zero n s = one-long zero n s
spell-long (suc f) n s = more-long f n (spell-long f (n / 10) s) (dec_lt n 10)

-- what `io::decimal` leaves at the front of its array
pub number-piece : (l : List ℕ) (r n : ℕ) → n ≤ most → IsDigitCount 10 1 n r → take r l ≡ last_digits 10 r n → take r l ≡ spelled n
number-piece l r n m f e = e ∙ digits-spell 9 r n (small-9 n m) f

pub wrote-same : {l t t' m : List ℕ} {at next : ℕ} → t ≡ t' → Wrote l at t m next → Wrote l at t' m next
wrote-same {l} {t} {t'} {m} {at} {next} e w = subst (λ (x : List ℕ). Wrote l at x m next) e w

-- a number has at most ten digits
pub spelled-long : (n : ℕ) → n ≤ most → length (spelled n) ≤ 10
spelled-long n m = spell-long 9 n (small-9 n m)

-- no piece at all
pub wrote_none : (l : List ℕ) (at : ℕ) → at ≤ length l → Wrote l at [] l at
wrote_none l at h = record { room = omega arith; bytes = paste-zero l at [] ∙ put_all l at []; end = omega arith }

-- one byte
pub wrote-byte : (l : List ℕ) (at b : ℕ) → at < length l → Wrote l at (b ∷ []) (set l at b) (at + 1)
unfolding put
wrote-byte l at b h = record {
  room = omega arith;
  bytes = sym (take-append-drop (at + 1) (set l at b)) ∙ ap₂ (λ (x y : List ℕ). x ++ y) (take_more_set l at b h) (drop-set-lt (at + 1) l at b (omega arith));
  end = omega arith;
}

-- ---- a text that may have no room

module _ (l : List ℕ) (at : ℕ) (t m : List ℕ) (next : ℕ) where
  puts-if : (b : Bool) → leb (at + length t) (length l) ≡ b → PutsIf b l at t m next → Puts l at t m next
  unfolding Puts
  puts-if b e w = subst (λ (x : Bool). PutsIf x l at t m next) (sym e) w

  -- the same text, written otherwise
  pub puts-same : {t' : List ℕ} → t ≡ t' → Puts l at t m next → Puts l at t' m next
  puts-same e p = subst (λ (x : List ℕ). Puts l at x m next) e p

pub puts-all : {l t m : List ℕ} {at next : ℕ} → Wrote l at t m next → Puts l at t m next
puts-all {l} {t} {m} {at} {next} w = puts-if l at t m next true (le-leb (at + length t) (length l) w.room) w

pub puts_none : (l : List ℕ) (at : ℕ) (t : List ℕ) → leb (at + length t) (length l) ≡ false → Puts l at t l at
puts_none l at t e = puts-if l at t l at false e (refl, refl)

-- where there is room, the text is written
pub puts-wrote : {l t m : List ℕ} {at next : ℕ} → at + length t ≤ length l → Puts l at t m next → Wrote l at t m next
unfolding Puts
puts-wrote {l} {t} {m} {at} {next} h p = subst (λ (x : Bool). PutsIf x l at t m next) (le-leb (at + length t) (length l) h) p
