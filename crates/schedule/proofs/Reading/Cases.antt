-- The cases of words, numbers, line ends and step lines, as the code comes to them. Assumes nothing.
use Prim.Native.Nat.{ℕ, ◌+◌, ◌≤◌, ◌<◌}
use mathlib.Core.Path.{◌≡◌, refl, sym, ap, ◌∙◌}
use mathlib.Core.Bool.{Bool, true, false}
use mathlib.Core.List.{List}
use mathlib.Core.Logic.{◌≢◌}
use native.Mathlib.Omega.{arith}
use native.Mathlib.Numerals.{add-one}
use lib.Dec.{ltb, eqb}
use lib.ListN.{length, get_or, drop, drop_of_length-le, get_or-eq_default}
use lib.Seq.{drop-cons}
use borrow.Author.Tests.{lt-ltb, le-ltb, eq-eqb, ne_eqb, eqb-true}
use Rattle.std.specs.Prelude.{Option, Some, None, Ok, Err}
use Rattle.schedule.specs.declared.letter.Letter.{Letter}
use Rattle.text.specs.Read.{Read, bad}
use Rattle.text.proofs.ReadLaws.{got, same-thing, same_place, bad-not}
use Rattle.rules.specs.declared.step.Step.{Step}
use Rattle.text.specs.declared.number.Broken.{Broken}
use Rattle.text.specs.Number.{pick, number_at}
use Rattle.schedule.specs.Line.{closed, letter_of, numbers_after, may_cut, step_of, spaced_at, next_number, end_at, ended_at, after_letter, line_at}
use Rattle.schedule.specs.Header.{word_at}

-- ---- past the end of the file no LF stands

pub past-none : (s : List ℕ) (j : ℕ) → length s ≤ j → get_or s j 0 ≢ 10
past-none s j h z = let e : get_or s j 0 ≡ 0 = get_or-eq_default s 0 h in omega arith

-- ---- a number that ends its line

module _ (s : List ℕ) {r : Read ℕ} where
  pub closed_none : {e : Broken} → r ≡ Err e → closed s r ≡ Err e
  unfolding closed
  closed_none p = rw p

  pub closed-more : {v n : ℕ} → r ≡ got v n → get_or s n 0 ≢ 10 → closed s r ≡ bad n
  unfolding closed
  closed-more {v} {n} e f = rw (e, ne_eqb (get_or s n 0) 10 f)

  pub closed_is : {v n : ℕ} → r ≡ got v n → get_or s n 0 ≡ 10 → closed s r ≡ got v (n + 1)
  unfolding closed
  closed_is e f = rw (e, f)

-- it was read up to its LF
pub record Closed (s : List ℕ) (r : Read ℕ) (v m : ℕ) : Type 0 where
  pub place : ℕ
  pub is : r ≡ got v place
  pub lf : get_or s place 0 ≡ 10
  pub end : place + 1 ≡ m

pub closed-read : (s : List ℕ) (r : Read ℕ) (v m : ℕ) → closed s r ≡ got v m → Closed s r v m
unfolding closed
closed-read s (Err p) v m e = absurd (bad-not e)
closed-read s (Ok (w, n)) v m e = go (eqb (get_or s n 0) 10) refl e
  where
    go : (x : Bool) → eqb (get_or s n 0) 10 ≡ x → pick x (got w (n + 1)) (bad n) ≡ got v m → Closed s (got w n) v m
    go true p q = record { place = n; is = ap (λ (u : ℕ). got u n) (same-thing q); lf = eqb-true (get_or s n 0) 10 p; end = same_place q }
    go false p q = absurd (bad-not q)

module _ (s : List ℕ) (at : ℕ) where
  -- ---- a space and a number
  pub spaced-is : get_or s at 0 ≡ 32 → spaced_at s at ≡ number_at s (at + 1)
  unfolding spaced_at
  spaced-is e = rw e

  pub spaced-not : get_or s at 0 ≢ 32 → spaced_at s at ≡ bad at
  unfolding spaced_at
  spaced-not n = rw (ne_eqb (get_or s at 0) 32 n)

  -- what is read behind a space has one before it
  pub space-here : {v m : ℕ} → spaced_at s at ≡ got v m → get_or s at 0 ≡ 32
  unfolding spaced_at
  space-here {v} {m} e = space (eqb (get_or s at 0) 32) refl e
    where
      space : (b : Bool) → eqb (get_or s at 0) 32 ≡ b → pick b (number_at s (at + 1)) (bad at) ≡ got v m → get_or s at 0 ≡ 32
      space true p g = eqb-true (get_or s at 0) 32 p
      space false p g = absurd (bad-not g)

  pub next-wanted : {wanted : Bool} → wanted ≡ true → next_number s at wanted ≡ spaced_at s at
  unfolding next_number
  next-wanted e = rw e

  pub next-none : {wanted : Bool} → wanted ≡ false → next_number s at wanted ≡ got 0 at
  unfolding next_number
  next-none e = rw e

  -- ---- the end of a line
  pub end-plain : (may : Bool) → get_or s at 0 ≡ 10 → end_at s at may ≡ got false (at + 1)
  unfolding end_at
  end-plain may e = rw e

  pub end-uncut : {may : Bool} → get_or s at 0 ≢ 10 → may ≡ false → end_at s at may ≡ bad at
  unfolding end_at
  end-uncut n f = rw (ne_eqb (get_or s at 0) 10 n, f)

  pub end-other : {may : Bool} → get_or s at 0 ≢ 10 → may ≡ true → get_or s at 0 ≢ 32 → end_at s at may ≡ bad at
  unfolding end_at
  end-other n f m = rw (ne_eqb (get_or s at 0) 10 n, f, ne_eqb (get_or s at 0) 32 m)

  pub end-no-x : {may : Bool} → may ≡ true → get_or s at 0 ≡ 32 → get_or s (at + 1) 0 ≢ 88 → end_at s at may ≡ bad (at + 1)
  unfolding end_at
  end-no-x f e n = rw (f, e, ne_eqb (get_or s (at + 1) 0) 88 n)

  pub end-no-lf : {may : Bool} → may ≡ true → get_or s at 0 ≡ 32 → get_or s (at + 1) 0 ≡ 88 → get_or s (at + 2) 0 ≢ 10 → end_at s at may ≡ bad (at + 2)
  unfolding end_at
  end-no-lf f e x n = rw (f, e, x, ne_eqb (get_or s (at + 2) 0) 10 n)

  pub end-cut : {may : Bool} → may ≡ true → get_or s at 0 ≡ 32 → get_or s (at + 1) 0 ≡ 88 → get_or s (at + 2) 0 ≡ 10 → end_at s at may ≡ got true (at + 3)
  unfolding end_at
  end-cut f e x l = rw (f, e, x, l)

-- ---- a step line, of which o is the letter, if there is one, and count says how many numbers follow
module _ (s : List ℕ) (at : ℕ) {o : Option Letter} (told : o ≡ letter_of (get_or s at 0)) where
  pub line_other : o ≡ None → line_at s at ≡ bad at
  unfolding line_at
  line_other z = rw (← told, z)

  module _ {b : Letter} (letter : o ≡ Some b) {count : ℕ} (numbers : count ≡ numbers_after b) where
    line-letter : line_at s at ≡ after_letter b s (at + 1)
    unfolding line_at
    line-letter = rw (← told, letter)

    pub line-no-first : {e : Broken} → spaced_at s (at + 1) ≡ Err e → line_at s at ≡ Err e
    unfolding after_letter
    line-no-first e = line-letter ∙ rw (next-wanted s (at + 1) refl, e)

    module _ {i n : ℕ} (first : spaced_at s (at + 1) ≡ got i n) where
      pub line-no-second : {e : Broken} → next_number s n (ltb 1 count) ≡ Err e → line_at s at ≡ Err e
      unfolding after_letter
      line-no-second e = line-letter ∙ rw (next-wanted s (at + 1) refl, first, ← numbers, e)

      module _ {j m : ℕ} (second : next_number s n (ltb 1 count) ≡ got j m) where
        pub line-no-third : {e : Broken} → next_number s m (ltb 2 count) ≡ Err e → line_at s at ≡ Err e
        unfolding after_letter
        line-no-third e = line-letter ∙ rw (next-wanted s (at + 1) refl, first, ← numbers, second, e)

        -- all its numbers are there: what is read is what its end says
        module _ {r l : ℕ} (third : next_number s m (ltb 2 count) ≡ got r l) where
          pub line-numbers : line_at s at ≡ ended_at b i j r s l
          unfolding after_letter
          line-numbers = line-letter ∙ rw (next-wanted s (at + 1) refl, first, ← numbers, second, third)

-- ---- what an end says of its line

module _ (s : List ℕ) (at : ℕ) (b : Letter) (i j r : ℕ) {may : Bool} {e : Read Bool} (cut : may ≡ may_cut b) (end : e ≡ end_at s at may) where
  pub ended-none : {x : Broken} → e ≡ Err x → ended_at b i j r s at ≡ Err x
  unfolding ended_at
  ended-none q = rw (← cut, ← end, q)

  pub ended_is : {x : Bool} {m : ℕ} {st : Step} → e ≡ got x m → st ≡ step_of b i j r x → ended_at b i j r s at ≡ got st m
  unfolding ended_at
  ended_is {x} {m} {st} q f = rw (← cut, ← end, q) (ap (λ (k : Step). got k m) (sym f))

-- ---- one byte of a word, as the loop goes
module _ (s w : List ℕ) (place i : ℕ) where
  pub word-done : length w ≤ i → word_at s place (drop i w) ≡ Ok place
  unfolding word_at
  word-done h = ap (word_at s place) (drop_of_length-le w h)

  pub word-past : i < length w → length s ≤ place → word_at s place (drop i w) ≡ bad place
  unfolding word_at
  word-past h g = ap (word_at s place) (drop-cons w i 0 h) ∙ rw (le-ltb place (length s) g)

  pub word-other : i < length w → place < length s → get_or s place 0 ≢ get_or w i 0 → word_at s place (drop i w) ≡ bad place
  unfolding word_at
  word-other h g n = ap (word_at s place) (drop-cons w i 0 h) ∙ rw (lt-ltb place (length s) g, ne_eqb (get_or s place 0) (get_or w i 0) n)

  pub word_more : i < length w → place < length s → get_or s place 0 ≡ get_or w i 0 → word_at s place (drop i w) ≡ word_at s (place + 1) (drop (i + 1) w)
  unfolding word_at
  word_more h g e = ap (word_at s place) (drop-cons w i 0 h)
      ∙ rw (lt-ltb place (length s) g, eq-eqb (get_or s place 0) (get_or w i 0) e) (ap (λ (k : ℕ). word_at s (place + 1) (drop k w)) (sym (add-one i)))
