-- What is known of a number and of a line that keep the form: a scan of the number never passes the greatest one and stays within the file, and each part of the line is there. Assumes nothing.
use mathlib.Core.Path.{◌≡◌, refl, sym, ap, ap₂, ◌∙◌, subst}
use mathlib.Core.Bool.{Bool, true, false}
use mathlib.Core.List.{List, [], ◌∷◌}
use Prim.Native.Nat.{ℕ, ◌+◌, ◌-◌, ◌*◌, ◌≤◌, ◌<◌}
use native.Mathlib.Omega.{arith}
use native.Mathlib.Decide.{dec_lt}
use lib.Dec.{ltb, leb, eqb}
use lib.ListN.{length, get_or, drop}
use borrow.Author.Tests.{eqb-true, eqb-false}
use Rattle.std.specs.Prelude.{Option, Some, None, Result, Ok, Err, IsOk, MatchResult}
use Rattle.schedule.specs.declared.letter.Letter.{Letter}
use Rattle.schedule.specs.declared.letter.NoLetter.{NoLetter}
use Rattle.text.specs.Read.{Read, bad, on_read}
use Rattle.text.proofs.ReadLaws.{got, same-thing, same_place, bad-not}
use Rattle.rules.specs.declared.step.Step.{Step}
use Rattle.text.specs.Number.{is_digit, pick, most, scan, number_at}
use Rattle.schedule.specs.Line.{letter_of, on_letter, numbers_after, may_cut, step_of, spaced_at, next_number, end_at, ended_at, after_letter, line_at}
use Rattle.schedule.specs.Private.{KnownNumber, KnownNext, KnownLine}
use Rattle.schedule.proofs.Reading.Cases.{spaced-is, space-here, next-wanted}
use Rattle.text.proofs.NumberLaws.{Digit, inside, digit-here, number-none, number-zero-more, number-zero, number-scan, at_more, at-over, at-stop}

-- ---- numbers

-- a scan ends where it begins, or later
low_step : (v i w e : ℕ) (rest : Read ℕ) → (rest ≡ got w e → i + 1 ≤ e) → (d f : Bool) → pick d (pick f rest (bad i)) (got v i) ≡ got w e → i ≤ e
low_step v i w e rest h true true q = omega (arith, h q)
low_step v i w e rest h true false q = absurd (bad-not q)
low_step v i w e rest h false f q = let p : i ≡ e = same_place q in omega arith

scan-low : (v i : ℕ) (t : List ℕ) (w e : ℕ) → scan v i t ≡ got w e → i ≤ e
unfolding scan
scan-low v i [] w e p = let q : i ≡ e = same_place p in omega arith
scan-low v i (b ∷ t) w e p =
    low_step v i w e (scan (v * 10 + (b - 48)) (i + 1) t) (scan-low (v * 10 + (b - 48)) (i + 1) t w e) (is_digit b) (leb (v * 10 + (b - 48)) most) p

-- a number at a place that ends within the file, of which v is what the bytes before i say
pub record Underway (s : List ℕ) (at v i : ℕ) : Type 0 where
  pub value : ℕ
  pub end : ℕ
  pub is : number_at s at ≡ got value end
  pub rest : scan v i (drop i s) ≡ got value end
  pub high : end < length s

module _ (s : List ℕ) (at v i : ℕ) (u : Underway s at v i) where
  -- it goes on within the file
  pub underway-inside : i < length s
  underway-inside = let h = scan-low v i (drop i s) u.value u.end u.rest in omega (arith, h, u.high)

  -- one more digit does not make it too great
  pub underway-small : is_digit (get_or s i 0) ≡ true → v * 10 + (get_or s i 0 - 48) ≤ most
  underway-small d = go (dec_lt most (v * 10 + (get_or s i 0 - 48)))
    where
      go : Dec (most < v * 10 + (get_or s i 0 - 48)) → v * 10 + (get_or s i 0 - 48) ≤ most
      go (yes h) = absurd (bad-not (sym (at-over s v i underway-inside d h) ∙ u.rest))
      go (no n) = omega arith

  pub underway-more : is_digit (get_or s i 0) ≡ true → Underway s at (v * 10 + (get_or s i 0 - 48)) (i + 1)
  underway-more d =
      record {
        value = u.value;
        end = u.end;
        is = u.is;
        rest = sym (at_more s v i underway-inside d (underway-small d)) ∙ u.rest;
        high = u.high;
      }

  -- at the first byte that is no digit it is read whole
  pub underway-whole : is_digit (get_or s i 0) ≡ false → number_at s at ≡ got v i
  underway-whole d = u.is ∙ (sym u.rest ∙ at-stop s v i d)

-- it begins with a digit, and is under way after it
pub record Begun (s : List ℕ) (at : ℕ) : Type 0 where
  pub first : Digit s at
  pub then : Underway s at (get_or s at 0 - 48) (at + 1)

module _ (s : List ℕ) (at : ℕ) (k : KnownNumber s at) where
  pub begun : Begun s at
  begun = first (is_digit (get_or s at 0)) refl
    where
      after : scan (get_or s at 0 - 48) (at + 1) (drop (at + 1) s) ≡ got k.value k.next → Underway s at (get_or s at 0 - 48) (at + 1)
      after p = record { value = k.value; end = k.next; is = k.is; rest = p; high = k.inside }

      zero : get_or s at 0 ≡ 48 → (x : Bool) → is_digit (get_or s (at + 1) 0) ≡ x → Underway s at (get_or s at 0 - 48) (at + 1)
      zero e true p = absurd (bad-not (sym (number-zero-more s at e p) ∙ k.is))
      zero e false p =
          after (at-stop s (get_or s at 0 - 48) (at + 1) p ∙ (ap (λ (x : ℕ). got x (at + 1)) (omega (arith, e)) ∙ (sym (number-zero s at e p) ∙ k.is)))

      second : is_digit (get_or s at 0) ≡ true → (x : Bool) → eqb (get_or s at 0) 48 ≡ x → Underway s at (get_or s at 0 - 48) (at + 1)
      second d true p = zero (eqb-true (get_or s at 0) 48 p) (is_digit (get_or s (at + 1) 0)) refl
      second d false p =
          let r = digit-here s at d in
          after
          (ap (λ (x : ℕ). scan x (at + 1) (drop (at + 1) s)) (omega arith)
          ∙ (sym (at_more s 0 at r.within d (omega (arith, r.high))) ∙ (sym (number-scan s at d (eqb-false (get_or s at 0) 48 p)) ∙ k.is)))

      first : (x : Bool) → is_digit (get_or s at 0) ≡ x → Begun s at
      first true d = record { first = digit-here s at d; then = second d (eqb (get_or s at 0) 48) refl }
      first false d = absurd (bad-not (sym (number-none s at d) ∙ k.is))

-- ---- lines

-- the end of a line: whether it is a cut shows at its first byte, and it stands within the file
pub record Ended (s : List ℕ) (at : ℕ) (x : Bool) (next : ℕ) : Type 0 where
  pub told : eqb (get_or s at 0) 32 ≡ x
  pub place : next ≡ pick x (at + 3) (at + 1)
  pub here : at < length s
  pub high : next ≤ length s

module _ (s : List ℕ) (at : ℕ) where
  end-plain : {x : Bool} {next : ℕ} → get_or s at 0 ≡ 10 → got false (at + 1) ≡ got x next → Ended s at x next
  end-plain {x} {next} b e =
      let f : false ≡ x = ap (λ (y : Read Bool). on_read y (λ _. false) (λ z _. z)) e in
      let p : at + 1 ≡ next = ap (λ (y : Read Bool). on_read y (λ _. 0) (λ _ m. m)) e in
      let h : at < length s = inside s at (omega (arith, b)) in
      record {
        told = ap (λ (k : ℕ). eqb k 32) b ∙ f;
        place = sym p ∙ ap (λ (y : Bool). pick y (at + 3) (at + 1)) f;
        here = h;
        high = omega arith;
      }

  end-cut : {x : Bool} {next : ℕ} → get_or s at 0 ≡ 32 → get_or s (at + 2) 0 ≡ 10 → got true (at + 3) ≡ got x next → Ended s at x next
  end-cut {x} {next} b l e =
      let f : true ≡ x = ap (λ (y : Read Bool). on_read y (λ _. false) (λ z _. z)) e in
      let p : at + 3 ≡ next = ap (λ (y : Read Bool). on_read y (λ _. 0) (λ _ m. m)) e in
      let h : at + 2 < length s = inside s (at + 2) (omega (arith, l)) in
      record {
        told = ap (λ (k : ℕ). eqb k 32) b ∙ f;
        place = sym p ∙ ap (λ (y : Bool). pick y (at + 3) (at + 1)) f;
        here = omega arith;
        high = omega arith;
      }

  pub end_known : (may x : Bool) (next : ℕ) → end_at s at may ≡ got x next → Ended s at x next
  unfolding end_at
  end_known may x next e = lf (eqb (get_or s at 0) 10) refl e
    where
      cut : (m sp cx l : Bool) → eqb (get_or s at 0) 32 ≡ sp → eqb (get_or s (at + 2) 0) 10 ≡ l
          → pick m (pick sp (pick cx (pick l (got true (at + 3)) (bad (at + 2))) (bad (at + 1))) (bad at)) (bad at) ≡ got x next → Ended s at x next
      cut true true true true p q g = end-cut (eqb-true (get_or s at 0) 32 p) (eqb-true (get_or s (at + 2) 0) 10 q) g
      cut true true true false p q g = absurd (bad-not g)
      cut true true false l p q g = absurd (bad-not g)
      cut true false cx l p q g = absurd (bad-not g)
      cut false sp cx l p q g = absurd (bad-not g)

      lf : (b : Bool) → eqb (get_or s at 0) 10 ≡ b
          → pick b (got false (at + 1)) (pick may (pick (eqb (get_or s at 0) 32) (pick (eqb (get_or s (at + 1) 0) 88) (pick (eqb (get_or s (at + 2) 0) 10) (got true (at + 3)) (bad (at + 2))) (bad (at + 1))) (bad at)) (bad at)) ≡ got x next
          → Ended s at x next
      lf true p g = end-plain (eqb-true (get_or s at 0) 10 p) g
      lf false p g = cut may (eqb (get_or s at 0) 32) (eqb (get_or s (at + 1) 0) 88) (eqb (get_or s (at + 2) 0) 10) refl refl g

  -- a number that is read where it is wanted has a space before it; where none is wanted, its place is the one after it
  pub next_here : (wanted : Bool) (v m : ℕ) → next_number s at wanted ≡ got v m → m < length s → at < length s
  unfolding next_number
  next_here false v m e h = let p : at ≡ m = same_place e in omega arith
  next_here true v m e h = let b = space-here s at (sym (next-wanted s at refl) ∙ e) in inside s at (omega (arith, b))

-- the parts of a line that keeps the form
pub record Chain (s : List ℕ) (at : ℕ) (x : Step) (next : ℕ) : Type 0 where
  pub letter : Letter
  pub first : ℕ
  pub second : ℕ
  pub third : ℕ
  pub n : ℕ
  pub m : ℕ
  pub l : ℕ
  pub cut : Bool
  pub told : letter_of (get_or s at 0) ≡ Some letter
  pub one : next_number s (at + 1) true ≡ got first n
  pub two : next_number s n (ltb 1 (numbers_after letter)) ≡ got second m
  pub three : next_number s m (ltb 2 (numbers_after letter)) ≡ got third l
  pub last : end_at s l (may_cut letter) ≡ got cut next
  pub step : x ≡ step_of letter first second third cut
  pub here : at < length s
  pub one_inside : n < length s
  pub two-inside : m < length s
  pub three-inside : l < length s
  pub end : Ended s l cut next

-- no letter stands past the end of the file
past-end : letter_of 0 ≡ None
unfolding letter_of
past-end = refl

-- a byte with a letter is converted
pub letter-ok : (b : ℕ) {l : Letter} (r : Result Letter NoLetter) → MatchResult r (λ (x : Letter). letter_of b ≡ Some x) (λ _. letter_of b ≡ None) → letter_of b ≡ Some l → IsOk r
letter-ok b (Ok x) h g = refl
letter-ok b {l} (Err e) h g =
    let z : None ≡ Some l = sym h ∙ g in
    let u : ◌≡◌ {A = ℕ} 0 1 = cc in
    absurd (omega arith)

pub letter-here : (s : List ℕ) (at : ℕ) {b : Letter} → letter_of (get_or s at 0) ≡ Some b → at < length s
letter-here s at {b} h = go (dec_lt 0 (get_or s at 0))
  where
    go : Dec (0 < get_or s at 0) → at < length s
    go (yes p) = inside s at p
    go (no n) =
        let e : get_or s at 0 ≡ 0 = omega arith in
        let z : None ≡ Some b = sym (ap letter_of e ∙ past-end) ∙ h in
        let u : ◌≡◌ {A = ℕ} 0 1 = cc in
        absurd (omega arith)

module _ (s : List ℕ) (at : ℕ) (x : Step) (next : ℕ) where
  module _ (c : Letter) (told : letter_of (get_or s at 0) ≡ Some c) where
    chain-of : (i n j m r l : ℕ) (z : Bool) (e : ℕ) → next_number s (at + 1) true ≡ got i n → next_number s n (ltb 1 (numbers_after c)) ≡ got j m
        → next_number s m (ltb 2 (numbers_after c)) ≡ got r l → end_at s l (may_cut c) ≡ got z e → got (step_of c i j r z) e ≡ got x next → Chain s at x next
    chain-of i n j m r l z e one two three last whole =
        let same : e ≡ next = same_place whole in
        let step : x ≡ step_of c i j r z = sym (same-thing whole) in
        let last' : end_at s l (may_cut c) ≡ got z next = last ∙ ap (got z) same in
        let end = end_known s l (may_cut c) z next last' in
        let m-in = next_here s m (ltb 2 (numbers_after c)) r l three end.here in
        record {
          letter = c;
          first = i;
          second = j;
          third = r;
          n = n;
          m = m;
          l = l;
          cut = z;
          told = told;
          one = one;
          two = two;
          three = three;
          last = last';
          step = step;
          here = letter-here s at told;
          one_inside = next_here s n (ltb 1 (numbers_after c)) j m two m-in;
          two-inside = m-in;
          three-inside = end.here;
          end = end;
        }

    on-end : (i n j m r l : ℕ) → next_number s (at + 1) true ≡ got i n → next_number s n (ltb 1 (numbers_after c)) ≡ got j m
        → next_number s m (ltb 2 (numbers_after c)) ≡ got r l → (k : Read Bool) → end_at s l (may_cut c) ≡ k
        → on_read k bad (λ z e. got (step_of c i j r z) e) ≡ got x next → Chain s at x next
    on-end i n j m r l one two three (Err q) p g = absurd (bad-not g)
    on-end i n j m r l one two three (Ok (z, e')) p g = chain-of i n j m r l z e' one two three p g

    on-three : (i n j m : ℕ) → next_number s (at + 1) true ≡ got i n → next_number s n (ltb 1 (numbers_after c)) ≡ got j m
        → (k : Read ℕ) → next_number s m (ltb 2 (numbers_after c)) ≡ k → on_read k bad (λ r l. ended_at c i j r s l) ≡ got x next → Chain s at x next
    unfolding ended_at
    on-three i n j m one two (Err q) p g = absurd (bad-not g)
    on-three i n j m one two (Ok (r, l)) p g = on-end i n j m r l one two p (end_at s l (may_cut c)) refl g

    on-two : (i n : ℕ) → next_number s (at + 1) true ≡ got i n → (k : Read ℕ) → next_number s n (ltb 1 (numbers_after c)) ≡ k
        → on_read k bad (λ j m. on_read (next_number s m (ltb 2 (numbers_after c))) bad (λ r l. ended_at c i j r s l)) ≡ got x next → Chain s at x next
    on-two i n one (Err q) p g = absurd (bad-not g)
    on-two i n one (Ok (j, m)) p g = on-three i n j m one p (next_number s m (ltb 2 (numbers_after c))) refl g

    on_one : (k : Read ℕ) → next_number s (at + 1) true ≡ k
        → on_read k bad (λ i n. on_read (next_number s n (ltb 1 (numbers_after c))) bad (λ j m. on_read (next_number s m (ltb 2 (numbers_after c))) bad (λ r l. ended_at c i j r s l))) ≡ got x next
        → Chain s at x next
    on_one (Err q) p g = absurd (bad-not g)
    on_one (Ok (i, n)) p g = on-two i n p (next_number s n (ltb 1 (numbers_after c))) refl g

  on-letter : (o : Option Letter) → letter_of (get_or s at 0) ≡ o → on_letter o (bad at) (λ b. after_letter b s (at + 1)) ≡ got x next → Chain s at x next
  unfolding after_letter
  on-letter None p g = absurd (bad-not g)
  on-letter (Some c) p g = on_one c p (next_number s (at + 1) true) refl g

  pub line-chain : line_at s at ≡ got x next → Chain s at x next
  unfolding line_at
  line-chain e = on-letter (letter_of (get_or s at 0)) refl e

-- ---- what the code asks and has read

-- a number behind a space is known where it is wanted, and is the one that is read
module _ (s : List ℕ) (at : ℕ) (wanted : Bool) (k : KnownNext s at wanted) where
  pub behind-here : at < length s
  behind-here = next_here s at wanted k.value k.next k.is k.inside

  module _ (w : wanted ≡ true) where
    as_wanted : spaced_at s at ≡ got k.value k.next
    as_wanted = sym (next-wanted s at w) ∙ k.is

    behind : spaced_at s at ≡ number_at s (at + 1)
    behind = spaced-is s at (space-here s at as_wanted)

    pub behind-known : KnownNumber s (at + 1)
    behind-known = record { value = k.value; next = k.next; is = sym behind ∙ as_wanted; inside = k.inside }

    pub behind-read : {x : Read ℕ} → number_at s (at + 1) ≡ x → next_number s at wanted ≡ x
    behind-read e = next-wanted s at w ∙ (behind ∙ e)

-- the three numbers of a line, one after the other
module _ (s : List ℕ) (at : ℕ) (k : KnownLine s at) where
  pub chain : Chain s at k.step k.next
  chain = line-chain s at k.step k.next k.is

  pub first-known : KnownNext s (at + 1) true
  first-known = record { value = chain.first; next = chain.n; is = chain.one; inside = chain.one_inside }

  module _ {letter : Letter} (told : letter_of (get_or s at 0) ≡ Some letter) where
    same-letter : letter ≡ chain.letter
    same-letter = let e : Some letter ≡ Some chain.letter = sym told ∙ chain.told in cc

    module _ {count : ℕ} (counted : count ≡ numbers_after letter) {a : ℕ × ℕ} (one : next_number s (at + 1) true ≡ Ok a) where
      abbrev count_is : count ≡ numbers_after chain.letter
      count_is = counted ∙ ap numbers_after same-letter

      abbrev after_one : got chain.first chain.n ≡ Ok a
      after_one = sym chain.one ∙ one

      two_is : next_number s a.1 (ltb 1 count) ≡ got chain.second chain.m
      two_is =
          ap (λ (i : ℕ). next_number s i (ltb 1 count)) (sym (same_place after_one)) ∙ (ap (λ (i : ℕ). next_number s chain.n (ltb 1 i)) count_is ∙ chain.two)

      pub second-known : KnownNext s a.1 (ltb 1 count)
      second-known = record { value = chain.second; next = chain.m; is = two_is; inside = chain.two-inside }

      module _ {b : ℕ × ℕ} (two : next_number s a.1 (ltb 1 count) ≡ Ok b) where
        abbrev after_two : got chain.second chain.m ≡ Ok b
        after_two = sym two_is ∙ two

        three-is : next_number s b.1 (ltb 2 count) ≡ got chain.third chain.l
        three-is =
            ap (λ (i : ℕ). next_number s i (ltb 2 count)) (sym (same_place after_two)) ∙ (ap (λ (i : ℕ). next_number s chain.m (ltb 2 i)) count_is ∙ chain.three)

        pub third-known : KnownNext s b.1 (ltb 2 count)
        third-known = record { value = chain.third; next = chain.l; is = three-is; inside = chain.three-inside }

        module _ {c : ℕ × ℕ} (three : next_number s b.1 (ltb 2 count) ≡ Ok c) where
          abbrev after-three : got chain.third chain.l ≡ Ok c
          after-three = sym three-is ∙ three

          pub end_read : Ended s c.1 chain.cut k.next
          end_read = subst (λ (i : ℕ). Ended s i chain.cut k.next) (same_place after-three) chain.end

          place_read : {x : Bool} → eqb (get_or s c.1 0) 32 ≡ x → k.next ≡ pick x (c.1 + 3) (c.1 + 1)
          place_read told = end_read.place ∙ ap (λ (i : Bool). pick i (c.1 + 3) (c.1 + 1)) (sym end_read.told ∙ told)

          -- the whole line, where its end tells whether the step is cut
          pub line_read : {x : Bool} {y : Step} → eqb (get_or s c.1 0) 32 ≡ x → y ≡ step_of letter a.0 b.0 c.0 (eqb (get_or s c.1 0) 32)
              → line_at s at ≡ got y (pick x (c.1 + 3) (c.1 + 1))
          line_read {x} {y} told is =
              k.is
              ∙ ap₂ got
              (chain.step
              ∙ (ap (λ (i : Letter). step_of i chain.first chain.second chain.third chain.cut) (sym same-letter)
              ∙ (ap (λ (i : ℕ). step_of letter i chain.second chain.third chain.cut) (same-thing after_one)
              ∙ (ap (λ (i : ℕ). step_of letter a.0 i chain.third chain.cut) (same-thing after_two)
              ∙ (ap₂ (step_of letter a.0 b.0) (same-thing after-three) (sym end_read.told) ∙ sym is)))))
              (place_read told)

          -- it stands within the file
          pub line-inside : {x : Bool} → eqb (get_or s c.1 0) 32 ≡ x → pick x (c.1 + 3) (c.1 + 1) ≤ length s
          line-inside told = subst (λ (i : ℕ). i ≤ length s) (place_read told) end_read.high
