-- What is found as a number and as a step line: what is read is spelled, and the bytes before the place where a line breaks the form begin one. Assumes nothing.
use mathlib.Core.Path.{◌≡◌, refl, sym, ap, subst}
use mathlib.Core.Bool.{Bool, true, false}
use mathlib.Core.List.{List, [], ◌∷◌, ◌++◌}
use Prim.Native.Nat.{ℕ, ◌+◌}
use native.Mathlib.Omega.{arith}
use lib.Dec.{eqb, ltb}
use lib.ListN.{get_or}
use borrow.Author.Tests.{eqb-true}
use Rattle.std.specs.Prelude.{Option, Some, None, Ok, Err}
use Rattle.schedule.specs.declared.letter.Letter.{Letter}
use Rattle.text.specs.Read.{Read, bad, on_read}
use Rattle.text.proofs.ReadLaws.{got}
use Rattle.rules.specs.Kinds.{numbers_of, round_of}
use Rattle.rules.specs.declared.step.Step.{Step}
use Rattle.rules.specs.declared.step.Step.TheVariants.{Pause}
use Rattle.text.specs.Number.{pick, number_at, spelled}
use Rattle.text.specs.Stands.{Stands}
use Rattle.schedule.specs.Lines.{Every}
use Rattle.schedule.specs.Line.{ending, spaced, line_of, Holdable, letter_of, on_letter, numbers_after, may_cut, step_of, spaced_at, next_number, end_at, ended_at, after_letter, line_at, Small}
use Rattle.text.proofs.StandsLaws.{stands-none, stands-join, stands-byte, stands-cons}
use Rattle.text.proofs.SpellLaws.{number_read}
use Rattle.text.proofs.StopLaws.{Begins, begins-none, begins-longer, begins-after, number-begins}
use Rattle.schedule.proofs.RoundTrip.StepLine.{wanted_text, WantedSmall, CutOnly, body_of, Body, byte_of, Lettered, lettered, letter_byte}

-- the text from at up to p is the beginning of what f spells of a thing
pub record Begun {A : Type 0} (P : A → Type 0) (f : A → List ℕ) (s : List ℕ) (at p : ℕ) : Type 0 where
  pub thing : A
  pub holds : P thing
  pub begins : Begins s at p (f thing)

module _ {A : Type 0} {P : A → Type 0} {f : A → List ℕ} {s : List ℕ} {at : ℕ} where
  -- nothing begins what is spelled of any thing
  pub begun-none : (x : A) → P x → Begun P f s at at
  begun-none x h = record { thing = x; holds = h; begins = begins-none s at (f x) }

  pub begun-at : {p q : ℕ} → p ≡ q → Begun P f s at p → Begun P f s at q
  begun-at e b = subst (Begun P f s at) e b

-- behind a list that stands
pub begun-after : {A : Type 0} {P : A → Type 0} {f : A → List ℕ} {s : List ℕ} {at n p : ℕ} {h : List ℕ} → Stands s at n h → Begun P f s n p → Begun P (λ x. h ++ f x) s at p
begun-after g b = record { thing = b.thing; holds = b.holds; begins = begins-after g b.begins }

module _ (s : List ℕ) where
  -- ---- a number before the rest of its line, as f spells both: a property of what is found, for each case of it

  -- a number that is there, as f spells it before the rest of its line
  pub record Head (f : List ℕ → List ℕ) (at n : ℕ) : Type 0 where
    pub head : List ℕ
    pub stands : Stands s at n head
    pub is : (l : List ℕ) → f l ≡ head ++ l

  -- behind it what stands of the rest, and a beginning of the rest, make one of the whole
  pub head-stands : {f : List ℕ → List ℕ} {at n : ℕ} (m : ℕ) (l : List ℕ) → Head f at n → Stands s n m l → Stands s at m (f l)
  head-stands {at = at} {n = n} m l h p = subst (Stands s at m) (sym (h.is l)) (stands-join s at n m h.head l h.stands p)

  pub head-begins : {f : List ℕ → List ℕ} {at n : ℕ} (p : ℕ) (l : List ℕ) → Head f at n → Begins s n p l → Begins s at p (f l)
  head-begins {at = at} p l h b = subst (Begins s at p) (sym (h.is l)) (begins-after h.stands b)

  -- what stands of a number that is bad begins one, whatever follows
  abbrev pub Form : (ℕ → Type 0) → (ℕ → List ℕ → List ℕ) → ℕ → Read ℕ → Type 0
  Form P f at (Err p) = (l : List ℕ) → Begun P (λ v. f v l) s at p.place
  Form P f at (Ok (v, n)) = P v × Head (f v) at n

  abbrev pub plainly : ℕ → List ℕ → List ℕ
  plainly v l = spelled v ++ l

  pub number-form : (at : ℕ) (r : Read ℕ) → number_at s at ≡ r → Form Small plainly at r
  number-form at (Err p) e = λ l. let b = number-begins s at p.place e in record { thing = b.value; holds = b.small; begins = begins-longer l b.begins }
  number-form at (Ok (v, n)) e = let r = number_read s at v n e in (r.small, record { head = spelled v; stands = r.stands; is = λ l. refl })

  spaced-number : (at : ℕ) → get_or s at 0 ≡ 32 → (r : Read ℕ) → Form Small plainly (at + 1) r → Form Small spaced at r
  spaced-number at e (Err p) h = λ l. begun-after (stands-byte s at 32 (omega arith) e) (h l)
  spaced-number at e (Ok (v, n)) h =
      let r = h.1 in
      (h.0, record { head = 32 ∷ r.head; stands = stands-cons s at n 32 r.head (omega arith) e r.stands; is = λ l. ap (λ (t : List ℕ). 32 ∷ t) (r.is l) })

  spaced-pick : (at : ℕ) (x : Bool) → eqb (get_or s at 0) 32 ≡ x → Form Small spaced at (pick x (number_at s (at + 1)) (bad at))
  spaced-pick at true e = spaced-number at (eqb-true (get_or s at 0) 32 e) (number_at s (at + 1)) (number-form (at + 1) (number_at s (at + 1)) refl)
  spaced-pick at false e = λ l. begun-none 0 (omega arith)

  pub spaced-form : (at : ℕ) → Form Small spaced at (spaced_at s at)
  unfolding spaced_at
  spaced-form at = spaced-pick at (eqb (get_or s at 0) 32) refl

  next-form : (at : ℕ) (w : Bool) → Form (WantedSmall w) (wanted_text w) at (next_number s at w)
  unfolding next_number
  next-form at true = spaced-form at
  next-form at false = (refl, record { head = []; stands = stands-none s at; is = λ l. refl })

  -- ---- a step line

  -- what is read as a line's end is one, and what stands of one that breaks the form begins one; a step that may not be cut is not
  abbrev EndForm : ℕ → Bool → Read Bool → Type 0
  EndForm at may (Err p) = Begun (CutOnly may) ending s at p.place
  EndForm at may (Ok (x, m)) = CutOnly may x × Stands s at m (ending x)

  uncut : (may : Bool) → CutOnly may false
  uncut true = tt
  uncut false = refl

  -- behind a space and `X`
  cut-pick : (at : ℕ) → get_or s at 0 ≡ 32 → get_or s (at + 1) 0 ≡ 88 → (w : Bool) → eqb (get_or s (at + 2) 0) 10 ≡ w
      → EndForm at true (pick w (got true (at + 3)) (bad (at + 2)))
  cut-pick at f g w h = go w h
    where
      space : Stands s at (at + 1) (32 ∷ [])
      space = stands-byte s at 32 (omega arith) f

      both : Stands s at (at + 2) (32 ∷ 88 ∷ [])
      both = subst (λ (m : ℕ). Stands s at m (32 ∷ 88 ∷ [])) (omega arith) (stands-join s at (at + 1) (at + 1 + 1) (32 ∷ []) (88 ∷ []) space (stands-byte s (at + 1) 88 (omega arith) g))

      go : (w : Bool) → eqb (get_or s (at + 2) 0) 10 ≡ w → EndForm at true (pick w (got true (at + 3)) (bad (at + 2)))
      go false h = record { thing = true; holds = tt; begins = begins-after both (begins-none s (at + 2) (10 ∷ [])) }
      go true h = (
        tt,
        subst (λ (m : ℕ). Stands s at m (ending true)) (omega arith)
            (stands-join s at (at + 2) (at + 2 + 1) (32 ∷ 88 ∷ []) (10 ∷ []) both (stands-byte s (at + 2) 10 (omega arith) (eqb-true (get_or s (at + 2) 0) 10 h))),
      )

  end_pick : (at : ℕ) (may x : Bool) → eqb (get_or s at 0) 10 ≡ x → (y : Bool) → eqb (get_or s at 0) 32 ≡ y → (z : Bool) → eqb (get_or s (at + 1) 0) 88 ≡ z
      → (w : Bool) → eqb (get_or s (at + 2) 0) 10 ≡ w
      → EndForm at may (pick x (got false (at + 1)) (pick may (pick y (pick z (pick w (got true (at + 3)) (bad (at + 2))) (bad (at + 1))) (bad at)) (bad at)))
  end_pick at may true e y f z g w h = (uncut may, stands-byte s at 10 (omega arith) (eqb-true (get_or s at 0) 10 e))
  end_pick at false false e y f z g w h = begun-none false refl
  end_pick at true false e false f z g w h = begun-none false tt
  end_pick at true false e true f false g w h =
      let space = stands-byte s at 32 (omega arith) (eqb-true (get_or s at 0) 32 f) in
      record { thing = true; holds = tt; begins = begins-after space (begins-none s (at + 1) (88 ∷ 10 ∷ [])) }
  end_pick at true false e true f true g w h = cut-pick at (eqb-true (get_or s at 0) 32 f) (eqb-true (get_or s (at + 1) 0) 88 g) w h

  end-form : (at : ℕ) (may : Bool) → EndForm at may (end_at s at may)
  unfolding end_at
  end-form at may = end_pick at may (eqb (get_or s at 0) 10) refl (eqb (get_or s at 0) 32) refl (eqb (get_or s (at + 1) 0) 88) refl (eqb (get_or s (at + 2) 0) 10) refl

  abbrev LineForm : ℕ → Read Step → Type 0
  LineForm at (Err p) = Begun Holdable line_of s at p.place
  LineForm at (Ok (st, m)) = Holdable st × Stands s at m (line_of st)

  -- a number that is not yet read may be 0
  wanted-zero : (w : Bool) → WantedSmall w 0
  wanted-zero true = omega arith
  wanted-zero false = refl

  -- the letter b at a place, and number by number what follows it. What is not yet read: 0 for each number, and no cut
  module _ (at : ℕ) (b : Letter) (e : get_or s at 0 ≡ byte_of b) (t : Lettered b) where
    abbrev second : Bool
    second = ltb 1 (numbers_after b)

    abbrev third : Bool
    third = ltb 2 (numbers_after b)

    abbrev NumberForm : ℕ → Bool → Read ℕ → Type 0
    NumberForm n w r = Form (WantedSmall w) (wanted_text w) n r

    begun-line : (p i j r : ℕ) (x : Bool) → Body b i j r x → Begins s (at + 1) p (body_of b i j r x) → Begun Holdable line_of s at p
    begun-line p i j r x h g = record {
      thing = step_of b i j r x;
      holds = t.holds i j r x h;
      begins = subst (Begins s at p) (sym (t.line i j r x h)) (begins-after (stands-byte s at (byte_of b) (t.some) e) g);
    }

    after-end : (i j r n k l : ℕ) → NumberForm (at + 1) true (got i n) → NumberForm n second (got j k) → NumberForm k third (got r l)
        → (q : Read Bool) → EndForm l (may_cut b) q → LineForm at (on_read q bad (λ x m. got (step_of b i j r x) m))
    after-end i j r n k l f g h (Ok (x, m)) c =
        let body : Body b i j r x = record { first = f.0; second = g.0; third = h.0; cut = c.0 } in
        let last : List ℕ = wanted_text third r (ending x) in
        let stand : Stands s (at + 1) m (body_of b i j r x) =
        head-stands m (wanted_text second j last) f.1 (head-stands m last g.1 (head-stands m (ending x) h.1 c.1)) in
        (t.holds i j r x body, subst (Stands s at m) (sym (t.line i j r x body)) (stands-cons s at m (byte_of b) (body_of b i j r x) t.some e stand))
    after-end i j r n k l f g h (Err p) c =
        let x : Bool = c.thing in
        let last : List ℕ = wanted_text third r (ending x) in
        begun-line p.place i j r x (record { first = f.0; second = g.0; third = h.0; cut = c.holds })
        (head-begins p.place (wanted_text second j last) f.1 (head-begins p.place last g.1 (head-begins p.place (ending x) h.1 c.begins)))

    ended-form : (i j r n k l : ℕ) → NumberForm (at + 1) true (got i n) → NumberForm n second (got j k) → NumberForm k third (got r l) → LineForm at (ended_at b i j r s l)
    unfolding ended_at
    ended-form i j r n k l f g h = after-end i j r n k l f g h (end_at s l (may_cut b)) (end-form l (may_cut b))

    after-third : (i j n k : ℕ) → NumberForm (at + 1) true (got i n) → NumberForm n second (got j k) → (q : Read ℕ) → NumberForm k third q
        → LineForm at (on_read q bad (λ r l. ended_at b i j r s l))
    after-third i j n k f g (Ok (r, l)) h = ended-form i j r n k l f g h
    after-third i j n k f g (Err p) h =
        let c = h (ending false) in
        let last : List ℕ = wanted_text third c.thing (ending false) in
        begun-line p.place i j c.thing false (record { first = f.0; second = g.0; third = c.holds; cut = uncut (may_cut b) })
        (head-begins p.place (wanted_text second j last) f.1 (head-begins p.place last g.1 c.begins))

    after-second : (i n : ℕ) → NumberForm (at + 1) true (got i n) → (q : Read ℕ) → NumberForm n second q
        → LineForm at (on_read q bad (λ j k. on_read (next_number s k third) bad (λ r l. ended_at b i j r s l)))
    after-second i n f (Ok (j, k)) g = after-third i j n k f g (next_number s k third) (next-form k third)
    after-second i n f (Err p) g =
        let last : List ℕ = wanted_text third 0 (ending false) in
        let c = g last in
        begun-line p.place i c.thing 0 false (record { first = f.0; second = c.holds; third = wanted-zero third; cut = uncut (may_cut b) })
        (head-begins p.place (wanted_text second c.thing last) f.1 c.begins)

    after_first : (q : Read ℕ) → NumberForm (at + 1) true q
        → LineForm at (on_read q bad (λ i n. on_read (next_number s n second) bad
        (λ j k. on_read (next_number s k third) bad (λ r l. ended_at b i j r s l))))
    after_first (Ok (i, n)) f = after-second i n f (next_number s n second) (next-form n second)
    after_first (Err p) f =
        let c = f (wanted_text second 0 (wanted_text third 0 (ending false))) in
        begun-line p.place c.thing 0 0 false (record { first = c.holds; second = wanted-zero second; third = wanted-zero third; cut = uncut (may_cut b) }) c.begins

    after-form : LineForm at (after_letter b s (at + 1))
    unfolding after_letter
    after-form = after_first (next_number s (at + 1) true) (next-form (at + 1) true)

  no-letter : (at : ℕ) → Begun Holdable line_of s at at
  unfolding numbers_of round_of Every
  no-letter at = begun-none (Pause 0) ((omega arith, tt), omega arith)

  line-letter : (at : ℕ) (o : Option Letter) → letter_of (get_or s at 0) ≡ o → LineForm at (on_letter o (bad at) (λ b. after_letter b s (at + 1)))
  line-letter at None e = no-letter at
  line-letter at (Some b) e = after-form at b (letter_byte (get_or s at 0) b e) (lettered b)

  line-form : (at : ℕ) → LineForm at (line_at s at)
  unfolding line_at
  line-form at = line-letter at (letter_of (get_or s at 0)) refl

  pub line-begins : (at p : ℕ) → line_at s at ≡ bad p → Begun Holdable line_of s at p
  line-begins at p e = subst (LineForm at) e (line-form at)

  -- whatever is read as a step, from one place up to another, is the line of that step
  pub line_read : (at m : ℕ) (st : Step) → line_at s at ≡ got st m → Holdable st × Stands s at m (line_of st)
  line_read at m st e = subst (LineForm at) e (line-form at)
