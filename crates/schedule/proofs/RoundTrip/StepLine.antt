-- The round trip of step lines, one way: what is spelled is read. The other way is in Found. Assumes nothing.
use mathlib.Core.Path.{◌≡◌, refl, sym, ap, ◌∙◌, subst}
use mathlib.Core.Bool.{Bool, true, false}
use mathlib.Core.List.{List, [], ◌∷◌, ◌++◌}
use Prim.Native.Nat.{ℕ, ◌+◌, ◌≤◌, ◌<◌}
use native.Mathlib.Omega.{arith}
use lib.Dec.{eqb, ltb}
use lib.ListN.{length, get_or}
use borrow.Author.Tests.{eqb-true, lt-ltb}
use Rattle.std.specs.Prelude.{Option, Some, None}
use Rattle.schedule.specs.declared.letter.Letter.{Letter}
use Rattle.text.specs.Read.{Read}
use Rattle.text.proofs.ReadLaws.{got}
use Rattle.rules.specs.declared.step.Step.{Step}
use Rattle.rules.specs.declared.step.Step.TheVariants.{DeliverE, DeliverS, DeliverF, DeliverDecision, Suspect, Pause, Crash, Recover}
use Rattle.text.specs.Number.{pick, is_digit, most, spelled}
use Rattle.text.specs.Stands.{Stands}
use Rattle.rules.specs.Kinds.{numbers_of, round_of}
use Rattle.schedule.specs.Lines.{Every}
use Rattle.schedule.specs.Line.{letter_e, letter_s, letter_f, letter_z, letter_q, letter_p, letter_c, letter_r, ending, spaced, line_of, Holdable, letter_of, numbers_after, may_cut, step_of, spaced_at, next_number, end_at, ended_at, after_letter, line_at}
use Rattle.schedule.proofs.Reading.Cases.{spaced-is, next-wanted, next-none, end-plain, end-cut}
use Rattle.text.proofs.StandsLaws.{stands-first, stands-rest, byte-stands, stands-tail}
use Rattle.text.proofs.SpellLaws.{number_spelled}

-- ---- what follows a letter, over the count of its numbers

-- a number behind a space where one is wanted
abbrev pub wanted_text : Bool → ℕ → List ℕ → List ℕ
wanted_text true v l = spaced v l
wanted_text false v l = l

-- such a number is one that a file can hold, and 0 where none is wanted
abbrev pub WantedSmall : Bool → ℕ → Type 0
WantedSmall true v = v ≤ most
WantedSmall false v = v ≡ 0

-- only a step that may be cut is
abbrev pub CutOnly : Bool → Bool → Type 0
CutOnly true x = Unit {0}
CutOnly false x = x ≡ false

abbrev pub body_of : Letter → ℕ → ℕ → ℕ → Bool → List ℕ
body_of b i j r x = spaced i (wanted_text (ltb 1 (numbers_after b)) j (wanted_text (ltb 2 (numbers_after b)) r (ending x)))

-- the numbers and the cut that a letter takes
pub record Body (b : Letter) (i j r : ℕ) (x : Bool) : Type 0 where
  pub first : i ≤ most
  pub second : WantedSmall (ltb 1 (numbers_after b)) j
  pub third : WantedSmall (ltb 2 (numbers_after b)) r
  pub cut : CutOnly (may_cut b) x

-- the byte of a letter
unfoldable pub byte_of : Letter → ℕ
byte_of Letter.E = letter_e
byte_of Letter.S = letter_s
byte_of Letter.F = letter_f
byte_of Letter.Z = letter_z
byte_of Letter.Q = letter_q
byte_of Letter.P = letter_p
byte_of Letter.C = letter_c
byte_of Letter.R = letter_r

-- of a letter: the step that is made of it with its numbers is one that a file can hold, and its line is the letter's byte and those numbers
pub record Lettered (b : Letter) : Type 0 where
  pub some : 0 < byte_of b
  pub told : letter_of (byte_of b) ≡ Some b
  pub holds : (i j r : ℕ) (x : Bool) → Body b i j r x → Holdable (step_of b i j r x)
  pub line : (i j r : ℕ) (x : Bool) → Body b i j r x → line_of (step_of b i j r x) ≡ byte_of b ∷ body_of b i j r x

pub lettered : (b : Letter) → Lettered b
unfolding byte_of letter_of numbers_after may_cut step_of Every numbers_of round_of
lettered Letter.E = record { some = omega arith; told = refl; holds = λ i j r x h. ((h.first, (h.second, tt)), h.third); line = λ i j r x h. refl }
lettered Letter.S = record { some = omega arith; told = refl; holds = λ i j r x h. ((h.first, (h.second, tt)), h.third); line = λ i j r x h. refl }
lettered Letter.F = record { some = omega arith; told = refl; holds = λ i j r x h. ((h.first, (h.second, tt)), h.third); line = λ i j r x h. refl }
lettered Letter.Z = record { some = omega arith; told = refl; holds = λ i j r x h. ((h.first, (h.second, tt)), omega arith); line = λ i j r x h. refl }
lettered Letter.Q = record { some = omega arith; told = refl; holds = λ i j r x h. ((h.first, tt), omega arith); line = λ i j r x h. refl }
lettered Letter.P = record { some = omega arith; told = refl; holds = λ i j r x h. ((h.first, tt), omega arith); line = λ i j r x h. ap (λ (y : Bool). 80 ∷ spaced i (ending y)) (sym h.cut) }
lettered Letter.C = record { some = omega arith; told = refl; holds = λ i j r x h. ((h.first, tt), omega arith); line = λ i j r x h. ap (λ (y : Bool). 67 ∷ spaced i (ending y)) (sym h.cut) }
lettered Letter.R = record { some = omega arith; told = refl; holds = λ i j r x h. ((h.first, tt), omega arith); line = λ i j r x h. ap (λ (y : Bool). 82 ∷ spaced i (ending y)) (sym h.cut) }

-- a byte that is a letter is its byte
tested : (c k : ℕ) (x : Letter) {b : Letter} {o : Option Letter} → byte_of x ≡ k → (o ≡ Some b → c ≡ byte_of b) → pick (eqb c k) (Some x) o ≡ Some b → c ≡ byte_of b
tested c k x {b} {o} e f = go (eqb c k) refl
  where
    go : (t : Bool) → eqb c k ≡ t → pick t (Some x) o ≡ Some b → c ≡ byte_of b
    go true p q = let same : x ≡ b = cc in eqb-true c k p ∙ sym e ∙ ap byte_of same
    go false p q = f q

none-some : {b : Letter} → None ≡ Some b → ⊥
none-some e = let u : ◌≡◌ {A = ℕ} 0 1 = cc in omega arith

pub letter_byte : (c : ℕ) (b : Letter) → letter_of c ≡ Some b → c ≡ byte_of b
unfolding letter_of byte_of
letter_byte c b e =
    tested c 69 Letter.E refl (tested c 83 Letter.S refl (tested c 70 Letter.F refl (tested c 90 Letter.Z refl
    (tested c 81 Letter.Q refl (tested c 80 Letter.P refl (tested c 67 Letter.C refl (tested c 82 Letter.R refl (λ n. absurd (none-some n))))))))) e

-- ---- what is spelled is read

not_digit : (b : ℕ) → b < 48 → is_digit b ≡ false
unfolding is_digit
not_digit b h = rw (lt-ltb b 48 h)

after-got : (b : Letter) (s : List ℕ) (at n k l e i j r : ℕ) (x : Bool) → next_number s at true ≡ got i n → next_number s n (ltb 1 (numbers_after b)) ≡ got j k
    → next_number s k (ltb 2 (numbers_after b)) ≡ got r l → end_at s l (may_cut b) ≡ got x e → after_letter b s at ≡ got (step_of b i j r x) e
unfolding after_letter ended_at
after-got b s at n k l e i j r x p q t u = rw (p, q, t, u)

line-letter : (s : List ℕ) (at : ℕ) (b : Letter) → letter_of (get_or s at 0) ≡ Some b → line_at s at ≡ after_letter b s (at + 1)
unfolding line_at
line-letter s at b e = rw e

module _ (s : List ℕ) where
  -- where l stands, up to m, no digit does
  abbrev pub Quiet : ℕ → List ℕ → Type 0
  Quiet m l = (n : ℕ) → Stands s n m l → is_digit (get_or s n 0) ≡ false

  pub quiet-byte : (m b : ℕ) (l : List ℕ) → b < 48 → Quiet m (b ∷ l)
  quiet-byte m b l h n p = ap is_digit (byte-stands s n m b l p) ∙ not_digit b h

  quiet-ending : (m : ℕ) (x : Bool) → Quiet m (ending x)
  quiet-ending m true = quiet-byte m 32 (88 ∷ 10 ∷ []) (omega arith)
  quiet-ending m false = quiet-byte m 10 [] (omega arith)

  quiet-wanted : (m v : ℕ) (l : List ℕ) (w : Bool) → Quiet m l → Quiet m (wanted_text w v l)
  quiet-wanted m v l true q = quiet-byte m 32 (spelled v ++ l) (omega arith)
  quiet-wanted m v l false q = q

  -- after a space and a number: where the rest of the line stands
  pub record Next (at m v : ℕ) (l : List ℕ) (found : Read ℕ) : Type 0 where
    pub place : ℕ
    pub read : found ≡ got v place
    pub rest : Stands s place m l

  pub spaced-spelled : (at m v : ℕ) (l : List ℕ) → v ≤ most → Quiet m l → Stands s at m (spaced v l) → Next at m v l (spaced_at s at)
  spaced-spelled at m v l h stop p =
      let n : ℕ = at + 1 + length (spelled v) in
      let q : Stands s (at + 1) m (spelled v ++ l) = stands-tail s at m 32 (spelled v ++ l) p in
      let r : Stands s n m l = stands-rest s (at + 1) m (spelled v) l q in
      record {
        place = n;
        read = spaced-is s at (byte-stands s at m 32 (spelled v ++ l) p)
            ∙ number_spelled s (at + 1) n v h (stands-first s (at + 1) m (spelled v) l q) (stop n r);
        rest = r;
      }

  next-spelled : (at m v : ℕ) (l : List ℕ) (w : Bool) → WantedSmall w v → Quiet m l → Stands s at m (wanted_text w v l) → Next at m v l (next_number s at w)
  next-spelled at m v l true h stop p =
      let k = spaced-spelled at m v l h stop p in
      record { place = k.place; read = next-wanted s at refl ∙ k.read; rest = k.rest }
  next-spelled at m v l false h stop p = record { place = at; read = next-none s at refl ∙ ap (λ (u : ℕ). got u at) (sym h); rest = p }

  end-spelled : (at m : ℕ) (x may : Bool) → CutOnly may x → Stands s at m (ending x) → end_at s at may ≡ got x m
  end-spelled at m false may c p = end-plain s at may (byte-stands s at m 10 [] p) ∙ ap (got false) (sym p.end)
  end-spelled at m true false c p = let u : ◌≡◌ {A = ℕ} 0 1 = ap (λ (x : Bool). pick x 0 1) c in absurd (omega arith)
  end-spelled at m true true c p =
      let q = stands-tail s at m 32 (88 ∷ 10 ∷ []) p in
      let r = stands-tail s (at + 1) m 88 (10 ∷ []) q in
      end-cut s at refl (byte-stands s at m 32 (88 ∷ 10 ∷ []) p) (byte-stands s (at + 1) m 88 (10 ∷ []) q)
      (ap (λ (k : ℕ). get_or s k 0) (omega arith) ∙ byte-stands s (at + 1 + 1) m 10 [] r) ∙ ap (got true) (sym p.end)

  after-spelled : (b : Letter) (at m i j r : ℕ) (x : Bool) → Body b i j r x → Stands s at m (body_of b i j r x) → after_letter b s at ≡ got (step_of b i j r x) m
  after-spelled b at m i j r x h p =
      let second : Bool = ltb 1 (numbers_after b) in
      let third : Bool = ltb 2 (numbers_after b) in
      let last : List ℕ = wanted_text third r (ending x) in
      let u = next-spelled at m i (wanted_text second j last) true h.first (quiet-wanted m j last second (quiet-wanted m r (ending x) third (quiet-ending m x))) p in
      let v = next-spelled u.place m j last second h.second (quiet-wanted m r (ending x) third (quiet-ending m x)) u.rest in
      let w = next-spelled v.place m r (ending x) third h.third (quiet-ending m x) v.rest in
      after-got b s at u.place v.place w.place m i j r x u.read v.read w.read (end-spelled w.place m x (may_cut b) h.cut w.rest)

  line-made : (b : Letter) (at m i j r : ℕ) (x : Bool) → Body b i j r x → Stands s at m (line_of (step_of b i j r x)) → line_at s at ≡ got (step_of b i j r x) m
  line-made b at m i j r x h p =
      let t = lettered b in
      let q : Stands s at m (byte_of b ∷ body_of b i j r x) = subst (Stands s at m) (t.line i j r x h) p in
      line-letter s at b (ap letter_of (byte-stands s at m (byte_of b) (body_of b i j r x) q) ∙ t.told)
      ∙ after-spelled b (at + 1) m i j r x h (stands-tail s at m (byte_of b) (body_of b i j r x) q)

  -- the line of a step is read as that step, up to its end
  pub line-spelled : (at m : ℕ) (st : Step) → Holdable st → Stands s at m (line_of st) → line_at s at ≡ got st m
  unfolding numbers_after may_cut step_of Every numbers_of round_of
  line-spelled at m (DeliverE i j r x) h p = line-made Letter.E at m i j r x (record { first = h.0.0; second = h.0.1.0; third = h.1; cut = tt }) p
  line-spelled at m (DeliverS i j r x) h p = line-made Letter.S at m i j r x (record { first = h.0.0; second = h.0.1.0; third = h.1; cut = tt }) p
  line-spelled at m (DeliverF i j r x) h p = line-made Letter.F at m i j r x (record { first = h.0.0; second = h.0.1.0; third = h.1; cut = tt }) p
  line-spelled at m (DeliverDecision i j x) h p = line-made Letter.Z at m i j 0 x (record { first = h.0.0; second = h.0.1.0; third = refl; cut = tt }) p
  line-spelled at m (Suspect i x) h p = line-made Letter.Q at m i 0 0 x (record { first = h.0.0; second = refl; third = refl; cut = tt }) p
  line-spelled at m (Pause i) h p = line-made Letter.P at m i 0 0 false (record { first = h.0.0; second = refl; third = refl; cut = refl }) p
  line-spelled at m (Crash i) h p = line-made Letter.C at m i 0 0 false (record { first = h.0.0; second = refl; third = refl; cut = refl }) p
  line-spelled at m (Recover i) h p = line-made Letter.R at m i 0 0 false (record { first = h.0.0; second = refl; third = refl; cut = refl }) p
