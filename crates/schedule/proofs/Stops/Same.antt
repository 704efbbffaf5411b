-- A line that breaks the form is read from the bytes up to where it does so, the byte there included: another text with the same bytes up to there breaks it there too. Assumes nothing.
use mathlib.Core.Path.{◌≡◌, refl, ap, ◌∙◌}
use mathlib.Core.Bool.{Bool, true, false}
use mathlib.Core.List.{List, [], ◌∷◌}
use Prim.Native.Nat.{ℕ, ◌+◌, ◌≤◌, ◌<◌}
use native.Mathlib.Omega.{arith}
use lib.Dec.{eqb, ltb}
use lib.ListN.{length, get_or}
use borrow.Author.Tests.{lt-ltb}
use Rattle.std.specs.Prelude.{Option, Some, None, Result, Ok, Err}
use Rattle.schedule.specs.declared.letter.Letter.{Letter}
use Rattle.text.specs.declared.number.Broken.{Broken}
use Rattle.text.specs.Read.{Read, bad, on_read}
use Rattle.text.proofs.ReadLaws.{got}
use Rattle.text.specs.Number.{pick, number_at}
use Rattle.schedule.specs.Line.{letter_of, on_letter, numbers_after, may_cut, step_of, closed, spaced_at, next_number, end_at, ended_at, after_letter, line_at}
use Rattle.schedule.specs.Header.{on_word, word_at, alone_at, header_at}
use Rattle.schedule.specs.Values.{value_at}
use Rattle.text.proofs.StopLaws.{Same, Local, local-none, local-byte, local-pick, local-later, stop_at, number-local, begins-low}
use Rattle.schedule.proofs.RoundTrip.Header.{word_read}
use Rattle.schedule.proofs.Stops.Begins.{word-begins}

-- ---- where each thing that is read stops

abbrev stop_of_word : Result ℕ Broken → ℕ
stop_of_word (Err p) = p.place
stop_of_word (Ok n) = n

-- ---- a thing, and what is read on from its end; where the thing breaks the form, so does the whole
module _ {A B : Type 0} (g : A → ℕ → List ℕ → Read B) (k : (x : A) (n : ℕ) → Local stop_at n (g x n)) where
  on-low : (s : List ℕ) (r : Read A) → stop_at r ≤ stop_at (on_read r bad (λ x n. g x n s))
  on-low s (Err e) = omega arith
  on-low s (Ok (x, n)) = (k x n).low s

  on_same : (s t : List ℕ) (r : Read A) → Same s t (stop_at (on_read r bad (λ x n. g x n s))) → on_read r bad (λ x n. g x n t) ≡ on_read r bad (λ x n. g x n s)
  on_same s t (Err e) h = refl
  on_same s t (Ok (x, n)) h = (k x n).same s t h

  local-on : {at : ℕ} {f : List ℕ → Read A} → Local stop_at at f → Local stop_at at (λ s. on_read (f s) bad (λ x n. g x n s))
  local-on {f = f} h = record {
    low = λ s. omega (arith, h.low s, on-low s (f s));
    same = λ s t e. ap (λ (r : Read A). on_read r bad (λ x n. g x n t)) (h.same s t (λ j q. e j (omega (arith, on-low s (f s))))) ∙ on_same s t (f s) e;
  }

-- ---- the parts of a line

closed-local : (at : ℕ) (f : List ℕ → Read ℕ) → Local stop_at at f → Local stop_at at (λ s. closed s (f s))
unfolding closed
closed-local at f h =
    local-on (λ v n s. pick (eqb (get_or s n 0) 10) (got v (n + 1)) (bad n))
    (λ v n. local-byte (λ b s. pick (eqb b 10) (got v (n + 1)) (bad n)) (λ b. local-pick (eqb b 10) (local-none (omega arith)) (local-none (omega arith)))) h

spaced-local : (at : ℕ) → Local stop_at at (λ s. spaced_at s at)
unfolding spaced_at
spaced-local at =
    local-byte (λ b s. pick (eqb b 32) (number_at s (at + 1)) (bad at))
    (λ b. local-pick (eqb b 32) (local-later {n = at + 1} (omega arith) (number-local (at + 1))) (local-none (omega arith)))

next-local : (at : ℕ) (w : Bool) → Local stop_at at (λ s. next_number s at w)
unfolding next_number
next-local at w = local-pick w (spaced-local at) (local-none (omega arith))

end-local : (at : ℕ) (may : Bool) → Local stop_at at (λ s. end_at s at may)
unfolding end_at
end-local at may =
    local-byte
    (λ b s. pick (eqb b 10) (got false (at + 1)) (pick may (pick (eqb b 32)
    (pick (eqb (get_or s (at + 1) 0) 88) (pick (eqb (get_or s (at + 2) 0) 10) (got true (at + 3)) (bad (at + 2))) (bad (at + 1))) (bad at)) (bad at)))
    (λ b. local-pick (eqb b 10) (local-none (omega arith)) (local-pick may (local-pick (eqb b 32) (local-later {n = at + 1} (omega arith) (local-byte
    (λ c s. pick (eqb c 88) (pick (eqb (get_or s (at + 2) 0) 10) (got true (at + 3)) (bad (at + 2))) (bad (at + 1)))
    (λ c. local-pick (eqb c 88) (local-later {n = at + 2} (omega arith) (local-byte
    (λ d s. pick (eqb d 10) (got true (at + 3)) (bad (at + 2)))
    (λ d. local-pick (eqb d 10) (local-none (omega arith)) (local-none (omega arith)))))
    (local-none (omega arith))))) (local-none (omega arith))) (local-none (omega arith))))

ended-local : (b : Letter) (i j r at : ℕ) → Local stop_at at (λ s. ended_at b i j r s at)
unfolding ended_at
ended-local b i j r at = local-on (λ x e s. got (step_of b i j r x) e) (λ x e. local-none (omega arith)) (end-local at (may_cut b))

after-local : (b : Letter) (at : ℕ) → Local stop_at at (λ s. after_letter b s at)
unfolding after_letter
after-local b at =
    local-on
    (λ i n s. on_read (next_number s n (ltb 1 (numbers_after b))) bad (λ j m. on_read (next_number s m (ltb 2 (numbers_after b))) bad (λ r l. ended_at b i j r s l)))
    (λ i n. local-on (λ j m s. on_read (next_number s m (ltb 2 (numbers_after b))) bad (λ r l. ended_at b i j r s l))
    (λ j m. local-on (λ r l s. ended_at b i j r s l) (λ r l. ended-local b i j r l) (next-local m (ltb 2 (numbers_after b))))
    (next-local n (ltb 1 (numbers_after b))))
    (next-local at true)

letter-local : (at : ℕ) (o : Option Letter) → Local stop_at at (λ s. on_letter o (bad at) (λ b. after_letter b s (at + 1)))
letter-local at None = local-none (omega arith)
letter-local at (Some b) = local-later {n = at + 1} (omega arith) (after-local b (at + 1))

line-local : (at : ℕ) → Local stop_at at (λ s. line_at s at)
unfolding line_at
line-local at = local-byte (λ c s. on_letter (letter_of c) (bad at) (λ b. after_letter b s (at + 1))) (λ c. letter-local at (letter_of c))

value-local : (at : ℕ) → Local stop_at at (λ s. value_at s at)
unfolding value_at
value-local at = closed-local at (λ s. number_at s at) (number-local at)

alone-local : (at : ℕ) → Local stop_at at (λ s. alone_at s at)
unfolding alone_at
alone-local at = closed-local at (λ s. spaced_at s at) (spaced-local at)

-- ---- what breaks the form at a place does so in each text with the same bytes up to there
module _ (s t : List ℕ) (p : ℕ) (same : Same s t p) where
  same-fault : {A : Type 0} {stop : A → ℕ} {at : ℕ} {f : List ℕ → A} {x : A} → Local stop at f → f s ≡ x → stop x ≡ p → f t ≡ x
  same-fault {stop = stop} h e k = h.same s t (λ j q. same j (omega (arith, ap stop e))) ∙ e

  pub line_same : (at : ℕ) → line_at s at ≡ bad p → line_at t at ≡ bad p
  line_same at e = same-fault (line-local at) e refl

  pub value_same : (at : ℕ) → value_at s at ≡ bad p → value_at t at ≡ bad p
  value_same at e = same-fault (value-local at) e refl

  -- a word asks where its text ends besides, so here both have a byte at the place
  module _ (within : p < length s) (inside : p < length t) where
    word_low : (at : ℕ) (w : List ℕ) (r : Result ℕ Broken) → word_at s at w ≡ r → at ≤ stop_of_word r
    word_low at w (Err q) e = begins-low (word-begins s at q.place w e)
    word_low at w (Ok n) e = omega (arith, (word_read s w at n e).end)

    word-step : (at : ℕ) (w : List ℕ) → (stop_of_word (word_at s (at + 1) w) ≤ p → word_at t (at + 1) w ≡ word_at s (at + 1) w)
        → (x : Bool) → stop_of_word (pick x (word_at s (at + 1) w) (bad at)) ≤ p → pick x (word_at t (at + 1) w) (bad at) ≡ pick x (word_at s (at + 1) w) (bad at)
    word-step at w ih true h = ih h
    word-step at w ih false h = refl

    word_same : (at : ℕ) (w : List ℕ) → stop_of_word (word_at s at w) ≤ p → word_at t at w ≡ word_at s at w
    unfolding word_at
    word_same at [] h = refl
    word_same at (b ∷ w) h =
        let g : at ≤ p = omega (arith, word_low at (b ∷ w) (word_at s at (b ∷ w)) refl) in
        let here = lt-ltb at (length s) (omega arith) in
        rw (here, lt-ltb at (length t) (omega arith), ← same at g) (word-step at w (λ k. word_same (at + 1) w k) (eqb (get_or s at 0) b) (rw here at h))

    word-stop : (r : Result ℕ Broken) → on_word r (alone_at s) ≡ bad p → stop_of_word r ≤ p
    word-stop (Err q) e = let k : q.place ≡ p = cc in omega arith
    word-stop (Ok n) e = omega (arith, (alone-local n).low s, ap stop_at e)

    after-word : (r : Result ℕ Broken) → on_word r (alone_at s) ≡ bad p → on_word r (alone_at t) ≡ bad p
    after-word (Err q) e = e
    after-word (Ok n) e = same-fault (alone-local n) e refl

    pub header-same : (at : ℕ) (w : List ℕ) → header_at s at w ≡ bad p → header_at t at w ≡ bad p
    unfolding header_at
    header-same at w e = ap (λ (r : Result ℕ Broken). on_word r (alone_at t)) (word_same at w (word-stop (word_at s at w) e)) ∙ after-word (word_at s at w) e
