-- How many LFs stand in the lines of a file: one in each. Assumes nothing.
use mathlib.Core.Path.{◌≡◌, refl, ap, ◌∙◌}
use mathlib.Core.Bool.{Bool, true, false}
use mathlib.Core.List.{List, [], ◌∷◌, ◌++◌}
use Prim.Native.Nat.{ℕ, zero, suc, ◌+◌, ◌/◌, ◌%◌, ◌<◌}
use native.Mathlib.Omega.{arith}
use native.Mathlib.Decide.{dec_lt}
use lib.ListN.{length}
use borrow.Author.Tests.{ne_eqb}
use Rattle.rules.specs.declared.step.Step.{Step}
use Rattle.rules.specs.declared.step.Step.TheVariants.{DeliverE, DeliverS, DeliverF, DeliverDecision, Suspect, Pause, Crash, Recover}
use Rattle.text.specs.Number.{spell, spelled}
use Rattle.text.proofs.SpellLaws.{spell_one, spell-more}
use Rattle.schedule.specs.Lines.{lines_of}
use Rattle.schedule.specs.Line.{letter_e, letter_s, letter_f, letter_z, letter_q, letter_p, letter_c, letter_r, space_byte, line_feed, spaced, ending, line_of}
use Rattle.schedule.specs.Header.{header_of, values_word, warmup_word, measured_word}
use Rattle.schedule.specs.Values.{value_line}
use Rattle.schedule.specs.Schedule.{section_of}
use Rattle.schedule.specs.Files.{at_values, at_warmup, at_measured, bytes_before, line_feeds}

pub feeds-append : (a b : List ℕ) → line_feeds (a ++ b) ≡ line_feeds a + line_feeds b
unfolding line_feeds
feeds-append [] b = omega arith
feeds-append (x ∷ a) b = omega (arith, feeds-append a b)

-- a byte above LF adds none
byte-feeds : (b : ℕ) (l : List ℕ) → line_feed < b → line_feeds (b ∷ l) ≡ line_feeds l
unfolding line_feeds
byte-feeds b l h = rw (ne_eqb b line_feed (λ e. omega arith)) (omega arith)

-- ---- a number has none

digit-feeds : (d : ℕ) → line_feeds ((48 + d) ∷ []) ≡ 0
unfolding line_feeds
digit-feeds d = byte-feeds (48 + d) [] (omega arith)

one-feeds : (f n : ℕ) → n < 10 → line_feeds (spell f n) ≡ 0
one-feeds f n h = ap line_feeds (spell_one f n h) ∙ digit-feeds n

more-feeds : (f n : ℕ) → line_feeds (spell f (n / 10)) ≡ 0 → Dec (n < 10) → line_feeds (spell (suc f) n) ≡ 0
more-feeds f n ih (yes p) = one-feeds (suc f) n p
more-feeds f n ih (no p) =
    ap line_feeds (spell-more f n (omega arith)) ∙ feeds-append (spell f (n / 10)) ((48 + n % 10) ∷ []) ∙ omega (arith, ih, digit-feeds (n % 10))

spell-feeds : (f n : ℕ) → line_feeds (spell f n) ≡ 0
unfolding spell
spell-feeds zero n = digit-feeds n
spell-feeds (suc f) n = more-feeds f n (spell-feeds f (n / 10)) (dec_lt n 10)

number-feeds : (v : ℕ) (l : List ℕ) → line_feeds (spelled v ++ l) ≡ line_feeds l
number-feeds v l = feeds-append (spelled v) l ∙ omega (arith, spell-feeds 9 v)

spaced-feeds : (v : ℕ) (l : List ℕ) → line_feeds (spaced v l) ≡ line_feeds l
spaced-feeds v l = byte-feeds space_byte (spelled v ++ l) (omega arith) ∙ number-feeds v l

-- ---- a line has one

ending-feeds : (x : Bool) → line_feeds (ending x) ≡ 1
unfolding line_feeds
ending-feeds true = refl
ending-feeds false = refl

pub header-feeds : (w : List ℕ) (n : ℕ) → line_feeds (header_of w n) ≡ line_feeds w + 1
header-feeds w n = feeds-append w (spaced n (ending false)) ∙ omega (arith, spaced-feeds n (ending false), ending-feeds false)

pub value-feeds : (v : ℕ) → line_feeds (value_line v) ≡ 1
value-feeds v = number-feeds v (ending false) ∙ ending-feeds false

-- a letter, and one, two or three numbers
one_number : (b i : ℕ) (x : Bool) → line_feed < b → line_feeds (b ∷ spaced i (ending x)) ≡ 1
one_number b i x h = byte-feeds b (spaced i (ending x)) h ∙ spaced-feeds i (ending x) ∙ ending-feeds x

two-numbers : (b i j : ℕ) (x : Bool) → line_feed < b → line_feeds (b ∷ spaced i (spaced j (ending x))) ≡ 1
two-numbers b i j x h = byte-feeds b (spaced i (spaced j (ending x))) h ∙ spaced-feeds i (spaced j (ending x)) ∙ spaced-feeds j (ending x) ∙ ending-feeds x

three-numbers : (b i j r : ℕ) (x : Bool) → line_feed < b → line_feeds (b ∷ spaced i (spaced j (spaced r (ending x)))) ≡ 1
three-numbers b i j r x h =
    byte-feeds b (spaced i (spaced j (spaced r (ending x)))) h ∙ spaced-feeds i (spaced j (spaced r (ending x))) ∙ spaced-feeds j (spaced r (ending x)) ∙ spaced-feeds r (ending x)
    ∙ ending-feeds x

pub line-feeds : (st : Step) → line_feeds (line_of st) ≡ 1
line-feeds (DeliverE i j r x) = three-numbers letter_e i j r x (omega arith)
line-feeds (DeliverS i j r x) = three-numbers letter_s i j r x (omega arith)
line-feeds (DeliverF i j r x) = three-numbers letter_f i j r x (omega arith)
line-feeds (DeliverDecision i j x) = two-numbers letter_z i j x (omega arith)
line-feeds (Suspect i x) = one_number letter_q i x (omega arith)
line-feeds (Pause i) = one_number letter_p i false (omega arith)
line-feeds (Crash i) = one_number letter_c i false (omega arith)
line-feeds (Recover i) = one_number letter_r i false (omega arith)

-- ---- as many as lines

pub lines-feeds : {A : Type 0} (f : A → List ℕ) → ((x : A) → line_feeds (f x) ≡ 1) → (xs : List A) → line_feeds (lines_of f xs) ≡ length xs
unfolding lines_of line_feeds
lines-feeds f one [] = refl
lines-feeds f one (x ∷ xs) = feeds-append (f x) (lines_of f xs) ∙ omega (arith, one x, lines-feeds f one xs)

-- a section's first line and some of its lines, where its word has no LF
pub section-feeds : {A : Type 0} (f : A → List ℕ) → ((x : A) → line_feeds (f x) ≡ 1) → (w : List ℕ) (n : ℕ) (xs : List A) → line_feeds w ≡ 0
    → line_feeds (header_of w n ++ lines_of f xs) ≡ length xs + 1
section-feeds f one w n xs h = feeds-append (header_of w n) (lines_of f xs) ∙ omega (arith, header-feeds w n, lines-feeds f one xs)

-- ---- the sections of a file

pub values-word : line_feeds values_word ≡ 0
unfolding line_feeds
values-word = refl

pub warmup-word : line_feeds warmup_word ≡ 0
unfolding line_feeds
warmup-word = refl

pub measured-word : line_feeds measured_word ≡ 0
unfolding line_feeds
measured-word = refl

-- the number of a file's first line, and of the line that begins after the values, after the steps of WARMUP, and after those of MEASURED
pub first-line : 1 ≡ line_feeds (bytes_before at_values) + 1
unfolding line_feeds
first-line = refl

pub after-values : (vs : List ℕ) → length vs + 2 ≡ line_feeds (bytes_before (at_warmup vs)) + 1
after-values vs = omega (arith, section-feeds value_line value-feeds values_word (length vs) vs values-word)

pub after-warmup : (vs : List ℕ) (ws : List Step) → length vs + length ws + 3 ≡ line_feeds (bytes_before (at_measured vs ws)) + 1
after-warmup vs ws =
    omega (arith, after-values vs, feeds-append (bytes_before (at_warmup vs)) (section_of warmup_word line_of ws), section-feeds line_of line-feeds warmup_word (length ws) ws warmup-word)

pub after-measured : (vs : List ℕ) (ws ms : List Step)
    → length vs + length ws + length ms + 4 ≡ line_feeds (bytes_before (at_measured vs ws) ++ section_of measured_word line_of ms) + 1
after-measured vs ws ms =
    omega (
      arith,
      after-warmup vs ws,
      feeds-append (bytes_before (at_measured vs ws)) (section_of measured_word line_of ms),
      section-feeds line_of line-feeds measured_word (length ms) ms measured-word,
    )
