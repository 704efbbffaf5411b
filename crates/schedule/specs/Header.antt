-- Document 01, "The schedule file and the report": "Sections in a fixed order, each after its count". What stands at a place of a file as a fixed word and as a section's
-- first line. Assumes nothing.
use Rattle.std.specs.Prelude.{false, List, [], ◌∷◌, ◌++◌, ℕ, ◌+◌, eqb, ltb, length, get_or, Result, Ok, Err}
use Rattle.text.specs.Number.{pick}
use Rattle.schedule.specs.Line.{spaced, ending, closed, spaced_at}
use Rattle.text.specs.Read.{Read, bad}
use Rattle.text.specs.declared.number.Broken.{Broken}

-- the section words: `VALUES`, `WARMUP`, `MEASURED`
abbrev pub values_word : List ℕ
values_word = 86 ∷ 65 ∷ 76 ∷ 85 ∷ 69 ∷ 83 ∷ []

abbrev pub warmup_word : List ℕ
warmup_word = 87 ∷ 65 ∷ 82 ∷ 77 ∷ 85 ∷ 80 ∷ []

abbrev pub measured_word : List ℕ
measured_word = 77 ∷ 69 ∷ 65 ∷ 83 ∷ 85 ∷ 82 ∷ 69 ∷ 68 ∷ []

-- a section's first line: its word and its count
abbrev pub header_of : List ℕ → ℕ → List ℕ
header_of w n = w ++ spaced n (ending false)

-- the place of the count in a section's first line that begins at a place: its first digit stands there
abbrev pub count_at : ℕ → List ℕ → ℕ
count_at at w = at + length w + 1

abbrev pub on_word : {A : Type 0} → Result ℕ Broken → (ℕ → Read A) → Read A
on_word (Err e) f = Err e
on_word (Ok n) f = f n

-- a word, byte by byte: the place after it, or the place of the first byte that is not the word's
unfoldable pub word_at : List ℕ → ℕ → List ℕ → Result ℕ Broken
word_at s at [] = Ok at
word_at s at (b ∷ w) = pick (ltb at (length s)) (pick (eqb (get_or s at 0) b) (word_at s (at + 1) w) (bad at)) (bad at)

-- a space, a number and LF
unfoldable pub alone_at : List ℕ → ℕ → Read ℕ
alone_at s at = closed s (spaced_at s at)

unfoldable pub header_at : List ℕ → ℕ → List ℕ → Read ℕ
header_at s at w = on_word (word_at s at w) (alone_at s)
