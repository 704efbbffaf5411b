-- Document 01, "The schedule file and the report": "The step letter decides which numbers follow". What stands at a place of a file as a step line, and how a step
-- is spelled. Assumes nothing.
use Rattle.std.specs.Prelude.{Bool, true, false, List, [], ◌∷◌, ◌++◌, ℕ, ◌+◌, ◌≤◌, eqb, ltb, get_or, Option, Some, None, Ok}
use Rattle.rules.specs.declared.step.Step.{Step}
use Rattle.rules.specs.declared.step.Step.TheVariants.{DeliverE, DeliverS, DeliverF, DeliverDecision, Suspect, Pause, Crash, Recover}
use Rattle.rules.specs.Kinds.{numbers_of, round_of}
use Rattle.text.specs.Number.{pick, most, number_at, spelled}
use Rattle.text.specs.Read.{Read, bad, on_read}
use Rattle.schedule.specs.Lines.{Every}
use Rattle.schedule.specs.declared.letter.Letter.{Letter}

-- ---- the bytes of a step line, each once

-- the step letters: `E`, `S`, `F`, `Z`, `Q`, `P`, `C`, `R`
abbrev pub letter_e : ℕ
letter_e = 69

abbrev pub letter_s : ℕ
letter_s = 83

abbrev pub letter_f : ℕ
letter_f = 70

abbrev pub letter_z : ℕ
letter_z = 90

abbrev pub letter_q : ℕ
letter_q = 81

abbrev pub letter_p : ℕ
letter_p = 80

abbrev pub letter_c : ℕ
letter_c = 67

abbrev pub letter_r : ℕ
letter_r = 82

-- a space, the `X` of a cut, and LF
abbrev pub space_byte : ℕ
space_byte = 32

abbrev pub letter_x : ℕ
letter_x = 88

abbrev pub line_feed : ℕ
line_feed = 10

-- ---- how a step is spelled

-- "Lines end with LF"; "` X` at the end of E, S, F, Z or Q is a cut"
abbrev pub ending : Bool → List ℕ
ending true = space_byte ∷ letter_x ∷ line_feed ∷ []
ending false = line_feed ∷ []

-- "one space between words": a number behind a space, before the rest of the line
abbrev pub spaced : ℕ → List ℕ → List ℕ
spaced v l = space_byte ∷ (spelled v ++ l)

-- "`E`, `S`, `F`: to, from, round. `Z` (decision): to, from. `Q` (suspect), `P` (pause), `C` (crash), `R` (recover): the process."
abbrev pub line_of : Step → List ℕ
line_of (DeliverE i j r x) = letter_e ∷ spaced i (spaced j (spaced r (ending x)))
line_of (DeliverS i j r x) = letter_s ∷ spaced i (spaced j (spaced r (ending x)))
line_of (DeliverF i j r x) = letter_f ∷ spaced i (spaced j (spaced r (ending x)))
line_of (DeliverDecision i j x) = letter_z ∷ spaced i (spaced j (ending x))
line_of (Suspect i x) = letter_q ∷ spaced i (ending x)
line_of (Pause i) = letter_p ∷ spaced i (ending false)
line_of (Crash i) = letter_c ∷ spaced i (ending false)
line_of (Recover i) = letter_r ∷ spaced i (ending false)

-- a number that a file can hold, and a step all of whose numbers are so
abbrev pub Small : ℕ → Type 0
Small v = v ≤ most

abbrev pub Holdable : Step → Type 0
Holdable s = Every Small (numbers_of s) × Small (round_of s)

-- ---- how it is read

-- the step letter of a byte. "Any other letter is refusal 9"
unfoldable pub letter_of : ℕ → Option Letter
letter_of b =
    pick (eqb b letter_e) (Some Letter.E)
    (pick (eqb b letter_s) (Some Letter.S)
    (pick (eqb b letter_f) (Some Letter.F)
    (pick (eqb b letter_z) (Some Letter.Z)
    (pick (eqb b letter_q) (Some Letter.Q)
    (pick (eqb b letter_p) (Some Letter.P)
    (pick (eqb b letter_c) (Some Letter.C)
    (pick (eqb b letter_r) (Some Letter.R)
    None)))))))

-- how many numbers follow a letter
unfoldable pub numbers_after : Letter → ℕ
numbers_after Letter.E = 3
numbers_after Letter.S = 3
numbers_after Letter.F = 3
numbers_after Letter.Z = 2
numbers_after Letter.Q = 1
numbers_after Letter.P = 1
numbers_after Letter.C = 1
numbers_after Letter.R = 1

-- whether the step of a letter may be cut
unfoldable pub may_cut : Letter → Bool
may_cut Letter.E = true
may_cut Letter.S = true
may_cut Letter.F = true
may_cut Letter.Z = true
may_cut Letter.Q = true
may_cut Letter.P = false
may_cut Letter.C = false
may_cut Letter.R = false

-- the step of a letter with its numbers
unfoldable pub step_of : Letter → ℕ → ℕ → ℕ → Bool → Step
step_of Letter.E i j r x = DeliverE i j r x
step_of Letter.S i j r x = DeliverS i j r x
step_of Letter.F i j r x = DeliverF i j r x
step_of Letter.Z i j r x = DeliverDecision i j x
step_of Letter.Q i j r x = Suspect i x
step_of Letter.P i j r x = Pause i
step_of Letter.C i j r x = Crash i
step_of Letter.R i j r x = Recover i

-- Request 2026-01: "The byte is the first that no line of the form asked for there has after the bytes before it, the LF included." Whatever is read answers the place of that
-- byte where it breaks the form

-- a number that ends its line: LF stands behind it
unfoldable pub closed : List ℕ → Read ℕ → Read ℕ
closed s r = on_read r bad (λ v n. pick (eqb (get_or s n 0) line_feed) (Ok (v, n + 1)) (bad n))

-- a space and a number
unfoldable pub spaced_at : List ℕ → ℕ → Read ℕ
spaced_at s at = pick (eqb (get_or s at 0) space_byte) (number_at s (at + 1)) (bad at)

-- the same where one more number is wanted
unfoldable pub next_number : List ℕ → ℕ → Bool → Read ℕ
next_number s at wanted = pick wanted (spaced_at s at) (Ok (0, at))

-- LF, or ` X` and LF where the step may be cut
unfoldable pub end_at : List ℕ → ℕ → Bool → Read Bool
end_at s at may =
    pick (eqb (get_or s at 0) line_feed) (Ok (false, at + 1))
    (pick may
    (pick (eqb (get_or s at 0) space_byte)
    (pick (eqb (get_or s (at + 1) 0) letter_x)
    (pick (eqb (get_or s (at + 2) 0) line_feed) (Ok (true, at + 3)) (bad (at + 2)))
    (bad (at + 1)))
    (bad at))
    (bad at))

-- the line of a letter and its numbers, which end at a place
unfoldable pub ended_at : Letter → ℕ → ℕ → ℕ → List ℕ → ℕ → Read Step
ended_at b i j r s at = on_read (end_at s at (may_cut b)) bad (λ x e. Ok (step_of b i j r x, e))

-- what follows the letter b
unfoldable pub after_letter : Letter → List ℕ → ℕ → Read Step
after_letter b s at =
    on_read (next_number s at true) bad
    (λ i n. on_read (next_number s n (ltb 1 (numbers_after b))) bad
    (λ j m. on_read (next_number s m (ltb 2 (numbers_after b))) bad
    (λ r l. ended_at b i j r s l)))

abbrev pub on_letter : {A : Type 0} → Option Letter → A → (Letter → A) → A
on_letter None z f = z
on_letter (Some b) z f = f b

-- the step line at a place
unfoldable pub line_at : List ℕ → ℕ → Read Step
line_at s at = on_letter (letter_of (get_or s at 0)) (bad at) (λ b. after_letter b s (at + 1))
