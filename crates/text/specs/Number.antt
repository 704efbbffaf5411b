-- Document 01, "The schedule file and the report": "decimals at most 4,294,967,295 without leading zeros". What stands at a place of a text as a decimal, and how a
-- number is spelled. Assumes nothing.
use Rattle.std.specs.Prelude.{Bool, true, false, List, [], ◌∷◌, ◌++◌, ℕ, zero, suc, ◌+◌, ◌-◌, ◌*◌, ◌/◌, ◌%◌, ltb, leb, eqb, get_or, drop, Ok}
use Rattle.text.specs.Read.{Read, bad}

-- the one or the other
abbrev pub pick : {A : Type 0} → Bool → A → A → A
pick true a b = a
pick false a b = b

abbrev pub most : ℕ
most = 4294967295

-- is the byte one of `0` to `9`
unfoldable pub is_digit : ℕ → Bool
is_digit b = pick (ltb b 48) false (leb b 57)

-- the digits at the front of a list, after a number v that was read up to place i. A number that is bad says at which place it is so: here at the digit that makes it too large
unfoldable pub scan : ℕ → ℕ → List ℕ → Read ℕ
scan v i [] = Ok (v, i)
scan v i (b ∷ t) =
    pick (is_digit b) (pick (leb (v * 10 + (b - 48)) most) (scan (v * 10 + (b - 48)) (i + 1) t) (bad i)) (Ok (v, i))

-- a decimal has a digit, and begins with `0` only where that is all of it: a second digit is bad. A place past the end has the byte 0; the end ends a decimal
unfoldable pub number_at : List ℕ → ℕ → Read ℕ
number_at s at =
    pick (is_digit (get_or s at 0))
    (pick (eqb (get_or s at 0) 48)
    (pick (is_digit (get_or s (at + 1) 0)) (bad (at + 1)) (Ok (0, at + 1)))
    (scan 0 at (drop at s)))
    (bad at)

-- a number's digits, where f + 1 of them are enough: below ten its one digit, else the digits of its tenth and the last
unfoldable pub spell : ℕ → ℕ → List ℕ
spell zero n = (48 + n) ∷ []
spell (suc f) n = pick (ltb n 10) ((48 + n) ∷ []) (spell f (n / 10) ++ ((48 + n % 10) ∷ []))

-- the spelling of a number, which has at most ten digits
abbrev pub spelled : ℕ → List ℕ
spelled n = spell 9 n
