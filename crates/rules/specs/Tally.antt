-- Document 01, "Records and the message store": "A tally is a set of senders, and its size is what meets a majority, by being at least it."
-- A tally is a number below 2 ^ 16; sender j stands at its binary digit j - 1, and its size is its count of ones. Assumes nothing.
use Rattle.std.specs.Prelude.{Bool, true, false, ℕ, zero, suc, ◌+◌, ◌-◌, ◌/◌, ◌%◌, ◌^◌, eqb, leb, ltb}
use Rattle.std.specs.Int.Bits.{bit_or}
use Rattle.std.specs.Int.Count.{ones}
use Rattle.rules.specs.Limits.{majority}

-- sender j is in the tally t
unfoldable pub holds : ℕ → ℕ → Bool
holds t j = eqb (t / 2 ^ (j - 1) % 2) 1

-- the tally t with sender j in it
unfoldable pub joined : ℕ → ℕ → ℕ
joined t j = bit_or t (2 ^ (j - 1))

-- the size of t meets the majority of n, by being at least it
unfoldable pub meets : ℕ → ℕ → Bool
meets t n = leb (majority n) (ones t)

-- no sender above n is in t
unfoldable pub within : ℕ → ℕ → Bool
within t n = ltb t (2 ^ n)

-- 1 where the test holds
abbrev pub bit_of : Bool → ℕ
bit_of true = 1
bit_of false = 0

-- how many of 1..n have the property
unfoldable pub count : (ℕ → Bool) → ℕ → ℕ
count p zero = 0
count p (suc n) = count p n + bit_of (p (suc n))
