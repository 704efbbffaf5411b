-- Document 01, "Numbers": the limits, the majority, the coordinator. Assumes nothing.
use Rattle.std.specs.Prelude.{Bool, true, false, Option, Some, None, ◌&&◌, ℕ, ◌+◌, ◌/◌, ◌%◌, ◌^◌, leb, ltb}

-- "Processes 1 to n, n from 1 to 16."
abbrev pub greatest_size : ℕ
greatest_size = 16

-- the number m is one of 1..n
unfoldable pub among : ℕ → ℕ → Bool
among n m = leb 1 m && leb m n

-- m, where it is one of 1..n
unfoldable pub some_if : Bool → ℕ → Option ℕ
some_if true m = Some m
some_if false m = None

abbrev pub if_among : ℕ → ℕ → Option ℕ
if_among n m = some_if (among n m) m

-- "Rounds 0 to 63."
abbrev pub last_round : ℕ
last_round = 63

-- "Values 0 to 4,294,967,295.": so many there are
abbrev pub values : ℕ
values = 2 ^ 32

-- Request 2026-03: the most recoveries that a process can have
abbrev pub most_recoveries : ℕ
most_recoveries = 255

-- "where a recover would exceed 255": one more than k is too many
abbrev pub too_many : ℕ → Bool
too_many k = ltb most_recoveries (k + 1)

-- Request 2026-06: the greatest depths of a message and of a process
abbrev pub deepest_message : ℕ
deepest_message = 3087

abbrev pub deepest_process : ℕ
deepest_process = 3088

-- "Majority is floor(n/2) + 1"
abbrev pub majority : ℕ → ℕ
majority n = n / 2 + 1

-- "The coordinator of round r is (r mod n) + 1."
abbrev pub coordinator : ℕ → ℕ → ℕ
coordinator r n = r % n + 1

-- "The store is lent by the caller: 3,088 entries of 64 bits"
abbrev pub store_length : ℕ
store_length = 3088
