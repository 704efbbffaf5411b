-- The laws of a section's counts: what one more answer adds, and that answers counted one by one are those of the section. Assumes nothing.
use mathlib.Core.Path.{◌≡◌, ◌∙◌}
use mathlib.Core.List.{List, [], ◌∷◌}
use lib.ListN.{length}
use native.Mathlib.Omega.{arith}
use Prim.Native.Nat.{ℕ, ◌+◌}
use Rattle.rules.specs.Tally.{bit_of}
use Rattle.rules.specs.Answers.{Said, is_refused, total, all_sent, all_again}
use Rattle.schedule.specs.Counts.{none, counts_in}
use Rattle.schedule.specs.Private.{counted, counted_all}
use Rattle.schedule.specs.declared.counts.Counts.{Counts}

-- the counts with these many of each
abbrev made : ℕ → ℕ → ℕ → ℕ → ℕ → ℕ → ℕ → Counts
made s a i r n m d = record { steps = s; applied = a; idle = i; refused = r; sent = n; again = m; decided = d }

same_none : (n : ℕ) → n ≡ n + 0
same_none n = omega arith

-- ---- answer by answer

-- from the counts c on
counted-from : (c : Counts) (as' : List Said)
    → counted_all c as'
    ≡ made (c.steps + length as') (c.applied + total (λ a. bit_of a.applied) as') (c.idle + total (λ a. bit_of a.idle) as')
    (c.refused + total (λ a. bit_of (is_refused a)) as') (c.sent + all_sent as') (c.again + all_again as')
    (c.decided + total (λ a. bit_of a.decided) as')
unfolding counted_all counted total
counted-from c [] =
    λ k.
    made (same_none c.steps k) (same_none c.applied k) (same_none c.idle k) (same_none c.refused k) (same_none c.sent k)
    (same_none c.again k) (same_none c.decided k)
counted-from c (x ∷ xs) =
    counted-from (counted c x) xs
    ∙ (λ k.
    made (longer c.steps k) (more c.applied (bit_of x.applied) (total (λ a. bit_of a.applied) xs) k)
    (more c.idle (bit_of x.idle) (total (λ a. bit_of a.idle) xs) k)
    (more c.refused (bit_of (is_refused x)) (total (λ a. bit_of (is_refused a)) xs) k)
    (more c.sent x.sent (all_sent xs) k) (more c.again x.again (all_again xs) k)
    (more c.decided (bit_of x.decided) (total (λ a. bit_of a.decided) xs) k))
  where
    longer : (n : ℕ) → n + 1 + length xs ≡ n + length (x ∷ xs)
    longer n = omega arith

    more : (a b n : ℕ) → a + b + n ≡ a + (b + n)
    more a b n = omega arith

pub counted_is : (as' : List Said) → counted_all none as' ≡ counts_in as'
unfolding counts_in total
counted_is as' =
    counted-from none as'
    ∙ (λ k.
    made (from-none (length as') k) (from-none (total (λ a. bit_of a.applied) as') k) (from-none (total (λ a. bit_of a.idle) as') k)
    (from-none (total (λ a. bit_of (is_refused a)) as') k) (from-none (all_sent as') k) (from-none (all_again as') k)
    (from-none (total (λ a. bit_of a.decided) as') k))
  where
    from-none : (n : ℕ) → 0 + n ≡ n
    from-none n = omega arith
