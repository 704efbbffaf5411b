-- An LF stands at a place or ahead of it: every line ends with one, so that a byte there is within the file, and behind a byte that is no LF the next one is too. Assumes nothing.
use Rattle.std.specs.Prelude.{◌≡◌, ◌≢◌, List, ℕ, ◌+◌, ◌-◌, ◌≤◌, ◌<◌, length, get_or}
use mathlib.Core.Path.{ap, ◌∙◌}
use native.Mathlib.Omega.{arith}
use native.Mathlib.Decide.{dec_lt}

pub record Ahead (s : List ℕ) (at : ℕ) : Type 0 where
  pub end : ℕ
  pub low : at < end
  pub high : end ≤ length s
  pub lf : get_or s (end - 1) 0 ≡ 10

-- the law of a ghost member: the code takes its words from specs alone
pub ahead_next : (s : List ℕ) (at : ℕ) → Ahead s at → get_or s at 0 ≢ 10 → Ahead s (at + 1)
ahead_next s at h n = go (dec_lt (at + 1) h.end)
  where
    go : Dec (at + 1 < h.end) → Ahead s (at + 1)
    go (yes p) = record { end = h.end; low = p; high = h.high; lf = h.lf }
    go (no p) =
        let e : at ≡ h.end - 1 = omega arith in
        absurd (n (ap (λ (k : ℕ). get_or s k 0) e ∙ h.lf))
