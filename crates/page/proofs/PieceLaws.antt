-- The laws of pieces: one after another, the room behind them, and their text written otherwise. Assumes nothing.
use Prim.Native.Nat.{ℕ, ◌+◌, ◌≤◌}
use mathlib.Core.Path.{◌≡◌, ap}
use mathlib.Core.List.{List, [], ◌++◌}
use native.Mathlib.Omega.{arith}
use lib.ListN.{length, length-append}
use Rattle.text.specs.Put.{Puts}
use Rattle.text.proofs.PutLaws.{wrote-length, wrote-more, wrote-same, wrote_none, puts-wrote}
use Rattle.page.specs.Private.{Piece}

-- no piece at all
pub piece-none : (l : List ℕ) (at : ℕ) → at ≤ length l → Piece 0 l at [] l at
piece-none l at h = record { wrote = wrote_none l at h; short = omega arith }

-- a text that had room
pub piece-put : {l t m : List ℕ} {at next : ℕ} (k : ℕ) → length t ≤ k → at + k ≤ length l → Puts l at t m next → Piece k l at t m next
piece-put k h g p = record { wrote = puts-wrote (omega arith) p; short = h }

-- two pieces, one after the other, are one piece
pub piece-more : {a b at next next' : ℕ} {l t p m m' : List ℕ} → Piece a l at t m next → Piece b m next p m' next' → Piece (a + b) l at (t ++ p) m' next'
piece-more {t = t} {p = p} x y = record { wrote = wrote-more x.wrote y.wrote; short = omega (arith, length-append t p) }

-- a piece is as short as any greater number says
pub piece-within : {a b at next : ℕ} {l t t' m : List ℕ} → a ≤ b → t ≡ t' → Piece a l at t m next → Piece b l at t' m next
piece-within {t = t} {t' = t'} h e x =
    let same : length t ≡ length t' = ap length e in
    record { wrote = wrote-same e x.wrote; short = omega (arith, x.short) }

-- behind a piece there is room for what else was to have room
pub room-behind : {k at next : ℕ} {l t m : List ℕ} (room : ℕ) → Piece k l at t m next → at + (k + room) ≤ length l → next + room ≤ length m
room-behind room x h = omega (arith, x.wrote.end, x.short, wrote-length x.wrote)
