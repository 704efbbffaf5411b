-- Where reading stops: at the line's first byte or behind it, and within the file, so that a column can be told. Assumes nothing.
use mathlib.Core.Path.{◌≡◌}
use mathlib.Core.Bool.{false}
use mathlib.Core.List.{List}
use Prim.Native.Nat.{ℕ, ◌≤◌}
use native.Mathlib.Omega.{arith}
use lib.ListN.{length, length-append}
use Rattle.text.specs.Read.{Read, bad}
use Rattle.text.proofs.ReadLaws.{got}
use Rattle.text.specs.Number.{spelled}
use Rattle.text.specs.Stands.{Stands}
use Rattle.schedule.specs.Lines.{broken_at, lines_at, lines_of}
use Rattle.schedule.specs.Line.{spaced, ending, line_at}
use Rattle.schedule.specs.Header.{header_of, header_at, count_at}
use Rattle.schedule.specs.Values.{value_at}
use Rattle.text.proofs.StandsLaws.{stands-high}
use Rattle.text.proofs.StopLaws.{begins-low, begins-high}
use Rattle.schedule.proofs.RoundTrip.Header.{header_read}
use Rattle.schedule.proofs.RoundTrip.Rows.{lines-read}
use Rattle.schedule.proofs.RoundTrip.Found.{Begun, line_read, line-begins}
use Rattle.schedule.proofs.RoundTrip.ValueLine.{value_read}
use Rattle.schedule.proofs.Reading.InARow.{lines-ahead}
use Rattle.schedule.proofs.Stops.Begins.{value-begins, header-begins}

-- a place of the line that begins at from, or the end of the file
abbrev pub Within : List ℕ → ℕ → ℕ → Type 0
Within s from p = (from ≤ p) × (p ≤ length s)

begun-within : {A : Type 0} {P : A → Type 0} {f : A → List ℕ} {s : List ℕ} {at p : ℕ} → Begun P f s at p → at ≤ length s → Within s at p
begun-within b h = (begins-low b.begins, begins-high b.begins h)

module _ (s : List ℕ) (at : ℕ) (w : List ℕ) (high : at ≤ length s) where
  pub header-within : {p : ℕ} → header_at s at w ≡ bad p → Within s at p
  header-within {p} e = begun-within (header-begins s at w p e) high

  module _ {k a : ℕ} (e : header_at s at w ≡ got k a) where
    pub header-high : a ≤ length s
    header-high = stands-high s at a (header_of w k) (header_read s at w a k e).1 high

    -- the count stands within its line
    pub count-high : count_at at w ≤ length s
    count-high =
        let p = (header_read s at w a k e).1 in
        omega (arith, header-high, p.end, length-append w (spaced k (ending false)), length-append (spelled k) (ending false))

module _ {A : Type 0} {P : A → Type 0} {g : A → List ℕ} (s : List ℕ) (f : ℕ → Read A) (reads : (at m : ℕ) (x : A) → f at ≡ got x m → P x × Stands s at m (g x))
    (begins : (at p : ℕ) → f at ≡ bad p → Begun P g s at p) where
  lines-within : (k i a j from p : ℕ) → lines_at f k i a ≡ broken_at j from p → a ≤ length s → Within s from p
  lines-within k i a j from p e h =
      let b = lines-ahead f j from p k i a e in
      let r = lines-read s f g P reads b.things (length b.things) i a from b.are in
      begun-within (begins from p b.broke) (stands-high s a from (lines_of g b.things) r.2 h)

pub steps-within : (s : List ℕ) (k i a j from p : ℕ) → lines_at (line_at s) k i a ≡ broken_at j from p → a ≤ length s → Within s from p
steps-within s = lines-within s (line_at s) (line_read s) (line-begins s)

pub values-within : (s : List ℕ) (k i a j from p : ℕ) → lines_at (value_at s) k i a ≡ broken_at j from p → a ≤ length s → Within s from p
values-within s = lines-within s (value_at s) (value_read s) (value-begins s)
