-- The loop keeps that the byte here may be looked at, that the number so far is in range, and that a scan from here on with it finds what the scan from the first place finds. Assumes nothing.
use Prim.Native.Nat.{◌≤◌, ◌-◌}
use mathlib.Core.Path.{◌≡◌}
use lib.ListN.{length, drop}
use Rattle.text.specs.Number.{most, scan}
use Rattle.text.proofs.number.digits_from.Given as goal

abbrev pub invariant-digits : goal.invariant-digits
invariant-digits g l = g.L.Look.may l.s l.place × (l.total ≤ most) × (scan l.v l.at (drop l.at l.s) ≡ scan l.total l.place (drop l.place l.s))

abbrev pub decreases-digits : goal.decreases-digits
decreases-digits g l = length l.s - l.place
