-- `put::put_number` meets its contract: what `io::decimal` leaves at the front of its array is the number's spelling. Assumes nothing.
use Prim.Native.Nat.{◌≤◌}
use native.Mathlib.Omega.{arith}
use Rattle.text.specs.Number.{most}
use Rattle.text.proofs.PutLaws.{number-piece, puts-same}
use Rattle.text.proofs.put.put_number.Goals as goal

pub returns : goal.returns
returns c =
    let d = c.decimal-k in
    let m : c.args.n ≤ most = omega (arith, c.ranges.n) in
    puts-same _ _ _ _ _ (number-piece d.new.out d.result c.args.n m d.ensures.len d.ensures.digits) c.put_bytes.ensures
