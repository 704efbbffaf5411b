use native.Mathlib.Omega.{arith}
use Rattle.std.proofs.lemmas.Slice.{first_rest}
use Rattle.page.proofs.FillLaws.{fill_start, fill-number, fill-byte, fill_end}
use Rattle.page.proofs.line.fill.Goals.{then-byte-eq35+in-len1-up, else-byte-eq35}
use Rattle.page.proofs.line.fill.Goals as goal

pub loop-byte-init : goal.loop-byte-init
loop-byte-init c =
    let a = c.args in
    fill_start a.out.now a.at a.template.now a.numbers.now (omega arith)

pub loop-byte-preserved : goal.loop-byte-preserved
loop-byte-preserved c =
    let l = c.loop-byte in
    let h = c.loop-byte-test.true in
    elim c.if-byte-eq35.branch [
      | then-byte-eq35+in-len1-up w ↦ rw (w.out-is, w.left-is, w.place-is) (fill-number l.invariant c.requires h _ w.if-byte-eq35.true (first_rest l.left.now 0 (omega arith)) (omega arith) w.put_number-place.ensures)
      | else-byte-eq35 w ↦ rw (w.out-is, w.left-is, w.place-is) (fill-byte l.invariant c.requires h (λ e. grind arith))
    ]

pub returns : goal.returns
returns c = fill_end c.loop-byte-test.false c.loop-byte.invariant
