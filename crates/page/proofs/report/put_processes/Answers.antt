use mathlib.Core.Path.{◌≡◌, ap}
use Prim.Native.Nat.{◌-◌}
use native.Mathlib.Omega.{arith}
use Rattle.page.specs.Report.{process_lines}
use Rattle.page.proofs.PieceLaws.{piece-none, piece-within}
use Rattle.page.proofs.ReportLaws.{piece-line}
use Rattle.page.proofs.report.put_processes.Goals as goal

pub loop-i-init : goal.loop-i-init
unfolding process_lines
loop-i-init c = (omega arith, piece-none c.args.out.now c.args.at (omega arith))

pub loop-i-preserved : goal.loop-i-preserved
loop-i-preserved c =
    (omega arith, piece-line c.args.group c.loop-i.i (omega arith) (omega arith) c.process.ensures c.depth.ensures c.loop-i.invariant.1 c.put_process-place.ensures)

pub returns : goal.returns
returns c =
    let g = c.args.group in
    let all : c.loop-i.i - 1 ≡ g.n = omega arith in
    piece-within (omega arith) (ap (process_lines g) all) c.loop-i.invariant.1

pub returns-2 : goal.returns-2
returns-2 c =
    piece-line c.args.group c.loop-i.i (omega arith) (omega arith) c.process.ensures c.depth.ensures c.loop-i.invariant.1 c.put_process-place.ensures
