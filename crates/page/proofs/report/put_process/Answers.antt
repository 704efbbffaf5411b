-- `report::put_process` meets its contract: the three parts of its line are one piece. Assumes nothing.
use mathlib.Core.Path.{◌≡◌, refl}
use native.Mathlib.Omega.{arith}
use Rattle.text.specs.Number.{pick}
use Rattle.page.specs.Private.{Piece, longest_status}
use Rattle.page.specs.Report.{up_text, down_text, status_part}
use Rattle.page.proofs.PieceLaws.{piece-within}
use Rattle.page.proofs.ReportLaws.{piece-status, piece-parts}
use Rattle.page.proofs.report.put_process.Goals.{After-fill-a, then-p, else-p}
use Rattle.page.proofs.report.put_process.Goals as goal

-- the status says what the process is
status : (c : After-fill-a) → Piece longest_status c.args.out.now c.args.at (status_part c.args.i c.args.p) c.fill-a.new.out c.fill-a.result
status c =
    let a = c.args in
    let told : c.if-p.status.now ≡ pick a.p.up up_text down_text =
    elim c.if-p.branch [ then-p w ↦ rw (w.status-is, w.if-p.true) refl | else-p w ↦ rw (w.status-is, w.if-p.false) refl ] in
    piece-status a.i a.p _ told c.fill-a.ensures

pub returns-then-p-2 : goal.returns-then-p-2
returns-then-p-2 c =
    let a = c.args in
    piece-parts a.i a.p a.depth (status (goal.at.returns-then-p-2 c).After-fill-a) c.fill-b.ensures (rw c.if-p-2.true c.fill.ensures)

pub returns-else-p-2 : goal.returns-else-p-2
returns-else-p-2 c =
    let a = c.args in
    piece-parts a.i a.p a.depth (status (goal.at.returns-else-p-2 c).After-fill-a) c.fill-b.ensures (rw c.if-p-2.false (piece-within (omega arith) refl c.fill-else-p-2.ensures))
