-- `report::put_done` meets its contract: two sections' lines and the processes' are one piece. Assumes nothing.
use native.Mathlib.Omega.{arith}
use mathlib.Core.Path.{refl}
use Rattle.page.specs.Report.{processes_line, done_text}
use Rattle.page.proofs.PieceLaws.{piece-more, piece-within}
use Rattle.page.proofs.report.put_done.Goals as goal

pub returns : goal.returns
unfolding done_text processes_line
returns c =
    piece-within (omega (arith, c.requires)) refl
    (piece-more c.put_section-a.ensures (piece-more c.put_section-b.ensures (piece-more c.fill-c.ensures c.put_processes.ensures)))
