-- `report::put_section` meets its contract: the word and the counts behind it are one piece. Assumes nothing.
use native.Mathlib.Omega.{arith}
use Rattle.page.specs.Private.{longest_of, longest_word}
use Rattle.page.specs.Report.{section_line}
use Rattle.page.proofs.PieceLaws.{piece-put, piece-more, room-behind}
use Rattle.page.proofs.report.put_section.Goals as goal

pub fill-requires : goal.fill-requires
fill-requires c =
    room-behind (longest_of 55 7) (piece-put longest_word c.requires.0 (omega arith) c.put_bytes-next.ensures) (omega arith)

pub returns : goal.returns
unfolding section_line
returns c =
    piece-more (piece-put longest_word c.requires.0 (omega arith) c.put_bytes-next.ensures) c.fill.ensures
