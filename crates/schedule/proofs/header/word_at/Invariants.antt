-- The loop keeps that the word from its first byte on gives what the rest of it gives from here on. Assumes nothing.
use mathlib.Core.Path.{◌≡◌}
use lib.ListN.{drop}
use Rattle.schedule.specs.Header.{word_at}
use Rattle.schedule.proofs.header.word_at.Given as goal

abbrev pub invariant-loop-byte : goal.invariant-loop-byte
invariant-loop-byte l = word_at l.s l.at l.word ≡ word_at l.s l.place (drop l.byte-index l.word)
