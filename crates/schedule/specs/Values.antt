-- Document 01, "The schedule file and the report": "VALUES, then one value a line". Assumes nothing.
use Rattle.std.specs.Prelude.{false, List, ◌++◌, ℕ}
use Rattle.text.specs.Number.{number_at, spelled}
use Rattle.text.specs.Read.{Read}
use Rattle.schedule.specs.Line.{closed, ending}

-- the line of a value
abbrev pub value_line : ℕ → List ℕ
value_line v = spelled v ++ ending false

-- the value line at a place
unfoldable pub value_at : List ℕ → ℕ → Read ℕ
value_at s at = closed s (number_at s at)
