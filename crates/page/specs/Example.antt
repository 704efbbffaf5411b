-- Document 01, "Input and the report program's whole output": the example, byte for byte, with the fields that requests 2026-03 and 2026-06 add to process lines, and 2026-05 to section lines.
-- Its statement is `example_report ≡ example_output`, in proofs/Example.antt. Assumes nothing.
use Rattle.std.specs.Prelude.{List, [], ◌∷◌, ℕ, replicate}
use Rattle.rules.specs.Limits.{store_length}
use Rattle.schedule.specs.Run.{run_of}
use Rattle.page.specs.Report.{report_of}

unfoldable pub example_input : List ℕ
example_input =
    -- VALUES 3
    86 ∷ 65 ∷ 76 ∷ 85 ∷ 69 ∷ 83 ∷ 32 ∷ 51 ∷ 10
    -- 7
    ∷ 55 ∷ 10
    -- 9
    ∷ 57 ∷ 10
    -- 5
    ∷ 53 ∷ 10
    -- WARMUP 1
    ∷ 87 ∷ 65 ∷ 82 ∷ 77 ∷ 85 ∷ 80 ∷ 32 ∷ 49 ∷ 10
    -- E 1 1 0
    ∷ 69 ∷ 32 ∷ 49 ∷ 32 ∷ 49 ∷ 32 ∷ 48 ∷ 10
    -- MEASURED 4
    ∷ 77 ∷ 69 ∷ 65 ∷ 83 ∷ 85 ∷ 82 ∷ 69 ∷ 68 ∷ 32 ∷ 52 ∷ 10
    -- E 2 1 0
    ∷ 69 ∷ 32 ∷ 50 ∷ 32 ∷ 49 ∷ 32 ∷ 48 ∷ 10
    -- E 2 2 0
    ∷ 69 ∷ 32 ∷ 50 ∷ 32 ∷ 50 ∷ 32 ∷ 48 ∷ 10
    -- E 3 2 1
    ∷ 69 ∷ 32 ∷ 51 ∷ 32 ∷ 50 ∷ 32 ∷ 49 ∷ 10
    -- Z 3 2
    ∷ 90 ∷ 32 ∷ 51 ∷ 32 ∷ 50 ∷ 10
    ∷ []

unfoldable pub example_output : List ℕ
example_output =
    -- WARMUP 1 applied 1 idle 0 refused 0 sent 0 again 0 decided 0
    87 ∷ 65 ∷ 82 ∷ 77 ∷ 85 ∷ 80 ∷ 32 ∷ 49 ∷ 32 ∷ 97 ∷ 112 ∷ 112 ∷ 108 ∷ 105 ∷ 101 ∷ 100 ∷ 32 ∷ 49 ∷ 32 ∷ 105 ∷ 100 ∷ 108 ∷ 101 ∷ 32 ∷ 48 ∷ 32 ∷ 114 ∷ 101 ∷ 102 ∷ 117 ∷ 115 ∷ 101 ∷ 100 ∷ 32 ∷ 48 ∷ 32 ∷ 115 ∷ 101 ∷ 110 ∷ 116 ∷ 32 ∷ 48 ∷ 32 ∷ 97 ∷ 103 ∷ 97 ∷ 105 ∷ 110 ∷ 32 ∷ 48 ∷ 32 ∷ 100 ∷ 101 ∷ 99 ∷ 105 ∷ 100 ∷ 101 ∷ 100 ∷ 32 ∷ 48 ∷ 10
    -- MEASURED 4 applied 3 idle 0 refused 1 sent 3 again 0 decided 2
    ∷ 77 ∷ 69 ∷ 65 ∷ 83 ∷ 85 ∷ 82 ∷ 69 ∷ 68 ∷ 32 ∷ 52 ∷ 32 ∷ 97 ∷ 112 ∷ 112 ∷ 108 ∷ 105 ∷ 101 ∷ 100 ∷ 32 ∷ 51 ∷ 32 ∷ 105 ∷ 100 ∷ 108 ∷ 101 ∷ 32 ∷ 48 ∷ 32 ∷ 114 ∷ 101 ∷ 102 ∷ 117 ∷ 115 ∷ 101 ∷ 100 ∷ 32 ∷ 49 ∷ 32 ∷ 115 ∷ 101 ∷ 110 ∷ 116 ∷ 32 ∷ 51 ∷ 32 ∷ 97 ∷ 103 ∷ 97 ∷ 105 ∷ 110 ∷ 32 ∷ 48 ∷ 32 ∷ 100 ∷ 101 ∷ 99 ∷ 105 ∷ 100 ∷ 101 ∷ 100 ∷ 32 ∷ 50 ∷ 10
    -- PROCESSES 3
    ∷ 80 ∷ 82 ∷ 79 ∷ 67 ∷ 69 ∷ 83 ∷ 83 ∷ 69 ∷ 83 ∷ 32 ∷ 51 ∷ 10
    -- 1 up 0 1 1 7 - 0 -
    ∷ 49 ∷ 32 ∷ 117 ∷ 112 ∷ 32 ∷ 48 ∷ 32 ∷ 49 ∷ 32 ∷ 49 ∷ 32 ∷ 55 ∷ 32 ∷ 45 ∷ 32 ∷ 48 ∷ 32 ∷ 45 ∷ 10
    -- 2 up 0 1 1 7 7 0 2
    ∷ 50 ∷ 32 ∷ 117 ∷ 112 ∷ 32 ∷ 48 ∷ 32 ∷ 49 ∷ 32 ∷ 49 ∷ 32 ∷ 55 ∷ 32 ∷ 55 ∷ 32 ∷ 48 ∷ 32 ∷ 50 ∷ 10
    -- 3 up 0 1 3 5 7 0 3
    ∷ 51 ∷ 32 ∷ 117 ∷ 112 ∷ 32 ∷ 48 ∷ 32 ∷ 49 ∷ 32 ∷ 51 ∷ 32 ∷ 53 ∷ 32 ∷ 55 ∷ 32 ∷ 48 ∷ 32 ∷ 51 ∷ 10
    ∷ []

-- what the definitions make of the input
unfoldable pub example_report : List ℕ
example_report = report_of (run_of example_input (replicate store_length 0) (replicate store_length 0)).ran
