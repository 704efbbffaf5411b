-- Document 01, "Records and the message store": start. Assumes nothing.
use Rattle.std.specs.Prelude.{false, true, List, ℕ, zero, suc, length, get_or, Some}
use Rattle.rules.specs.declared.group.Group.{Group}
use Rattle.rules.specs.declared.process.Process.{Process}
use Rattle.rules.specs.declared.process.Message.{Message}
use Rattle.rules.specs.declared.process.Message.TheVariants.{E}
use Rattle.rules.specs.Limits.{store_length}
use Rattle.rules.specs.Layout.{with_process, blank_group}
use Rattle.rules.specs.Records.{process_with}
use Rattle.rules.specs.Store.{cleared, hand_over}
use Rattle.rules.specs.Answers.{Outcome, outcome, refused, says_applied}
use Rattle.rules.specs.Depths.{dated}
use Rattle.rules.specs.Refusals.{start_refusal}

-- "process i has first value v_i, round 0, phase 1, estimate (i, v_i), no mark, no decision, up, empty tallies", and no recovery
unfoldable pub fresh : ℕ → ℕ → Process
fresh i v = process_with v 0 1 i v false false 0 0 true 0 0

-- the first k processes of the values vs started, every other record blank
unfoldable pub started_to : List ℕ → ℕ → Group
started_to vs zero = blank_group (length vs)
started_to vs (suc k) = with_process (started_to vs k) (suc k) (fresh (suc k) (get_or vs k 0))

-- "process 1's E of round 0", with its first value v
abbrev pub first_message : ℕ → Message
first_message v = E 0 1 v

-- "The store is cleared and process 1's E of round 0 is handed over."
unfoldable pub opened : ℕ → List ℕ → List ℕ
opened v l = hand_over 1 (Some (first_message v)) (cleared store_length l)

-- Request 2026-06, "cleared by start": the second store, and that E has the depth 0
unfoldable pub opened_depths : ℕ → List ℕ → List ℕ → List ℕ
opened_depths v l d = dated 1 (Some (first_message v)) 0 (cleared store_length l) (cleared store_length d)

-- not refused: applied, with that one message handed over. Refused: "a group of size 0"
unfoldable pub unless_refused_start : ℕ → List ℕ → List ℕ → List ℕ → Outcome
unless_refused_start zero vs l d =
    outcome (started_to vs (length vs)) (opened (get_or vs 0 0) l) (opened_depths (get_or vs 0 0) l d) (says_applied 1 0 false)
unless_refused_start (suc k) vs l d = refused (blank_group 0) l d (suc k)

unfoldable pub started : List ℕ → List ℕ → List ℕ → Outcome
started vs l d = unless_refused_start (start_refusal vs l d) vs l d
