-- Document 01, "Runs to hold it against": the runs marked (P), as one table, and runs for requests 2026-03 and 2026-05. Its statement is `table_holds ≡ true`, in proofs/Table.antt. Assumes nothing.
-- "Each run begins at a fresh start." Where the document names no values, they are 7, 9, 5 as in its example, and 0 to 15 for n = 16.
use Rattle.std.specs.Prelude.{Bool, true, false, ◌&&◌, List, [], ◌∷◌, ℕ, eqb, get_or, set, replicate, take, drop}
use Rattle.std.specs.Bool.{beq}
use Rattle.rules.specs.declared.group.Group.{Group}
use Rattle.rules.specs.declared.process.Process.{Process}
use Rattle.rules.specs.declared.step.Step.{Step}
use Rattle.rules.specs.declared.step.Step.TheVariants.{DeliverE, DeliverS, DeliverF, DeliverDecision, Suspect, Pause, Crash, Recover}
use Rattle.rules.specs.Limits.{store_length}
use Rattle.rules.specs.Tally.{bit_of}
use Rattle.rules.specs.Layout.{process_at}
use Rattle.rules.specs.Store.{Handed, place_handed, entry_handed}
use Rattle.rules.specs.Answers.{Said, says_applied, says_idle, says_refused, is_refused, total, all_sent, all_again}
use Rattle.rules.specs.Start.{started_to}
use Rattle.rules.specs.Step.{stepped}
use Rattle.rules.specs.Run.{State, state_of, start_state, after, answers, handed_by}
use Rattle.rules.specs.DepthTable.{depths_hold, depth_table}

-- ---- a run of the table

-- what is seen of a process: its line of the report
pub record Seen : Type 0 where
  pub process : ℕ
  pub up : Bool
  pub round : ℕ
  pub phase : ℕ
  pub proposer : ℕ
  pub value : ℕ
  pub decided : Bool
  pub decision : ℕ
  pub recoveries : ℕ

-- process i in round r and phase f, with the estimate (q, v): up or down with no decision, or up with the decision d, and no recovery
abbrev pub up_now : ℕ → ℕ → ℕ → ℕ → ℕ → Seen
up_now i r f q v =
    record { process = i; up = true; round = r; phase = f; proposer = q; value = v; decided = false; decision = 0; recoveries = 0 }

abbrev pub down_now : ℕ → ℕ → ℕ → ℕ → ℕ → Seen
down_now i r f q v =
    record { process = i; up = false; round = r; phase = f; proposer = q; value = v; decided = false; decision = 0; recoveries = 0 }

abbrev pub decided_now : ℕ → ℕ → ℕ → ℕ → ℕ → ℕ → Seen
decided_now i r f q v d =
    record { process = i; up = true; round = r; phase = f; proposer = q; value = v; decided = true; decision = d; recoveries = 0 }

-- with no decision, and k recoveries
abbrev pub back_now : ℕ → ℕ → ℕ → ℕ → ℕ → ℕ → Seen
back_now i r f q v k =
    record { process = i; up = true; round = r; phase = f; proposer = q; value = v; decided = false; decision = 0; recoveries = k }

abbrev pub down_again : ℕ → ℕ → ℕ → ℕ → ℕ → ℕ → Seen
down_again i r f q v k =
    record { process = i; up = false; round = r; phase = f; proposer = q; value = v; decided = false; decision = 0; recoveries = k }

-- an entry that must stand in the store, or be handed over
pub record Entry : Type 0 where
  pub place : ℕ
  pub entry : ℕ

abbrev pub entry_at : ℕ → ℕ → Entry
entry_at k e = record { place = k; entry = e }

-- what is asked of the messages that a step hands over: nothing, or that they are just these, by their entries
pub data Asked : Type 0 where
  anything : Asked
  just : List Entry → Asked

-- a step, what it must say, what it must leave a process (the one that takes it, or process 1 where there is none), and what it must hand over
pub record Line : Type 0 where
  pub step : Step
  pub says : Said
  pub leaves : Seen
  pub hands : Asked

abbrev pub line : Step → Said → Seen → Line
line s a x = record { step = s; says = a; leaves = x; hands = anything }

abbrev pub handing : List Entry → Step → Said → Seen → Line
handing es s a x = record { step = s; says = a; leaves = x; hands = just es }

-- a run: its values and its lines; then processes and entries to look at when it has ended
pub record Row : Type 0 where
  pub values : List ℕ
  pub lines : List Line
  pub processes : List Seen
  pub entries : List Entry

-- ---- that it holds

unfoldable pub same_numbers : List ℕ → List ℕ → Bool
same_numbers [] [] = true
same_numbers [] (n ∷ ns) = false
same_numbers (m ∷ ms) [] = false
same_numbers (m ∷ ms) (n ∷ ns) = eqb m n && same_numbers ms ns

-- the same is said
unfoldable pub same_said : Said → Said → Bool
same_said a b =
    beq a.applied b.applied
    && (beq a.idle b.idle
    && (eqb a.refusal b.refusal && (eqb a.sent b.sent && (eqb a.again b.again && beq a.decided b.decided))))

-- the record p is as seen
unfoldable pub looks : Process → Seen → Bool
looks p x =
    beq p.up x.up
    && (eqb p.round x.round
    && (eqb p.phase x.phase
    && (eqb p.proposer x.proposer
    && (eqb p.value x.value
    && (beq p.decided x.decided && (eqb p.decision x.decision && eqb p.recoveries x.recoveries))))))

unfoldable pub looks_in : Group → Seen → Bool
looks_in g x = looks (process_at g x.process) x

unfoldable pub all_look : Group → List Seen → Bool
all_look g [] = true
all_look g (x ∷ xs) = looks_in g x && all_look g xs

unfoldable pub all_stand : List ℕ → List Entry → Bool
all_stand l [] = true
all_stand l (e ∷ es) = eqb (get_or l e.place 0) e.entry && all_stand l es

-- the messages handed over are just those that have these entries
unfoldable pub same_handed : List Handed → List Entry → Bool
same_handed [] [] = true
same_handed [] (e ∷ es) = false
same_handed (h ∷ hs) [] = false
same_handed (h ∷ hs) (e ∷ es) =
    (eqb (place_handed h) e.place && eqb (entry_handed h) e.entry) && same_handed hs es

unfoldable pub answered : Asked → List Handed → Bool
answered anything hs = true
answered (just es) hs = same_handed hs es

-- from a on each line says, leaves and hands over what it must, and the run ends as it must
unfoldable pub goes_on : State → List Line → List Seen → List Entry → Bool
goes_on a [] xs es = all_look a.group xs && all_stand a.store es
goes_on a (x ∷ rest) xs es =
    let o = stepped a.group a.store a.depths x.step in
    same_said o.says x.says
    && (looks_in o.group x.leaves && (answered x.hands (handed_by a x.step) && goes_on (state_of o) rest xs es))

unfoldable pub holds_one : Row → Bool
holds_one r = goes_on (start_state r.values (replicate store_length 0) (replicate store_length 0)) r.lines r.processes r.entries

unfoldable pub holds_all : List Row → Bool
holds_all [] = true
holds_all (r ∷ rs) = holds_one r && holds_all rs

-- the steps of some lines
unfoldable pub steps_of : List Line → List Step
steps_of [] = []
steps_of (x ∷ rest) = x.step ∷ steps_of rest

-- these answers make the numbers of a section's line: "those applied, idle and refused, then sent and decided", with again right after sent
unfoldable pub add_up : List Said → List ℕ → Bool
add_up as' ns =
    same_numbers
    (total (λ a. bit_of a.applied) as'
    ∷ total (λ a. bit_of a.idle) as'
    ∷ total (λ a. bit_of (is_refused a)) as'
    ∷ all_sent as'
    ∷ all_again as'
    ∷ total (λ a. bit_of a.decided) as'
    ∷ [])
    ns

-- ---- the table

-- "The run above; its third measured step is refusal 6." Its first line is the WARMUP section, the four others are the MEASURED section. It ends with the three process lines of
-- the report.
-- "decisions the sender and the decided value": those of 2 and 3 stand at 3,073 and 3,074, and are 2 × 2^32 + 7 and 3 × 2^32 + 7.
unfoldable pub run_above : Row
run_above =
    record {
      values = 7 ∷ 9 ∷ 5 ∷ [];
      lines =
          line (DeliverE 1 1 0 false) (says_applied 0 0 false) (up_now 1 0 1 1 7)
          ∷ line (DeliverE 2 1 0 false) (says_applied 1 0 false) (up_now 2 0 1 1 7)
          ∷ line (DeliverE 2 2 0 false) (says_applied 1 0 true) (decided_now 2 0 1 1 7 7)
          ∷ line (DeliverE 3 2 1 false) (says_refused 6) (up_now 3 0 1 3 5)
          ∷ line (DeliverDecision 3 2 false) (says_applied 1 0 true) (decided_now 3 0 1 3 5 7)
          ∷ [];
      processes = up_now 1 0 1 1 7 ∷ decided_now 2 0 1 1 7 7 ∷ decided_now 3 0 1 3 5 7 ∷ [];
      entries = entry_at 3073 8_589_934_599 ∷ entry_at 3074 12_884_901_895 ∷ [];
    }

-- its two section lines: `WARMUP 1 applied 1 idle 0 refused 0 sent 0 again 0 decided 0` and `MEASURED 4 applied 3 idle 0 refused 1 sent 3 again 0 decided 2`
unfoldable pub sections_above : Bool
sections_above =
    let start = start_state run_above.values (replicate store_length 0) (replicate store_length 0) in
    let steps = steps_of run_above.lines in
    add_up (answers start (take 1 steps)) (1 ∷ 0 ∷ 0 ∷ 0 ∷ 0 ∷ 0 ∷ [])
    && add_up (answers (after start (take 1 steps)) (drop 1 steps)) (3 ∷ 0 ∷ 1 ∷ 3 ∷ 0 ∷ 2 ∷ [])

-- "n = 1, value 0: `E 1 1 0` decides 0."
unfoldable pub one_decides : Row
one_decides =
    record {
      values = 0 ∷ [];
      lines = line (DeliverE 1 1 0 false) (says_applied 1 0 true) (decided_now 1 0 1 1 0 0) ∷ [];
      processes = [];
      entries = [];
    }

-- "n = 1: `Q 1`, `S 1 1 0`, `F 1 1 0` enters round 1 and hands over E again."
-- The E of round 1 stands at (1×16 + 1−1)×3 + 0 = 48, and is 1 × 2^32 + 7. "phase 1, no mark": in round 1 the process can suspect again.
unfoldable pub one_enters_round1 : Row
one_enters_round1 =
    record {
      values = 7 ∷ [];
      lines =
          line (Suspect 1 false) (says_applied 1 0 false) (up_now 1 0 1 1 7)
          ∷ line (DeliverS 1 1 0 false) (says_applied 1 0 false) (up_now 1 0 2 1 7)
          ∷ handing (entry_at 48 4_294_967_303 ∷ []) (DeliverF 1 1 0 false) (says_applied 1 0 false) (up_now 1 1 1 1 7)
          ∷ line (Suspect 1 false) (says_applied 1 0 false) (up_now 1 1 1 1 7)
          ∷ [];
      processes = [];
      entries = entry_at 48 4_294_967_303 ∷ [];
    }

-- "n = 2: `E 2 1 0` then `E 2 1 0`: the second is idle, no decision."
unfoldable pub repeat_is_idle : Row
repeat_is_idle =
    record {
      values = 7 ∷ 9 ∷ [];
      lines =
          line (DeliverE 2 1 0 false) (says_applied 1 0 false) (up_now 2 0 1 1 7)
          ∷ line (DeliverE 2 1 0 false) says_idle (up_now 2 0 1 1 7)
          ∷ [];
      processes = [];
      entries = [];
    }

-- "n = 3, each from a start: `Q 2` twice: second is 7." "Suspicions have the sender as proposer and value 0":
-- the S of 2 stands at (0×16 + 2−1)×3 + 1 = 4, and is 2 × 2^32.
unfoldable pub suspect_twice : Row
suspect_twice =
    record {
      values = 7 ∷ 9 ∷ 5 ∷ [];
      lines =
          line (Suspect 2 false) (says_applied 1 0 false) (up_now 2 0 1 2 9)
          ∷ line (Suspect 2 false) (says_refused 7) (up_now 2 0 1 2 9)
          ∷ [];
      processes = [];
      entries = entry_at 4 8_589_934_592 ∷ [];
    }

-- "`C 2` twice: second is 5."
unfoldable pub crash_twice : Row
crash_twice =
    record {
      values = 7 ∷ 9 ∷ 5 ∷ [];
      lines =
          line (Crash 2) (says_applied 0 0 false) (down_now 2 0 1 2 9) ∷ line (Crash 2) (says_refused 5) (down_now 2 0 1 2 9) ∷ [];
      processes = [];
      entries = [];
    }

-- "`R 2` while up: 7."
unfoldable pub recover_while_up : Row
recover_while_up =
    record {
      values = 7 ∷ 9 ∷ 5 ∷ [];
      lines = line (Recover 2) (says_refused 7) (up_now 2 0 1 2 9) ∷ [];
      processes = [];
      entries = [];
    }

-- a run of n = 16 whose one step is refused by k
unfoldable pub refused_of_sixteen : Step → ℕ → Row
refused_of_sixteen s k =
    record {
      values = 0 ∷ 1 ∷ 2 ∷ 3 ∷ 4 ∷ 5 ∷ 6 ∷ 7 ∷ 8 ∷ 9 ∷ 10 ∷ 11 ∷ 12 ∷ 13 ∷ 14 ∷ 15 ∷ [];
      lines = line s (says_refused k) (up_now 1 0 1 1 0) ∷ [];
      processes = [];
      entries = [];
    }

-- "`E 17 1 0` with n = 16: 3."
unfoldable pub seventeenth : Row
seventeenth = refused_of_sixteen (DeliverE 17 1 0 false) 3

-- "`E 1 1 64`: 4."
unfoldable pub round64 : Row
round64 = refused_of_sixteen (DeliverE 1 1 64 false) 4

-- "`E 1 1 63` at start: 6."
unfoldable pub round63 : Row
round63 = refused_of_sixteen (DeliverE 1 1 63 false) 6

-- "Five processes, values 7 9 5 4 3: `E 1 1 0`, `E 3 1 0`, `E 4 1 0`, `E 1 3 0`, `E 1 4 0` (1 decides 7); `Q 2`, `Q 3`, `Q 5`;
-- `S 2 2 0`, `S 2 3 0`, `S 2 5 0` (2 in phase 2); `F 5 2 0`; `S 5 2 0`, `S 5 3 0`, `S 5 5 0` (idle);
-- `F 2 2 0`, `F 2 5 0`, `F 2 5 0` (last idle). Process 2 stays in round 0."
unfoldable pub five_processes : Row
five_processes =
    record {
      values = 7 ∷ 9 ∷ 5 ∷ 4 ∷ 3 ∷ [];
      lines =
          line (DeliverE 1 1 0 false) (says_applied 0 0 false) (up_now 1 0 1 1 7)
          ∷ line (DeliverE 3 1 0 false) (says_applied 1 0 false) (up_now 3 0 1 1 7)
          ∷ line (DeliverE 4 1 0 false) (says_applied 1 0 false) (up_now 4 0 1 1 7)
          ∷ line (DeliverE 1 3 0 false) (says_applied 0 0 false) (up_now 1 0 1 1 7)
          ∷ line (DeliverE 1 4 0 false) (says_applied 1 0 true) (decided_now 1 0 1 1 7 7)
          ∷ line (Suspect 2 false) (says_applied 1 0 false) (up_now 2 0 1 2 9)
          ∷ line (Suspect 3 false) (says_applied 1 0 false) (up_now 3 0 1 1 7)
          ∷ line (Suspect 5 false) (says_applied 1 0 false) (up_now 5 0 1 5 3)
          ∷ line (DeliverS 2 2 0 false) (says_applied 0 0 false) (up_now 2 0 1 2 9)
          ∷ line (DeliverS 2 3 0 false) (says_applied 0 0 false) (up_now 2 0 1 2 9)
          ∷ line (DeliverS 2 5 0 false) (says_applied 1 0 false) (up_now 2 0 2 2 9)
          ∷ line (DeliverF 5 2 0 false) (says_applied 1 0 false) (up_now 5 0 2 5 3)
          ∷ line (DeliverS 5 2 0 false) says_idle (up_now 5 0 2 5 3)
          ∷ line (DeliverS 5 3 0 false) says_idle (up_now 5 0 2 5 3)
          ∷ line (DeliverS 5 5 0 false) says_idle (up_now 5 0 2 5 3)
          ∷ line (DeliverF 2 2 0 false) (says_applied 0 0 false) (up_now 2 0 2 2 9)
          ∷ line (DeliverF 2 5 0 false) (says_applied 0 0 false) (up_now 2 0 2 2 9)
          ∷ line (DeliverF 2 5 0 false) says_idle (up_now 2 0 2 2 9)
          ∷ [];
      processes =
          decided_now 1 0 1 1 7 7 ∷ up_now 2 0 2 2 9 ∷ up_now 3 0 1 1 7 ∷ up_now 4 0 1 1 7 ∷ up_now 5 0 2 5 3 ∷ [];
      entries = [];
    }

-- "n = 3: `E 2 1 0`, `C 2`, `R 2`, `E 2 1 0`: relayed again, same entry". Request 2026-05: "Document 01's repeated relay case becomes sent 1, again 1 for its last step."
-- The E of process 2 stands at (0×16 + 2−1)×3 + 0 = 3, and is 1 × 2^32 + 7.
unfoldable pub relayed_again : Row
relayed_again =
    record {
      values = 7 ∷ 9 ∷ 5 ∷ [];
      lines =
          line (DeliverE 2 1 0 false) (says_applied 1 0 false) (up_now 2 0 1 1 7)
          ∷ line (Crash 2) (says_applied 0 0 false) (down_now 2 0 1 1 7)
          ∷ line (Recover 2) (says_applied 0 0 false) (back_now 2 0 1 1 7 1)
          ∷ handing (entry_at 3 4_294_967_303 ∷ []) (DeliverE 2 1 0 false) (says_applied 1 1 false) (back_now 2 0 1 1 7 1)
          ∷ [];
      processes = [];
      entries = entry_at 3 4_294_967_303 ∷ [];
    }

-- and cut: "no message is handed over", so that neither counts it, although its entry was sent before
unfoldable pub relay_cut : Row
relay_cut =
    record {
      values = 7 ∷ 9 ∷ 5 ∷ [];
      lines =
          line (DeliverE 2 1 0 false) (says_applied 1 0 false) (up_now 2 0 1 1 7)
          ∷ line (Crash 2) (says_applied 0 0 false) (down_now 2 0 1 1 7)
          ∷ line (Recover 2) (says_applied 0 0 false) (back_now 2 0 1 1 7 1)
          ∷ handing [] (DeliverE 2 1 0 true) (says_applied 0 0 false) (down_again 2 0 1 1 7 1)
          ∷ [];
      processes = [];
      entries = entry_at 3 4_294_967_303 ∷ [];
    }

-- the section line of the repeated relay: `4 applied 4 idle 0 refused 0 sent 2 again 1 decided 0`
unfoldable pub section_again : Bool
section_again =
    add_up (answers (start_state relayed_again.values (replicate store_length 0) (replicate store_length 0)) (steps_of relayed_again.lines))
    (4 ∷ 0 ∷ 0 ∷ 2 ∷ 1 ∷ 0 ∷ [])

-- no run does this: of n = 1 in phase 1 with its F of round 0, which stands at 2, in the store, `F 1 1 0` hands over that F, whose entry was sent before, and the E of round 1
unfoldable pub two_at_once : Bool
two_at_once =
    same_said (stepped (started_to (7 ∷ []) 1) (set (replicate store_length 0) 2 4_294_967_303) (replicate store_length 0) (DeliverF 1 1 0 false)).says (says_applied 2 1 false)

-- "Down, everything kept": after a pause and a recovery the same E is idle, and nothing is relayed
unfoldable pub pause_keeps_tallies : Row
pause_keeps_tallies =
    record {
      values = 7 ∷ 9 ∷ 5 ∷ [];
      lines =
          line (DeliverE 2 1 0 false) (says_applied 1 0 false) (up_now 2 0 1 1 7)
          ∷ line (Pause 2) (says_applied 0 0 false) (down_now 2 0 1 1 7)
          ∷ line (Recover 2) (says_applied 0 0 false) (back_now 2 0 1 1 7 1)
          ∷ handing [] (DeliverE 2 1 0 false) says_idle (back_now 2 0 1 1 7 1)
          ∷ [];
      processes = [];
      entries = [];
    }

-- Request 2026-03, "one more at each applied recover": after a pause and after a crash; a recover of the process that is up counts nothing
unfoldable pub comes_back : Row
comes_back =
    record {
      values = 7 ∷ 9 ∷ 5 ∷ [];
      lines =
          line (Pause 2) (says_applied 0 0 false) (down_now 2 0 1 2 9)
          ∷ line (Recover 2) (says_applied 0 0 false) (back_now 2 0 1 2 9 1)
          ∷ line (Recover 2) (says_refused 7) (back_now 2 0 1 2 9 1)
          ∷ line (Crash 2) (says_applied 0 0 false) (down_again 2 0 1 2 9 1)
          ∷ line (Recover 2) (says_applied 0 0 false) (back_now 2 0 1 2 9 2)
          ∷ [];
      processes = up_now 1 0 1 1 7 ∷ up_now 3 0 1 3 5 ∷ [];
      entries = [];
    }

-- and after a cut, which stores the estimate (1, 7) and hands nothing over: no E of process 2 stands at 3
unfoldable pub comes_back_from_a_cut : Row
comes_back_from_a_cut =
    record {
      values = 7 ∷ 9 ∷ 5 ∷ [];
      lines =
          line (DeliverE 2 1 0 true) (says_applied 0 0 false) (down_now 2 0 1 1 7)
          ∷ line (Recover 2) (says_applied 0 0 false) (back_now 2 0 1 1 7 1)
          ∷ [];
      processes = [];
      entries = entry_at 3 0 ∷ [];
    }

-- "(P) marks those proved together as one table with a single statement."
unfoldable pub table : List Row
table =
    run_above
    ∷ one_decides
    ∷ one_enters_round1
    ∷ repeat_is_idle
    ∷ suspect_twice
    ∷ crash_twice
    ∷ recover_while_up
    ∷ seventeenth
    ∷ round64
    ∷ round63
    ∷ five_processes
    ∷ relayed_again
    ∷ relay_cut
    ∷ pause_keeps_tallies
    ∷ comes_back
    ∷ comes_back_from_a_cut
    ∷ []

-- all of it, with the depths of the worked runs of request 2026-06
unfoldable pub table_holds : Bool
table_holds = holds_all table && (sections_above && (section_again && (two_at_once && depths_hold depth_table)))
