-- Document 01, "Steps": what a process record does with each event, as stages on the record. Assumes nothing.
-- "A process record takes one event and gives back the next record, with the messages it hands over." This is the struct `Next`; at most two messages are handed over.
--
-- The repairs to the printed figure: 1, an F of a higher round sends i to phase 2 after the jump (`on_f`); 2, tallies are sets of senders (`Tally`); 3, a suspicion in
-- phase 2 is idle (`Idle.idle_s`); 4, adoption and the majority tests apply to first receptions too (`on_e`, `on_f`); 5, a decision has no round (`Message`).
use Rattle.std.specs.Prelude.{Bool, true, false, ◌&&◌, not, ℕ, ◌+◌, eqb, ltb, Option, Some, None}
use Rattle.rules.specs.declared.process.Process.{Process}
use Rattle.rules.specs.declared.process.Next.{Next}
use Rattle.rules.specs.declared.process.Message.{Message}
use Rattle.rules.specs.declared.process.Message.TheVariants.{E, S, F, Decision}
use Rattle.rules.specs.Limits.{coordinator}
use Rattle.rules.specs.Records.{process_with}
use Rattle.rules.specs.Tally.{joined, meets}

-- ---- records with some fields replaced

-- p with the estimate (q, v)
unfoldable pub takes : ℕ → ℕ → Process → Process
takes q v p =
    process_with p.first p.round p.phase q v p.marked p.decided p.decision p.recoveries p.up p.estimates p.suspicions

-- p in round r: "phase 1, no mark, empty tallies"
unfoldable pub enters : ℕ → Process → Process
enters r p =
    process_with p.first r 1 p.proposer p.value false p.decided p.decision p.recoveries p.up 0 0

-- j in the tally of estimates heard
unfoldable pub joins_estimates : ℕ → Process → Process
joins_estimates j p =
    process_with p.first p.round p.phase p.proposer p.value p.marked p.decided p.decision p.recoveries p.up (joined p.estimates j) p.suspicions

-- j in the tally of suspicions heard
unfoldable pub joins_suspicions : ℕ → Process → Process
joins_suspicions j p =
    process_with p.first p.round p.phase p.proposer p.value p.marked p.decided p.decision p.recoveries p.up p.estimates (joined p.suspicions j)

-- p decided v
unfoldable pub decides : ℕ → Process → Process
decides v p =
    process_with p.first p.round p.phase p.proposer p.value p.marked true v p.recoveries p.up p.estimates p.suspicions

-- p in phase 2, "its estimate tally is emptied"
unfoldable pub second_phase : Process → Process
second_phase p =
    process_with p.first p.round 2 p.proposer p.value p.marked p.decided p.decision p.recoveries p.up 0 p.suspicions

-- p with the suspicion mark
unfoldable pub marks : Process → Process
marks p =
    process_with p.first p.round p.phase p.proposer p.value true p.decided p.decision p.recoveries p.up p.estimates p.suspicions

-- "Down, everything kept: the null steps of document 002."
unfoldable pub paused : Process → Process
paused p =
    process_with p.first p.round p.phase p.proposer p.value p.marked p.decided p.decision p.recoveries false p.estimates p.suspicions

-- "Down, both tallies emptied. This loss, and the cut, are ours and not document 002's."
unfoldable pub crashed : Process → Process
crashed p =
    process_with p.first p.round p.phase p.proposer p.value p.marked p.decided p.decision p.recoveries false 0 0

-- "Up, nothing else" but, by request 2026-03, one recovery more: "one more at each applied recover"
unfoldable pub recovered : Process → Process
recovered p =
    process_with p.first p.round p.phase p.proposer p.value p.marked p.decided p.decision (p.recoveries + 1) true p.estimates p.suspicions

-- ---- stages

-- p, with nothing handed over
unfoldable pub quiet : Process → Next
quiet p = record { process = p; first = None; second = None }

-- a change of the record after which the same is handed over
unfoldable pub changed : (Process → Process) → Next → Next
changed f x = record { process = f x.process; first = x.first; second = x.second }

-- "*Higher round (E or F):* i takes the message's round, phase 1, no mark, empty tallies and the carried estimate, then goes on as below."
unfoldable pub jumps_if : Bool → ℕ → ℕ → ℕ → Process → Process
jumps_if true r q v p = takes q v (enters r p)
jumps_if false r q v p = p

unfoldable pub jumps : ℕ → ℕ → ℕ → Process → Process
jumps r q v p = jumps_if (ltb p.round r) r q v p

-- "*E:* if the tally is empty and i is not the coordinator, i takes the carried estimate and hands over its E with it."
unfoldable pub relays_if : Bool → ℕ → ℕ → Process → Next
relays_if true q v p = record { process = takes q v p; first = Some (E p.round q v); second = None }
relays_if false q v p = quiet p

unfoldable pub relays : ℕ → ℕ → ℕ → ℕ → Process → Next
relays n i q v p = relays_if (eqb p.estimates 0 && not (eqb i (coordinator p.round n))) q v p

-- "At a majority i decides its estimate's value and hands over its decision."
unfoldable pub decides_if : Bool → Next → Next
decides_if true x =
    record { process = decides x.process.value x.process; first = x.first; second = Some (Decision x.process.value) }
decides_if false x = x

unfoldable pub decides_at : ℕ → Next → Next
decides_at n x = decides_if (meets x.process.estimates n) x

-- "i goes to phase 2, its estimate tally is emptied, and it hands over F with its estimate"
unfoldable pub goes_to_phase2 : Process → Next
goes_to_phase2 p = record { process = second_phase p; first = Some (F p.round p.proposer p.value); second = None }

-- where the test holds
unfoldable pub goes_to_phase2_if : Bool → Process → Next
goes_to_phase2_if true p = goes_to_phase2 p
goes_to_phase2_if false p = quiet p

-- "if i is in phase 1"
unfoldable pub to_phase2 : Process → Next
to_phase2 p = goes_to_phase2_if (eqb p.phase 1) p

-- "Then, if the carried proposer is the coordinator, i takes the carried estimate."
unfoldable pub adopts_if : Bool → ℕ → ℕ → Next → Next
adopts_if true q v x = changed (takes q v) x
adopts_if false q v x = x

unfoldable pub adopts : ℕ → ℕ → ℕ → Next → Next
adopts n q v x = adopts_if (eqb q (coordinator x.process.round n)) q v x

-- "At a majority i enters the next round: proposer set to i, value kept, phase 1, no mark, empty tallies; if i coordinates the new round it hands over E."
unfoldable pub opens_if : Bool → ℕ → ℕ → ℕ → Option Message
opens_if true i r v = Some (E r i v)
opens_if false i r v = None

unfoldable pub opens : ℕ → ℕ → ℕ → ℕ → Option Message
opens n i r v = opens_if (eqb i (coordinator r n)) i r v

unfoldable pub enters_next_if : Bool → ℕ → ℕ → Next → Next
enters_next_if true n i x =
    record {
      process = enters (x.process.round + 1) (takes i x.process.value x.process);
      first = x.first;
      second = opens n i (x.process.round + 1) x.process.value;
    }
enters_next_if false n i x = x

unfoldable pub enters_next_at : ℕ → ℕ → Next → Next
enters_next_at n i x = enters_next_if (meets x.process.estimates n) n i x

-- ---- events: process i of n, a message of round r from j that carries the estimate (q, v)

-- "*E:* .. Then j joins the tally."
unfoldable pub on_e : ℕ → ℕ → ℕ → ℕ → ℕ → ℕ → Process → Next
on_e n i j r q v p = decides_at n (changed (joins_estimates j) (relays n i q v (jumps r q v p)))

-- "*S:* j joins. At a majority i goes to phase 2"
unfoldable pub on_s : ℕ → ℕ → Process → Next
on_s n j p = goes_to_phase2_if (meets (joins_suspicions j p).suspicions n) (joins_suspicions j p)

-- "*F:* if i is in phase 1, it goes to phase 2, empties its estimate tally and hands over F with the estimate it has **before** the next sentence
-- (after a jump, the one just taken). .. Then j joins."
unfoldable pub on_f : ℕ → ℕ → ℕ → ℕ → ℕ → ℕ → Process → Next
on_f n i j r q v p = enters_next_at n i (changed (joins_estimates j) (adopts n q v (to_phase2 (jumps r q v p))))

-- "*Decision:* i decides that value and hands over its own."
unfoldable pub on_decision : ℕ → Process → Next
on_decision v p = record { process = decides v p; first = Some (Decision v); second = None }

-- "**Suspect (i).** .. Sets the mark, hands over S."
unfoldable pub on_suspect : Process → Next
on_suspect p = record { process = marks p; first = Some (S p.round); second = None }

-- "**Pause (i).**"
unfoldable pub on_pause : Process → Next
on_pause p = quiet (paused p)

-- "**Crash (i).**"
unfoldable pub on_crash : Process → Next
on_crash p = quiet (crashed p)

-- "**Recover (i).**"
unfoldable pub on_recover : Process → Next
on_recover p = quiet (recovered p)

-- "**Cut.** .. the record is stored, no message is handed over, then i crashes."
unfoldable pub cut_if : Bool → Next → Next
cut_if true x = on_crash x.process
cut_if false x = x
