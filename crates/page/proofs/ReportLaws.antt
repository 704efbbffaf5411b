-- The laws of the report: one process line more, a run's group has at most 16 processes, and how the report of a run splits. Assumes nothing.
use Prim.Native.Nat.{ℕ, zero, suc, ◌-◌, ◌*◌, ◌≤◌}
use mathlib.Core.Path.{◌≡◌, sym, ap, ap₂, ◌∙◌}
use mathlib.Core.List.{List, [], ◌∷◌, ◌++◌}
use native.Mathlib.Omega.{arith}
use lib.ListN.{length, drop}
use Rattle.std.specs.Prelude.{Bool, true, false, Result, Ok, Err}
use Rattle.text.specs.Number.{pick}
use Rattle.rules.specs.Limits.{greatest_size}
use Rattle.rules.specs.Look.{record_of, depth_of}
use Rattle.rules.specs.Start.{started}
use Rattle.rules.specs.Run.{State, start_state, next, after}
use Rattle.rules.specs.declared.group.Group.{Group}
use Rattle.rules.specs.declared.process.Process.{Process}
use Rattle.rules.specs.declared.step.Step.{Step}
use Rattle.rules.proofs.Cited.{deep-step-size, deep-starting}
use Rattle.text.specs.Put.{Wrote}
use Rattle.text.proofs.PutLaws.{wrote-length, wrote-same, wrote-first}
use Rattle.schedule.specs.Schedule.{Reading, read_file}
use Rattle.schedule.specs.Run.{RanOver, ran_over, run_by, run_of, has_run, begins, between}
use Rattle.schedule.specs.declared.fault.Fault.{Fault}
use Rattle.schedule.specs.declared.run.Ran.{Ran}
use Rattle.page.specs.Filled.{filled}
use Rattle.page.specs.Private.{longest_of, longest_status, longest_estimate, longest_end, longest_line}
use Rattle.page.specs.Report.{up_text, down_text, fault_line, status_part, estimate_part, end_part, process_line, line_of_process, process_lines, done_text, report_of, Reports}
use Rattle.page.specs.Private.{Piece}
use Rattle.page.proofs.PieceLaws.{piece-more, piece-within}

-- ---- process lines, one after the other

-- the number with `up` or `down`
status-chosen : {l m : List ℕ} {at a : ℕ} (i : ℕ) (u : Bool) (t : List ℕ) → t ≡ pick u up_text down_text
    → Piece (longest_of (length t) 1) l at (filled t (i ∷ [])) m a → Piece longest_status l at (pick u (filled up_text (i ∷ [])) (filled down_text (i ∷ []))) m a
status-chosen i true t e x = piece-within (omega (arith, ap length e)) (ap (λ (s : List ℕ). filled s (i ∷ [])) e) x
status-chosen i false t e x = piece-within (omega (arith, ap length e)) (ap (λ (s : List ℕ). filled s (i ∷ [])) e) x

pub piece-status : {l m : List ℕ} {at a : ℕ} (i : ℕ) (p : Process) (t : List ℕ) → t ≡ pick p.up up_text down_text
    → Piece (longest_of (length t) 1) l at (filled t (i ∷ [])) m a → Piece longest_status l at (status_part i p) m a
piece-status i p t e x = status-chosen i p.up t e x

-- the parts of a line
pub piece-parts : {l m m' m'' : List ℕ} {at a b next : ℕ} (i : ℕ) (p : Process) (k : ℕ)
    → Piece longest_status l at (status_part i p) m a → Piece longest_estimate m a (estimate_part p) m' b → Piece longest_end m' b (end_part p k) m'' next
    → Piece longest_line l at (process_line i p k) m'' next
unfolding process_line
piece-parts i p k x y z = piece-more x (piece-more y z)

lines_more : (g : Group) (i : ℕ) {p : Process} {k : ℕ} → 1 ≤ i → p ≡ record_of g i → k ≡ depth_of g i → process_lines g (i - 1) ++ process_line i p k ≡ process_lines g i
unfolding process_lines line_of_process
lines_more g zero h e d = absurd (omega arith)
lines_more g (suc i) h e d =
    let before : suc i - 1 ≡ i = omega arith in
    ap₂ (λ (p : Process) (k : ℕ). process_lines g (suc i - 1) ++ process_line (suc i) p k) e d
    ∙ ap (λ (j : ℕ). process_lines g j ++ line_of_process g (suc i)) before

-- the line of process i behind those before it
pub piece-line : {l m m' : List ℕ} {at next next' n : ℕ} (g : Group) (i : ℕ) {p : Process} {k : ℕ} → 1 ≤ i → i ≡ n → p ≡ record_of g i → k ≡ depth_of g i
    → Piece ((i - 1) * longest_line) l at (process_lines g (i - 1)) m next → Piece longest_line m next (process_line i p k) m' next'
    → Piece (n * longest_line) l at (process_lines g n) m' next'
piece-line g i h same e d x y = piece-within (omega arith) (lines_more g i h e d ∙ ap (process_lines g) same) (piece-more x y)

-- ---- a run's group

-- steps keep the size
after_small : (a : State) (ss : List Step) → a.group.n ≤ greatest_size → (after a ss).group.n ≤ greatest_size
unfolding after next
after_small a [] h = h
after_small a (s ∷ ss) h = after_small (next a s) ss (omega (arith, deep-step-size a.group a.store a.depths s))

abbrev size_of : Result Ran Fault → ℕ
size_of (Err f) = 0
size_of (Ok r) = r.group.n

pub ran-size : (s l d : List ℕ) → size_of (run_of s l d).ran ≤ 16
unfolding run_of run_by has_run start_state started
ran-size s l d = go (read_file s)
  where
    go : (r : Reading) → size_of (run_by r l d).ran ≤ 16
    go (Err f) = omega arith
    go (Ok h) = after_small (between h l d) h.measured (after_small (begins h l d) h.warmup (deep-starting h.values l d).size)

-- ---- the report of what was run

module _ (s l d : List ℕ) {l' d' : List ℕ} {r : Result Ran Fault} (runs : ran_over r l' d' ≡ run_of s l d) where
  pub runs-size : {q : Ran} → r ≡ Ok q → q.group.n ≤ 16
  runs-size g = omega (arith, ap size_of g, ap (λ (o : RanOver). size_of o.ran) runs, ran-size s l d)

  reported : {out out' : List ℕ} {k : ℕ} → Wrote out 0 (report_of r) out' k → Reports s l d out l' d' out' k
  reported w = record { bytes = wrote-same (ap (λ (o : RanOver). report_of o.ran) runs) w; store = ap (λ (o : RanOver). o.store) runs; depths = ap (λ (o : RanOver). o.depths) runs }

  -- a faulty file's one line
  pub report-bad : {out out' : List ℕ} {k : ℕ} {f : Fault} → r ≡ Err f → Wrote out 0 (fault_line f) out' k → Reports s l d out l' d' out' k
  unfolding report_of
  report-bad g w = reported (wrote-same (sym (ap report_of g)) w)

  -- and a sound one's lines
  pub report-done : {out out' : List ℕ} {k : ℕ} {q : Ran} → r ≡ Ok q → Wrote out 0 (done_text q) out' k → Reports s l d out l' d' out' k
  unfolding report_of
  report-done g w = reported (wrote-same (sym (ap report_of g)) w)

-- what the contract says of the lent array: the report, and behind it what lay there
pub report-whole : (s l d : List ℕ) {l' d' out out' : List ℕ} {k : ℕ} → Reports s l d out l' d' out' k → out' ≡ report_of (run_of s l d).ran ++ drop k out
report-whole s l d h = wrote-first h.bytes

-- and that the report lies within it
pub report-within : {s l d l' d' out out' : List ℕ} {k : ℕ} → Reports s l d out l' d' out' k → k ≤ length out'
report-within h = omega (arith, h.bytes.room, h.bytes.end, wrote-length h.bytes)
