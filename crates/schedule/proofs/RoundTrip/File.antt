-- The round trip of files: the file of a schedule is read as that schedule; and what an accepted section holds stands there. Assumes nothing.
use mathlib.Core.Path.{◌≡◌, refl, sym, ap, ◌∙◌, subst}
use mathlib.Core.Bool.{Bool, true, false}
use mathlib.Core.List.{List, ◌++◌, append-nil}
use Prim.Native.Nat.{ℕ, ◌+◌, ◌-◌, ◌≤◌, ◌<◌}
use native.Mathlib.Omega.{arith}
use lib.Dec.{leb}
use lib.ListN.{length}
use lib.Seq.{drop-length}
use borrow.Author.Tests.{le-leb, lt-leb, leb-true, leb-false, eq-eqb}
use Rattle.std.specs.Prelude.{Result, Ok, Err}
use Rattle.text.specs.Read.{Read, bad, on_read}
use Rattle.text.proofs.ReadLaws.{got}
use Rattle.schedule.specs.declared.fault.Flaw.{Flaw}
use Rattle.schedule.proofs.Reading.InARow.{rows}
use Rattle.rules.specs.Limits.{greatest_size, among}
use Rattle.rules.specs.declared.step.Step.{Step}
use Rattle.rules.proofs.Cited.{among_in}
use Rattle.schedule.specs.Limits.{longest, most_steps}
use Rattle.text.specs.Number.{pick, most}
use Rattle.text.specs.Stands.{Stands}
use Rattle.schedule.specs.Lines.{Rows, broken_at, lines_at, lines_of}
use Rattle.schedule.specs.Line.{line_at, line_of, Holdable, Small}
use Rattle.schedule.specs.Header.{header_at, header_of, count_at, values_word, warmup_word, measured_word}
use Rattle.schedule.specs.Values.{value_at, value_line}
use Rattle.schedule.specs.Schedule.{Schedule, section_of, file_of, Fits, fault_at, too_long, on_rows, part_at, measured_from, warmup_from, values_from, read_file, Size}
use Rattle.schedule.specs.Lines.{Every}
use Rattle.schedule.specs.declared.fault.Fault.{Fault}
use Rattle.text.proofs.StandsLaws.{stands-join, stands-first, stands-rest}
use Rattle.schedule.proofs.RoundTrip.StepLine.{line-spelled}
use Rattle.schedule.proofs.RoundTrip.Found.{line_read}
use Rattle.schedule.proofs.RoundTrip.ValueLine.{value-spelled, value_read}
use Rattle.schedule.proofs.RoundTrip.Header.{header-spelled, header_read}
use Rattle.schedule.proofs.RoundTrip.Rows.{lines-spelled, lines-read}

-- ---- a whole file stands from its start to its end

whole-stands : (s : List ℕ) → Stands s 0 (length s) s
whole-stands s = record { here = sym (append-nil s) ∙ ap (λ (t : List ℕ). s ++ t) (sym (drop-length s)); end = omega arith }

stands-whole : (s l : List ℕ) → Stands s 0 (length s) l → s ≡ l
stands-whole s l p = p.here ∙ ap (λ (t : List ℕ). l ++ t) (drop-length s) ∙ append-nil l

-- ---- sections

-- a section that is read stands
module _ {A : Type 0} (s : List ℕ) (at : ℕ) (w : List ℕ) (f : ℕ → Read A) (P : A → Type 0) (g : A → List ℕ)
    (read : (i m : ℕ) (x : A) → f i ≡ got x m → P x × Stands s i m (g x)) where
  pub section-read : (k a m : ℕ) (xs : List A) → header_at s at w ≡ got k a → lines_at f k 0 a ≡ rows xs m
      → (length xs ≡ k) × Every P xs × Stands s at m (section_of w g xs)
  section-read k a m xs e h =
      let r = lines-read s f g P read xs k 0 a m h in
      let c : k ≡ length xs = sym r.0 in
      (r.0, r.1, stands-join s at a m (header_of w (length xs)) (lines_of g xs) (header_read s at w a (length xs) (e ∙ ap (λ (i : ℕ). got i a) c)).1 r.2)

-- an accepted section of steps
pub record PartRead (s : List ℕ) (at : ℕ) (w : List ℕ) (left : ℕ) (ss : List Step) (m : ℕ) : Type 0 where
  pub start : ℕ
  pub header : header_at s at w ≡ got (length ss) start
  pub are : lines_at (line_at s) (length ss) 0 start ≡ rows ss m
  pub few : length ss ≤ left
  pub holds : Every Holdable ss
  pub stands : Stands s at m (section_of w line_of ss)

module _ (s : List ℕ) (at : ℕ) (w : List ℕ) (line left : ℕ) where
  pub part-got : (ss : List Step) (k a m : ℕ) → header_at s at w ≡ got k a → k ≤ left → lines_at (line_at s) k 0 a ≡ rows ss m → part_at s at w line left ≡ Ok (ss, m)
  unfolding part_at
  part-got ss k a m e h f = rw (e, le-leb k left h, f)

  -- a section that stands is read
  pub part-spelled : (ss : List Step) (m : ℕ) → length ss ≤ left → length ss ≤ most → Every Holdable ss → Stands s at m (section_of w line_of ss) → part_at s at w line left ≡ Ok (ss, m)
  part-spelled ss m h g q p =
      let k : ℕ = length ss in
      let a : ℕ = at + length (header_of w k) in
      part-got ss k a m (header-spelled s at w a k g (stands-first s at m (header_of w k) (lines_of line_of ss) p)) h
      (lines-spelled s (line_at s) line_of Holdable (line-spelled s) ss k 0 a m refl q (stands-rest s at m (header_of w k) (lines_of line_of ss) p))

  -- one that is not read: its first line breaks the form, or has too great a count, or another line breaks the form
  pub data PartFault (f : Fault) : Type 0 where
    no_header : (p : ℕ) → header_at s at w ≡ bad p → f ≡ fault_at Flaw.Form line at p → PartFault f
    too_many : (k a : ℕ) → header_at s at w ≡ got k a → left < k → f ≡ fault_at Flaw.Size line at (count_at at w) → PartFault f
    bad-line : (k a i from p : ℕ) → header_at s at w ≡ got k a → k ≤ left → lines_at (line_at s) k 0 a ≡ broken_at i from p → f ≡ fault_at Flaw.Form (line + 1 + i) from p → PartFault f

  abbrev pub PartSound : Result (List Step × ℕ) Fault → Type 0
  PartSound (Err f) = PartFault f
  PartSound (Ok (ss, m)) = PartRead s at w left ss m

  part-made : (k a : ℕ) (ss : List Step) (m : ℕ) → header_at s at w ≡ got k a → k ≤ left → lines_at (line_at s) k 0 a ≡ rows ss m → PartRead s at w left ss m
  part-made k a ss m e h f =
      let r = section-read s at w (line_at s) Holdable line_of (line_read s) k a m ss e f in
      let c : k ≡ length ss = sym r.0 in
      record {
        start = a;
        header = e ∙ ap (λ (n : ℕ). got n a) c;
        are = ap (λ (n : ℕ). lines_at (line_at s) n 0 a) r.0 ∙ f;
        few = subst (λ (n : ℕ). n ≤ left) c h;
        holds = r.1;
        stands = r.2;
      }

  part-lines : (k a : ℕ) → header_at s at w ≡ got k a → k ≤ left → (r : Rows Step) → lines_at (line_at s) k 0 a ≡ r → PartSound (on_rows (line + 1) r (λ xs m. Ok (xs, m)))
  part-lines k a e h (Err broke) f = bad-line k a broke.index broke.from broke.place e h f refl
  part-lines k a e h (Ok (ss, m)) f = part-made k a ss m e h f

  part_limit : (k a : ℕ) → header_at s at w ≡ got k a → (x : Bool) → leb k left ≡ x
      → PartSound (pick x (on_rows (line + 1) (lines_at (line_at s) k 0 a) (λ xs m. Ok (xs, m))) (Err (fault_at Flaw.Size line at (count_at at w))))
  part_limit k a e false h = too_many k a e (leb-false k left h) refl
  part_limit k a e true h = part-lines k a e (leb-true k left h) (lines_at (line_at s) k 0 a) refl

  part-header : (r : Read ℕ) → header_at s at w ≡ r → PartSound (on_read r (λ p. Err (fault_at Flaw.Form line at p))
      (λ k a. pick (leb k left) (on_rows (line + 1) (lines_at (line_at s) k 0 a) (λ xs m. Ok (xs, m))) (Err (fault_at Flaw.Size line at (count_at at w)))))
  part-header (Err p) e = no_header p.place e refl
  part-header (Ok (k, a)) e = part_limit k a e (leb k left) refl

  pub part_sound : PartSound (part_at s at w line left)
  unfolding part_at
  part_sound = part-header (header_at s at w) refl

  pub part-read : (ss : List Step) (m : ℕ) → part_at s at w line left ≡ Ok (ss, m) → PartRead s at w left ss m
  part-read ss m e = subst PartSound e part_sound

-- ---- what is spelled is read

pub read-got : (s : List ℕ) → length s ≤ longest → read_file s ≡ values_from s
unfolding read_file
read-got s h = rw (le-leb (length s) longest h)

pub read-long : (s : List ℕ) → longest < length s → read_file s ≡ Err too_long
unfolding read_file
read-long s h = rw (lt-leb (length s) longest h)

pub values-got : (s vs : List ℕ) (n a m : ℕ) → header_at s 0 values_word ≡ got n a → among greatest_size n ≡ true → lines_at (value_at s) n 0 a ≡ rows vs m → values_from s ≡ warmup_from s vs m
unfolding values_from
values-got s vs n a m e h f = rw (e, h, f)

pub warmup-got : (s vs : List ℕ) (at m : ℕ) (ws : List Step) → part_at s at warmup_word (length vs + 2) most_steps ≡ Ok (ws, m) → warmup_from s vs at ≡ measured_from s vs ws m
unfolding warmup_from
warmup-got s vs at m ws e = rw e

pub measured-got : (s vs : List ℕ) (ws ms : List Step) (at m : ℕ) → part_at s at measured_word (length vs + length ws + 3) (most_steps - length ws) ≡ Ok (ms, m) → m ≡ length s
    → measured_from s vs ws at ≡ Ok (record { values = vs; warmup = ws; measured = ms })
unfolding measured_from
measured-got s vs ws ms at m e h = rw (e, eq-eqb m (length s) h)

-- the file of a schedule is read as that schedule
pub file-spelled : (h : Schedule) → Fits h → read_file (file_of h) ≡ Ok h
file-spelled h f =
    let s : List ℕ = file_of h in
    let n : ℕ = length h.values in
    let first : List ℕ = section_of values_word value_line h.values in
    let second : List ℕ = section_of warmup_word line_of h.warmup in
    let third : List ℕ = section_of measured_word line_of h.measured in
    let whole : Stands s 0 (length s) (first ++ (second ++ third)) = whole-stands s in
    let a : ℕ = 0 + length (header_of values_word n) in
    let b : ℕ = 0 + length first in
    let c : ℕ = b + length second in
    let opening : Stands s 0 b first = stands-first s 0 (length s) first (second ++ third) whole in
    let rest : Stands s b (length s) (second ++ third) = stands-rest s 0 (length s) first (second ++ third) whole in
    let low = f.size.0 in
    let high = f.size.1 in
    let steps = f.steps in
    read-got s f.short
    ∙ values-got s h.values n a b (header-spelled s 0 values_word a n (omega arith) (stands-first s 0 b (header_of values_word n) (lines_of value_line h.values) opening))
    (among_in greatest_size n low high)
    (lines-spelled s (value_at s) value_line Small (value-spelled s) h.values n 0 a b refl f.small
    (stands-rest s 0 b (header_of values_word n) (lines_of value_line h.values) opening))
    ∙ warmup-got s h.values b c h.warmup
    (part-spelled s b warmup_word (n + 2) most_steps h.warmup c (omega arith) (omega arith) f.warmup (stands-first s b (length s) second third rest))
    ∙ measured-got s h.values h.warmup h.measured c (length s)
    (part-spelled s c measured_word (n + length h.warmup + 3) (most_steps - length h.warmup) h.measured (length s) (omega arith) (omega arith) f.measured
    (stands-rest s b (length s) second third rest)) refl

-- ---- what is read is spelled

-- an accepted opening: its values stand up to a place
pub record Opened (s vs : List ℕ) (at : ℕ) : Type 0 where
  pub size : Size (length vs)
  pub small : Every Small vs
  pub stands : Stands s 0 at (section_of values_word value_line vs)

pub opened : (s : List ℕ) (n a : ℕ) (vs : List ℕ) (m : ℕ) → header_at s 0 values_word ≡ got n a → Size n → lines_at (value_at s) n 0 a ≡ rows vs m → Opened s vs m
opened s n a vs m e h f =
    let r = section-read s 0 values_word (value_at s) Small value_line (value_read s) n a m vs e f in
    record {
      size = subst Size (sym r.0) h;
      small = r.1;
      stands = r.2;
    }
