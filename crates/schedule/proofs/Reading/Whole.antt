-- The laws of reading a whole file: a section's first line, the value lines, the step lines, the two sections of steps and the whole. Assumes nothing.
use mathlib.Core.Path.{◌≡◌, refl, sym, ap, ap₂, ◌∙◌, subst}
use mathlib.Core.Bool.{Bool, true, false}
use mathlib.Core.List.{List, [], ◌∷◌, ◌++◌, append-nil, append_assoc}
use mathlib.Core.Logic.{◌≢◌}
use native.Mathlib.Omega.{arith}
use native.Mathlib.Numerals.{add-one}
use Prim.Native.Nat.{ℕ, ◌+◌, ◌-◌, ◌≤◌, ◌<◌}
use lib.ListN.{length, take, set, length-set}
use lib.Seq.{take-suc-set, length-take-le}
use borrow.Author.Tests.{ne_eqb, le-leb, lt-leb}
use Rattle.std.specs.Prelude.{Result, Ok, Err}
use Rattle.text.specs.Read.{Read, bad, on_read}
use Rattle.text.proofs.ReadLaws.{got}
use Rattle.schedule.specs.declared.fault.Flaw.{Flaw}
use Rattle.rules.specs.Limits.{greatest_size, among}
use Rattle.rules.specs.declared.step.Step.{Step}
use Rattle.rules.proofs.Cited.{among-true}
use Rattle.schedule.specs.Limits.{longest, most_steps}
use Rattle.text.specs.Number.{number_at}
use Rattle.schedule.specs.Lines.{Rows, broken_at, before, lines_at}
use Rattle.schedule.specs.Line.{closed, line_of, line_at}
use Rattle.schedule.specs.Header.{word_at, alone_at, header_at, count_at, values_word, warmup_word, measured_word}
use Rattle.schedule.specs.Values.{value_at}
use Rattle.schedule.specs.Schedule.{section_of, fault_at, line_fault, part_at, measured_from, warmup_from, values_from, read_file}
use Rattle.schedule.specs.Private.{read_to, rows_end, values_of, values_read, heading_at, PartGood, PartIs, OpeningGood, ValuesAre, StepsAre, FormIs}
use Rattle.text.specs.declared.number.Broken.{Broken}
use Rattle.schedule.specs.declared.fault.BrokenLine.{BrokenLine}
use Rattle.schedule.specs.declared.part.Part.{Part}
use Rattle.schedule.specs.declared.fault.Fault.{Fault}
use Rattle.schedule.specs.declared.file.Opening.{Opening}
use Rattle.schedule.specs.declared.file.Places.{Places}
use Rattle.schedule.proofs.Reading.InARow.{rows, one_less, end-broken, end_more, end_none, found, faulted, lines_long, broken-below}
use Rattle.schedule.proofs.RoundTrip.File.{part-got, part-read, read-got, values-got, warmup-got, measured-got, opened}
use Rattle.text.proofs.StandsLaws.{stands-high}
use Rattle.schedule.proofs.Reading.Bounds.{header-within, header-high, count-high, steps-within, values-within}

-- ---- a section's first line

module _ (s : List ℕ) (at : ℕ) (w : List ℕ) {r : Result ℕ Broken} (e : r ≡ word_at s at w) where
  pub header-missing : {b : Broken} → r ≡ Err b → Err b ≡ header_at s at w
  unfolding header_at
  header-missing g = rw (sym e, g)

  pub header-past : {n : ℕ} {k : Read ℕ} → r ≡ Ok n → k ≡ alone_at s n → k ≡ header_at s at w
  unfolding header_at
  header-past {n} {k} g a = a ∙ rw (sym e, g)

abbrev head_got : ℕ → ℕ → Result (ℕ × ℕ) Fault
head_got x m = Ok (x, m)

abbrev fault_in : {A : Type 0} → Fault → Result A Fault → Fault
fault_in z (Err f) = f
fault_in z (Ok x) = z

abbrev is_fault : {A : Type 0} → Result A Fault → ℕ
is_fault (Err f) = 0
is_fault (Ok x) = 1

abbrev as_read : Result (ℕ × ℕ) Fault → Read ℕ
as_read (Err f) = bad 0
as_read (Ok x) = Ok x

-- as a line of the file it is read, or has a fault
module _ (s : List ℕ) (at : ℕ) (w : List ℕ) (line : ℕ) where
  pub headed : {k a : ℕ} → heading_at s at w line ≡ Ok (k, a) → header_at s at w ≡ Ok (k, a)
  unfolding heading_at
  headed {k} {a} = go (header_at s at w)
    where
      go : (r : Read ℕ) → on_read r (λ p. Err (fault_at Flaw.Form line at p)) head_got ≡ head_got k a → r ≡ got k a
      go (Err b) e = let z : ◌≡◌ {A = ℕ} 0 1 = ap is_fault e in absurd (omega arith)
      go (Ok (x, m)) e = ap as_read e

  pub unheaded : {B : Type 0} {f : Fault} → heading_at s at w line ≡ Err f → (g : ℕ → ℕ → Result B Fault)
      → on_read (header_at s at w) (λ p. Err (fault_at Flaw.Form line at p)) g ≡ Err f
  unfolding heading_at
  unheaded {B} {f} e g = go (header_at s at w) e
    where
      go : (r : Read ℕ) → on_read r (λ p. Err (fault_at Flaw.Form line at p)) head_got ≡ Err f
          → on_read r (λ p. Err (fault_at Flaw.Form line at p)) g ≡ Err f
      go (Err b) q = ap Err (ap (fault_in f) q)
      go (Ok (x, m)) q = let z : ◌≡◌ {A = ℕ} 1 0 = ap is_fault q in absurd (omega arith)

  pub heading-read : {r : Read ℕ} {x m : ℕ} → r ≡ header_at s at w → r ≡ Ok (x, m) → Ok (x, m) ≡ heading_at s at w line
  unfolding heading_at
  heading-read e g = rw (sym e, g)

  pub heading-broken : {r : Read ℕ} {b : Broken} {f : Fault} → r ≡ header_at s at w → r ≡ Err b → f ≡ fault_at Flaw.Form line at b.place → Err f ≡ heading_at s at w line
  unfolding heading_at
  heading-broken e g is = rw (sym e, g, is)

-- ---- a value line

pub value-closed : (s : List ℕ) (at : ℕ) {r k : Read ℕ} → r ≡ number_at s at → k ≡ closed s r → k ≡ value_at s at
unfolding value_at
value-closed s at e f = f ∙ ap (closed s) e

-- ---- value lines, read one by one into an array

-- xs in front of what the other lines hold
unfoldable pub prepended : {A : Type 0} → List A → Rows A → Rows A
prepended xs (Err broken) = Err broken
prepended xs (Ok (ys, m)) = Ok (xs ++ ys, m)

prepended-none : {A : Type 0} (r : Rows A) → r ≡ prepended [] r
unfolding prepended
prepended-none (Err broken) = refl
prepended-none (Ok (ys, m)) = refl

prepended-before : {A : Type 0} (xs : List A) (x : A) (r : Rows A) → prepended xs (before x r) ≡ prepended (xs ++ (x ∷ [])) r
unfolding prepended before
prepended-before xs x (Err broken) = refl
prepended-before xs x (Ok (ys, m)) = ap (λ (l : List _). rows l m) (sym (append_assoc xs (x ∷ []) ys))

-- i of n values are read into the array; the other lines begin at place
pub record Filling (s : List ℕ) (at n : ℕ) (values : List ℕ) (i place : ℕ) : Type 0 where
  pub low : i ≤ n
  pub few : n ≤ 16
  pub long : length values ≡ 16
  pub is : lines_at (value_at s) n 0 at ≡ prepended (take i values) (lines_at (value_at s) (n - i) i place)

pub filling-none : {s : List ℕ} {at n : ℕ} {values : List ℕ} → n ≤ 16 → length values ≡ 16 → Filling s at n values 0 at
filling-none {s} {at} {n} {values} h l =
    record { low = omega arith; few = h; long = l; is = prepended-none (lines_at (value_at s) n 0 at) ∙ ap (λ (k : ℕ). prepended [] (lines_at (value_at s) k 0 at)) (omega arith) }

module _ {s : List ℕ} {at n : ℕ} {values : List ℕ} {i place : ℕ} (h : Filling s at n values i place) where
  module _ {r : Read ℕ} (less : i < n) (e : r ≡ value_at s place) where
    lines-here : (k : Read ℕ) → value_at s place ≡ k
        → lines_at (value_at s) (n - i) i place ≡ on_read k (broken_at i place) (λ x m. before x (lines_at (value_at s) (n - (i + 1)) (i + 1) m))
    unfolding lines_at
    lines-here k f =
        ap (λ (j : ℕ). lines_at (value_at s) j i place) (one_less n i less)
        ∙ ap (λ (j : Read ℕ). on_read j (broken_at i place) (λ x m. before x (lines_at (value_at s) (n - (i + 1)) (i + 1) m))) f

    -- a faulty line
    pub filling-broken : {b : Broken} → r ≡ Err b → lines_at (value_at s) n 0 at ≡ values_read n (broken_at i place b.place)
    unfolding prepended values_read
    filling-broken {b} g = h.is ∙ ap (prepended (take i values)) (lines-here (Err b) (sym e ∙ g))

    -- one more value
    pub filling-on : {v next : ℕ} → r ≡ got v next → Filling s at n (set values i v) (i + 1) next
    filling-on {v} {next} g =
        let rest : Rows ℕ = lines_at (value_at s) (n - (i + 1)) (i + 1) next in
        let has : take (i + 1) (set values i v) ≡ take i values ++ (v ∷ []) =
        ap (λ (k : ℕ). take k (set values i v)) (add-one i) ∙ take-suc-set values i v (omega (arith, h.few, h.long)) in
        record {
          low = omega arith;
          few = h.few;
          long = length-set values i v ∙ h.long;
          is = h.is ∙ ap (prepended (take i values)) (lines-here (got v next) (sym e ∙ g))
              ∙ prepended-before (take i values) v rest ∙ ap (λ (l : List ℕ). prepended l rest) (sym has);
        }

  -- all values are read
  pub filling-done : n ≤ i → lines_at (value_at s) n 0 at ≡ values_read n (rows values place)
  unfolding prepended values_read lines_at
  filling-done d =
      let q : i ≡ n = omega (arith, h.low) in
      let none : n - i ≡ 0 = omega arith in
      h.is ∙ ap (λ (k : ℕ). prepended (take i values) (lines_at (value_at s) k i place)) none
      ∙ ap (λ (l : List ℕ). rows l place) (append-nil (take i values) ∙ ap (λ (k : ℕ). take k values) q)

-- ---- step lines, checked one by one

-- i of count lines keep the form; the others begin at place
pub record Checking (s : List ℕ) (at count i place : ℕ) : Type 0 where
  pub low : i ≤ count
  pub is : rows_end (lines_at (line_at s) count 0 at) ≡ rows_end (lines_at (line_at s) (count - i) i place)

pub checking-none : (s : List ℕ) (at count : ℕ) → Checking s at count 0 at
checking-none s at count = record { low = omega arith; is = ap (λ (k : ℕ). rows_end (lines_at (line_at s) k 0 at)) (omega arith) }

module _ {s : List ℕ} {at count i place : ℕ} (h : Checking s at count i place) where
  -- a reader of the file reads a line
  module _ {t : List ℕ} (r : Result Step Broken) (m : ℕ) (same : t ≡ s) (less : i < count) (read : line_at t place ≡ read_to r m) where
    line-here : line_at s place ≡ read_to r m
    line-here = subst (λ (l : List ℕ). line_at l place ≡ read_to r m) same read

    -- a faulty one
    pub checking-broken : {b : Broken} → r ≡ Err b → broken_at i place b.place ≡ rows_end (lines_at (line_at s) count 0 at)
    unfolding read_to
    checking-broken {b} z = let told : read_to r m ≡ bad b.place = rw z in sym (h.is ∙ end-broken (line_at s) count i place less (line-here ∙ told))

    -- one more
    pub checking-on : {st : Step} → r ≡ Ok st → Checking s at count (i + 1) m
    unfolding read_to
    checking-on {st} z =
        let told : read_to r m ≡ got st m = rw z in
        record { low = omega arith; is = h.is ∙ end_more (line_at s) count i place less (line-here ∙ told) }

  -- all lines are checked
  pub checking-done : count ≤ i → Ok place ≡ rows_end (lines_at (line_at s) count 0 at)
  checking-done d = sym (h.is ∙ end_none (line_at s) (count - i) i place (omega arith))

-- ---- a section of steps

module _ (s : List ℕ) (at : ℕ) (w : List ℕ) (line left : ℕ) {r : Result (ℕ × ℕ) Fault} (e : r ≡ heading_at s at w line) where
  pub part_none : {f : Fault} → r ≡ Err f → PartIs s at w line left (Err f)
  unfolding PartIs part_at
  part_none g = unheaded s at w line (sym e ∙ g) _

  module _ {k a : ℕ} (g : r ≡ Ok (k, a)) where
    read-head : header_at s at w ≡ Ok (k, a)
    read-head = headed s at w line (sym e ∙ g)

    pub part-many : {f : Fault} → left < k → f ≡ fault_at Flaw.Size line at (count_at at w) → PartIs s at w line left (Err f)
    unfolding PartIs part_at
    part-many h is = rw (read-head, lt-leb k left h, is)

    module _ {c : Result ℕ BrokenLine} (h : k ≤ left) (q : c ≡ rows_end (lines_at (line_at s) k 0 a)) where
      pub part-broken : {b : BrokenLine} {f : Fault} → c ≡ Err b → f ≡ line_fault (line + 1) b → PartIs s at w line left (Err f)
      unfolding PartIs part_at
      part-broken {b} x is = rw (read-head, le-leb k left h, faulted (lines_at (line_at s) k 0 a) b (sym q ∙ x), is)

      pub part-good : {m : ℕ} → c ≡ Ok m → PartIs s at w line left (Ok (record { count = k; start = a; end = m }))
      unfolding PartIs
      part-good {m} x =
          let d = found (lines_at (line_at s) k 0 a) m (sym q ∙ x) in
          record {
            steps = d.things;
            are = record { are = d.is; long = lines_long (line_at s) k 0 a d.things m d.is };
            few = h;
            is = part-got s at w line left d.things k a m read-head h d.is;
          }

-- the fault of a section is within its line
module _ (s : List ℕ) (at : ℕ) (w : List ℕ) (high : at ≤ length s) (short : length s ≤ longest) where
  pub part-place : {r : Read ℕ} {b : Broken} → r ≡ header_at s at w → r ≡ Err b → (at ≤ b.place) × (b.place ≤ longest)
  part-place e g = let h = header-within s at w high (sym e ∙ g) in (h.0, omega (arith, h.1))

  module _ (line : ℕ) {r : Result (ℕ × ℕ) Fault} (e : r ≡ heading_at s at w line) {k a : ℕ} (g : r ≡ Ok (k, a)) where
    pub part_count : count_at at w ≤ longest
    part_count = omega (arith, count-high s at w high (headed s at w line (sym e ∙ g)))

    pub part-stop : {c : Result ℕ BrokenLine} {b : BrokenLine} → c ≡ rows_end (lines_at (line_at s) k 0 a) → c ≡ Err b → (b.index < k) × (b.from ≤ b.place) × (b.place ≤ longest)
    part-stop {c} {b} q x =
        let f = faulted (lines_at (line_at s) k 0 a) b (sym q ∙ x) in
        let h = steps-within s k 0 a b.index b.from b.place f (header-high s at w high (headed s at w line (sym e ∙ g))) in
        (omega (arith, broken-below (line_at s) k 0 a b.index b.from b.place f), omega (arith, h.0), omega (arith, h.1))

-- ---- the two sections of steps

warmup-fault : (s vs : List ℕ) (at : ℕ) (f : Fault) → part_at s at warmup_word (length vs + 2) most_steps ≡ Err f → warmup_from s vs at ≡ Err f
unfolding warmup_from
warmup-fault s vs at f e = rw e

measured-fault : (s vs : List ℕ) (ws : List Step) (at : ℕ) (f : Fault) → part_at s at measured_word (length vs + length ws + 3) (most_steps - length ws) ≡ Err f
    → measured_from s vs ws at ≡ Err f
unfolding measured_from
measured-fault s vs ws at f e = rw e

measured-more : (s vs : List ℕ) (ws ms : List Step) (at m : ℕ) → part_at s at measured_word (length vs + length ws + 3) (most_steps - length ws) ≡ Ok (ms, m) → m ≢ length s
    → measured_from s vs ws at ≡ Err (fault_at Flaw.Form (length vs + length ws + length ms + 4) m m)
unfolding measured_from
measured-more s vs ws ms at m e h = rw (e, ne_eqb m (length s) h)

-- a section that is read ends within the file
part-high : (s : List ℕ) (at : ℕ) (w : List ℕ) (line left k a m : ℕ) → PartGood s at w line left k a m → at ≤ length s → m ≤ length s
part-high s at w line left k a m g h = stands-high s at m (section_of w line_of g.steps) (part-read s at w line left g.steps m g.is).stands h

module _ (s : List ℕ) (n at : ℕ) {r : Result Part Fault} (e : PartIs s at warmup_word (n + 2) most_steps r) where
  pub sections-none : {f : Fault} → r ≡ Err f → StepsAre s n at (Err f)
  unfolding PartIs StepsAre
  sections-none {f} g =
      let h = subst (PartIs s at warmup_word (n + 2) most_steps) g e in
      λ vs l. warmup-fault s vs at f (ap (λ (j : ℕ). part_at s at warmup_word (j + 2) most_steps) l ∙ h)

  module _ {p : Part} (g : r ≡ Ok p) where
    warmup-part : PartGood s at warmup_word (n + 2) most_steps p.count p.start p.end
    unfolding PartIs
    warmup-part = subst (PartIs s at warmup_word (n + 2) most_steps) g e

    pub warmup-high : at ≤ length s → p.end ≤ length s
    warmup-high h = part-high s at warmup_word (n + 2) most_steps p.count p.start p.end warmup-part h

    pub warmup-few : p.count ≤ most_steps
    warmup-few = warmup-part.few

    to-measured : (vs : List ℕ) → length vs ≡ n → warmup_from s vs at ≡ measured_from s vs warmup-part.steps p.end
    to-measured vs l = warmup-got s vs at p.end warmup-part.steps (ap (λ (j : ℕ). part_at s at warmup_word (j + 2) most_steps) l ∙ warmup-part.is)

    same-part : (vs : List ℕ) → length vs ≡ n
        → part_at s p.end measured_word (length vs + length warmup-part.steps + 3) (most_steps - length warmup-part.steps) ≡ part_at s p.end measured_word (n + p.count + 3) (most_steps - p.count)
    same-part vs l = ap₂ (λ (i j : ℕ). part_at s p.end measured_word (i + j + 3) (most_steps - j)) l warmup-part.are.long

    module _ {o : Result Part Fault} (d : PartIs s p.end measured_word (n + p.count + 3) (most_steps - p.count) o) where
      pub sections-half : {f : Fault} → o ≡ Err f → StepsAre s n at (Err f)
      unfolding PartIs StepsAre
      sections-half {f} k =
          let h = subst (PartIs s p.end measured_word (n + p.count + 3) (most_steps - p.count)) k d in
          λ vs l. to-measured vs l ∙ measured-fault s vs warmup-part.steps p.end f (same-part vs l ∙ h)

      module _ {q : Part} (k : o ≡ Ok q) where
        measured-part : PartGood s p.end measured_word (n + p.count + 3) (most_steps - p.count) q.count q.start q.end
        unfolding PartIs
        measured-part = subst (PartIs s p.end measured_word (n + p.count + 3) (most_steps - p.count)) k d

        pub measured-high : at ≤ length s → q.end ≤ length s
        measured-high h = part-high s p.end measured_word (n + p.count + 3) (most_steps - p.count) q.count q.start q.end measured-part (warmup-high h)

        pub measured-few : p.count + q.count ≤ most_steps
        measured-few = omega (arith, warmup-few, measured-part.few)

        same_line : (vs : List ℕ) → length vs ≡ n → length vs + length warmup-part.steps + length measured-part.steps + 4 ≡ n + p.count + q.count + 4
        same_line vs l = omega (arith, l, warmup-part.are.long, measured-part.are.long)

        -- a line follows the last step
        pub sections-more : {f : Fault} → q.end ≢ length s → f ≡ fault_at Flaw.Form (n + p.count + q.count + 4) q.end q.end → StepsAre s n at (Err f)
        unfolding StepsAre
        sections-more {f} h is = λ vs l.
            to-measured vs l
            ∙ measured-more s vs warmup-part.steps measured-part.steps p.end q.end (same-part vs l ∙ measured-part.is) h
            ∙ ap (λ (i : ℕ). Err (fault_at Flaw.Form i q.end q.end)) (same_line vs l) ∙ ap Err (sym is)

        pub sections-good : q.end ≡ length s → StepsAre s n at (Ok (record { warmup = p.count; start = p.start; measured = q.count; middle = q.start }))
        unfolding StepsAre
        sections-good h =
            record {
              warmup = warmup-part.steps;
              measured = measured-part.steps;
              warmup-end = p.end;
              measured-end = q.end;
              warmup-are = warmup-part.are;
              measured-are = measured-part.are;
              few = measured-few;
              is = λ vs l. to-measured vs l ∙ measured-got s vs warmup-part.steps measured-part.steps p.end q.end (same-part vs l ∙ measured-part.is) h;
            }

-- ---- the opening

pub size_few : (n : ℕ) {b : Bool} → b ≡ among greatest_size n → b ≡ true → n ≤ greatest_size
size_few n e f = (among-true greatest_size n (sym e ∙ f)).1

module _ (s : List ℕ) {r : Result (ℕ × ℕ) Fault} (e : r ≡ heading_at s 0 values_word 1) where
  pub opening-none : {f : Fault} → r ≡ Err f → ValuesAre s (Err f)
  unfolding ValuesAre values_from
  opening-none g = unheaded s 0 values_word 1 (sym e ∙ g) _

  module _ {n a : ℕ} (g : r ≡ Ok (n, a)) where
    first-head : header_at s 0 values_word ≡ Ok (n, a)
    first-head = headed s 0 values_word 1 (sym e ∙ g)

    -- not 1 to 16 values
    pub opening-size : {b : Bool} {f : Fault} → b ≡ among greatest_size n → b ≡ false → f ≡ fault_at Flaw.Values 1 0 (count_at 0 values_word) → ValuesAre s (Err f)
    unfolding ValuesAre values_from
    opening-size h z is = rw (first-head, sym h ∙ z, is)

    module _ {b : Bool} (sized : b ≡ among greatest_size n) (fits : b ≡ true) where
      size : among greatest_size n ≡ true
      size = sym sized ∙ fits

      module _ {v : Result (List ℕ × ℕ) BrokenLine} (are : lines_at (value_at s) n 0 a ≡ values_read n v) where
        broken-read : {c : BrokenLine} → v ≡ Err c → lines_at (value_at s) n 0 a ≡ Err c
        unfolding values_read
        broken-read q = are ∙ rw q

        -- a faulty line
        pub opening-stop : {c : BrokenLine} → length s ≤ longest → v ≡ Err c → (c.index < n) × (c.from ≤ c.place) × (c.place ≤ longest)
        opening-stop {c} short q =
            let w = values-within s n 0 a c.index c.from c.place (broken-read q) (header-high s 0 values_word (omega arith) first-head) in
            (omega (arith, broken-below (value_at s) n 0 a c.index c.from c.place (broken-read q)), omega (arith, w.0), omega (arith, w.1))

        pub opening-broken : {c : BrokenLine} {f : Fault} → v ≡ Err c → f ≡ line_fault 2 c → ValuesAre s (Err f)
        unfolding ValuesAre values_from
        opening-broken q is = rw (first-head, size, broken-read q, is)

        pub opening-good : (o : Opening) → o.values.n ≡ n → v ≡ Ok (o.values.all, o.at) → ValuesAre s (Ok o)
        unfolding ValuesAre values_read
        opening-good o z q =
            let vs = values_of o.values in
            let m = o.at in
            let all : lines_at (value_at s) n 0 a ≡ rows vs m = are ∙ rw (q, z) in
            let range = among-true greatest_size n size in
            let up = opened s n a vs m first-head range all in
            record {
              low = omega (arith, range.0, z);
              within = stands-high s 0 m _ up.stands (omega arith);
              is = values-got s vs n a m first-head size all;
            }

-- ---- the whole file

module _ (s : List ℕ) (short : length s ≤ longest) {r : Result Opening Fault} (e : ValuesAre s r) where
  pub form-opening : {f : Fault} → r ≡ Err f → FormIs s (Err f)
  unfolding ValuesAre FormIs
  form-opening g = read-got s short ∙ subst (ValuesAre s) g e

  module _ {o : Opening} (g : r ≡ Ok o) where
    opening : OpeningGood s o.values o.at
    unfolding ValuesAre
    opening = subst (ValuesAre s) g e

    pub opening-within : o.at ≤ length s
    opening-within = opening.within

    to-warmup : read_file s ≡ warmup_from s (values_of o.values) o.at
    to-warmup = read-got s short ∙ opening.is

    values-long : length o.values.all ≡ 16 → length (values_of o.values) ≡ o.values.n
    values-long long = length-take-le o.values.n o.values.all (omega (arith, o.values.few, long))

    module _ (long : length o.values.all ≡ 16) {q : Result Places Fault} (d : StepsAre s o.values.n o.at q) where
      pub form-sections : {f : Fault} → q ≡ Err f → FormIs s (Err f)
      unfolding StepsAre FormIs
      form-sections k = let h = subst (StepsAre s o.values.n o.at) k d in to-warmup ∙ h (values_of o.values) (values-long long)

      pub form-good : {p : Places} → q ≡ Ok p → FormIs s (Ok (record { values = o.values; places = p }))
      unfolding StepsAre FormIs
      form-good k =
          let h = subst (StepsAre s o.values.n o.at) k d in
          record {
            warmup = h.warmup;
            measured = h.measured;
            warmup-end = h.warmup-end;
            measured-end = h.measured-end;
            low = opening.low;
            warmup-are = h.warmup-are;
            measured-are = h.measured-are;
            few = h.few;
            is = to-warmup ∙ h.is (values_of o.values) (values-long long);
          }
