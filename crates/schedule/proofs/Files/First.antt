-- A faulty file is refused for its first fault: the lines before it keep the form and the rules, and it does not. An accepted file is the file of what was read. Assumes nothing.
use mathlib.Core.Path.{◌≡◌, refl, sym, ap, ◌∙◌, subst}
use mathlib.Core.Bool.{Bool, true, false}
use mathlib.Core.List.{List, [], ◌++◌, append-nil, append_assoc}
use mathlib.Core.Logic.{◌⊎◌, inl, inr}
use Prim.Native.Nat.{ℕ, suc, ◌+◌, ◌-◌, ◌≤◌, ◌<◌}
use native.Mathlib.Omega.{arith}
use native.Mathlib.Decide.{dec_lt}
use lib.Dec.{eqb}
use lib.ListN.{length, get_or, drop}
use lib.Seq.{drop-cons, drop-length}
use borrow.Author.Tests.{eqb-true, eqb-false}
use Rattle.std.specs.Prelude.{Result, Ok, Err}
use Rattle.text.specs.Read.{Read, on_read}
use Rattle.text.proofs.ReadLaws.{got}
use Rattle.schedule.specs.declared.fault.Flaw.{Flaw}
use Rattle.rules.specs.Limits.{greatest_size, among}
use Rattle.rules.specs.declared.step.Step.{Step}
use Rattle.rules.proofs.Cited.{among-true, among_in}
use Rattle.text.specs.Number.{pick}
use Rattle.text.specs.Stands.{Stands}
use Rattle.text.proofs.StandsLaws.{stands-none, stands-join, stands-high}
use Rattle.schedule.specs.Limits.{longest, most_steps}
use Rattle.schedule.specs.Lines.{Every, Rows, lines_at, lines_of}
use Rattle.schedule.specs.Line.{line_at, line_of, Holdable, Small}
use Rattle.schedule.specs.Header.{header_at, header_of, count_at, values_word, warmup_word, measured_word}
use Rattle.schedule.specs.Values.{value_at, value_line}
use Rattle.schedule.specs.Schedule.{Schedule, section_of, file_of, Fits, Reading, fault_at, on_rows, on_part, part_at, measured_from, warmup_from, values_from, read_file, Size}
use Rattle.schedule.specs.Files.{at_values, at_value, at_warmup, at_warmup_step, at_measured, at_measured_step, at_end, bytes_before, ValuesKept, WarmupKept}
use Rattle.schedule.specs.Files.{line_feeds, FirstFault}
use Rattle.schedule.specs.declared.fault.Fault.{Fault}
use Rattle.schedule.proofs.RoundTrip.Found.{line_read}
use Rattle.schedule.proofs.RoundTrip.ValueLine.{value_read}
use Rattle.schedule.proofs.RoundTrip.File.{PartRead, PartFault, no_header, too_many, bad-line, PartSound, part_sound, opened, read-got, read-long}
use Rattle.schedule.proofs.Stops.Breaks.{line-breaks, value-breaks, header-breaks}
use Rattle.schedule.proofs.Files.LineFeeds.{value-feeds, line-feeds, values-word, warmup-word, measured-word, first-line, after-values, after-warmup, after-measured}
use Rattle.schedule.proofs.Files.Sections.{HeadFault, RowFault, head-breaks, head-wrong, row-breaks}

-- ---- the place of a fault, by the section that has it

module _ (s : List ℕ) (f : Fault) where
  values-head : HeadFault s [] values_word Flaw.Values (λ n. Size n → ⊥) f → FirstFault s f
  values-head h = record { at = at_values; rest = h.rest; kept = tt; is = h.is; line = h.line; fault = h.fault }

  values-row : RowFault s [] values_word Size Small value_line f → FirstFault s f
  values-row h = record {
    at = at_value h.count h.things;
    rest = h.rest;
    kept = (h.allowed, h.few, h.hold);
    is = h.is;
    line = h.line;
    fault = h.fault;
  }

  module _ (vs : List ℕ) (v : ValuesKept vs) where
    warmup-head : HeadFault s (bytes_before (at_warmup vs)) warmup_word Flaw.Size (λ k. most_steps < k) f → FirstFault s f
    warmup-head h = record { at = at_warmup vs; rest = h.rest; kept = v; is = h.is; line = h.line; fault = h.fault }

    warmup-row : RowFault s (bytes_before (at_warmup vs)) warmup_word (λ k. k ≤ most_steps) Holdable line_of f → FirstFault s f
    warmup-row h = record {
      at = at_warmup_step vs h.count h.things;
      rest = h.rest;
      kept = (v, h.allowed, h.few, h.hold);
      is = h.is;
      line = h.line;
      fault = h.fault;
    }

    module _ (ws : List Step) (w : WarmupKept ws) where
      measured-head : HeadFault s (bytes_before (at_measured vs ws)) measured_word Flaw.Size (λ k. most_steps < length ws + k) f → FirstFault s f
      measured-head h = record { at = at_measured vs ws; rest = h.rest; kept = (v, w); is = h.is; line = h.line; fault = h.fault }

      measured-row : RowFault s (bytes_before (at_measured vs ws)) measured_word (λ k. length ws + k ≤ most_steps) Holdable line_of f → FirstFault s f
      measured-row h =
          let rows : List ℕ = header_of measured_word h.count ++ lines_of line_of h.things in
          let same = append_assoc (section_of values_word value_line vs) (section_of warmup_word line_of ws) rows in
          record {
            at = at_measured_step vs ws h.count h.things;
            rest = h.rest;
            kept = (v, w, h.allowed, h.few, h.hold);
            is = h.is ∙ ap (λ (l : List ℕ). l ++ h.rest) same;
            line = h.line ∙ ap (λ (l : List ℕ). line_feeds l + 1) same;
            fault = h.fault;
          }

-- bytes after the last step
end-surplus : (s vs : List ℕ) → ValuesKept vs → (ws : List Step) → WarmupKept ws → (ms : List Step) → length ws + length ms ≤ most_steps → Every Holdable ms
    → (e : ℕ) → Stands s 0 e (bytes_before (at_measured vs ws) ++ section_of measured_word line_of ms) → (e ≡ length s → ⊥)
    → FirstFault s (fault_at Flaw.Form (length vs + length ws + length ms + 4) e e)
end-surplus s vs v ws w ms few hold e p h =
    let rows : List ℕ = section_of measured_word line_of ms in
    let same = append_assoc (section_of values_word value_line vs) (section_of warmup_word line_of ws) rows in
    let inside : e < length s = omega (arith, stands-high s 0 e (bytes_before (at_measured vs ws) ++ rows) p (omega arith)) in
    let one : e - e + 1 ≡ 1 = omega arith in
    record {
      at = at_end vs ws ms;
      rest = drop e s;
      kept = (v, w, few, hold);
      is = p.here ∙ ap (λ (l : List ℕ). l ++ drop e s) same;
      line = after-measured vs ws ms ∙ ap (λ (l : List ℕ). line_feeds l + 1) same;
      fault = ((refl, refl), record { byte = get_or s e 0; more = drop (suc e) s; is = drop-cons s e 0 inside; place = one });
    }

-- a count that is refused is none of 1 to 16
not-among : (n : ℕ) → among greatest_size n ≡ false → Size n → ⊥
not-among n e h =
    let z : true ≡ false = sym (among_in greatest_size n h.0 h.1) ∙ e in
    let u : ◌≡◌ {A = ℕ} 0 1 = cc in omega arith

-- ---- a file, as it is read

is_sound : Reading → ℕ
is_sound (Ok h) = 1
is_sound (Err f) = 0

not_sound : {f : Fault} {h : Schedule} → ◌≡◌ {A = Reading} (Err f) (Ok h) → ⊥
unfolding is_sound
not_sound e = let u : ◌≡◌ {A = ℕ} 0 1 = ap is_sound e in absurd (omega arith)

-- a section of steps that is not read, behind the bytes before it
module _ (s : List ℕ) (at : ℕ) (before w : List ℕ) (b : Stands s 0 at before) (line : ℕ) (n : line ≡ line_feeds before + 1) (z : line_feeds w ≡ 0) (left : ℕ)
    (Allowed Wrong : ℕ → Type 0) (may : (k : ℕ) → k ≤ left → Allowed k) (may-not : (k : ℕ) → left < k → Wrong k) where
  part-first : (f : Fault) → PartFault s at w line left f → HeadFault s before w Flaw.Size Wrong f ⊎ RowFault s before w Allowed Holdable line_of f
  part-first f (no_header p e q) = inl (subst (HeadFault s before w Flaw.Size Wrong) (sym q) (head-breaks s at before w b line n Flaw.Size Wrong p (λ h. header-breaks s at w p h e)))
  part-first f (too_many k a e h q) = inl (subst (HeadFault s before w Flaw.Size Wrong) (sym q) (head-wrong s at before w b line n Flaw.Size Wrong k a e (may-not k h)))
  part-first f (bad-line k a i from p e h t q) =
      inr (subst (RowFault s before w Allowed Holdable line_of) (sym q)
      (row-breaks s at before w b line n (line_at s) Holdable line_of (line_read s) Allowed line-feeds z (line-breaks s) k a i from p e (may k h) t))

-- what is true of a file that is read so
abbrev FileSound : List ℕ → Reading → Type 0
FileSound s (Err f) = FirstFault s f
FileSound s (Ok h) = (s ≡ file_of h) × Fits h

stands-whole : (s l : List ℕ) → Stands s 0 (length s) l → s ≡ l
stands-whole s l p = p.here ∙ ap (λ (t : List ℕ). l ++ t) (drop-length s) ∙ append-nil l

-- a file, from its last section to its first
module _ (s : List ℕ) (short : length s ≤ longest) where
  module _ (vs : List ℕ) (at : ℕ) (v : ValuesKept vs) (b : Stands s 0 at (bytes_before (at_warmup vs))) where
    module _ (ws : List Step) (a : ℕ) (w : PartRead s at warmup_word most_steps ws a) where
      kept : WarmupKept ws
      kept = (w.few, w.holds)

      stands : Stands s 0 a (bytes_before (at_measured vs ws))
      stands = stands-join s 0 at a (bytes_before (at_warmup vs)) (section_of warmup_word line_of ws) b w.stands

      abbrev left : ℕ
      left = most_steps - length ws

      abbrev row : ℕ
      row = length vs + length ws + 3

      whole : (ms : List Step) → PartRead s a measured_word left ms (length s) → FileSound s (Ok (record { values = vs; warmup = ws; measured = ms }))
      whole ms p =
          let h : Schedule = record { values = vs; warmup = ws; measured = ms } in
          let second : List ℕ = section_of warmup_word line_of ws in
          let third : List ℕ = section_of measured_word line_of ms in
          let same : s ≡ file_of h =
          stands-whole s (file_of h) (stands-join s 0 at (length s) (section_of values_word value_line vs) (second ++ third) b
          (stands-join s at a (length s) second third w.stands p.stands)) in
          let few = p.few in (
            same,
            record {
              size = v.0;
              small = v.1;
              warmup = w.holds;
              measured = p.holds;
              steps = omega (arith, w.few);
              short = subst (λ (t : List ℕ). length t ≤ longest) same short;
            },
          )

      measured-end : (ms : List Step) (m : ℕ) → PartRead s a measured_word left ms m → (x : Bool) → eqb m (length s) ≡ x
          → FileSound s (pick x (Ok (record { values = vs; warmup = ws; measured = ms })) (Err (fault_at Flaw.Form (length vs + length ws + length ms + 4) m m)))
      measured-end ms m p true e = whole ms (subst (PartRead s a measured_word left ms) (eqb-true m (length s) e) p)
      measured-end ms m p false e =
          end-surplus s vs v ws kept ms (omega (arith, p.few)) p.holds m
          (stands-join s 0 a m (bytes_before (at_measured vs ws)) (section_of measured_word line_of ms) stands p.stands) (eqb-false m (length s) e)

      measured-fault : (f : Fault) → HeadFault s (bytes_before (at_measured vs ws)) measured_word Flaw.Size (λ k. most_steps < length ws + k) f
          ⊎ RowFault s (bytes_before (at_measured vs ws)) measured_word (λ k. length ws + k ≤ most_steps) Holdable line_of f → FirstFault s f
      measured-fault f (inl h) = measured-head s f vs v ws kept h
      measured-fault f (inr h) = measured-row s f vs v ws kept h

      measured-part : (r : Result (List Step × ℕ) Fault) → PartSound s a measured_word row left r
          → FileSound s (on_part r (λ ms m. pick (eqb m (length s)) (Ok (record { values = vs; warmup = ws; measured = ms }))
          (Err (fault_at Flaw.Form (length vs + length ws + length ms + 4) m m))))
      measured-part (Err f) e =
          measured-fault f (part-first s a (bytes_before (at_measured vs ws)) measured_word stands row (after-warmup vs ws) measured-word left
          (λ k. length ws + k ≤ most_steps) (λ k. most_steps < length ws + k) (λ k h. omega (arith, w.few)) (λ k h. omega (arith, w.few)) f e)
      measured-part (Ok (ms, m)) e = measured-end ms m e (eqb m (length s)) refl

      measured-sound : FileSound s (measured_from s vs ws a)
      unfolding measured_from
      measured-sound = measured-part (part_at s a measured_word row left) (part_sound s a measured_word row left)

    warmup-fault : (f : Fault) → HeadFault s (bytes_before (at_warmup vs)) warmup_word Flaw.Size (λ k. most_steps < k) f
        ⊎ RowFault s (bytes_before (at_warmup vs)) warmup_word (λ k. k ≤ most_steps) Holdable line_of f → FirstFault s f
    warmup-fault f (inl h) = warmup-head s f vs v h
    warmup-fault f (inr h) = warmup-row s f vs v h

    warmup-part : (r : Result (List Step × ℕ) Fault) → PartSound s at warmup_word (length vs + 2) most_steps r → FileSound s (on_part r (measured_from s vs))
    warmup-part (Err f) e =
        warmup-fault f (part-first s at (bytes_before (at_warmup vs)) warmup_word b (length vs + 2) (after-values vs) warmup-word most_steps
        (λ k. k ≤ most_steps) (λ k. most_steps < k) (λ k h. h) (λ k h. h) f e)
    warmup-part (Ok (ws, a)) e = measured-sound ws a e

    warmup-sound : FileSound s (warmup_from s vs at)
    unfolding warmup_from
    warmup-sound = warmup-part (part_at s at warmup_word (length vs + 2) most_steps) (part_sound s at warmup_word (length vs + 2) most_steps)

  start : Stands s 0 0 (bytes_before at_values)
  start = stands-none s 0

  values-lines : (n a : ℕ) → header_at s 0 values_word ≡ got n a → Size n → (r : Rows ℕ) → lines_at (value_at s) n 0 a ≡ r
      → FileSound s (on_rows 2 r (warmup_from s))
  values-lines n a e h (Err broke) f =
      values-row s (fault_at Flaw.Form (2 + broke.index) broke.from broke.place)
      (row-breaks s 0 [] values_word start 1 first-line (value_at s) Small value_line (value_read s) Size value-feeds values-word (value-breaks s) n a broke.index broke.from broke.place e h f)
  values-lines n a e h (Ok (vs, m)) f = let o = opened s n a vs m e h f in warmup-sound vs m (o.size, o.small) o.stands

  values-limit : (n a : ℕ) → header_at s 0 values_word ≡ got n a → (x : Bool) → among greatest_size n ≡ x
      → FileSound s (pick x (on_rows 2 (lines_at (value_at s) n 0 a) (warmup_from s))
      (Err (fault_at Flaw.Values 1 0 (count_at 0 values_word))))
  values-limit n a e false h = values-head s (fault_at Flaw.Values 1 0 (count_at 0 values_word)) (head-wrong s 0 [] values_word start 1 first-line Flaw.Values (λ k. Size k → ⊥) n a e (not-among n h))
  values-limit n a e true h = values-lines n a e (among-true greatest_size n h) (lines_at (value_at s) n 0 a) refl

  values-header : (r : Read ℕ) → header_at s 0 values_word ≡ r → FileSound s (on_read r (λ p. Err (fault_at Flaw.Form 1 0 p))
      (λ n a. pick (among greatest_size n) (on_rows 2 (lines_at (value_at s) n 0 a) (warmup_from s))
      (Err (fault_at Flaw.Values 1 0 (count_at 0 values_word)))))
  values-header (Err p) e =
      values-head s (fault_at Flaw.Form 1 0 p.place) (head-breaks s 0 [] values_word start 1 first-line Flaw.Values (λ k. Size k → ⊥) p.place (λ h. header-breaks s 0 values_word p.place h e))
  values-header (Ok (n, a)) e = values-limit n a e (among greatest_size n) refl

  values-sound : FileSound s (values_from s)
  unfolding values_from
  values-sound = values-header (header_at s 0 values_word) refl

-- a file that is refused, and is not too long, is so for its first fault ..
pub first-fault : (s : List ℕ) (f : Fault) → length s ≤ longest → read_file s ≡ Err f → FirstFault s f
first-fault s f h e = subst (FileSound s) (sym (read-got s h) ∙ e) (values-sound s h)

-- .. and one that is accepted is the file of what was read
pub file-read : (s : List ℕ) (h : Schedule) → read_file s ≡ Ok h → (s ≡ file_of h) × Fits h
file-read s h e = go (dec_lt longest (length s))
  where
    go : Dec (longest < length s) → (s ≡ file_of h) × Fits h
    go (yes p) = absurd (not_sound (sym (read-long s p) ∙ e))
    go (no p) = subst (FileSound s) (sym (read-got s (omega arith)) ∙ e) (values-sound s (omega arith))

-- so that no two files are read as one schedule
pub one-file : (s t : List ℕ) (h : Schedule) → read_file s ≡ Ok h → read_file t ≡ Ok h → s ≡ t
one-file s t h e f = (file-read s h e).0 ∙ sym (file-read t h f).0
