-- The first fault of a section, wherever it begins and whatever its lines hold. Assumes nothing.
use mathlib.Core.Path.{◌≡◌, refl}
use mathlib.Core.List.{List, [], ◌∷◌, ◌++◌}
use mathlib.Core.Logic.{◌⊎◌, inl, inr}
use Prim.Native.Nat.{ℕ, ◌+◌, ◌-◌, ◌≤◌, ◌<◌}
use native.Mathlib.Omega.{arith}
use lib.ListN.{length, drop, length-append}
use Rattle.text.specs.Read.{Read, bad}
use Rattle.text.proofs.ReadLaws.{got}
use Rattle.schedule.specs.declared.fault.Flaw.{Flaw}
use Rattle.text.specs.Stands.{Stands}
use Rattle.text.proofs.StandsLaws.{stands-join, stands-high}
use Rattle.schedule.specs.Lines.{Every, broken_at, lines_at, lines_of}
use Rattle.schedule.specs.Line.{space_byte, Small}
use Rattle.schedule.specs.Header.{header_at, header_of, count_at}
use Rattle.schedule.specs.Schedule.{number_of, fault_at}
use Rattle.schedule.specs.Files.{Spelling, BreaksForm, WrongCount, Refused, line_feeds}
use Rattle.schedule.specs.declared.fault.Fault.{Fault}
use Rattle.schedule.proofs.Reading.InARow.{lines-ahead}
use Rattle.schedule.proofs.RoundTrip.Header.{header_read}
use Rattle.schedule.proofs.RoundTrip.Rows.{lines-read}
use Rattle.schedule.proofs.Files.LineFeeds.{feeds-append, section-feeds}

-- ---- the two faults of a section, behind the bytes before it

-- in its first line: it breaks the form, or has a count that is not allowed
pub record HeadFault (s before w : List ℕ) (flaw : Flaw) (Wrong : ℕ → Type 0) (f : Fault) : Type 0 where
  pub rest : List ℕ
  pub is : s ≡ before ++ rest
  pub line : f.line ≡ line_feeds before + 1
  pub fault : (Refused f Flaw.Form 9 × BreaksForm (Spelling Small (header_of w)) rest f.column) ⊎ (Refused f flaw (number_of flaw) × WrongCount w Wrong rest f.column)

-- in a line after it, which breaks the form
pub record RowFault {A : Type 0} (s before w : List ℕ) (Allowed : ℕ → Type 0) (P : A → Type 0) (g : A → List ℕ) (f : Fault) : Type 0 where
  pub count : ℕ
  pub things : List A
  pub rest : List ℕ
  pub allowed : Allowed count
  pub few : length things < count
  pub hold : Every P things
  pub is : s ≡ (before ++ (header_of w count ++ lines_of g things)) ++ rest
  pub line : f.line ≡ line_feeds (before ++ (header_of w count ++ lines_of g things)) + 1
  pub fault : Refused f Flaw.Form 9 × BreaksForm (Spelling P g) rest f.column

-- ---- where a section has them

module _ (s : List ℕ) (at : ℕ) (before w : List ℕ) (b : Stands s 0 at before) (line : ℕ) (n : line ≡ line_feeds before + 1) where
  module _ (flaw : Flaw) (Wrong : ℕ → Type 0) where
    pub head-breaks : (p : ℕ) → (at ≤ length s → BreaksForm (Spelling Small (header_of w)) (drop at s) (p - at + 1)) → HeadFault s before w flaw Wrong (fault_at Flaw.Form line at p)
    head-breaks p h = record { rest = drop at s; is = b.here; line = n; fault = inl ((refl, refl), h (stands-high s 0 at before b (omega arith))) }

    pub head-wrong : (k a : ℕ) → header_at s at w ≡ got k a → Wrong k → HeadFault s before w flaw Wrong (fault_at flaw line at (count_at at w))
    head-wrong k a e h =
        let r = header_read s at w a k e in
        let c : count_at at w - at + 1 ≡ length (w ++ (space_byte ∷ [])) + 1 = omega (arith, length-append w (space_byte ∷ [])) in
        record {
          rest = drop at s;
          is = b.here;
          line = n;
          fault = inr ((refl, refl), record { count = k; more = drop a s; small = r.0; is = r.1.here; wrong = h; place = c });
        }

  module _ {A : Type 0} (f : ℕ → Read A) (P : A → Type 0) (g : A → List ℕ) (read : (i m : ℕ) (x : A) → f i ≡ got x m → P x × Stands s i m (g x)) where
    -- the lines before the first that breaks the form stand
    pub row-breaks : (Allowed : ℕ → Type 0) → ((x : A) → line_feeds (g x) ≡ 1) → line_feeds w ≡ 0
        → ((i p : ℕ) → i ≤ length s → f i ≡ bad p → BreaksForm (Spelling P g) (drop i s) (p - i + 1))
        → (k a i from p : ℕ) → header_at s at w ≡ got k a → Allowed k → lines_at f k 0 a ≡ broken_at i from p
        → RowFault s before w Allowed P g (fault_at Flaw.Form (line + 1 + i) from p)
    row-breaks Allowed one z breaks k a i from p e h t =
        let l = lines-ahead f i from p k 0 a t in
        let xs : List A = l.things in
        let r = lines-read s f g P read xs (length xs) 0 a from l.are in
        let rows : List ℕ = header_of w k ++ lines_of g xs in
        let stands : Stands s 0 from (before ++ rows) =
        stands-join s 0 at from before rows b (stands-join s at a from (header_of w k) (lines_of g xs) (header_read s at w a k e).1 r.2) in
        let c : line + 1 + i ≡ line_feeds (before ++ rows) + 1 = omega (arith, feeds-append before rows, section-feeds g one w k xs z) in
        record {
          count = k;
          things = xs;
          rest = drop from s;
          allowed = h;
          few = l.few;
          hold = r.1;
          is = stands.here;
          line = c;
          fault = ((refl, refl), breaks from p (stands-high s 0 from (before ++ rows) stands (omega arith)) l.broke);
        }
