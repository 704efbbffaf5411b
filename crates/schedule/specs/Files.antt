-- What holds of every file, stated over how schedules and lines are spelled: what is spelled is read, what is read is spelled, no two files are read as one schedule, and a faulty
-- file is refused for its first fault, at the first byte that breaks the form. The proofs are in proofs/Files. Assumes nothing.
use Rattle.std.specs.Prelude.{◌≡◌, List, [], ◌∷◌, ◌++◌, ◌⊎◌, ℕ, ◌+◌, ◌≤◌, ◌<◌, eqb, length, Ok, Err}
use Rattle.rules.specs.Tally.{bit_of}
use Rattle.rules.specs.declared.step.Step.{Step}
use Rattle.schedule.specs.Limits.{longest, most_steps}
use Rattle.schedule.specs.Lines.{Every, lines_of}
use Rattle.schedule.specs.Line.{space_byte, line_feed, line_of, Small, Holdable}
use Rattle.schedule.specs.Header.{values_word, warmup_word, measured_word, header_of}
use Rattle.schedule.specs.Values.{value_line}
use Rattle.schedule.specs.Schedule.{Schedule, section_of, file_of, Size, Fits, number_of, too_long, read_file}
use Rattle.schedule.specs.declared.fault.Fault.{Fault}
use Rattle.schedule.specs.declared.fault.Flaw.{Flaw}

-- ---- the lines of a file

-- where a line begins, by what the lines before it hold. Of a section that is not yet whole: its count, and what stands of it
pub data Place : Type 0 where
  at_values : Place
  at_value : ℕ → List ℕ → Place
  at_warmup : List ℕ → Place
  at_warmup_step : List ℕ → ℕ → List Step → Place
  at_measured : List ℕ → List Step → Place
  at_measured_step : List ℕ → List Step → ℕ → List Step → Place
  at_end : List ℕ → List Step → List Step → Place

-- the bytes of the lines before it
abbrev pub bytes_before : Place → List ℕ
bytes_before at_values = []
bytes_before (at_value n vs) = header_of values_word n ++ lines_of value_line vs
bytes_before (at_warmup vs) = section_of values_word value_line vs
bytes_before (at_warmup_step vs k ws) = section_of values_word value_line vs ++ (header_of warmup_word k ++ lines_of line_of ws)
bytes_before (at_measured vs ws) = section_of values_word value_line vs ++ section_of warmup_word line_of ws
bytes_before (at_measured_step vs ws k ms) = section_of values_word value_line vs ++ (section_of warmup_word line_of ws ++ (header_of measured_word k ++ lines_of line_of ms))
bytes_before (at_end vs ws ms) = file_of (record { values = vs; warmup = ws; measured = ms })

-- each of them is a line that is asked for where it stands, with a count that the rules allow
abbrev pub ValuesKept : List ℕ → Type 0
ValuesKept vs = Size (length vs) × Every Small vs

abbrev pub WarmupKept : List Step → Type 0
WarmupKept ws = (length ws ≤ most_steps) × Every Holdable ws

abbrev pub Kept : Place → Type 0
Kept at_values = Unit {0}
Kept (at_value n vs) = Size n × (length vs < n) × Every Small vs
Kept (at_warmup vs) = ValuesKept vs
Kept (at_warmup_step vs k ws) = ValuesKept vs × (k ≤ most_steps) × (length ws < k) × Every Holdable ws
Kept (at_measured vs ws) = ValuesKept vs × WarmupKept ws
Kept (at_measured_step vs ws k ms) = ValuesKept vs × WarmupKept ws × (length ws + k ≤ most_steps) × (length ms < k) × Every Holdable ms
Kept (at_end vs ws ms) = ValuesKept vs × WarmupKept ws × (length ws + length ms ≤ most_steps) × Every Holdable ms

-- one of the lines that f spells
pub record Spelling {A : Type 0} (P : A → Type 0) (f : A → List ℕ) (l : List ℕ) : Type 0 where
  pub thing : A
  pub holds : P thing
  pub is : l ≡ f thing

-- the lines that are asked for at a place: "Nothing follows the last step."
abbrev pub Asked : Place → List ℕ → Type 0
Asked at_values l = Spelling Small (header_of values_word) l
Asked (at_value n vs) l = Spelling Small value_line l
Asked (at_warmup vs) l = Spelling Small (header_of warmup_word) l
Asked (at_warmup_step vs k ws) l = Spelling Holdable line_of l
Asked (at_measured vs ws) l = Spelling Small (header_of measured_word) l
Asked (at_measured_step vs ws k ms) l = Spelling Holdable line_of l
Asked (at_end vs ws ms) l = ⊥

-- ---- the first fault

-- Request 2026-01: "The byte is the first that no line of the form asked for there has after the bytes before it, the LF included." Of the rest of a file, from the faulty line on
pub record BreaksForm (IsAsked : List ℕ → Type 0) (rest : List ℕ) (column : ℕ) : Type 0 where
  -- no line that is asked for stands there
  pub none : (l t : List ℕ) → IsAsked l → rest ≡ l ++ t → ⊥
  -- the bytes before the column
  pub good : List ℕ
  pub more : List ℕ
  pub is : rest ≡ good ++ more
  pub place : column ≡ length good + 1
  -- a line that is asked for begins with them
  pub line : List ℕ
  pub left : List ℕ
  pub asked : IsAsked line
  pub begins : line ≡ good ++ left
  -- none begins with them and the byte at the column, where the file has one
  pub stops : (b : ℕ) (t l k : List ℕ) → more ≡ b ∷ t → IsAsked l → l ≡ good ++ (b ∷ k) → ⊥

-- a count that the rules do not allow, in a line that keeps the form: "for refusals 1 and 10 in a count it is the count's first digit", behind the word and a space
pub record WrongCount (w : List ℕ) (Wrong : ℕ → Type 0) (rest : List ℕ) (column : ℕ) : Type 0 where
  pub count : ℕ
  pub more : List ℕ
  pub small : Small count
  pub is : rest ≡ header_of w count ++ more
  pub wrong : Wrong count
  pub place : column ≡ length (w ++ (space_byte ∷ [])) + 1

-- a byte where nothing is asked for
pub record Surplus (rest : List ℕ) (column : ℕ) : Type 0 where
  pub byte : ℕ
  pub more : List ℕ
  pub is : rest ≡ byte ∷ more
  pub place : column ≡ 1

-- what is wrong, with the refusal's number
abbrev pub Refused : Fault → Flaw → ℕ → Type 0
Refused f flaw number = (f.flaw ≡ flaw) × (number_of f.flaw ≡ number)

abbrev pub Nine : Place → List ℕ → Fault → Type 0
Nine p rest f = Refused f Flaw.Form 9 × BreaksForm (Asked p) rest f.column

-- refusal 9 where the line breaks the form, 1 for "not 1 to 16 values", 10 for "a count that takes the steps above 4,096"
abbrev pub FaultyLine : Place → List ℕ → Fault → Type 0
FaultyLine at_values rest f = Nine at_values rest f ⊎ (Refused f Flaw.Values 1 × WrongCount values_word (λ n. Size n → ⊥) rest f.column)
FaultyLine (at_value n vs) rest f = Nine (at_value n vs) rest f
FaultyLine (at_warmup vs) rest f = Nine (at_warmup vs) rest f ⊎ (Refused f Flaw.Size 10 × WrongCount warmup_word (λ k. most_steps < k) rest f.column)
FaultyLine (at_warmup_step vs k ws) rest f = Nine (at_warmup_step vs k ws) rest f
FaultyLine (at_measured vs ws) rest f = Nine (at_measured vs ws) rest f ⊎ (Refused f Flaw.Size 10 × WrongCount measured_word (λ k. most_steps < length ws + k) rest f.column)
FaultyLine (at_measured_step vs ws k ms) rest f = Nine (at_measured_step vs ws k ms) rest f
FaultyLine (at_end vs ws ms) rest f = Refused f Flaw.Form 9 × Surplus rest f.column

-- how many LFs stand in a text
unfoldable pub line_feeds : List ℕ → ℕ
line_feeds [] = 0
line_feeds (b ∷ l) = bit_of (eqb b line_feed) + line_feeds l

-- "the first faulty line is reported": the lines before it keep the form and the rules, and it does not
pub record FirstFault (s : List ℕ) (f : Fault) : Type 0 where
  pub at : Place
  pub rest : List ℕ
  pub kept : Kept at
  pub is : s ≡ bytes_before at ++ rest
  pub line : f.line ≡ line_feeds (bytes_before at) + 1
  pub fault : FaultyLine at rest f

-- ---- what holds of every file

pub record Files : Type 0 where
  -- the file of a schedule is read as that schedule
  pub spelled : (h : Schedule) → Fits h → read_file (file_of h) ≡ Ok h
  -- a file that is read as a schedule is the file of that schedule
  pub read : (s : List ℕ) (h : Schedule) → read_file s ≡ Ok h → (s ≡ file_of h) × Fits h
  -- no two files are read as one schedule
  pub one : (s t : List ℕ) (h : Schedule) → read_file s ≡ Ok h → read_file t ≡ Ok h → s ≡ t
  -- "Too long a file is refused before any line is read." Any other that is refused is so for its first fault
  pub long : (s : List ℕ) → longest < length s → (read_file s ≡ Err too_long) × (number_of too_long.flaw ≡ 10)
  pub first : (s : List ℕ) (f : Fault) → length s ≤ longest → read_file s ≡ Err f → FirstFault s f
