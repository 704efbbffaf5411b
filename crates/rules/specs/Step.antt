-- Document 01, "Steps": a step, whole. "Every step is applied, idle or refused; refusals are tested before idleness". Assumes nothing.
use Rattle.std.specs.Prelude.{◌≡◌, Bool, true, false, ◌&&◌, not, List, ◌++◌, ℕ, zero, suc, ◌+◌, ◌≤◌, length}
use Rattle.rules.specs.declared.group.Group.{Group}
use Rattle.rules.specs.declared.process.Process.{Process}
use Rattle.rules.specs.declared.process.Next.{Next}
use Rattle.rules.specs.declared.step.Step.{Step}
use Rattle.rules.specs.Limits.{store_length}
use Rattle.rules.specs.Layout.{process_at, with_process, with_depth}
use Rattle.rules.specs.Store.{hand_over, Handed, one, repeats}
use Rattle.rules.specs.Answers.{Outcome, outcome, refused, says_applied, says_idle}
use Rattle.rules.specs.Events.{on_crash, cut_if}
use Rattle.rules.specs.Kinds.{taker_of, is_cut, event_of}
use Rattle.rules.specs.Idle.{idle}
use Rattle.rules.specs.Depths.{depth_after, dated_both}
use Rattle.rules.specs.Refusals.{damaged, refusal}

-- ---- the course of a step: idle, refused by a number, or taken by a process with its next record and messages

pub data Course : Type 0 where
  Idles : Course
  Refuses : ℕ → Course
  Takes : ℕ → Next → Course

-- "A cut idle delivery is a crash and counts as applied."
unfoldable pub idles : Bool → ℕ → Process → Course
idles true i p = Takes i (on_crash p)
idles false i p = Idles

-- where it is not refused: idle, or the event x, cut or not
unfoldable pub or_idle : Bool → Bool → ℕ → Process → Next → Course
or_idle true cut i p x = idles cut i p
or_idle false cut i p x = Takes i (cut_if cut x)

unfoldable pub unless_refused : ℕ → Group → List ℕ → Step → Course
unless_refused zero g l s = or_idle (idle g s) (is_cut s) (taker_of s) (process_at g (taker_of s)) (event_of g l s)
unless_refused (suc k) g l s = Refuses (suc k)

unfoldable pub course : Group → List ℕ → List ℕ → Step → Course
course g l d s = unless_refused (refusal g l d s) g l s

-- ---- its outcome

-- the messages that process i hands over with x: those of its two places that hold one, the first first; and the store after them
unfoldable pub handed_of : ℕ → Next → List Handed
handed_of i x = one i x.first ++ one i x.second

unfoldable pub hand_overs : ℕ → Next → List ℕ → List ℕ
hand_overs i x l = hand_over i x.second (hand_over i x.first l)

-- "*Sent* counts every message handed over, and a new field *again*, right after it, counts those whose entry was sent before."
unfoldable pub sent_by : ℕ → Next → ℕ
sent_by i x = length (handed_of i x)

unfoldable pub again_by : ℕ → Next → List ℕ → ℕ
again_by i x l = repeats i x.first l + repeats i x.second (hand_over i x.first l)

-- whether a process that was p decides by becoming q
unfoldable pub decides_now : Process → Process → Bool
decides_now p q = q.decided && not p.decided

-- "An idle step changes nothing." The process that takes a course has the depth k after it, and so have the messages that it first hands over
unfoldable pub settled : Group → List ℕ → List ℕ → ℕ → Course → Outcome
settled g l d k Idles = outcome g l d says_idle
settled g l d k (Refuses j) = refused g l d j
settled g l d k (Takes i x) =
    outcome (with_depth (with_process g i x.process) i k) (hand_overs i x l) (dated_both i x k l d)
    (says_applied (sent_by i x) (again_by i x l) (decides_now (process_at g i) x.process))

unfoldable pub stepped : Group → List ℕ → List ℕ → Step → Outcome
stepped g l d s = settled g l d (depth_after g d s) (course g l d s)

-- ---- what the step that a run takes asks: `step_sound`, the one public function of the rules with a `requires`

-- both stores are long, and the group is not damaged: 11, the short 14 and the group's 2 are ruled out
pub record Ready (g : Group) (l d : List ℕ) : Type 0 where
  pub long : store_length ≤ length l
  pub deep_long : store_length ≤ length d
  pub sound : damaged g ≡ false
