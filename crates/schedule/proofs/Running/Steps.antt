-- The laws of a run over the lines of a file: what holds while the steps are taken one by one, and what the whole run then is. Assumes nothing.
use mathlib.Core.Path.{◌≡◌, refl, sym, ap, ap₂, ◌∙◌, subst}
use mathlib.Core.Bool.{Bool, true, false}
use mathlib.Core.List.{List, [], ◌∷◌}
use native.Mathlib.Omega.{arith}
use Prim.Native.Nat.{ℕ, ◌+◌, ◌-◌, ◌*◌, ◌≤◌, ◌<◌}
use lib.ListN.{length}
use Rattle.std.specs.Prelude.{Ok}
use Rattle.text.proofs.ReadLaws.{same-thing, same_place}
use Rattle.schedule.proofs.Reading.InARow.{rows}
use Rattle.rules.specs.Tally.{bit_of}
use Rattle.rules.specs.Layout.{Sized}
use Rattle.rules.specs.Answers.{Said, is_refused, total, Outcome, outcome}
use Rattle.rules.specs.Refusals.{damaged}
use Rattle.rules.specs.Step.{stepped, Ready}
use Rattle.rules.specs.Run.{State, state_of, next, after, answers}
use Rattle.rules.specs.declared.group.Group.{Group}
use Rattle.rules.specs.declared.step.Step.{Step}
use Rattle.rules.proofs.Cited.{safety, deep-sound-step, deep-sized-step, deep-step-length, depths-step-length}
use Rattle.schedule.specs.Limits.{most_steps}
use Rattle.schedule.specs.Lines.{lines_at}
use Rattle.schedule.specs.Line.{line_at}
use Rattle.schedule.specs.Counts.{none, counts_in}
use Rattle.schedule.specs.Run.{counts_of}
use Rattle.schedule.specs.Private.{counted, counted_all, KnownLine, StepsAt, Room, RunReady, state_with, RanSteps, RanTo}
use Rattle.schedule.specs.declared.counts.Counts.{Counts}
use Rattle.schedule.proofs.Running.Counts.{counted_is}
use Rattle.schedule.proofs.Reading.InARow.{First, lines-first, lines_none, one_less, same-things}

-- ---- counts of i steps

bit-one : (b : Bool) → bit_of b ≤ 1
bit-one true = omega arith
bit-one false = omega arith

pub record Counting (c : Counts) (i : ℕ) : Type 0 where
  pub steps : c.steps ≤ i
  pub applied : c.applied ≤ i
  pub idle : c.idle ≤ i
  pub refused : c.refused ≤ i
  pub sent : c.sent ≤ i * 2
  pub again : c.again ≤ i * 2
  pub decided : c.decided ≤ i

pub counting-none : Counting none 0
unfolding counts_in total
counting-none =
    record {
      steps = omega arith;
      applied = omega arith;
      idle = omega arith;
      refused = omega arith;
      sent = omega arith;
      again = omega arith;
      decided = omega arith;
    }

pub counting_more : (c : Counts) (i : ℕ) (a : Said) → Counting c i → a.sent ≤ 2 → a.again ≤ 2 → Counting (counted c a) (i + 1)
unfolding counted
counting_more c i a h t u =
    record {
      steps = omega (arith, h.steps);
      applied = omega (arith, h.applied, bit-one a.applied);
      idle = omega (arith, h.idle, bit-one a.idle);
      refused = omega (arith, h.refused, bit-one (is_refused a));
      sent = omega (arith, h.sent);
      again = omega (arith, h.again);
      decided = omega (arith, h.decided, bit-one a.decided);
    }

pub counting-room : (c : Counts) (i : ℕ) → Counting c i → i ≤ most_steps → Room c
counting-room c i h few =
    record {
      steps = omega (arith, h.steps);
      applied = omega (arith, h.applied);
      idle = omega (arith, h.idle);
      refused = omega (arith, h.refused);
      sent = omega (arith, h.sent);
      again = omega (arith, h.again);
      decided = omega (arith, h.decided);
    }

-- ---- while the steps are taken

-- i of the count steps that stand from a place on are taken: from the state a₀ to the state a, with the counts c; the other lines begin at here
pub record Going (s : List ℕ) (at count : ℕ) (a₀ a : State) (c : Counts) (i here : ℕ) : Type 0 where
  pub all : List Step
  pub rest : List Step
  pub end : ℕ
  pub are : StepsAt s count at end all
  pub few : count ≤ most_steps
  pub low : i ≤ count
  pub left : lines_at (line_at s) (count - i) i here ≡ rows rest end
  pub sized : Sized a.group
  pub ready : Ready a.group a.store a.depths
  pub counting : Counting c i
  pub state : after a₀ all ≡ after a rest
  pub counts : counts_of a₀ all ≡ counted_all c (answers a rest)
  pub same : length a.store ≡ length a₀.store
  pub deep-same : length a.depths ≡ length a₀.depths

pub counts_same : {s : List ℕ} {at count : ℕ} {a₀ a : State} {c d : Counts} {i here : ℕ} → c ≡ d → Going s at count a₀ a c i here → Going s at count a₀ a d i here
counts_same {s} {at} {count} {a₀} {a} {c} {d} {i} {here} e h = subst (λ (k : Counts). Going s at count a₀ a k i here) e h

module _ (s : List ℕ) (at count : ℕ) where
  pub going-none : (g : Group) (l d : List ℕ) → RunReady s at count g l d → Going s at count (state_with g l d) (state_with g l d) none 0 at
  unfolding counts_of
  going-none g l d h =
      record {
        all = h.steps;
        rest = h.steps;
        end = h.end;
        are = h.are;
        few = h.few;
        low = omega arith;
        left = ap (λ (k : ℕ). lines_at (line_at s) k 0 at) (omega arith) ∙ h.are.are;
        sized = h.sized;
        ready = h.ready;
        counting = counting-none;
        state = refl;
        counts = sym (counted_is (answers (state_with g l d) h.steps));
        same = refl;
        deep-same = refl;
      }

  module _ (a₀ a : State) (c : Counts) (i here : ℕ) (h : Going s at count a₀ a c i here) (less : i < count) where
    ahead : First (line_at s) (count - (i + 1)) i here h.rest h.end
    ahead = lines-first (line_at s) (count - (i + 1)) i here h.rest h.end (ap (λ (k : ℕ). lines_at (line_at s) k i here) (sym (one_less count i less)) ∙ h.left)

    -- a line stands here
    pub going-known : KnownLine s here
    going-known = record { step = ahead.first; next = ahead.next; is = ahead.is }

    pub going-room : Room c
    going-room = counting-room c i h.counting (omega (arith, h.few))

    module _ (step : Step) (after_it : ℕ) (e : line_at s here ≡ Ok (step, after_it)) (a' : State) (x : Said) (o : outcome a'.group a'.store a'.depths x ≡ stepped a.group a.store a.depths step) where
      step_is : ahead.first ≡ step
      step_is = same-thing (sym ahead.is ∙ e)

      place_is : ahead.next ≡ after_it
      place_is = same_place (sym ahead.is ∙ e)

      rest-is : h.rest ≡ step ∷ ahead.others
      rest-is = ahead.same ∙ ap (λ (y : Step). y ∷ ahead.others) step_is

      next-is : next a step ≡ a'
      unfolding next
      next-is = ap state_of (sym o)

      says_is : (stepped a.group a.store a.depths step).says ≡ x
      says_is = ap (λ (q : Outcome). q.says) (sym o)

      group-is : (stepped a.group a.store a.depths step).group ≡ a'.group
      group-is = ap (λ (q : Outcome). q.group) (sym o)

      store_is : (stepped a.group a.store a.depths step).store ≡ a'.store
      store_is = ap (λ (q : Outcome). q.store) (sym o)

      depths-is : (stepped a.group a.store a.depths step).depths ≡ a'.depths
      depths-is = ap (λ (q : Outcome). q.depths) (sym o)

      state-on : after a (step ∷ ahead.others) ≡ after a' ahead.others
      unfolding after
      state-on = ap (λ (b : State). after b ahead.others) next-is

      counts-on : counted_all c (answers a (step ∷ ahead.others)) ≡ counted_all (counted c x) (answers a' ahead.others)
      unfolding answers counted_all
      counts-on = ap₂ (λ (y : Said) (b : State). counted_all (counted c y) (answers b ahead.others)) says_is next-is

      sized_on : Sized a'.group
      sized_on = subst Sized group-is (deep-sized-step a.group a.store a.depths step h.sized)

      sound-on : damaged a'.group ≡ false
      sound-on = ap damaged (sym group-is) ∙ deep-sound-step a.group a.store a.depths step h.sized h.ready.sound

      length-on : length a'.store ≡ length a.store
      length-on = ap length (sym store_is) ∙ deep-step-length a.group a.store a.depths step

      deep-length-on : length a'.depths ≡ length a.depths
      deep-length-on = ap length (sym depths-is) ∙ depths-step-length a.group a.store a.depths step

      -- a step hands over at most two messages, so at most two again
      sent-two : x.sent ≤ 2
      sent-two = omega (arith, safety.two a step, ap (λ (y : Said). y.sent) says_is)

      again_two : x.again ≤ 2
      again_two = omega (arith, safety.two a step, ap (λ (y : Said). y.again) says_is)

      -- one more step is taken
      pub going_on : Going s at count a₀ a' (counted c x) (i + 1) after_it
      going_on =
          record {
            all = h.all;
            rest = ahead.others;
            end = h.end;
            are = h.are;
            few = h.few;
            low = omega arith;
            left = ap (lines_at (line_at s) (count - (i + 1)) (i + 1)) (sym place_is) ∙ ahead.more;
            sized = sized_on;
            ready =
                record {
                  long = omega (arith, h.ready.long, length-on);
                  deep_long = omega (arith, h.ready.deep_long, deep-length-on);
                  sound = sound-on;
                };
            counting = counting_more c i x h.counting sent-two again_two;
            state = h.state ∙ ap (after a) rest-is ∙ state-on;
            counts = h.counts ∙ ap (λ (ys : List Step). counted_all c (answers a ys)) rest-is ∙ counts-on;
            same = length-on ∙ h.same;
            deep-same = deep-length-on ∙ h.deep-same;
          }

  -- all steps are taken
  module _ (g : Group) (l d : List ℕ) (g' : Group) (l' d' : List ℕ) (c : Counts) (i here : ℕ) (h : Going s at count (state_with g l d) (state_with g' l' d') c i here) (done : count ≤ i) where
    none_left : h.rest ≡ []
    none_left = same-things (sym h.left ∙ ap (λ (k : ℕ). lines_at (line_at s) k i here) (omega (arith, h.low)) ∙ lines_none (line_at s) i here)

    ran-all : RanSteps h.all g l d g' l' d' c
    unfolding after answers counted_all
    ran-all =
        record {
          state = sym (h.state ∙ ap (after (state_with g' l' d')) none_left);
          counts = sym (h.counts ∙ ap (λ (ys : List Step). counted_all c (answers (state_with g' l' d') ys)) none_left);
        }

    pub going_done : RanTo s at count g l d g' l' d' c
    going_done ss m k = subst (λ (ys : List Step). RanSteps ys g l d g' l' d' c) (same-things (sym h.are.are ∙ k.are)) ran-all
