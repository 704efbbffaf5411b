-- What the parts of a step yield, for the contracts of the functions below `step_on`. No public contract cites this page: a reader may skip it. Assumes nothing.
use Rattle.std.specs.Prelude.{◌≡◌, Bool, true, false, ◌&&◌, not, List, ℕ, zero, suc, ◌+◌, ◌≤◌, ◌<◌, eqb, ltb, length, get_or, Option, Some, None, is_some, Result, Ok, Err, IfSome}
use Rattle.rules.specs.declared.group.Group.{Group}
use Rattle.rules.specs.declared.process.Process.{Process}
use Rattle.rules.specs.declared.process.Next.{Next}
use Rattle.rules.specs.declared.course.Address.{Address}
use Rattle.rules.specs.declared.course.Heard.{Heard}
use Rattle.rules.specs.declared.course.Carried.{Carried}
use Rattle.rules.specs.declared.course.Taking.{Taking}
use Rattle.rules.specs.declared.refusal.Refusal.{Refusal}
use Rattle.rules.specs.declared.store.Kind.{Kind}
use Rattle.rules.specs.declared.store.Spot.{Spot}
use Rattle.rules.specs.declared.store.Traffic.{Traffic}
use Rattle.rules.specs.declared.process.Message.{Message}
use Rattle.rules.specs.declared.step.Step.{Step}
use Rattle.rules.specs.declared.step.Step.TheVariants.{DeliverE, DeliverS, DeliverF, DeliverDecision, Suspect, Pause, Crash, Recover}
use Rattle.rules.specs.Limits.{greatest_size, last_round, too_many, store_length, deepest_message, among}
use Rattle.rules.specs.Layout.{process_at}
use Rattle.rules.specs.Store.{kind_e, kind_s, kind_f, proposer_of, value_of, place_of, entry_for, message_round, hand_over, one, repeats}
use Rattle.rules.specs.Events.{on_e, on_s, on_f, on_decision, on_suspect, on_pause, on_crash, on_recover, cut_if}
use Rattle.rules.specs.Kinds.{taker_of, numbers_of, delivers, slot_of}
use Rattle.rules.specs.Idle.{idle_e, idle_s, idle_f}
use Rattle.rules.specs.Answers.{number_of}
use Rattle.rules.specs.Refusals.{row, every, late, is_recover, may_suspect}
use Rattle.rules.specs.Depths.{delivered_depth, dated}
use Rattle.rules.specs.Step.{Course, Idles, Refuses, Takes, idles, or_idle, course}

-- ---- results by number

-- the number of a refusal; 0 where it is not refused
unfoldable pub refused_by : {A : Type 0} → Result A Refusal → ℕ
refused_by (Ok x) = 0
refused_by (Err r) = number_of r

-- ---- the step alone: rows 3 and 4, then who takes it, where its message stands, whether it delivers one, whether it recovers

pub data Led : Type 0 where
  Misses : ℕ → Led
  At : ℕ → ℕ → Bool → Bool → Led

unfoldable pub place_or : Option ℕ → ℕ
place_or None = 0
place_or (Some k) = k

unfoldable pub told_address : Result Address Refusal → Led
told_address (Err r) = Misses (number_of r)
told_address (Ok a) = At a.taker (place_or a.place) (is_some a.place) a.recovers

unfoldable pub number_rows : ℕ → Step → ℕ
number_rows n s = row (not (every (among n) (numbers_of s))) 3 (row (late s) 4 0)

unfoldable pub unless_missed : ℕ → Led → Led
unless_missed zero a = a
unless_missed (suc k) a = Misses (suc k)

-- which of the three kinds: its place among them
unfoldable pub kind_of : Kind → ℕ
kind_of Kind.E = kind_e
kind_of Kind.S = kind_s
kind_of Kind.F = kind_f

unfoldable pub address_of : ℕ → Step → Led
address_of n s = unless_missed (number_rows n s) (At (taker_of s) (slot_of s) (delivers s) (is_recover s))

-- ---- the record p of process i, the entry e and its depth k: rows 5, 6, the entry's 2 and the message's 14, then the course of each kind

unfoldable pub held_rows : ℕ → Bool → ℕ → ℕ → Bool → Bool → ℕ
held_rows n up e k delivered recovering =
    row (not recovering && not up) 5
    (row (delivered && eqb e 0) 6
    (row (delivered && not (among n (proposer_of e))) 2
    (row (delivered && ltb deepest_message k) 14 0)))

-- of a step that delivers, once 5 is ruled out
abbrev pub heard_rows : ℕ → ℕ → ℕ → ℕ
heard_rows n e k = row (eqb e 0) 6 (row (not (among n (proposer_of e))) 2 (row (ltb deepest_message k) 14 0))

-- a place of both stores, if there is one, and what stands there
abbrev pub Placed : Option ℕ → List ℕ → List ℕ → Type 0
Placed place l d = IfSome place (λ k. (k < length l) × (k < length d))

unfoldable pub heard_at : Option ℕ → List ℕ → List ℕ → Option Heard
heard_at None l d = None
heard_at (Some k) l d = Some (record { entry = get_or l k 0; depth = get_or d k 0 })

-- what the entry e with the depth k carries
unfoldable pub Carries : ℕ → ℕ → Carried → Type 0
Carries e k c = (c.estimate.proposer ≡ proposer_of e) × (c.estimate.value ≡ value_of e) × (c.lift ≡ k + 1)

unfoldable pub entry_heard : Option Heard → ℕ
entry_heard None = 0
entry_heard (Some h) = h.entry

unfoldable pub depth_heard : Option Heard → ℕ
depth_heard None = 0
depth_heard (Some h) = h.depth

-- an F: idle, refused where the event x is past the last round, or taken
unfoldable pub unless_past : Bool → Bool → ℕ → Next → Course
unless_past true cut i x = Refuses 8
unless_past false cut i x = Takes i (cut_if cut x)

unfoldable pub or_past : Bool → Bool → ℕ → Process → Next → Course
or_past true cut i p x = idles cut i p
or_past false cut i p x = unless_past (ltb last_round x.process.round) cut i x

-- a suspicion: taken where it is possible
unfoldable pub or_impossible : Bool → Bool → ℕ → Process → Course
or_impossible true cut i p = Takes i (cut_if cut (on_suspect p))
or_impossible false cut i p = Refuses 7

-- a recovery: taken where the process is down and one recovery more is not too many
unfoldable pub unless_many : Bool → ℕ → Process → Course
unless_many true i p = Refuses 13
unless_many false i p = Takes i (on_recover p)

unfoldable pub or_up : Bool → ℕ → Process → Course
or_up true i p = Refuses 7
or_up false i p = unless_many (too_many p.recoveries) i p

-- where it carries the estimate (q, v)
unfoldable pub last_course : ℕ → ℕ → ℕ → ℕ → Process → Step → Course
last_course n i q v p (DeliverE to from r c) = or_idle (idle_e p from r) c i p (on_e n i from r q v p)
last_course n i q v p (DeliverS to from r c) = or_idle (idle_s p from r) c i p (on_s n from p)
last_course n i q v p (DeliverF to from r c) = or_past (idle_f p from r) c i p (on_f n i from r q v p)
last_course n i q v p (DeliverDecision to from c) = or_idle p.decided c i p (on_decision v p)
last_course n i q v p (Suspect to c) = or_impossible (may_suspect p) c i p
last_course n i q v p (Pause to) = Takes i (on_pause p)
last_course n i q v p (Crash to) = Takes i (on_crash p)
last_course n i q v p (Recover to) = or_up p.up i p

unfoldable pub unless_held : ℕ → Course → Course
unless_held zero c = c
unless_held (suc k) c = Refuses (suc k)

unfoldable pub held_course : ℕ → ℕ → ℕ → ℕ → Process → Step → Course
held_course n i e k p s = unless_held (held_rows n p.up e k (delivers s) (is_recover s)) (last_course n i (proposer_of e) (value_of e) p s)

-- ---- the way of a step: its course, with what lifts the depth of the process that takes it

pub data Way : Type 0 where
  Rests : Way
  Stops : ℕ → Way
  Moves : ℕ → Next → ℕ → Way

unfoldable pub lifted : ℕ → Course → Way
lifted k Idles = Rests
lifted k (Refuses j) = Stops j
lifted k (Takes i x) = Moves i x k

-- what the code answers, as a way
unfoldable pub told : Result (Option Taking) Refusal → Way
told (Ok None) = Rests
told (Ok (Some t)) = Moves t.taker t.next t.lift
told (Err r) = Stops (number_of r)

-- a delivery lifts the depth unless it is idle; no other step does
unfoldable pub lift_unless : Bool → ℕ → ℕ
lift_unless true k = 0
lift_unless false k = k

unfoldable pub lifts : Process → Step → ℕ → ℕ
lifts p (DeliverE to from r c) k = lift_unless (idle_e p from r) k
lifts p (DeliverS to from r c) k = lift_unless (idle_s p from r) k
lifts p (DeliverF to from r c) k = lift_unless (idle_f p from r) k
lifts p (DeliverDecision to from c) k = lift_unless p.decided k
lifts p (Suspect to c) k = 0
lifts p (Pause to) k = 0
lifts p (Crash to) k = 0
lifts p (Recover to) k = 0

unfoldable pub lift_of : Group → List ℕ → Step → ℕ
lift_of g d s = lifts (process_at g (taker_of s)) s (delivered_depth d s + 1)

abbrev pub way_of : Group → List ℕ → List ℕ → Step → Way
way_of g l d s = lifted (lift_of g d s) (course g l d s)

-- ---- handing over

-- where a message of process i stands, and its entry
abbrev pub spot_of : ℕ → Message → Spot
spot_of i m = record { place = place_of i m; entry = entry_for i m }

-- process i handed m over at the depth k: both stores after it, how many messages that is, and how many of them had their entry sent before
pub record HandsOver (i : ℕ) (m : Option Message) (k : ℕ) (l d l' d' : List ℕ) (t : Traffic) : Type 0 where
  pub store : l' ≡ hand_over i m l
  pub depths : d' ≡ dated i m k l d
  pub sent : t.sent ≡ length (one i m)
  pub again : t.again ≡ repeats i m l

-- and then another
pub record HandsOverBoth (i : ℕ) (m m' : Option Message) (k : ℕ) (l d l' d' : List ℕ) (t : Traffic) : Type 0 where
  pub store : l' ≡ hand_over i m' (hand_over i m l)
  pub depths : d' ≡ dated i m' k (hand_over i m l) (dated i m k l d)
  pub sent : t.sent ≡ length (one i m) + length (one i m')
  pub again : t.again ≡ repeats i m l + repeats i m' (hand_over i m l)

-- ---- what the functions ask

-- a course, once 11, the short 14, the group's 2, 3 and 4 are ruled out
pub record Numbered (n : ℕ) (p : Process) (s : Step) : Type 0 where
  pub high : n ≤ greatest_size
  pub round : p.round ≤ last_round
  pub numbers : number_rows n s ≡ 0

-- handing over the messages of x, to both stores
pub record Handable (x : Next) (l d : List ℕ) : Type 0 where
  pub first : message_round x.first ≤ last_round
  pub second : message_round x.second ≤ last_round
  pub long : store_length ≤ length l
  pub deep_long : store_length ≤ length d
