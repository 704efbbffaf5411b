-- The fields of a process that no stage of an event writes: its first value, and its number of recoveries, which a recover alone changes. Assumes nothing.
use mathlib.Core.Path.{◌≡◌, refl, ap, ◌∙◌}
use mathlib.Core.Bool.{Bool, true, false}
use mathlib.Core.List.{List}
use Prim.Native.Nat.{ℕ}
use Rattle.rules.specs.declared.group.Group.{Group}
use Rattle.rules.specs.declared.process.Process.{Process}
use Rattle.rules.specs.declared.process.Next.{Next}
use Rattle.rules.specs.declared.step.Step.{Step}
use Rattle.rules.specs.declared.step.Step.TheVariants.{DeliverE, DeliverS, DeliverF, DeliverDecision, Suspect, Pause, Crash, Recover}
use Rattle.rules.specs.Layout.{process_at}
use Rattle.rules.specs.Events.{takes, enters, joins_estimates, joins_suspicions, decides, second_phase, marks, paused, crashed, recovered, quiet, changed}
use Rattle.rules.specs.Events.{jumps_if, jumps, relays_if, relays, decides_if, decides_at, goes_to_phase2, goes_to_phase2_if, to_phase2, adopts_if, adopts}
use Rattle.rules.specs.Events.{enters_next_if, enters_next_at, on_e, on_s, on_f, on_decision, on_suspect, on_pause, on_crash, on_recover}
use Rattle.rules.specs.Kinds.{taker_of, event_of}
use Rattle.rules.specs.Refusals.{is_recover}

abbrev pub lasting : Process → ℕ × ℕ
lasting p = (p.first, p.recoveries)

-- ---- no stage writes them

jumps_if-keeps : (t : Bool) (r q v : ℕ) (p : Process) → lasting (jumps_if t r q v p) ≡ lasting p
unfolding jumps_if takes enters
jumps_if-keeps true r q v p = refl
jumps_if-keeps false r q v p = refl

relays_if-keeps : (t : Bool) (q v : ℕ) (p : Process) → lasting (relays_if t q v p).process ≡ lasting p
unfolding relays_if takes quiet
relays_if-keeps true q v p = refl
relays_if-keeps false q v p = refl

decides_if-keeps : (t : Bool) (x : Next) → lasting (decides_if t x).process ≡ lasting x.process
unfolding decides_if decides
decides_if-keeps true x = refl
decides_if-keeps false x = refl

phase2-keeps : (t : Bool) (p : Process) → lasting (goes_to_phase2_if t p).process ≡ lasting p
unfolding goes_to_phase2_if goes_to_phase2 second_phase quiet
phase2-keeps true p = refl
phase2-keeps false p = refl

adopts_if-keeps : (t : Bool) (q v : ℕ) (x : Next) → lasting (adopts_if t q v x).process ≡ lasting x.process
unfolding adopts_if changed takes
adopts_if-keeps true q v x = refl
adopts_if-keeps false q v x = refl

next_if-keeps : (t : Bool) (n i : ℕ) (x : Next) → lasting (enters_next_if t n i x).process ≡ lasting x.process
unfolding enters_next_if enters takes
next_if-keeps true n i x = refl
next_if-keeps false n i x = refl

on_e-keeps : (n i j r q v : ℕ) (p : Process) → lasting (on_e n i j r q v p).process ≡ lasting p
unfolding on_e decides_at relays jumps changed joins_estimates
on_e-keeps n i j r q v p = decides_if-keeps _ _ ∙ relays_if-keeps _ q v _ ∙ jumps_if-keeps _ r q v p

on_f-keeps : (n i j r q v : ℕ) (p : Process) → lasting (on_f n i j r q v p).process ≡ lasting p
unfolding on_f enters_next_at adopts to_phase2 jumps changed joins_estimates
on_f-keeps n i j r q v p = next_if-keeps _ n i _ ∙ adopts_if-keeps _ q v _ ∙ phase2-keeps _ _ ∙ jumps_if-keeps _ r q v p

-- ---- what is read off them every event keeps, if a recover does

pub event-keeps : {A : Type 0} (f : ℕ × ℕ → A) (g : Group) (l : List ℕ) (s : Step)
    → (is_recover s ≡ true → f (lasting (recovered (process_at g (taker_of s)))) ≡ f (lasting (process_at g (taker_of s))))
    → f (lasting (event_of g l s).process) ≡ f (lasting (process_at g (taker_of s)))
unfolding event_of taker_of is_recover on_s joins_suspicions on_decision decides on_suspect marks on_pause paused on_crash crashed on_recover quiet
event-keeps f g l (DeliverE i j r c) h = ap f (on_e-keeps g.n i j r _ _ (process_at g i))
event-keeps f g l (DeliverS i j r c) h = ap f (phase2-keeps _ (joins_suspicions j (process_at g i)))
event-keeps f g l (DeliverF i j r c) h = ap f (on_f-keeps g.n i j r _ _ (process_at g i))
event-keeps f g l (DeliverDecision i j c) h = refl
event-keeps f g l (Suspect i c) h = refl
event-keeps f g l (Pause i) h = refl
event-keeps f g l (Crash i) h = refl
event-keeps f g l (Recover i) h = h refl
