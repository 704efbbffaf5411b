-- The laws of putting a process and its depth into a group and of taking one out, what the groups that a start makes have, and that a group with its depths forgotten has the same records.
-- Assumes nothing.
use mathlib.Core.Path.{◌≡◌, refl, sym, ap, ap₂, ◌∙◌}
use mathlib.Core.List.{List, [], ◌∷◌, map}
use mathlib.Core.Logic.{◌≢◌}
use Prim.Native.Nat.{ℕ, zero, suc, ◌-◌, ◌≤◌, ◌<◌}
use native.Mathlib.Decide.{ℕ_discrete}
use native.Mathlib.Omega.{arith}
use lib.ListN.{length, get_or, set, replicate, length-set}
use lib.Seq.{get_or-set_same, get_or-set_other}
use Rattle.rules.specs.declared.group.Group.{Group}
use Rattle.rules.specs.declared.group.Member.{Member}
use Rattle.rules.specs.declared.process.Process.{Process}
use Rattle.rules.specs.Layout.{group_of, member_with, nobody, member_at, process_at, depth_at, with_member, with_process, with_depth, Sized, blank_group, shallow, forgetting}
use Rattle.rules.specs.Records.{blank}
use Rattle.rules.specs.Start.{started_to, fresh}

-- ---- one process

-- what was put in comes out, and every other process stays
pub member-put : (g : Group) (i : ℕ) (m : Member) → Sized g → 1 ≤ i → i ≤ 16 → member_at (with_member g i m) i ≡ m
member-put g i m s lo hi = get_or-set_same g.members (i - 1) m nobody (omega (arith, s.members))

pub member-kept : (g : Group) (i j : ℕ) (m : Member) → 1 ≤ i → 1 ≤ j → j ≢ i → member_at (with_member g i m) j ≡ member_at g j
member-kept g i j m lo lo' ne = get_or-set_other g.members (i - 1) (j - 1) m nobody (λ e. ne (omega arith))

-- its record
pub process-put : (g : Group) (i : ℕ) (p : Process) → Sized g → 1 ≤ i → i ≤ 16 → process_at (with_process g i p) i ≡ p
unfolding process_at with_process
process-put g i p s lo hi = ap (λ (m : Member). m.process) (member-put g i (member_with p (depth_at g i)) s lo hi)

pub process-kept : (g : Group) (i j : ℕ) (p : Process) → 1 ≤ i → i ≤ 16 → 1 ≤ j → j ≤ 16 → j ≢ i
    → process_at (with_process g i p) j ≡ process_at g j
unfolding process_at with_process
process-kept g i j p lo hi lo' hi' ne = ap (λ (m : Member). m.process) (member-kept g i j (member_with p (depth_at g i)) lo lo' ne)

-- the size of the group and its places stay
pub with_size : (g : Group) (i : ℕ) (p : Process) → (with_process g i p).n ≡ g.n
unfolding with_process
with_size g i p = refl

pub sized-with : (g : Group) (i : ℕ) (p : Process) → Sized g → Sized (with_process g i p)
unfolding with_process
sized-with g i p s = record { members = simp length-set s.members }

-- ---- depths and records

-- a place written with what a part of it was before: the part is the same everywhere
part-same : {B : Type 0} (f : Member → B) (l : List Member) (k j : ℕ) (m : Member) → f m ≡ f (get_or l k nobody)
    → f (get_or (set l k m) j nobody) ≡ f (get_or l j nobody)
part-same f [] k j m e = refl
part-same f (x ∷ l) zero zero m e = e
part-same f (x ∷ l) zero (suc j) m e = refl
part-same f (x ∷ l) (suc k) zero m e = refl
part-same f (x ∷ l) (suc k) (suc j) m e = part-same f l k j m e

module _ (g : Group) (i k : ℕ) where
  -- no record sees a depth
  pub process-deep : (j : ℕ) → process_at (with_depth g i k) j ≡ process_at g j
  unfolding process_at with_depth
  process-deep j = part-same (λ (m : Member). m.process) g.members (i - 1) (j - 1) (member_with (process_at g i) k) refl

  -- the depth that is put in comes out, every other one stays
  pub depth-put : Sized g → 1 ≤ i → i ≤ 16 → depth_at (with_depth g i k) i ≡ k
  unfolding depth_at with_depth
  depth-put s lo hi = ap (λ (m : Member). m.depth) (member-put g i (member_with (process_at g i) k) s lo hi)

  pub depth-kept : (j : ℕ) → 1 ≤ i → 1 ≤ j → j ≢ i → depth_at (with_depth g i k) j ≡ depth_at g j
  unfolding depth_at with_depth
  depth-kept j lo lo' ne = ap (λ (m : Member). m.depth) (member-kept g i j (member_with (process_at g i) k) lo lo' ne)

  pub sized-deep : Sized g → Sized (with_depth g i k)
  unfolding with_depth
  sized-deep s = record { members = simp length-set s.members }

-- no depth sees a record
pub depth-with : (g : Group) (i : ℕ) (p : Process) (j : ℕ) → depth_at (with_process g i p) j ≡ depth_at g j
unfolding depth_at with_process
depth-with g i p j = part-same (λ (m : Member). m.depth) g.members (i - 1) (j - 1) (member_with p (depth_at g i)) refl

-- the record and then the depth of a process is the whole of it
set-both : (l : List Member) (k d : ℕ) (a : Member) → set (set l k a) k (member_with (get_or (set l k a) k nobody).process d) ≡ set l k (member_with a.process d)
set-both [] k d a = refl
set-both (x ∷ l) zero d a = refl
set-both (x ∷ l) (suc k) d a = ap (λ (t : List Member). x ∷ t) (set-both l k d a)

pub member-both : (g : Group) (i k : ℕ) (p : Process) → with_depth (with_process g i p) i k ≡ with_member g i (member_with p k)
unfolding with_depth with_process process_at
member-both g i k p = ap (group_of g.n) (set-both g.members (i - 1) k (member_with p (depth_at g i)))

-- ---- the depths forgotten

map-get : (l : List Member) (k : ℕ) → get_or (map shallow l) k nobody ≡ shallow (get_or l k nobody)
map-get [] k = refl
map-get (x ∷ l) zero = refl
map-get (x ∷ l) (suc k) = map-get l k

map-set : (l : List Member) (k : ℕ) (m : Member) → map shallow (set l k m) ≡ set (map shallow l) k (shallow m)
map-set [] k m = refl
map-set (x ∷ l) zero m = refl
map-set (x ∷ l) (suc k) m = ap (λ (t : List Member). shallow x ∷ t) (map-set l k m)

-- the records are the same
pub process-forgets : (g : Group) (j : ℕ) → process_at (forgetting g) j ≡ process_at g j
unfolding process_at forgetting
process-forgets g j = ap (λ (m : Member). m.process) (map-get g.members (j - 1))

-- every depth is 0
pub depth-forgets : (g : Group) (j : ℕ) → depth_at (forgetting g) j ≡ 0
unfolding depth_at forgetting
depth-forgets g j = ap (λ (m : Member). m.depth) (map-get g.members (j - 1))

-- a record that is put in, and a depth
pub forget-with : (g : Group) (i : ℕ) (p : Process) → forgetting (with_process g i p) ≡ with_process (forgetting g) i p
unfolding forgetting with_process
forget-with g i p =
    ap (group_of g.n) (map-set g.members (i - 1) (member_with p (depth_at g i)))
    ∙ ap (λ (k : ℕ). with_member (forgetting g) i (member_with p k)) (sym (depth-forgets g i))

pub forget-deep : (g : Group) (i k : ℕ) → forgetting (with_depth g i k) ≡ forgetting g
unfolding forgetting with_depth process_at
forget-deep g i k = ap (group_of g.n) (map-set g.members (i - 1) (member_with (process_at g i) k) ∙ same g.members (i - 1))
  where
    same : (l : List Member) (j : ℕ) → set (map shallow l) j (shallow (get_or l j nobody)) ≡ map shallow l
    same [] j = refl
    same (x ∷ l) zero = refl
    same (x ∷ l) (suc j) = ap (λ (t : List Member). shallow x ∷ t) (same l j)

-- ---- the groups of a start

pub sized-blank : (n : ℕ) → Sized (blank_group n)
unfolding blank_group
sized-blank n = record { members = refl }

-- every record of a blank group is blank, and every depth 0
member-blank : (n i : ℕ) → member_at (blank_group n) i ≡ nobody
unfolding blank_group
member-blank n i = all-nobody 16 (i - 1)
  where
    all-nobody : (k j : ℕ) → get_or (replicate k nobody) j nobody ≡ nobody
    all-nobody zero j = refl
    all-nobody (suc k) zero = refl
    all-nobody (suc k) (suc j) = all-nobody k j

pub blank-process : (n i : ℕ) → process_at (blank_group n) i ≡ blank
unfolding process_at
blank-process n i = ap (λ (m : Member). m.process) (member-blank n i)

depth-blank : (n j : ℕ) → depth_at (blank_group n) j ≡ 0
unfolding depth_at
depth-blank n j = ap (λ (m : Member). m.depth) (member-blank n j)

forget-blank : (n : ℕ) → forgetting (blank_group n) ≡ blank_group n
unfolding forgetting blank_group
forget-blank n = refl

module _ (vs : List ℕ) where
  -- places and size, with the first k processes started
  pub sized-started : (k : ℕ) → Sized (started_to vs k)
  unfolding started_to
  sized-started zero = sized-blank (length vs)
  sized-started (suc k) = sized-with (started_to vs k) (suc k) (fresh (suc k) (get_or vs k 0)) (sized-started k)

  pub started-size : (k : ℕ) → (started_to vs k).n ≡ length vs
  unfolding started_to with_process blank_group
  started-size zero = refl
  started-size (suc k) = started-size k

  -- each of the first k is fresh, with its value
  pub started-process : (k i : ℕ) → 1 ≤ i → i ≤ k → k ≤ 16 → process_at (started_to vs k) i ≡ fresh i (get_or vs (i - 1) 0)
  unfolding started_to
  started-process zero i a b c = absurd (omega arith)
  started-process (suc k) i a b c = go (ℕ_discrete i (suc k)) (λ h. started-process k i a h (omega arith))
    where
      p : Process
      p = fresh (suc k) (get_or vs k 0)

      go : Dec (i ≡ suc k) → (i ≤ k → process_at (started_to vs k) i ≡ fresh i (get_or vs (i - 1) 0))
          → process_at (with_process (started_to vs k) (suc k) p) i ≡ fresh i (get_or vs (i - 1) 0)
      go (yes e) ih =
          ap (process_at (with_process (started_to vs k) (suc k) p)) e
          ∙ process-put (started_to vs k) (suc k) p (sized-started k) (omega arith) c
          ∙ ap₂ (λ (x y : ℕ). fresh x (get_or vs y 0)) (sym e) (omega arith)
      go (no ne) ih = process-kept (started_to vs k) (suc k) i p (omega arith) c a (omega arith) ne ∙ ih (omega arith)

  -- every other one is blank
  pub started-blank : (k i : ℕ) → k < i → i ≤ 16 → process_at (started_to vs k) i ≡ blank
  unfolding started_to
  started-blank zero i a b = blank-process (length vs) i
  started-blank (suc k) i a b =
      process-kept (started_to vs k) (suc k) i (fresh (suc k) (get_or vs k 0)) (omega arith) (omega arith) (omega arith) b (omega arith)
      ∙ started-blank k i (omega arith) b

  -- and no depth is more than 0
  pub forget-started : (k : ℕ) → forgetting (started_to vs k) ≡ started_to vs k
  unfolding started_to
  forget-started zero = forget-blank (length vs)
  forget-started (suc k) =
      forget-with (started_to vs k) (suc k) (fresh (suc k) (get_or vs k 0))
      ∙ ap (λ (g : Group). with_process g (suc k) (fresh (suc k) (get_or vs k 0))) (forget-started k)

  pub depth-started : (k j : ℕ) → depth_at (started_to vs k) j ≡ 0
  unfolding started_to
  depth-started zero j = depth-blank (length vs) j
  depth-started (suc k) j = depth-with (started_to vs k) (suc k) (fresh (suc k) (get_or vs k 0)) j ∙ depth-started k j
