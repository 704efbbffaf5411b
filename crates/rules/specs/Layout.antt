-- How a group keeps its records and depths: each process stands with its record and its depth, one after the other. A reader may skip this page: all that is used of it is that what is put in
-- for a process comes out, and that everything else stays (`process-put`, `process-kept`, `depth-put`, `depth-kept`, `process-deep`, `depth-with`, `process-forgets` in proofs/Laws/Group.antt).
-- Assumes nothing.
use Rattle.std.specs.Prelude.{◌≡◌, List, ℕ, ◌-◌, length, get_or, set, replicate, map}
use Rattle.rules.specs.declared.group.Group.{Group}
use Rattle.rules.specs.declared.group.Member.{Member}
use Rattle.rules.specs.declared.process.Process.{Process}
use Rattle.rules.specs.Limits.{greatest_size}
use Rattle.rules.specs.Records.{blank}

-- a group of size n; process i stands at i - 1
abbrev pub group_of : ℕ → List Member → Group
group_of n members = record { n = n; members = members }

-- a process: its record, and the depth of request 2026-06, which is no part of the record: no rule of document 01 reads or writes it
abbrev pub member_with : Process → ℕ → Member
member_with p k = record { process = p; depth = k }

-- with a blank record and the depth 0
abbrev pub nobody : Member
nobody = member_with blank 0

-- process i of g, its record and its depth
abbrev pub member_at : Group → ℕ → Member
member_at g i = get_or g.members (i - 1) nobody

unfoldable pub process_at : Group → ℕ → Process
process_at g i = (member_at g i).process

unfoldable pub depth_at : Group → ℕ → ℕ
depth_at g i = (member_at g i).depth

-- g with m as process i; with another record, and with another depth
abbrev pub with_member : Group → ℕ → Member → Group
with_member g i m = group_of g.n (set g.members (i - 1) m)

unfoldable pub with_process : Group → ℕ → Process → Group
with_process g i p = with_member g i (member_with p (depth_at g i))

unfoldable pub with_depth : Group → ℕ → ℕ → Group
with_depth g i k = with_member g i (member_with (process_at g i) k)

-- all places are there: so they are in every group that the code holds
pub record Sized (g : Group) : Type 0 where
  pub members : length g.members ≡ greatest_size

-- a group of size n with every record blank, and every depth 0
unfoldable pub blank_group : ℕ → Group
blank_group n = group_of n (replicate greatest_size nobody)

-- g with every depth 0: two groups that differ in depths alone are the same so
abbrev pub shallow : Member → Member
shallow m = member_with m.process 0

unfoldable pub forgetting : Group → Group
forgetting g = group_of g.n (map shallow g.members)
