use Rattle.rules.specs.Start.{started_to, fresh}
use Rattle.rules.specs.Layout.{member_with, with_member, with_process, blank_group}
use Rattle.rules.specs.declared.process.Process.{Process}
use Rattle.rules.specs.declared.group.Group.{Group}
use Rattle.rules.proofs.Laws.Group.{depth-started}
use lib.ListN.{length, get_or}
use native.Mathlib.Omega.{arith}
use native.Mathlib.Numerals.{add-one}
use Prim.Native.Nat.{ℕ, suc, ◌+◌}
use mathlib.Core.List.{List}
use mathlib.Core.Path.{◌≡◌, sym, ap, ap₂, ◌∙◌}
use Rattle.rules.proofs.group.Group.fresh.Goals as goal

started-more : (vs : List ℕ) (k : ℕ) → with_member (started_to vs k) (k + 1) (member_with (fresh (k + 1) (get_or vs k 0)) 0) ≡ started_to vs (k + 1)
unfolding started_to with_process
started-more vs k = rw (add-one k) (ap (λ (d : ℕ). with_member (started_to vs k) (suc k) (member_with (fresh (suc k) (get_or vs k 0)) d)) (sym (depth-started vs k (suc k))))

blank-of : (n : ℕ) {m : ℕ} {g : Group} → m ≡ n → g ≡ blank_group 0 → record { n = m; members = g.members } ≡ blank_group n
unfolding blank_group
blank-of n e h = λ t. record { n = e t; members = (h t).members }

pub loop-k-init : goal.loop-k-init
unfolding started_to
loop-k-init c = blank-of (length c.args.values.now) (c.number.ensures.is ∙ c.requires) c.none.ensures

pub loop-k-preserved : goal.loop-k-preserved
loop-k-preserved c =
    let vs = c.args.values.now in
    let v = get_or vs c.loop-k.k 0 in
    c.put.ensures
    ∙ ap₂ (λ (g : Group) (p : Process). with_member g c.known-i.result (member_with p 0)) c.loop-k.invariant c.fresh.ensures
    ∙ ap (λ (i : ℕ). with_member (started_to vs c.loop-k.k) i (member_with (fresh i v) 0)) c.known-i.ensures
    ∙ started-more vs c.loop-k.k

pub returns : goal.returns
returns c = c.loop-k.invariant ∙ ap (started_to c.args.values.now) (omega (arith, c.loop-k-test.false, c.loop-k.auto))
