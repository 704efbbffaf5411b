-- `Group::way_of` meets its contract: the address, then the course over the record and over what the step hears. Assumes nothing.
use Rattle.rules.proofs.Laws.Course.{reached, misses-course, place-low, numbered}
use Rattle.rules.proofs.Laws.Way.{heard-held, heard-is, placed}
use Rattle.rules.specs.Private.{told, lifted, told_address, address_of, lifts, held_course, entry_heard, depth_heard}
use Rattle.rules.proofs.Laws.Passing.{deep-facts}
use Rattle.rules.specs.Layout.{process_at}
use Rattle.rules.specs.declared.group.Member.{Member}
use Rattle.std.specs.Prelude.{Option}
use Rattle.rules.specs.declared.course.Heard.{Heard}
use Rattle.std.proofs.lemmas.Result.{err_from_is_err_and}
use native.Mathlib.Omega.{arith}
use Prim.Native.Nat.{ℕ, ◌+◌}
use mathlib.Core.Path.{sym, ap, ap₂, ◌∙◌}
use Rattle.rules.proofs.group.Group.way_of.Goals as goal

pub known-n-requires : goal.known-n-requires
known-n-requires c = let f = (deep-facts _ c.requires.sound).0 in (f.low, f.high)

pub returns-in_err-address : goal.returns-in_err-address
unfolding told lifted told_address
returns-in_err-address c =
    let p = err_from_is_err_and c.from_residual.result c.from_residual.ensures.1 in
    rw (p.1, p.2) (ap (lifted _) (misses-course _ _ _ _ c.requires (sym (c.in_err-address.ensures ∙ ap (λ (n : ℕ). address_of n c.args.step) c.known-n.ensures))))

pub at-heard-requires : goal.at-heard-requires
unfolding told_address
at-heard-requires c =
    let g = c.args.self.now in
    let t = reached g.n c.args.step (sym (c.in_ok-address.ensures ∙ ap (λ (n : ℕ). address_of n c.args.step) c.known-n.ensures)) in
    let low = place-low g.n c.args.step (deep-facts g c.requires.sound).0.high t.numbers in
    placed c.in_ok-address.address.place _ _ t.place_is (omega (arith, low, c.requires.long)) (omega (arith, low, c.requires.deep_long))

pub way-requires : goal.way-requires
unfolding told_address process_at
way-requires c =
    let g = c.args.self.now in
    let t = reached g.n c.args.step (sym (c.in_ok-address.ensures ∙ ap (λ (n : ℕ). address_of n c.args.step) c.known-n.ensures)) in (
      rw c.known-n.ensures (numbered g _ _ _ c.requires t.numbers (ap (λ (m : Member). m.process) c.member.ensures ∙ ap (process_at g) t.taker-is)),
      rw c.at-heard.ensures (heard-is c.in_ok-address.address.place c.args.store.now c.args.depths.now ∙ t.delivers-is),
      t.recovers-is,
    )

pub returns : goal.returns
unfolding told_address process_at
returns c =
    let g = c.args.self.now in
    let s = c.args.step in
    let o = c.in_ok-address.address.place in
    let t = reached g.n s (sym (c.in_ok-address.ensures ∙ ap (λ (n : ℕ). address_of n s) c.known-n.ensures)) in
    c.way.ensures
    ∙ ap₂ (λ (n : ℕ) (h : Option Heard). lifted (lifts c.member.result.process s (depth_heard h + 1)) (held_course n c.in_ok-address.address.taker (entry_heard h) (depth_heard h) c.member.result.process s))
    c.known-n.ensures c.at-heard.ensures
    ∙ heard-held g c.args.store.now c.args.depths.now s o c.requires t.numbers t.taker-is t.place_is t.delivers-is (ap (λ (m : Member). m.process) c.member.ensures ∙ ap (process_at g) t.taker-is)
