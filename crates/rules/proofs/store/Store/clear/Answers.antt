-- `Store::clear` meets its contract: the places of both stores are filled with 0, and the rest stays. Assumes nothing.
use mathlib.Core.Path.{◌≡◌, ap, ◌∙◌}
use mathlib.Core.List.{List, ◌++◌}
use native.Mathlib.Omega.{arith}
use Prim.Native.Nat.{ℕ, ◌≤◌}
use lib.ListN.{length, take, drop, replicate, length-take}
use Rattle.rules.specs.Store.{cleared}
use Rattle.rules.proofs.store.Store.clear.Goals as goal

filled : (l k : List ℕ) → 3088 ≤ length l → k ≡ replicate (length (take 3088 l)) 0 → k ++ drop 3088 l ≡ cleared 3088 l
unfolding cleared
filled l k h e =
    let long : length (take 3088 l) ≡ 3088 = omega (arith, length-take 3088 l, h) in
    ap (λ (j : List ℕ). j ++ drop 3088 l) (e ∙ ap (λ (n : ℕ). replicate n 0) long)

pub returns : goal.returns
returns c = (
  filled c.args.store.now c.fill.new.self c.requires.0 (c.fill.ensures.after (λ y e. e)),
  filled c.args.depths.now c.fill-2.new.self c.requires.1 (c.fill-2.ensures.after (λ y e. e)),
)
