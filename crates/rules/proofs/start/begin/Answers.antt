-- `begin` meets its contract: the clearings, then the handing over. Assumes nothing.
use Rattle.std.specs.Prelude.{Some}
use Rattle.rules.specs.Depths.{dated}
use Rattle.rules.specs.Start.{first_message, opened, opened_depths}
use Rattle.rules.specs.Store.{hand_over, message_round}
use native.Mathlib.Omega.{arith}
use Prim.Native.Nat.{ℕ}
use mathlib.Core.List.{List}
use mathlib.Core.Path.{ap, ap₂, ◌∙◌}
use Rattle.rules.proofs.start.begin.Goals as goal

pub hand_over-requires : goal.hand_over-requires
unfolding message_round
hand_over-requires c = omega (arith, c.clear.auto, c.requires)

pub returns : goal.returns
unfolding opened opened_depths
returns c =
    let m = Some (first_message c.args.value) in
    let h = c.hand_over.ensures in
    let e = c.clear.ensures in (
      h.store ∙ ap₂ (λ (i : ℕ) (l : List ℕ). hand_over i m l) c.known.ensures e.0,
      h.depths ∙ ap (λ (i : ℕ). dated i m 0 c.clear.new.store c.clear.new.depths) c.known.ensures ∙ ap₂ (dated 1 m 0) e.0 e.1,
    )
