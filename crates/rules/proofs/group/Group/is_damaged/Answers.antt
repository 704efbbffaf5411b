use Rattle.rules.proofs.Laws.Row.{some-true, some-false, among_in}
use Rattle.rules.proofs.Laws.All.{all_none}
use Rattle.rules.specs.Refusals.{damaged, all_of, whole}
use Rattle.rules.specs.Layout.{process_at, depth_at, member_at, nobody}
use Rattle.rules.specs.Limits.{deepest_process, among}
use Rattle.rules.specs.declared.group.Group.{Group}
use borrow.Author.Tests.{leb-true, leb-false}
use lib.Dec.{leb}
use native.Mathlib.Omega.{arith}
use native.Mathlib.Numerals.{add-one}
use Prim.Native.Nat.{ℕ, ◌+◌, ◌-◌, min}
use mathlib.Core.List.{List}
use lib.ListN.{get_or}
use Rattle.rules.specs.Records.{blank}
use Rattle.rules.specs.declared.group.Member.{Member}
use mathlib.Core.Bool.{Bool, true, false, ◌&&◌, ◌||◌, not}
use mathlib.Core.Path.{◌≡◌, refl, sym, ap, ap₂, ◌∙◌}
use Rattle.rules.proofs.group.Group.is_damaged.Invariants.{fit_in}
use Rattle.rules.proofs.group.Group.is_damaged.Goals as goal

or-true : (b : Bool) → (b || true) ≡ true
or-true true = refl
or-true false = refl

or-false : (b : Bool) → (b || false) ≡ b
or-false true = refl
or-false false = refl

and-true : (b : Bool) → (b && true) ≡ b
and-true true = refl
and-true false = refl

-- of the first k of 1..n: one more, where n has it
module _ (p : ℕ → Bool) where
  all-next : (k : ℕ) → all_of p (k + 1) ≡ (all_of p k && p (k + 1))
  unfolding all_of
  all-next k = rw (add-one k)

  more : (n k : ℕ) → (all_of p (min k n) && (p (k + 1) || leb n k)) ≡ all_of p (min (k + 1) n)
  more n k = go (leb n k) refl
    where
      go : (b : Bool) → leb n k ≡ b → (all_of p (min k n) && (p (k + 1) || b)) ≡ all_of p (min (k + 1) n)
      go true e =
          let h = leb-true n k e in
          ap (λ (b : Bool). all_of p (min k n) && b) (or-true (p (k + 1))) ∙ and-true _ ∙ ap (all_of p) (omega (arith, h))
      go false e =
          let h = leb-false n k e in
          ap₂ ◌&&◌ (ap (all_of p) (omega (arith, h))) (or-false (p (k + 1))) ∙ sym (all-next k) ∙ ap (all_of p) (omega (arith, h))

module _ (g : Group) where
  by_size : among 16 g.n ≡ false → true ≡ damaged g
  unfolding damaged
  by_size a = rw a

  by_all : {sound : Bool} → among 16 g.n ≡ true → sound ≡ all_of (fit_in g) g.n → not sound ≡ damaged g
  unfolding damaged
  by_all a b = ap not b ∙ ap (λ (x : Bool). not (x && all_of (fit_in g) g.n)) (sym a)

-- process k + 1 stands at k
at-next : (l : List Member) (k : ℕ) → get_or l k nobody ≡ get_or l (k + 1 - 1) nobody
at-next l k = let e : k ≡ k + 1 - 1 = omega arith in ap (λ (j : ℕ). get_or l j nobody) e

pub returns-in_default : goal.returns-in_default
returns-in_default c = by_size _ (some-false _ _ (sym c.new.ensures ∙ c.in_default.is))

pub loop-k-init : goal.loop-k-init
loop-k-init c =
    let e = some-true _ _ (sym c.new.ensures ∙ c.in-Some.is) in
    (e.0, e.1, e.2, sym (ap (all_of (fit_in _)) (omega arith) ∙ all_none _))

pub loop-k-preserved : goal.loop-k-preserved
unfolding process_at depth_at blank
loop-k-preserved c =
    let l = c.loop-k in
    let v = l.invariant in
    let g = c.args.self.now in (
      v.0,
      v.1,
      v.2,
      ap₂ (λ (s w : Bool). s && (w || leb g.n l.k)) v.3 (c.is_sound.ensures ∙ ap (λ (m : Member). whole c.in-Some.n m.process && leb m.depth deepest_process) (at-next g.members l.k) ∙ ap (λ (n : ℕ). whole n (member_at g (l.k + 1)).process && leb (member_at g (l.k + 1)).depth deepest_process) v.0)
          ∙ ap (λ (n : ℕ). all_of (fit_in g) (min l.k n) && (fit_in g (l.k + 1) || leb g.n l.k)) v.0 ∙ more (fit_in g) g.n l.k ∙ ap (λ (n : ℕ). all_of (fit_in g) (min (l.k + 1) n)) (sym v.0),
    )

pub returns : goal.returns
returns c =
    let v = c.loop-k.invariant in
    by_all _ (among_in 16 c.args.self.now.n (omega (arith, v.0, v.1)) (omega (arith, v.0, v.2))) (v.3 ∙ ap (all_of (fit_in _)) (omega (arith, v.0, c.loop-k-test.false, c.loop-k.auto)))
