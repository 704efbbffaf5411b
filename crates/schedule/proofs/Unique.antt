-- Each public contract admits one outcome: two that meet it on one input are equal. And of the rest of a file one column alone is where it breaks the form. Assumes nothing.
use mathlib.Core.Path.{◌≡◌, refl, sym, ap, ◌∙◌}
use mathlib.Core.List.{List, [], ◌∷◌, ◌++◌, append_assoc}
use Prim.Native.Nat.{ℕ, ◌<◌}
use native.Mathlib.Omega.{arith}
use native.Mathlib.Decide.{dec_lt}
use lib.ListN.{length}
use Rattle.std.specs.Prelude.{Result}
use Rattle.schedule.specs.Files.{BreaksForm}
use Rattle.schedule.specs.Run.{RanOver, ran_over, run_of}
use Rattle.schedule.specs.declared.fault.Fault.{Fault}
use Rattle.schedule.specs.declared.run.Ran.{Ran}

-- of the run: the answer and the whole content of both stores
pub run-one : (s l d : List ℕ) {r q : Result Ran Fault} {a b a' b' : List ℕ} → ran_over r a a' ≡ run_of s l d → ran_over q b b' ≡ run_of s l d → (r ≡ q) × (a ≡ b) × (a' ≡ b')
run-one s l d x y = (
  ap (λ (o : RanOver). o.ran) (x ∙ sym y),
  ap (λ (o : RanOver). o.store) (x ∙ sym y),
  ap (λ (o : RanOver). o.depths) (x ∙ sym y),
)

-- ---- one column

-- of two beginnings of a list the longer one goes on behind the shorter with the byte that stands there
record Longer (a m b n : List ℕ) : Type 0 where
  byte : ℕ
  others : List ℕ
  is : b ≡ a ++ (byte ∷ others)
  there : m ≡ byte ∷ (others ++ n)

longer : (a m b n : List ℕ) → a ++ m ≡ b ++ n → length a < length b → Longer a m b n
longer [] m [] n e h = absurd (omega arith)
longer [] m (x ∷ b) n e h = record { byte = x; others = b; is = refl; there = e }
longer (y ∷ a) m [] n e h = absurd (omega arith)
longer (y ∷ a) m (x ∷ b) n e h =
    let same : y ≡ x = cc in
    let rest : a ++ m ≡ b ++ n = cc in
    let r = longer a m b n rest (omega arith) in
    record { byte = r.byte; others = r.others; is = ap (λ (l : List ℕ). x ∷ l) r.is ∙ ap (λ (z : ℕ). z ∷ (a ++ (r.byte ∷ r.others))) (sym same); there = r.there }

module _ (P : List ℕ → Type 0) (rest : List ℕ) where
  no_longer : {c d : ℕ} (x : BreaksForm P rest c) (y : BreaksForm P rest d) → length x.good < length y.good → ⊥
  no_longer x y h =
      let r = longer x.good x.more y.good y.more (sym x.is ∙ y.is) h in
      x.stops r.byte (r.others ++ y.more) y.line (r.others ++ y.left) r.there y.asked
      (y.begins ∙ ap (λ (l : List ℕ). l ++ y.left) r.is ∙ append_assoc x.good (r.byte ∷ r.others) y.left)

  pub column-one : {c d : ℕ} → BreaksForm P rest c → BreaksForm P rest d → c ≡ d
  column-one {c} {d} x y = go (dec_lt (length x.good) (length y.good)) (dec_lt (length y.good) (length x.good))
    where
      go : Dec (length x.good < length y.good) → Dec (length y.good < length x.good) → c ≡ d
      go (yes h) q = absurd (no_longer x y h)
      go (no n) (yes h) = absurd (no_longer y x h)
      go (no n) (no m) = let a = x.place in let b = y.place in omega arith
