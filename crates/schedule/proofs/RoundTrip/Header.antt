-- The round trip of words and of a section's first line: what is spelled is read, and what is read is spelled. Assumes nothing.
use mathlib.Core.Path.{◌≡◌, refl, sym, ap, ◌∙◌, subst}
use mathlib.Core.Bool.{Bool, true, false}
use mathlib.Core.List.{List, [], ◌∷◌}
use Prim.Native.Nat.{ℕ, ◌+◌, ◌≤◌, ◌<◌}
use native.Mathlib.Omega.{arith}
use lib.Dec.{eqb, ltb}
use lib.ListN.{length, get_or}
use borrow.Author.Tests.{lt-ltb, eq-eqb, ltb-true, eqb-true}
use Rattle.std.specs.Prelude.{Result, Ok, Err}
use Rattle.text.specs.declared.number.Broken.{Broken}
use Rattle.text.specs.Read.{Read, bad}
use Rattle.text.proofs.ReadLaws.{got}
use Rattle.text.specs.Number.{pick, most}
use Rattle.text.specs.Stands.{Stands}
use Rattle.schedule.specs.Line.{spaced, ending, spaced_at, Small}
use Rattle.schedule.specs.Header.{header_of, on_word, word_at, alone_at, header_at}
use Rattle.schedule.proofs.Reading.Cases.{closed_is, closed-read}
use Rattle.text.proofs.StandsLaws.{stands-none, stands-join, stands-first, stands-rest, stands-byte, stands-tail, stands_here, stands-within, byte-stands}
use Rattle.schedule.proofs.RoundTrip.StepLine.{quiet-byte, spaced-spelled}
use Rattle.schedule.proofs.RoundTrip.Found.{head-stands, Form, spaced-form}

-- ---- a space, a number and LF

module _ (s : List ℕ) where
  pub alone-spelled : (at m v : ℕ) → v ≤ most → Stands s at m (spaced v (ending false)) → alone_at s at ≡ got v m
  unfolding alone_at
  alone-spelled at m v h p =
      let k = spaced-spelled s at m v (10 ∷ []) h (quiet-byte s m 10 [] (omega arith)) p in
      closed_is s k.read (byte-stands s k.place m 10 [] k.rest) ∙ ap (got v) (sym k.rest.end)

  pub alone-read : (at m v : ℕ) → alone_at s at ≡ got v m → (v ≤ most) × Stands s at m (spaced v (ending false))
  unfolding alone_at
  alone-read at m v e =
      let c = closed-read s (spaced_at s at) v m e in
      let h = subst (Form s Small spaced at) c.is (spaced-form s at) in
      (h.0, subst (λ (k : ℕ). Stands s at k (spaced v (ending false))) c.end (head-stands s (c.place + 1) (10 ∷ []) h.1 (stands-byte s c.place 10 (omega arith) c.lf)))

-- ---- a word

pub word-spelled : (s w : List ℕ) (at n : ℕ) → Stands s at n w → word_at s at w ≡ Ok n
unfolding word_at
word-spelled s [] at n p = ap Ok (omega (arith, p.end))
word-spelled s (b ∷ w) at n p =
    rw (lt-ltb at (length s) (stands-within s at n b w p), eq-eqb (get_or s at 0) b (byte-stands s at n b w p)) (word-spelled s w (at + 1) n (stands-tail s at n b w p))

abbrev WordSound : List ℕ → ℕ → List ℕ → Result ℕ Broken → Type 0
WordSound s at w (Err p) = Unit {0}
WordSound s at w (Ok n) = Stands s at n w

word_byte : (s : List ℕ) (at b : ℕ) (w : List ℕ) → at < length s → get_or s at 0 ≡ b → (r : Result ℕ Broken) → WordSound s (at + 1) w r → WordSound s at (b ∷ w) r
word_byte s at b w h e (Err p) k = tt
word_byte s at b w h e (Ok n) k = stands_here s at n b w h e k

word-pick : (s : List ℕ) (at b : ℕ) (w : List ℕ) (r : Result ℕ Broken) → WordSound s (at + 1) w r → (x : Bool) → ltb at (length s) ≡ x → (y : Bool) → eqb (get_or s at 0) b ≡ y
    → WordSound s at (b ∷ w) (pick x (pick y r (bad at)) (bad at))
word-pick s at b w r k false e y f = tt
word-pick s at b w r k true e false f = tt
word-pick s at b w r k true e true f = word_byte s at b w (ltb-true at (length s) e) (eqb-true (get_or s at 0) b f) r k

word_sound : (s w : List ℕ) (at : ℕ) → WordSound s at w (word_at s at w)
unfolding word_at
word_sound s [] at = stands-none s at
word_sound s (b ∷ w) at = word-pick s at b w (word_at s (at + 1) w) (word_sound s w (at + 1)) (ltb at (length s)) refl (eqb (get_or s at 0) b) refl

pub word_read : (s w : List ℕ) (at n : ℕ) → word_at s at w ≡ Ok n → Stands s at n w
word_read s w at n e = subst (WordSound s at w) e (word_sound s w at)

-- ---- a section's first line

header-got : (s : List ℕ) (at : ℕ) (w : List ℕ) (n : ℕ) → word_at s at w ≡ Ok n → header_at s at w ≡ alone_at s n
unfolding header_at
header-got s at w n e = rw e

module _ (s : List ℕ) (at : ℕ) (w : List ℕ) where
  pub header-spelled : (m v : ℕ) → v ≤ most → Stands s at m (header_of w v) → header_at s at w ≡ got v m
  header-spelled m v h p =
      header-got s at w (at + length w) (word-spelled s w at (at + length w) (stands-first s at m w (spaced v (ending false)) p))
      ∙ alone-spelled s (at + length w) m v h (stands-rest s at m w (spaced v (ending false)) p)

  abbrev HeaderSound : Read ℕ → Type 0
  HeaderSound (Err p) = Unit {0}
  HeaderSound (Ok (v, m)) = (v ≤ most) × Stands s at m (header_of w v)

  header-alone : (n : ℕ) → Stands s at n w → (r : Read ℕ) → alone_at s n ≡ r → HeaderSound r
  header-alone n p (Err q) e = tt
  header-alone n p (Ok (v, m)) e =
      let k = alone-read s n m v e in
      (k.0, stands-join s at n m w (spaced v (ending false)) p k.1)

  header-word : (r : Result ℕ Broken) → WordSound s at w r → HeaderSound (on_word r (alone_at s))
  header-word (Err p) k = tt
  header-word (Ok n) k = header-alone n k (alone_at s n) refl

  header-sound : HeaderSound (header_at s at w)
  unfolding header_at
  header-sound = header-word (word_at s at w) (word_sound s w at)

  pub header_read : (m v : ℕ) → header_at s at w ≡ got v m → (v ≤ most) × Stands s at m (header_of w v)
  header_read m v e = subst HeaderSound e header-sound
