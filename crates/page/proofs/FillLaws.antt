-- The laws of a template: what the loop that fills it has done after i bytes, with what is left of the numbers. Assumes nothing.
use Prim.Native.Nat.{ℕ, suc, ◌+◌, ◌-◌, ◌*◌, ◌≤◌, ◌<◌}
use mathlib.Core.Path.{◌≡◌, refl, sym, ap, ap₂, ◌∙◌}
use mathlib.Core.List.{List, [], ◌∷◌, ◌++◌, append_assoc, append-nil}
use native.Mathlib.Omega.{arith}
use native.Mathlib.Numerals.{add-one}
use lib.ListN.{length, get_or, drop, set, drop_of_length-le}
use lib.Seq.{drop-cons}
use borrow.Author.Tests.{ne_eqb}
use Rattle.text.specs.Number.{most, spelled}
use Rattle.text.specs.Put.{Puts}
use Rattle.text.proofs.PutLaws.{spelled-long, wrote-length, wrote-byte}
use Rattle.page.specs.Private.{longest_of}
use Rattle.page.specs.Filled.{mark, filled}
use Rattle.page.specs.Private.{Piece}
use Rattle.page.proofs.PieceLaws.{piece-none, piece-put, piece-more, piece-within}

-- ---- one byte of a template

-- a mark stands for the next number
filled-mark : (t : List ℕ) (n : ℕ) (ns : List ℕ) → filled (mark ∷ t) (n ∷ ns) ≡ spelled n ++ filled t ns
unfolding filled
filled-mark t n ns = refl

-- any other byte stands as it is, and so does a mark that no number is left for
filled-byte : (b : ℕ) (t ns : List ℕ) → (b ≡ mark → length ns < 1) → filled (b ∷ t) ns ≡ b ∷ filled t ns
unfolding filled
filled-byte b t [] h = refl
filled-byte b t (n ∷ ns) h =
    let other : b ≡ mark → ⊥ = λ e. let g = h e in absurd (omega arith) in
    rw (ne_eqb b mark other)

-- ---- the loop

-- a text was written that, with what is left of the template and of the numbers, is the template filled
pub record Filling (l : List ℕ) (at : ℕ) (t ns m : List ℕ) (i : ℕ) (left : List ℕ) (next : ℕ) : Type 0 where
  pub text : List ℕ
  pub piece : Piece (longest_of i (length ns - length left)) l at text m next
  pub rest : text ++ filled (drop i t) left ≡ filled t ns
  pub line : i ≤ length t
  pub taken : length left ≤ length ns

pub fill_start : (l : List ℕ) (at : ℕ) (t ns : List ℕ) → at ≤ length l → Filling l at t ns l 0 ns at
fill_start l at t ns h = record { text = []; piece = piece-within (omega arith) refl (piece-none l at h); rest = refl; line = omega arith; taken = omega arith }

module _ {l t ns m left : List ℕ} {at i next : ℕ} (f : Filling l at t ns m i left next) (room : at + longest_of (length t) (length ns) ≤ length l) (h : i < length t) where
  from-here : drop i t ≡ get_or t i 0 ∷ drop (i + 1) t
  from-here = rw (add-one, drop-cons t i 0)

  -- as much room as the rest of the template may take
  rest-fits : (n : ℕ) → longest_of i (length ns - length left) + n ≤ longest_of (length t) (length ns) → next + n ≤ length m
  rest-fits n g = omega (arith, f.piece.wrote.end, f.piece.short, wrote-length f.piece.wrote)

  -- one piece of the template more
  filling-more : {p m' : List ℕ} {a next' : ℕ} (left' : List ℕ) → Piece a m next p m' next' → filled (drop i t) left ≡ p ++ filled (drop (i + 1) t) left'
      → 9 * length left' + a ≤ 9 * length left + 1 → length left' ≤ length left → Filling l at t ns m' (i + 1) left' next'
  filling-more {p} left' x e short less =
      let taken = f.taken in
      record {
        text = f.text ++ p;
        piece = piece-within (omega arith) refl (piece-more f.piece x);
        rest = append_assoc f.text p (filled (drop (i + 1) t) left') ∙ ap (λ (y : List ℕ). f.text ++ y) (sym e) ∙ f.rest;
        line = omega arith;
        taken = omega arith;
      }

  pub fill-number : {m' : List ℕ} {n next' : ℕ} (others : List ℕ) → get_or t i 0 ≡ mark → left ≡ n ∷ others → n ≤ most
      → Puts m next (spelled n) m' next' → Filling l at t ns m' (i + 1) others next'
  fill-number {m'} {n} {next'} others e g small p =
      let one : length left ≡ suc (length others) = ap length g in
      let taken = f.taken in
      let digits = piece-put 10 (spelled-long n small) (rest-fits 10 (omega arith)) p in
      let here : filled (drop i t) left ≡ spelled n ++ filled (drop (i + 1) t) others =
      ap₂ filled (from-here ∙ ap (λ (b : ℕ). b ∷ drop (i + 1) t) e) g ∙ filled-mark (drop (i + 1) t) n others in
      filling-more others digits here (omega arith) (omega arith)

  pub fill-byte : (get_or t i 0 ≡ mark → length left < 1) → Filling l at t ns (set m next (get_or t i 0)) (i + 1) left (next + 1)
  fill-byte e =
      let taken = f.taken in
      let byte : Piece 1 m next (get_or t i 0 ∷ []) (set m next (get_or t i 0)) (next + 1) =
      record { wrote = wrote-byte m next (get_or t i 0) (omega (arith, rest-fits 1 (omega arith))); short = omega arith } in
      let here : filled (drop i t) left ≡ get_or t i 0 ∷ filled (drop (i + 1) t) left =
      ap (λ (x : List ℕ). filled x left) from-here ∙ filled-byte (get_or t i 0) (drop (i + 1) t) left e in
      filling-more left byte here (omega arith) (omega arith)

-- where the template ends, all of it is written
pub fill_end : {l t ns m left : List ℕ} {at i next : ℕ} → length t ≤ i → Filling l at t ns m i left next → Piece (longest_of (length t) (length ns)) l at (filled t ns) m next
unfolding filled
fill_end {l} {t} {ns} {m} {left} {at} {i} {next} h f =
    let none : drop i t ≡ [] = drop_of_length-le t h in
    let all : f.text ≡ filled t ns = sym (append-nil f.text) ∙ ap (λ (x : List ℕ). f.text ++ filled x left) (sym none) ∙ f.rest in
    piece-within (omega (arith, f.line, f.taken)) all f.piece
