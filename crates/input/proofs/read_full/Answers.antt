-- One read behind the bytes that stand already gives those and its own, in that order.
use Rattle.std.proofs.Common.{◌≡◌, ℕ, ◌+◌, ◌-◌, ◌≤◌, List, ◌++◌, length, take, sym, ap, ◌∙◌, subst, rules}
use Rattle.std.proofs.Math.Seq.{take-append-add}
use Rattle.std.proofs.lemmas.List.{take-append-le, length-take-le}
use Rattle.std.proofs.KnownBytes.{Consumes-trans}
use Rattle.std.specs.Io.KnownBytes.{Consumes}
use borrow.Rule.Slice.PartMut.{put_mid, post_of}
use Rattle.input.proofs.read_full.Goals as goal

-- m bytes of the part that begins at a
filled : (a k m : ℕ) (xs ys : List ℕ) → a ≤ length xs → m ≤ length ys → take (a + m) (put_mid a k xs ys) ≡ take a xs ++ take m ys
filled a k m xs ys h g =
    ap (λ (n : ℕ). take (n + m) (put_mid a k xs ys)) (sym (length-take-le a xs h)) ∙ take-append-add (take a xs) (ys ++ post_of a k xs) m
    ∙ ap (λ (l : List ℕ). take a xs ++ l) (take-append-le m ys (post_of a k xs) g)

pub loop-done-preserved : goal.loop-done-preserved
loop-done-preserved g c =
    let l = c.loop-done in
    let r = c.in-Ok in
    let both = filled l.done (length l.buf - l.done) r.got l.buf c.read.new.buf l.invariant.0 r.ensures.bound.0 in
    (search rules, subst (Consumes _ _) (sym both) (Consumes-trans _ _ _ _ _ l.invariant.1 r.ensures.bytes.0))
