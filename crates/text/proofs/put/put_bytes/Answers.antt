-- `put::put_bytes` meets its contract: without room nothing is done, and with room the bytes of the place are the text's. Assumes nothing.
use Prim.Native.Nat.{◌+◌}
use mathlib.Core.Path.{refl, sym, ◌∙◌}
use native.Mathlib.Omega.{arith}
use lib.ListN.{length}
use borrow.Author.Tests.{leb-true}
use Rattle.std.proofs.lemmas.Slice.{put_mid-paste}
use Rattle.text.proofs.PutLaws.{put_all, puts-all, puts_none}
use Rattle.text.proofs.put.put_bytes.Goals as goal

pub returns-then-not-has_room : goal.returns-then-not-has_room
returns-then-not-has_room c =
    let a = c.args in
    puts_none a.out.now a.at a.text.now (sym c.has_room.ensures ∙ c.if-not-has_room.true)

pub returns : goal.returns
returns c =
    let a = c.args in
    let room = leb-true (a.at + length a.text.now) (length a.out.now) (sym c.has_room.ensures ∙ c.if-not-has_room.false) in
    let copied = put_mid-paste a.at _ a.out.now _ a.text.now (length a.text.now) c.copy_from_slice.ensures.after (omega arith) refl in
    puts-all (record { room = room; bytes = copied ∙ put_all a.out.now a.at a.text.now; end = refl })
