use Rattle.std.proofs.Common.{inl, inr, refl}
use Rattle.tfmset_c.specs.Encoded.{codes_told}
use Rattle.tfmset_c.proofs.EncodedLemmas.{counted_all, effect_done}
use Rattle.tfmset_c.proofs.encode.tfmset_encode.Goals as goal

pub returns-then-have_room-clause-told : goal.returns-then-have_room-clause-told
returns-then-have_room-clause-told c =
    let ok = c.in-Ok.ensures.ok in
    let made = codes_told c.in-Some.encoding c.args.text.now in
    inr (
      c.in-Some.encoding,
      c.in-Some.ensures.told,
      effect_done made c.in-Ok.counts c.in-Ok.placed _ _ _ _ _ _ ok (c.if-have_room.ensures.fits made (counted_all made c.in-Ok.counts c.in-Ok.placed _ _ _ _ _ _ ok) refl),
      rw c.in-Ok.ensures.sound (inl refl),
    )
