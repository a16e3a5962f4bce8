use Rattle.std.proofs.Common.{refl}
use Rattle.tfmset_c.proofs.set.tfmset_widths.Goals as goal

pub returns-clause-told : goal.returns-clause-told
returns-clause-told c =
    let set = c.run.ensures.told in
    record { written = λ done. ((set.written done).0, refl); untouched = λ answer. ((set.untouched answer).0, refl); counted = set.counted; room = set.room; no_room = set.no_room; kept = set.kept }
