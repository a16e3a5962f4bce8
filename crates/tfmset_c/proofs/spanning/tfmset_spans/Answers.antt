use Rattle.std.proofs.Common.{refl}
use Rattle.tfmset_c.proofs.spanning.tfmset_spans.Goals as goal

pub returns-clause-told : goal.returns-clause-told
returns-clause-told c = λ value given.
    let set = c.run.ensures.told value given in
    record { written = λ done. ((set.written done).0, refl); untouched = λ answer. ((set.untouched answer).0, refl); counted = set.counted; room = set.room; no_room = set.no_room; kept = set.kept }
