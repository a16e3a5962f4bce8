use Rattle.std.proofs.Common.{arith, ◌∙◌}
use Rattle.std.proofs.lemmas.List.{length-set}
use Rattle.tfmset_c.proofs.EncodedLemmas.{offset_more}
use Rattle.tfmset_c.proofs.encode.write_offsets.Goals as goal

pub loop-index-preserved : goal.loop-index-preserved
loop-index-preserved c =
    let now = c.loop-index.invariant in
    record {
      same = length-set c.loop-index.offsets c.loop-index.index _ ∙ now.same;
      front = offset_more c.args.first c.args.step c.loop-index.index c.loop-index.offsets (omega (arith, now.same, c.loop-index-test.true)) now.front;
    }
