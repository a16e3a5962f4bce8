use Rattle.std.proofs.Common.{◌∙◌}
use Rattle.line_records.specs.Boxes.{depth_of, height_of}
use Rattle.line_records.proofs.BoxLemmas.{next_largest}
use Rattle.line_records.proofs.measuring.measure.Goals as goal

pub loop-code-preserved : goal.loop-code-preserved
loop-code-preserved c = record {
  height = c.with_code-extent.ensures.height ∙ next_largest (height_of c.args.font.now) c.args.codes.now c.loop-code.code-index _ _ c.loop-code-test.true c.loop-code.invariant.height;
  depth = c.with_code-extent.ensures.depth ∙ next_largest (depth_of c.args.font.now) c.args.codes.now c.loop-code.code-index _ _ c.loop-code-test.true c.loop-code.invariant.depth;
}
