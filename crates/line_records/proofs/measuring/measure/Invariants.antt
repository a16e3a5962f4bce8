use Rattle.std.proofs.Common.{◌≡◌, take}
use Rattle.std.specs.Prelude.{map}
use Rattle.line_records.specs.Boxes.{depth_of, height_of, largest}
use Rattle.line_records.proofs.measuring.measure.Given as goal

abbrev pub invariant-loop-code : goal.invariant-loop-code
invariant-loop-code l = record {
  height : l.extent.height ≡ largest (map (height_of l.font) (take l.code-index l.codes));
  depth : l.extent.depth ≡ largest (map (depth_of l.font) (take l.code-index l.codes));
}
