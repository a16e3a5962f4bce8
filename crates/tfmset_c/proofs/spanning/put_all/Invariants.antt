use Rattle.std.proofs.Common.{map, take}
use Rattle.tfmset_c.specs.Arrays.{ArePut}
use Rattle.tfmset_c.specs.Spans.{placed_told}
use Rattle.tfmset_c.proofs.spanning.put_all.Given as goal

abbrev pub invariant-loop-item : goal.invariant-loop-item
invariant-loop-item l = ArePut (map placed_told (take l.item-index l.made)) l.fn.first l.at l.initial.items l.items
