use Rattle.std.proofs.Common.{◌≡◌, map, take}
use Rattle.tfmset_c.specs.Pairs.{pair_told}
use Rattle.tfmset_c.proofs.pairs.list_pairs.Given as goal

abbrev pub invariant-loop-pair : goal.invariant-loop-pair
invariant-loop-pair l = l.list.items ≡ map pair_told (take l.pair-index l.pair-items)
