use Rattle.std.proofs.Common.{◌≡◌, map}
use Rattle.std.specs.List.{range_with_len}
use Rattle.tfm_tables.specs.Character.{metrics_of}
use Rattle.tfm_tables.proofs.font.characters.Given as goal

abbrev pub invariant-loop-code : goal.invariant-loop-code
invariant-loop-code l = l.characters.items ≡ map (metrics_of l.fn.metrics.words l.fn.metrics.size) (range_with_len 0 l.code)
