use Rattle.std.proofs.Common.{◌≡◌, ◌-◌, map}
use Rattle.std.specs.List.{range_with_len}
use Rattle.tfm_tables.specs.Measure.{parameter_of}
use Rattle.tfmset_c.proofs.font.parameters_of.Given as goal

abbrev pub invariant-loop-number : goal.invariant-loop-number
invariant-loop-number l = l.list.items ≡ map (parameter_of l.font.words l.font.size) (range_with_len 1 (l.number - 1))
