use Rattle.std.proofs.Common.{◌≡◌, map, take}
use Rattle.tfm_tables.specs.Pairs.{row_of}
use Rattle.tfm_tables.proofs.pairs.PairTable.build.Given as goal

abbrev pub invariant-loop-side : goal.invariant-loop-side
invariant-loop-side l = l.rows.items ≡ map (row_of l.program) (take l.side l.starts)
