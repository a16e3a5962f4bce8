use Rattle.std.proofs.Common.{◌≡◌, map}
use Rattle.std.specs.List.{range_with_len}
use Rattle.tfm_tables.specs.declared.left_side.LeftSide.TheVariants.{Char}
use Rattle.tfm_tables.specs.Program.{start_of}
use Rattle.tfm_tables.proofs.font.starts.Given as goal

abbrev pub invariant-loop-code : goal.invariant-loop-code
invariant-loop-code l = l.starts.items ≡ map (λ code. start_of l.fn.metrics.words (Char code)) (range_with_len 0 l.code)
