use Rattle.std.proofs.Common.{◌≡◌, map}
use Rattle.std.specs.List.{range_with_len}
use Rattle.tfm_tables.specs.Program.{step_at}
use Rattle.tfm_tables.proofs.font_metrics.FontMetrics.program.Given as goal

abbrev pub invariant-loop-i : goal.invariant-loop-i
invariant-loop-i l = l.steps.items ≡ map (step_at l.fn.self.words) (range_with_len 0 l.i)
