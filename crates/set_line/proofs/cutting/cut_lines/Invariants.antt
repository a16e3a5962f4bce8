use Rattle.std.proofs.Common.{◌≡◌, ◌++◌, length}
use Rattle.set_line.specs.Lines.{lines_of}
use Rattle.set_line.proofs.cutting.cut_lines.Given as goal

abbrev pub invariant-loop-line : goal.invariant-loop-line
invariant-loop-line l = l.lines.items ++ lines_of l.rest ≡ lines_of l.bytes

abbrev pub decreases-loop-line : goal.decreases-loop-line
decreases-loop-line l = length l.rest
