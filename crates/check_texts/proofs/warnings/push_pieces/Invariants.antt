-- the warnings are those before the loop and those of the pieces so far
use Rattle.std.proofs.Common.{◌≡◌, ◌++◌}
use Rattle.check_texts.specs.Warnings.{piece_warning, warnings_below}
use Rattle.check_texts.proofs.warnings.push_pieces.Given as goal

abbrev pub invariant-loop-k : goal.invariant-loop-k
invariant-loop-k l = l.found.items ≡ l.initial.found.items ++ warnings_below (piece_warning l.font.words) l.k
