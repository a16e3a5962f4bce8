-- the warnings are those before the loop and those of the steps so far
use Rattle.std.proofs.Common.{◌≡◌, ◌++◌}
use Rattle.check_texts.specs.Warnings.{step_warning, warnings_below}
use Rattle.check_texts.proofs.warnings.push_steps.Given as goal

abbrev pub invariant-loop-i : goal.invariant-loop-i
invariant-loop-i l = l.found.items ≡ l.initial.found.items ++ warnings_below (step_warning l.font.words) l.i
