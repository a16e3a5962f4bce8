-- the warnings are those before the loop and those of the codes so far
use Rattle.std.proofs.Common.{◌≡◌, ◌++◌}
use Rattle.check_texts.specs.Warnings.{code_warning, warnings_below}
use Rattle.check_texts.proofs.warnings.push_codes.Given as goal

abbrev pub invariant-loop-code : goal.invariant-loop-code
invariant-loop-code l = l.found.items ≡ l.initial.found.items ++ warnings_below (code_warning l.font.words) l.code
