-- the text is that before the loop and the warnings so far
use Rattle.std.proofs.Common.{◌≡◌, ◌++◌, flat_map, take}
use Rattle.check_texts.specs.Verdicts.{warning_in}
use Rattle.check_texts.proofs.verdict_lines.push_warnings.Given as goal

abbrev pub invariant-loop-warning : goal.invariant-loop-warning
invariant-loop-warning l = l.text.items ≡ l.initial.text.items ++ flat_map (warning_in l.format) (take l.warning-index l.warnings)
