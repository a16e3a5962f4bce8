-- the code reached by the steps so far, and whether one of them led back to the first code
use Rattle.std.proofs.Common.{◌≡◌}
use Rattle.check_texts.specs.Warnings.{any_from, larger_after, leads_back}
use Rattle.check_texts.proofs.rules.is_in_circle.Given as goal

abbrev pub invariant-loop-steps : goal.invariant-loop-steps
invariant-loop-steps l = record {
  reached : l.at ≡ larger_after l.font.words l.code l._steps;
  found : l.found ≡ any_from (leads_back l.font.words l.code) 1 l._steps;
}
