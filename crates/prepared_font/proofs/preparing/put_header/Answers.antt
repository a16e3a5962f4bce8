use Rattle.std.proofs.Common.{arith}
use Rattle.prepared_font.proofs.preparing.put_header.Goals as goal

pub returns-clause-header : goal.returns-clause-header
returns-clause-header c = record {
  magic = c.put_first.ensures.numbers 0 (omega arith);
  version = c.put_first.ensures.numbers 1 (omega arith);
  total = grind (arith, c.put_first.ensures.numbers 2 (omega arith), c.steps-steps.ensures.value, c.steps-steps.ensures.few, c.kerns-kerns.ensures.value, c.kerns-kerns.ensures.few);
  steps = grind (arith, c.put_first.ensures.numbers 3 (omega arith), c.steps-steps.ensures.value, c.steps-steps.ensures.few);
  kerns = grind (arith, c.put_first.ensures.numbers 4 (omega arith), c.kerns-kerns.ensures.value, c.kerns-kerns.ensures.few);
  right = grind (arith, c.put_first.ensures.numbers 5 (omega arith), c.map_or.ensures, c.right_boundary-right.ensures);
  left = grind (arith, c.put_first.ensures.numbers 6 (omega arith), c.as_number.ensures, c.start.ensures.value);
  space = grind (arith, c.put_first.ensures.numbers 7 (omega arith), c.space.ensures.value);
  size = grind (arith, c.put_first.ensures.numbers 8 (omega arith), c.get.ensures.value, c.get.ensures.range, c.size.ensures);
}
