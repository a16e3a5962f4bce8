use Rattle.std.proofs.Common.{◌≡◌, ◌≤◌, ◌+◌, ◌*◌, length}
use Rattle.set_line.specs.Pieces.{portions_in}
use Rattle.set_line.specs.Answer.{has_refused}
use Rattle.set_line.specs.Onward.{onward, setting}
use Rattle.set_line.proofs.portions.set_stretch.Given as goal

abbrev pub invariant-loop-run : goal.invariant-loop-run
invariant-loop-run l = record {
  kept : l.so_far ≤ l.terms.limit;
  few : length l.items.items + 2 * l.used + length l.rest ≤ length l.fn.items.items + 2 * l.so_far + length l.codes;
  none : has_refused l.terms.policy l.terms.font l.codes ≡ has_refused l.terms.policy l.terms.font l.rest;
  onward : onward l.terms.font l.terms.limit (setting l.used l.fn.items.items) (portions_in l.right l.terms.font l.codes)
      ≡ onward l.terms.font l.terms.limit (setting l.so_far l.items.items) (portions_in l.right l.terms.font l.rest);
}

abbrev pub decreases-loop-run : goal.decreases-loop-run
decreases-loop-run l = length l.rest
