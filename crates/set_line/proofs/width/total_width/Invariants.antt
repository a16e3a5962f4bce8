use Rattle.std.proofs.Common.{◌≡◌, ◌*◌, pos, ◌+ℤ◌, ◌≤ℤ◌, map, take}
use Rattle.set_line.specs.Width.{total_width}
use Rattle.set_line.proofs.width.total_width.Given as goal

abbrev pub invariant-loop-one : goal.invariant-loop-one
invariant-loop-one g l = record {
  sum : l.width ≡ total_width (map g.O.RunItem.alone (take l.one-index l.items));
  below : l.width ≤ℤ pos (2147483648 * l.one-index);
  above : pos 0 ≤ℤ (l.width +ℤ pos (2147483648 * l.one-index));
}
