use Rattle.std.proofs.Common.{◌≡◌, ◌≤◌, drop, length}
use Rattle.line_records.specs.Cells.{AreCells}
use Rattle.line_records.specs.Written.{IsSmall, IsWritten}
use Rattle.line_records.proofs.writing.advance.Given as goal

abbrev pub invariant-loop-at : goal.invariant-loop-at
invariant-loop-at l = record {
  cells : AreCells l.table l.entries l.cells;
  small : IsSmall l.at l.so_far;
  room : length l.room ≡ length l.fn.room;
  within : l.so_far.length ≤ length l.room;
  written : IsWritten l.table l.line (drop l.fn.from l.line) l.fn.room l.fn.before → IsWritten l.table l.line (drop l.at l.line) l.room l.so_far;
}
