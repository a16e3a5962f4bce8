use Rattle.std.proofs.Common.{◌≡◌, ◌-◌, ◌≤◌, drop, length, vec_len}
use Rattle.line_records.specs.Written.{IsSmall, IsWritten}
use Rattle.line_records.proofs.writing.write_line.Given as goal

abbrev pub invariant-loop-at : goal.invariant-loop-at
invariant-loop-at l = record {
  at : l.at ≤ length l.line;
  table : l.table ≡ l.fn.table;
  small : IsSmall l.at l.so_far;
  within : l.so_far.length ≤ vec_len l.room;
  written : IsWritten l.fn.table l.line (drop l.at l.line) l.room.items l.so_far;
}

abbrev pub decreases-loop-at : goal.decreases-loop-at
decreases-loop-at l = length l.line - l.at
