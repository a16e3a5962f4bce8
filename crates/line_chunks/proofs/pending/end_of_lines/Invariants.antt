use Rattle.std.proofs.Common.{◌≤◌, length, take}
use Rattle.line_chunks.specs.Pending.{EndsWithFeed}
use Rattle.line_chunks.proofs.pending.end_of_lines.Given as goal

abbrev pub invariant-loop : goal.invariant-loop
invariant-loop l = record {
  few : l.counter ≤ l.taken;
  within : l.taken ≤ length l.text;
  whole : EndsWithFeed (take l.taken l.text);
}
