use Rattle.std.proofs.Common.{◌≡◌, ◌≤◌, take}
use Rattle.line_chunks.specs.Pending.{feeds_in}
use Rattle.line_chunks.proofs.cutting.count_feeds.Given as goal

abbrev pub invariant-loop-byte : goal.invariant-loop-byte
invariant-loop-byte l = record {
  counted : l.count ≡ feeds_in (take l.byte-index l.text);
  few : l.count ≤ l.byte-index;
}
