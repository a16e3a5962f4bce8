-- between reads no byte is in the buffer; the line so far are the first bytes of what was to come
use Rattle.std.proofs.Common.{◌≡◌, []}
use Rattle.std.specs.Io.KnownBytes.{Consumes, prepend_known}
use Rattle.set_line.specs.Lines.{HasNoFeed}
use Rattle.set_run.proofs.sources.reader_source.raw_line.next_raw_line.Given as goal

abbrev pub invariant-loop : goal.invariant-loop
invariant-loop g l = record {
  none_in_hand : l.buffer ≡ [];
  no_feed : HasNoFeed l.line.items;
  read : Consumes (prepend_known l.fn.buffer (g.R.Read.remaining l.fn.reader)) (g.R.Read.remaining l.reader) l.line.items;
}
