use Rattle.std.proofs.Common.{◌≡◌, []}
use Rattle.std.specs.Io.KnownBytes.{Keeps, prepend_known}
use Rattle.line_chunks.specs.Pending.{bytes_of}
use Rattle.line_chunks.proofs.input.Input.fill.Given as goal

abbrev pub invariant-loop-reads : goal.invariant-loop-reads
invariant-loop-reads g l = record {
  none : l.self.pending.lines ≡ [];
  text : Keeps (prepend_known (bytes_of l.fn.self.pending) (g.R.Read.remaining l.fn.self.reader)) (prepend_known (bytes_of l.self.pending) (g.R.Read.remaining l.self.reader));
}
