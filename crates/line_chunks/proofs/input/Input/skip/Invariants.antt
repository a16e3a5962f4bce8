-- the bytes of the line so far, of which none is pending any more
use Rattle.std.proofs.Common.{◌≡◌, ◌+◌, ◌*◌, ◌<◌, ◌≤◌, ◌^◌, List, ℕ, length}
use Rattle.std.specs.Io.KnownBytes.{Consumes, prepend_known}
use Rattle.set_line.specs.Lines.{HasNoFeed}
use Rattle.line_chunks.specs.Pending.{bytes_of, nothing}
use Rattle.line_chunks.specs.Skipping.{IsLong}
use Rattle.line_chunks.proofs.input.Input.skip.Given as goal

abbrev pub invariant-loop : goal.invariant-loop
invariant-loop g l = record {
  bytes : List ℕ;
  one : HasNoFeed bytes;
  long : 65536 < length bytes;
  is : IsLong l.line bytes;
  small : l.line.length ≤ 2 ^ 63 + 4096 * l.counter;
  none : l.self.pending ≡ nothing;
  text : Consumes (prepend_known (bytes_of l.fn.self.pending) (g.R.Read.remaining l.fn.self.reader)) (prepend_known (bytes_of l.self.pending) (g.R.Read.remaining l.self.reader)) bytes;
}
