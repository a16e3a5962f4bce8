-- the records so far, followed by those of the lines that are left, are the records of all lines
use Rattle.std.proofs.Common.{◌≡◌, ◌+◌, ◌≤◌, ◌++◌, length}
use Rattle.line_chunks.specs.Chunks.{numbered_cuts}
use Rattle.line_chunks.specs.ChunkText.{records_in, refused_in}
use Rattle.set_line.specs.Returns.{lines_in}
use Rattle.line_chunks.proofs.record_maker.RecordMaker.append_lines.Given as goal

abbrev pub invariant-loop-line : goal.invariant-loop-line
invariant-loop-line l = record {
  kept : l.self ≡ l.fn.self;
  numbers : l.number + length (lines_in l.crlf l.rest) ≡ l.first + length (lines_in l.crlf l.bytes);
  few : l.refused ≤ l.number;
  text : l.text.items ++ records_in l.fn.self (numbered_cuts l.number (lines_in l.crlf l.rest)) ≡ l.fn.text.items ++ records_in l.fn.self (numbered_cuts l.first (lines_in l.crlf l.bytes));
  refused : l.refused + refused_in l.fn.self.terms l.fn.self.style.encoding (numbered_cuts l.number (lines_in l.crlf l.rest))
      ≡ refused_in l.fn.self.terms l.fn.self.style.encoding (numbered_cuts l.first (lines_in l.crlf l.bytes));
}

abbrev pub decreases-loop-line : goal.decreases-loop-line
decreases-loop-line l = length l.rest
