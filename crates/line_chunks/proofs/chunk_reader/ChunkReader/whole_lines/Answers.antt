use Rattle.std.proofs.Common.{arith, ap, sym, ◌∙◌}
use Rattle.std.proofs.lemmas.Grind.{common_steps}
use Rattle.line_chunks.specs.Pending.{bytes_of, feeds_in}
use Rattle.set_line.specs.Returns.{lines_in}
use Rattle.line_chunks.proofs.FeedLemmas.{lines_counted, some_lines}
use Rattle.line_chunks.proofs.InputLemmas.{consumes_pending}
use Rattle.line_chunks.proofs.ReadingLemmas.{gives_lines, loses_whole}
use Rattle.line_chunks.proofs.chunk_reader.ChunkReader.whole_lines.Goals as goal

pub of_lines-requires : goal.of_lines-requires
of_lines-requires g c =
    let taken = c.in-Ok.bytes.items in
    let counted = c.count_feeds.ensures ∙ (ap feeds_in c.as_slice.ensures.value ∙ sym (lines_counted c.number-first.new.self.crlf taken c.in-Ok.ensures.whole)) in
    omega arith

pub returns-clause-gives : goal.returns-clause-gives
returns-clause-gives g c =
    let self = c.args.self.now in
    let taken = c.in-Ok.bytes.items in
    let lines = lines_in self.crlf taken in
    let counted = c.count_feeds.ensures ∙ (ap feeds_in c.as_slice.ensures.value ∙ sym (lines_counted self.crlf taken c.in-Ok.ensures.whole)) in
    let number = c.number-first.ensures in
    rw (number.state, number.crlf, number.input, c.requires.open, c.of_lines.ensures, number.crlf)
    (gives_lines _ _ lines self.next c.count_feeds.result c.number-first.result _ (some_lines self.crlf taken c.in-Ok.ensures.whole c.in-Ok.ensures.some)
    (loses_whole self.crlf _ _ taken c.in-Ok.ensures.whole
    (consumes_pending (g.R.Read.remaining self.input.reader) (bytes_of self.input.pending) taken (bytes_of c.take_lines.new.self) (grind (arith, common_steps))))
    counted number.first number.next)
