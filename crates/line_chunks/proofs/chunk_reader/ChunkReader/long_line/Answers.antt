use Rattle.std.proofs.Common.{arith, refl, ◌∷◌, [], false}
use Rattle.set_line.specs.Returns.{before_feed}
use Rattle.line_chunks.proofs.ReadingLemmas.{gives_lines, loses_last, loses_line}
use Rattle.line_chunks.proofs.TextLemmas.{cut_before_feed}
use Rattle.line_chunks.proofs.chunk_reader.ChunkReader.long_line.Goals as goal

pub returns-in-ToFeed-clause-gives : goal.returns-in-ToFeed-clause-gives
returns-in-ToFeed-clause-gives g c =
    let self = c.args.self.now in
    let number = c.number-first.ensures in
    let (line, one, long, is, consumes) = rw c.in-ToFeed.is at c.in_ok-line.ensures in
    let length = rw number.crlf at (c.length.ensures line is) in
    rw (number.state, number.crlf, number.input, c.requires.open, c.of_length.ensures, length, ← cut_before_feed self.crlf line long)
    (gives_lines _ _ (before_feed self.crlf line ∷ []) self.next 1 c.number-first.result _ (omega arith) (loses_line self.crlf _ _ line one consumes) refl number.first number.next)

pub returns-in-ToEnd-clause-gives : goal.returns-in-ToEnd-clause-gives
returns-in-ToEnd-clause-gives g c =
    let self = c.args.self.now in
    let number = c.number-first-in-ToEnd.ensures in
    let (line, one, long, is, all) = rw c.in-ToEnd.is at c.in_ok-line.ensures in
    rw (number.state, c.requires.open, c.of_length-in-ToEnd.ensures, c.length-in-ToEnd.ensures line is, ← cut_before_feed false line long)
    (gives_lines _ _ (line ∷ []) self.next 1 c.number-first-in-ToEnd.result _ (omega arith) (loses_last self.crlf _ line one (omega arith) all) refl number.first number.next)
