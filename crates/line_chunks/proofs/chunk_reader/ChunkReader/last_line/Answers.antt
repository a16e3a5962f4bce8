use Rattle.std.proofs.Common.{arith, ap, sym, refl, ◌∙◌, ◌<◌, ◌++◌, ◌∷◌, [], length}
use Rattle.std.proofs.lemmas.Grind.{common_steps}
use Rattle.line_chunks.specs.Pending.{bytes_of}
use Rattle.set_line.proofs.ReturnLemmas.{last_line}
use Rattle.line_chunks.proofs.InputLemmas.{all_pending}
use Rattle.line_chunks.proofs.ReadingLemmas.{gives_lines, loses_last, no_more}
use Rattle.line_chunks.proofs.chunk_reader.ChunkReader.last_line.Goals as goal

pub returns-then-rest_len-eq0-clause-gives : goal.returns-then-rest_len-eq0-clause-gives
returns-then-rest_len-eq0-clause-gives g c =
    let self = c.args.self.now in
    rw c.requires.open (refl, refl, no_more self.crlf _ (all_pending (g.R.Read.remaining self.input.reader) (bytes_of self.input.pending) [] (grind (arith, common_steps)) c.requires.end))

pub of_lines-requires : goal.of_lines-requires
of_lines-requires g c =
    let some : 0 < length c.in-Ok.bytes.items = omega (arith, ap length c.in-Ok.ensures.taken) in
    let one = ap length (last_line c.number-first.new.self.crlf c.in-Ok.bytes.items c.in-Ok.ensures.one some) in
    omega arith

pub returns-clause-gives : goal.returns-clause-gives
returns-clause-gives g c =
    let self = c.args.self.now in
    let pending = self.input.pending in
    let line = c.in-Ok.bytes.items in
    let some : 0 < length line = omega (arith, ap length c.in-Ok.ensures.taken) in
    let number = c.number-first.ensures in
    rw (number.state, c.requires.open, c.of_lines.ensures, last_line c.number-first.new.self.crlf line c.in-Ok.ensures.one some)
    (gives_lines _ _ (line ∷ []) self.next 1 c.number-first.result _ (omega arith)
    (loses_last self.crlf _ line c.in-Ok.ensures.one some
    (all_pending (g.R.Read.remaining self.input.reader) (bytes_of pending) line (ap (λ lines. lines ++ pending.rest) c.requires.none ∙ sym c.in-Ok.ensures.taken) c.requires.end))
    refl number.first number.next)
