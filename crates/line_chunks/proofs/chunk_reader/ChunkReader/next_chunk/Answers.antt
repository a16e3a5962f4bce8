use Rattle.std.proofs.Common.{Some, Ok}
use Rattle.std.proofs.lemmas.Result.{IfOk-weaker}
use Rattle.line_chunks.specs.Reading.{gives_chunk, told}
use Rattle.line_chunks.proofs.ReadingLemmas.{gives_after_read}
use Rattle.line_chunks.proofs.chunk_reader.ChunkReader.next_chunk.Goals as goal

pub returns-in_ok-whole_lines-in-Lines-clause-gives : goal.returns-in_ok-whole_lines-in-Lines-clause-gives
returns-in_ok-whole_lines-in-Lines-clause-gives g c =
    let self = c.args.self.now in
    let given = c.in_ok-whole_lines-in-Lines in
    gives_after_read self.crlf self.state _ _ self.next _ (Some given.field-0) _ c.in_ok-fill.ensures.text given.ensures.gives

pub returns-in-End-clause-gives : goal.returns-in-End-clause-gives
returns-in-End-clause-gives g c =
    let self = c.args.self.now in
    let after = c.last_line.new.self in
    let remaining = g.R.Read.remaining in
    IfOk-weaker _ _ (λ given. gives_chunk remaining self (Ok given) after)
    (λ given. gives_after_read self.crlf self.state _ _ self.next after.next given (told remaining after) c.in_ok-fill.ensures.text) c.last_line.ensures.gives

pub returns-in_ok-long_line-in-Long-clause-gives : goal.returns-in_ok-long_line-in-Long-clause-gives
returns-in_ok-long_line-in-Long-clause-gives g c =
    let self = c.args.self.now in
    let given = c.in_ok-long_line-in-Long in
    gives_after_read self.crlf self.state _ _ self.next _ (Some given.field-0) _ c.in_ok-fill.ensures.text given.ensures.gives
