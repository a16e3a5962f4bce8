use Rattle.std.proofs.Common.{ap, sym, ◌∙◌, ◌++◌, [], append-nil, take}
use Rattle.line_chunks.specs.Pending.{bytes_of}
use Rattle.line_chunks.proofs.InputLemmas.{keeps_read}
use Rattle.line_chunks.proofs.input.Input.read.Goals as goal

pub returns-in-Ok-eq0-clause-text : goal.returns-in-Ok-eq0-clause-text
returns-in-Ok-eq0-clause-text g c =
    let pending = c.args.self.now.pending in
    let consumes = rw (c.in-Ok-eq0.is, c.in-Ok-eq0.field-0-test, c.make_room.ensures.reader) at c.read.ensures.bytes in
    keeps_read _ _ (bytes_of pending) [] _ (ap bytes_of c.make_room.ensures.pending ∙ sym (append-nil (bytes_of pending))) consumes.0

pub returns-in-Ok-append-clause-text : goal.returns-in-Ok-append-clause-text
returns-in-Ok-append-clause-text g c =
    let read = take c.in-Ok.count c.read.new.buf in
    let consumes = rw (c.in-Ok.is, c.make_room.ensures.reader) at c.read.ensures.bytes in
    keeps_read _ _ (bytes_of c.args.self.now.pending) read _ (c.in-Ok-append.ensures ∙ ap (λ pending. bytes_of pending ++ read) c.make_room.ensures.pending) consumes.0
