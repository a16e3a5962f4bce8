use Rattle.line_records.proofs.ResultLemmas.{none_before, on_error}
use Rattle.line_records.proofs.line_writer.LineWriter.append.Goals as goal

pub returns-in_err-append_set-in-Items-clause-memory : goal.returns-in_err-append_set-in-Items-clause-memory
returns-in_err-append_set-in-Items-clause-memory c =
    on_error c.from_residual-in_err-append_set-in-Items.result
    (λ room. none_before c.args.of.now.terms.now c.args.of.now.encoding c.args.line.first c.args.line.bytes.now c.self.inside.format c.keep.new.rooms.lists.texts.items c.in-Ok.kept
    (rw c.in-Ok.is at c.in_ok-kept.ensures.kept))

pub returns-in_err-append_box-in-Box-clause-memory : goal.returns-in_err-append_box-in-Box-clause-memory
returns-in_err-append_box-in-Box-clause-memory c =
    on_error c.from_residual-in_err-append_box-in-Box.result
    (λ room. none_before c.args.of.now.terms.now c.args.of.now.encoding c.args.line.first c.args.line.bytes.now c.self.inside.format c.keep.new.rooms.lists.texts.items c.in-Ok.kept
    (rw c.in-Ok.is at c.in_ok-kept.ensures.kept))
