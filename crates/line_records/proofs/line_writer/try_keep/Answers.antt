use Rattle.line_records.proofs.ResultLemmas.{tried_long, tried_other}
use Rattle.std.proofs.Common.{arith}
use Rattle.line_records.proofs.line_writer.try_keep.Goals as goal

pub returns-then-line-gt-MOST_BYTES-clause-kept : goal.returns-then-line-gt-MOST_BYTES-clause-kept
returns-then-line-gt-MOST_BYTES-clause-kept c =
    tried_long c.args.of.now.terms.now c.args.line.first c.args.line.bytes.now c.args.format c.args.rooms.now.lists.texts.items c.args.of.now.encoding c.if-line-gt-MOST_BYTES.true

pub returns-in-Err-NotUtf8-clause-kept : goal.returns-in-Err-NotUtf8-clause-kept
returns-in-Err-NotUtf8-clause-kept c =
    rw c.in-Some.is
    (tried_other c.args.of.now.terms.now c.args.line.first c.args.line.bytes.now c.args.format c.args.rooms.now.lists.texts.items c.in-Some.encoding c.in-Err-NotUtf8.field-0-0
    (omega (arith, c.if-line-gt-MOST_BYTES.false)) (rw c.in-Err-NotUtf8.field-0-is at c.in-Err-NotUtf8.ensures.fault))
