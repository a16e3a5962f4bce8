use Rattle.std.proofs.Common.{Some, arith, ap, sym, ◌∙◌}
use Rattle.std.specs.Prelude.{option_map}
use Rattle.encoding_vectors.specs.Vectors.{line_after}
use Rattle.encoding_vectors.proofs.ReadingLemmas.{not_long, offset_within, too_long}
use Rattle.encoding_vectors.proofs.reading.read_vector.Goals as goal

pub returns-then-text-gt-MOST_BYTES-clause-fault : goal.returns-then-text-gt-MOST_BYTES-clause-fault
returns-then-text-gt-MOST_BYTES-clause-fault c = too_long c.args.text.now (omega arith) ∙ ap Some (sym c.fault_at.ensures)

pub fault_at-requires-in-Err : goal.fault_at-requires-in-Err
fault_at-requires-in-Err c = offset_within c.args.text.now c.in-Err.offset c.in-Err.ensures.fault

pub returns-in-Ok-clause-read : goal.returns-in-Ok-clause-read
returns-in-Ok-clause-read c =
    let text = c.args.text.now in not_long text (omega arith) ∙ ap (option_map (line_after text)) c.in-Ok.ensures.read

pub returns-in-Err-clause-fault : goal.returns-in-Err-clause-fault
returns-in-Err-clause-fault c =
    let text = c.args.text.now in
    not_long text (omega arith) ∙ ap (option_map (line_after text)) c.in-Err.ensures.fault ∙ ap Some (sym c.fault_at-in-Err.ensures)
