use Rattle.std.proofs.Common.{◌∙◌}
use Rattle.line_records.proofs.RefusalLemmas.{missing_next}
use Rattle.line_records.proofs.refusing.refusal_of.Goals as goal

pub loop-place-preserved-then-is_none : goal.loop-place-preserved-then-is_none
loop-place-preserved-then-is_none c = (
  tt,
  tt,
  c.loop-place.invariant.2 ∙ missing_next c.args.font.now c.args.encoding c.loop-place.missing c.missing_code-missing.result c.loop-place.place-iterator c.in-Some.place c.next.new.self
      c.in-Some-codes_of.codes.now (c.in-Some.ensures).steps c.in-Some-codes_of.ensures (cc (c.is_none.ensures, c.if-is_none.true)) c.missing_code-missing.ensures,
)
