use Rattle.std.proofs.Common.{◌+◌, arith, ap, sym, ◌∙◌, ◌≡◌, true, get_or}
use Rattle.encoding_vectors.specs.Reading.{is_blank as is_blank_after}
use Rattle.encoding_vectors.proofs.TokenLemmas.{begun, blank_step, blank_over, blank_end, tokens_in}
use Rattle.encoding_vectors.proofs.scanning.skip_blank.Goals as goal

pub loop-at-init : goal.loop-at-init
loop-at-init c = (omega arith, begun c.args.text.now c.args.at)

pub loop-at-preserved : goal.loop-at-preserved
loop-at-preserved c =
    let text = c.args.text.now in let at = c.loop-at.at in
    let blank : is_blank_after c.loop-at.comment (get_or text at 0) ≡ true = sym c.is_blank.ensures ∙ c.if-is_blank.true in (
      omega arith,
      c.loop-at.invariant.1 ∙ blank_step text at c.loop-at.comment (omega arith) blank ∙ ap (tokens_in text (at + 1)) (sym c.in_comment-comment.ensures),
    )

pub returns-else-is_blank-clause-same : goal.returns-else-is_blank-clause-same
returns-else-is_blank-clause-same c =
    c.loop-at.invariant.1 ∙ blank_over c.args.text.now c.loop-at.at c.loop-at.comment (sym c.is_blank.ensures ∙ c.if-is_blank.false)

pub returns-after-loop-at-clause-same : goal.returns-after-loop-at-clause-same
returns-after-loop-at-clause-same c =
    c.loop-at.invariant.1 ∙ blank_end c.args.text.now c.loop-at.at c.loop-at.comment (omega arith)
