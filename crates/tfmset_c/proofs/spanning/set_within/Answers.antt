use Rattle.std.proofs.Common.{rules}
use Rattle.tfmset_c.proofs.SpanLemmas.{items_are, none_left}
use Rattle.tfmset_c.proofs.spanning.set_within.Goals as goal

pub returns-then-left-eq0-clause-items : goal.returns-then-left-eq0-clause-items
returns-then-left-eq0-clause-items c = λ font is. none_left _ _ c.args.first c.args.span.now _ c.span_for_c.result (search rules) c.span_for_c.ensures

pub returns-then-job-clause-items : goal.returns-then-job-clause-items
returns-then-job-clause-items c = λ font is.
    rw c.if-job.true
    (items_are font c.args.job.now.text.now c.args.job.now.limit c.args.first c.args.span.now c.in_ok-outcome.outcome _ c.place_span.new.out.items
    c.span_for_c-then-job.result (search rules) (rw c.span_for-one.ensures at (c.in_ok-outcome.ensures.placed font is)) (rw c.get.ensures.value at c.span_for_c-then-job.ensures))
