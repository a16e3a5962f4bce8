use Rattle.std.proofs.Common.{arith}
use Rattle.std.proofs.lemmas.List.{drop_all}
use Rattle.tfmset_c.specs.Spans.{items_told, job_terms, spans_told}
use Rattle.tfmset_c.proofs.FillingLemmas.{all_there, at_first}
use Rattle.tfmset_c.proofs.SpanLemmas.{next_span, no_items, no_spans, span_more}
use Rattle.tfmset_c.proofs.spanning.fill_spans.Goals as goal

pub loop-span-init : goal.loop-span-init
loop-span-init c = λ font is.
    at_first _ (λ n. spans_told (job_terms font c.args.job.now.text.now c.args.job.now.limit) c.args.job.now.call_limit n c.args.job.now.spans.now)
    (items_told (job_terms font c.args.job.now.text.now c.args.job.now.limit) c.args.job.now.spans.now) _ _

pub loop-span-preserved : goal.loop-span-preserved
loop-span-preserved c = λ font is.
    span_more (job_terms font c.args.job.now.text.now c.args.job.now.limit) _ _ _ c.set_within.new.kept.items.items
    (next_span _ _ _ c.loop-span-test.true) (c.in_ok-line.ensures.line font is) (omega (arith, c.saturating_sub-left.ensures, c.from.ensures))
    (c.in_ok-line.ensures.items font is) c.put_list.ensures (omega (arith, c.saturating_add.ensures))
    (rw c.deref.ensures.value at c.put_all-placed.ensures) (c.loop-span.invariant font is)

pub returns : goal.returns
returns c = λ font is.
    let none = drop_all _ _ c.loop-span-test.false in
    all_there (λ n. no_spans _ _ n _ none) (no_items _ _ _ none) (c.loop-span.invariant font is)
