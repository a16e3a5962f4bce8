use Rattle.std.proofs.Common.{drop}
use Rattle.prepared_font.specs.Layout.{IsPreparedFrom}
use Rattle.tfm_tables.specs.Font.{FontValue}
use Rattle.tfmset_c.specs.Filling.{AreUnderWay}
use Rattle.tfmset_c.specs.Spans.{items_told, job_terms, spans_told}
use Rattle.tfmset_c.proofs.spanning.fill_spans.Given as goal

abbrev pub invariant-loop-span : goal.invariant-loop-span
invariant-loop-span l = (font : FontValue) → IsPreparedFrom font l.job.font.now
    → AreUnderWay l.job.with_items
    (spans_told (job_terms font l.job.text.now l.job.limit) l.job.call_limit 0 l.job.spans.now)
    (items_told (job_terms font l.job.text.now l.job.limit) l.job.spans.now
    (spans_told (job_terms font l.job.text.now l.job.limit) l.job.call_limit 0 l.job.spans.now))
    (λ n. spans_told (job_terms font l.job.text.now l.job.limit) l.left n (drop l.span-index l.job.spans.now))
    (items_told (job_terms font l.job.text.now l.job.limit) (drop l.span-index l.job.spans.now))
    l.counts l.placed l.initial.lines l.lines l.initial.items l.items
