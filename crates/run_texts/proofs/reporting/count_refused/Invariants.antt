-- the refused ones among the results so far
use Rattle.std.proofs.Common.{◌≡◌, ◌≤◌, count_by, take}
use Rattle.line_records.specs.Results.{is_refusal}
use Rattle.run_texts.proofs.reporting.count_refused.Given as goal

abbrev pub invariant-loop-answer : goal.invariant-loop-answer
invariant-loop-answer l = (l.count ≡ count_by (λ answer. is_refusal answer.outcome) (take l.answer-index l.answers)) × (l.count ≤ l.answer-index)
