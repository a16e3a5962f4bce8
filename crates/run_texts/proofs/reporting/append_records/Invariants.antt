-- the records so far, followed by those of the results that are left, are all records
use Rattle.std.proofs.Common.{◌≡◌, ◌+◌, ◌++◌, drop}
use Rattle.run_texts.specs.RunText.{bytes_style, records_from}
use Rattle.run_texts.proofs.reporting.append_records.Given as goal

abbrev pub invariant-loop-answer : goal.invariant-loop-answer
invariant-loop-answer l =
    (l.place ≡ l.answer-index)
    × (l.text.items ++ records_from l.source (1 + l.place) (bytes_style l.version) (drop l.answer-index l.answers)
    ≡ l.fn.text.items ++ records_from l.source 1 (bytes_style l.version) l.answers)
