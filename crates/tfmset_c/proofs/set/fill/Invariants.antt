use Rattle.std.proofs.Common.{◌≡◌, length}
use Rattle.set_line.specs.Returns.{lines_in}
use Rattle.tfmset_c.specs.Filling.{AreUnderWay}
use Rattle.tfmset_c.specs.Options.{outcomes_of, outcomes_within}
use Rattle.tfmset_c.specs.Texts.{items_told, lines_told}
use Rattle.tfmset_c.proofs.set.fill.Given as goal

abbrev pub invariant-loop-bytes : goal.invariant-loop-bytes
invariant-loop-bytes l = record {
  same : (l.kept.with_items ≡ l.initial.kept.with_items) × (l.kept.writer ≡ l.initial.kept.writer);
  under_way : AreUnderWay l.initial.kept.with_items (lines_told 0 (outcomes_of l.text)) (items_told (outcomes_of l.text))
      (λ n. lines_told n (outcomes_within l.text.terms.now l.left (lines_in l.text.crlf l.rest)))
      (λ _. items_told (outcomes_within l.text.terms.now l.left (lines_in l.text.crlf l.rest)))
      l.counts l.placed l.initial.lines l.lines l.initial.items l.items;
}

abbrev pub decreases-loop-bytes : goal.decreases-loop-bytes
decreases-loop-bytes l = length l.rest
