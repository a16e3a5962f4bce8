use Rattle.std.proofs.Common.{◌≡◌, ◌≤◌, ◌+◌, ◌*◌, List, [], length}
use Rattle.lig_kern.specs.declared.item.Item.{Item}
use Rattle.set_line.specs.Onward.{setting}
use Rattle.encodings.specs.Parts.{joined}
use Rattle.line_records.specs.Kept.{AreListed, set_after}
use Rattle.line_records.proofs.keeping.set_parts.Given as goal

abbrev pub invariant-loop-part : goal.invariant-loop-part
invariant-loop-part l = record {
  can_next : (goal.iterator-loop-part).can_next l.part-iterator;
  is_finite : (goal.iterator-loop-part).is_finite l.part-iterator;
  within : l.steps ≤ l.terms.limit;
  most : l.steps ≤ 16777216;
  few : length l.lists.items.items + length (joined l.part-iterator) ≤ 2 * l.steps + length (joined l.fn.parts);
  gaps : l.gaps + length (joined l.part-iterator) ≤ length (joined l.fn.parts);
  reached : (all : List Item)
      × (set_after l.terms (setting 0 []) l.fn.parts ≡ set_after l.terms (setting l.steps all) l.part-iterator)
      × AreListed l.format all l.lists.items.items l.gaps l.lists.texts.items;
}
