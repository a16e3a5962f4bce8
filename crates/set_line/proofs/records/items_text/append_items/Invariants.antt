-- what is appended and what is left give the whole
use Rattle.std.proofs.Common.{◌≡◌, ◌++◌, length, flat_map}
use Rattle.set_line.specs.Record.{text_in}
use Rattle.set_line.proofs.records.items_text.append_items.Given as goal

abbrev pub invariant-loop-rest : goal.invariant-loop-rest
invariant-loop-rest l = record {
  appended : l.texts.items ++ flat_map (text_in l.version) l.rest ≡ l.initial.texts.items ++ flat_map (text_in l.version) l.items;
}

abbrev pub decreases-loop-rest : goal.decreases-loop-rest
decreases-loop-rest l = length l.rest
